-- What was done, as more comes behind it.
use Rattle.std.proofs.Common.{◌≡◌, ℕ, zero, suc, Bool, true, List, [], ◌∷◌, ◌++◌, sym, ap, ◌∙◌, append_assoc, arith}
use Rattle.std.specs.Prelude.{nat_lt}
use Rattle.std.specs.List.{list_all}
use Rattle.std.specs.Str.{chars, IsAscii}
use Rattle.std.proofs.lemmas.Bool.{and_parts, ltb-true}
use Rattle.std.proofs.lemmas.Str.{chars-IsAscii}
use Rattle.std.proofs.lemmas.List.{map-append, append-nil}
use Rattle.atspi_protocol.specs.declared.following.question.Question.TheVariants.{AddMatch, RegisterEvent}
use Rattle.atspi_protocol.specs.declared.following.event.ReaderEvent.{ReaderEvent}
use Rattle.atspi_protocol.specs.following.ReaderState.{Done}
use Rattle.atspi_reader.specs.Doing.{done_of, all_done}

pub all_pushed : (old new : List ReaderEvent) (event : ReaderEvent) → new ≡ old ++ event ∷ [] → all_done new ≡ all_done old ++ done_of event ∷ []
all_pushed old new event e = ap all_done e ∙ map-append done_of old (event ∷ [])

pub all_append : (old new more : List ReaderEvent) → new ≡ old ++ more → all_done new ≡ all_done old ++ all_done more
all_append old new more e = ap all_done e ∙ map-append done_of old more

-- nothing more
pub no_more : (ds : List Done) → ds ≡ ds ++ []
no_more ds = sym (append-nil ds)

-- words of ASCII are their own characters
abbrev pub are_ascii : List ℕ → Bool
are_ascii bytes = list_all (λ b. nat_lt b 128) bytes

ascii_at : (bytes : List ℕ) → are_ascii bytes ≡ true → IsAscii bytes
ascii_at [] h i = omega arith
ascii_at (b ∷ bytes) h zero = ltb-true b 128 (and_parts (nat_lt b 128) (are_ascii bytes) h).0
ascii_at (b ∷ bytes) h (suc i) = ascii_at bytes (and_parts (nat_lt b 128) (are_ascii bytes) h).1 i

pub rule_is : (bytes : List ℕ) → are_ascii bytes ≡ true → AddMatch (chars bytes) ≡ AddMatch bytes
rule_is bytes h = ap AddMatch (chars-IsAscii bytes (ascii_at bytes h))

pub pattern_is : (bytes : List ℕ) → are_ascii bytes ≡ true → RegisterEvent (chars bytes) ≡ RegisterEvent bytes
pattern_is bytes h = ap RegisterEvent (chars-IsAscii bytes (ascii_at bytes h))

-- calls that come one behind the other
module _ {A : Type 0} where
  behind : (xs one two : List A) (a b : A) → one ≡ xs → two ≡ one ++ a ∷ [] → a ≡ b → two ≡ xs ++ b ∷ []
  behind xs one two a b e f g = f ∙ ap (λ (l : List A). l ++ a ∷ []) e ∙ ap (λ (x : A). xs ++ x ∷ []) g

  pub behind_three : (xs one two three : List A) (a b c a' b' c' : A) → one ≡ xs ++ a ∷ [] → two ≡ one ++ b ∷ [] → three ≡ two ++ c ∷ [] → a ≡ a' → b ≡ b' → c ≡ c'
      → three ≡ xs ++ (a' ∷ (b' ∷ (c' ∷ [])))
  behind_three xs one two three a b c a' b' c' e f g p q r =
      let first : one ≡ xs ++ a' ∷ [] = e ∙ ap (λ (x : A). xs ++ x ∷ []) p in
      let second : two ≡ xs ++ (a' ∷ (b' ∷ [])) = behind (xs ++ a' ∷ []) one two b b' first f q ∙ append_assoc xs (a' ∷ []) (b' ∷ []) in
      behind (xs ++ (a' ∷ (b' ∷ []))) two three c c' second g r ∙ append_assoc xs (a' ∷ (b' ∷ [])) (c' ∷ [])

  pub behind_five : (xs one two three four five : List A) (a b c d e a' b' c' d' e' : A)
      → one ≡ xs ++ a ∷ [] → two ≡ one ++ b ∷ [] → three ≡ two ++ c ∷ [] → four ≡ three ++ d ∷ [] → five ≡ four ++ e ∷ []
      → a ≡ a' → b ≡ b' → c ≡ c' → d ≡ d' → e ≡ e' → five ≡ xs ++ (a' ∷ (b' ∷ (c' ∷ (d' ∷ (e' ∷ [])))))
  behind_five xs one two three four five a b c d e a' b' c' d' e' p q r s t u v w x y =
      let third = behind_three xs one two three a b c a' b' c' p q r u v w in
      let fourth : four ≡ xs ++ (a' ∷ (b' ∷ (c' ∷ (d' ∷ [])))) = behind (xs ++ (a' ∷ (b' ∷ (c' ∷ [])))) three four d d' third s x ∙ append_assoc xs (a' ∷ (b' ∷ (c' ∷ []))) (d' ∷ []) in
      behind (xs ++ (a' ∷ (b' ∷ (c' ∷ (d' ∷ []))))) four five e e' fourth t y ∙ append_assoc xs (a' ∷ (b' ∷ (c' ∷ (d' ∷ [])))) (e' ∷ [])
