-- The names of states are words: by trying each.
use Rattle.std.proofs.Common.{◌≡◌, ℕ, zero, suc, ◌<◌, ◌^◌, Bool, true, false, ◌&&◌, List, Option, Some, None, length, refl, subst, arith}
use Rattle.std.specs.Prelude.{◌==◌, nat_lt, slice_get}
use Rattle.std.proofs.lemmas.Bool.{and_parts, eqb-true, eqb-false, ltb-true}
use Rattle.atspi_tables.specs.States.{state_names}
use Rattle.atspi_protocol_messages.specs.Plain.{are_plain}

abbrev is_word : Option (List ℕ) → Bool
is_word None = false
is_word (Some name) = are_plain name && nat_lt (length name) 100

abbrev are_words : ℕ → Bool
are_words zero = true
are_words (suc k) = is_word (slice_get state_names k) && are_words k

tried : are_words 44 ≡ true
unfolding state_names
tried = refl

word_next : (k s : ℕ) (b : Bool) → (s == k) ≡ b → is_word (slice_get state_names k) ≡ true → s < suc k
    → (s < k → is_word (slice_get state_names s) ≡ true) → is_word (slice_get state_names s) ≡ true
word_next k s true same x l before = rw (eqb-true s k same) x
word_next k s false other x l before = before (let ne = eqb-false s k other in smaller ne l)
  where
    smaller : (s ≡ k → ⊥) → s < suc k → s < k
    smaller ne l = omega arith

word_each : (k s : ℕ) → are_words k ≡ true → s < k → is_word (slice_get state_names s) ≡ true
word_each zero s e l = absurd (omega arith)
word_each (suc k) s e l =
    let h = and_parts (is_word (slice_get state_names k)) (are_words k) e in
    word_next k s (s == k) refl h.0 l (word_each k s h.1)

pub named : (s : ℕ) → s < 44 → slice_get state_names s ≡ None → ⊥
named s l e = let t = subst (λ o. is_word o ≡ true) e (word_each 44 s tried l) in cc

pub name_is_word : (s : ℕ) (name : List ℕ) → s < 44 → slice_get state_names s ≡ Some name → (are_plain name ≡ true) × (length name < 2 ^ 32)
name_is_word s name l e =
    let t = subst (λ o. is_word o ≡ true) e (word_each 44 s tried l) in
    let h = and_parts (are_plain name) (nat_lt (length name) 100) t in
    (h.0, (let z = ltb-true (length name) 100 h.1 in omega arith))
