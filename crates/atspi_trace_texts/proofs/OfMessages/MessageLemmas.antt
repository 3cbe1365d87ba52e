-- The words of a message, written one behind the other.
use Rattle.std.proofs.Common.{◌≡◌, ℕ, ◌<◌, List, [], ◌∷◌, ◌++◌, length, codes, sym, ap, ◌∙◌, append_assoc, arith}
use Rattle.std.proofs.lemmas.List.{append-nil}
use Rattle.std.proofs.lemmas.Grind.{flat_map-append}
use Rattle.std.specs.List.{flat_map}
use Rattle.atspi_types.specs.Signatures.{signature_bytes}
use Rattle.atspi_types.specs.Data.{Data, items_of, types_of}
use Rattle.atspi_script.specs.Spaced.{behind_space, spaced}
use Rattle.atspi_script.specs.ValueText.{value_texts}
use Rattle.atspi_script.specs.MessageText.{body_words}

-- words behind others
pub more_words : (words more : List (List ℕ)) (out middle new : List ℕ) → middle ≡ out ++ flat_map behind_space words → new ≡ middle ++ flat_map behind_space more → new ≡ out ++ flat_map behind_space (words ++ more)
more_words words more out middle new e f =
    f
    ∙ ap (λ w. w ++ flat_map behind_space more) e
    ∙ append_assoc out (flat_map behind_space words) (flat_map behind_space more)
    ∙ sym (ap (λ w. out ++ w) (flat_map-append behind_space words more))

-- words behind the first word and others
pub words_behind : (first : List ℕ) (words more : List (List ℕ)) (out middle new : List ℕ) → middle ≡ out ++ spaced (first ∷ words) → new ≡ middle ++ flat_map behind_space more → new ≡ out ++ spaced (first ∷ (words ++ more))
words_behind first words more out middle new e f =
    f
    ∙ ap (λ w. w ++ flat_map behind_space more) (e ∙ sym (append_assoc out first (flat_map behind_space words)))
    ∙ append_assoc (out ++ first) (flat_map behind_space words) (flat_map behind_space more)
    ∙ append_assoc out first (flat_map behind_space words ++ flat_map behind_space more)
    ∙ sym (ap (λ w. out ++ (first ++ w)) (flat_map-append behind_space words more))

regroup : (a b c d e f g : List ℕ) → (((((a ++ b) ++ c) ++ d) ++ e) ++ f) ++ g ≡ a ++ (b ++ (c ++ (d ++ (e ++ (f ++ g)))))
regroup a b c d e f g = simp append_assoc

-- the front of a message, piece by piece
pub front_written : (letter : ℕ) (word flags serial out a b c d new : List ℕ) → a ≡ out ++ word → b ≡ a ++ 32 ∷ letter ∷ 32 ∷ [] → c ≡ b ++ flags → d ≡ c ++ 32 ∷ [] → new ≡ d ++ serial → new ≡ out ++ (word ++ 32 ∷ letter ∷ 32 ∷ (flags ++ 32 ∷ serial))
front_written letter word flags serial out a b c d new p q r s t =
    let all : new ≡ (((((out ++ word) ++ 32 ∷ letter ∷ 32 ∷ []) ++ flags) ++ 32 ∷ []) ++ serial) ++ [] = sym (append-nil new) ∙ ap (λ w. w ++ []) (cc) in
    all ∙ regroup out word (32 ∷ letter ∷ 32 ∷ []) flags (32 ∷ []) serial [] ∙ ap (λ w. out ++ (word ++ 32 ∷ letter ∷ 32 ∷ (flags ++ 32 ∷ w))) (append-nil serial)

pub header_written : (letter : ℕ) (word flags serial fields out front new : List ℕ) → front ≡ out ++ (word ++ 32 ∷ letter ∷ 32 ∷ (flags ++ 32 ∷ serial)) → new ≡ front ++ fields → new ≡ out ++ (word ++ 32 ∷ letter ∷ 32 ∷ (flags ++ 32 ∷ (serial ++ fields)))
header_written letter word flags serial fields out front new e f =
    f
    ∙ ap (λ w. w ++ fields) e
    ∙ append_assoc out (word ++ 32 ∷ letter ∷ 32 ∷ (flags ++ 32 ∷ serial)) fields
    ∙ ap (λ w. out ++ w) (append_assoc word (32 ∷ letter ∷ 32 ∷ (flags ++ 32 ∷ serial)) fields ∙ ap (λ w. word ++ 32 ∷ letter ∷ 32 ∷ w) (append_assoc flags (32 ∷ serial) fields))

-- a body that is not empty, piece by piece
pub body_written : (ds : List Data) (out a b c d new : List ℕ) → 0 < length ds → a ≡ out ++ codes " signature=" → b ≡ a ++ signature_bytes (types_of (items_of ds)) → c ≡ b ++ codes " [" → d ≡ c ++ spaced (value_texts (items_of ds)) → new ≡ d ++ 93 ∷ []
    → new ≡ out ++ flat_map behind_space (body_words (items_of ds))
body_written [] out a b c d new h p q r s t = absurd (omega arith)
body_written (x ∷ ds) out a b c d new h p q r s t =
    let types = signature_bytes (types_of (items_of (x ∷ ds))) in
    let texts = spaced (value_texts (items_of (x ∷ ds))) in
    let all : new ≡ (((((out ++ codes " signature=") ++ types) ++ codes " [") ++ texts) ++ 93 ∷ []) ++ [] = sym (append-nil new) ∙ ap (λ w. w ++ []) (cc) in
    let grouped : codes " signature=" ++ (types ++ (codes " [" ++ ((texts ++ 93 ∷ []) ++ []))) ≡ flat_map behind_space (body_words (items_of (x ∷ ds))) = sym (append_assoc (codes " signature=") types (codes " [" ++ ((texts ++ 93 ∷ []) ++ []))) in
    all
    ∙ regroup out (codes " signature=") types (codes " [") texts (93 ∷ []) []
    ∙ ap (λ w. out ++ (codes " signature=" ++ (types ++ (codes " [" ++ w)))) (sym (append-nil (texts ++ 93 ∷ [])))
    ∙ ap (λ w. out ++ w) grouped
