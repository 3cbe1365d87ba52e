-- Words with a space between any two, written one behind the other.
use Rattle.std.proofs.Common.{◌≡◌, ℕ, ◌≤◌, List, [], ◌∷◌, ◌++◌, length, take, sym, ap, ◌∙◌, append_assoc, arith}
use Rattle.std.proofs.lemmas.List.{append-nil, length-append, length-take, take-take}
use Rattle.std.proofs.Math.Seq.{take-append_seam}
use Rattle.std.specs.List.{flat_map}
use Rattle.atspi_types.specs.Data.{Data, items_of}
use Rattle.atspi_marshal.specs.Reading.{struct_of, entries_in}
use Rattle.atspi_script.specs.Spaced.{behind_space, spaced}
use Rattle.atspi_script.specs.ValueText.{in_braces, value_text, value_texts, entry_texts}

-- what was written, and the words that are still to come, are all
abbrev pub Written : List ℕ → List (List ℕ) → List ℕ → List (List ℕ) → Type 0
Written now rest old all = now ++ flat_map behind_space rest ≡ old ++ spaced all

-- no word is written
pub none_written : (all : List (List ℕ)) (old : List ℕ) → all ≡ [] → old ≡ old ++ spaced all
none_written all old none = sym (append-nil old) ∙ ap (λ ws. old ++ spaced ws) (sym none)

-- the first word
pub first_written : (all rest : List (List ℕ)) (word old now : List ℕ) → all ≡ word ∷ rest → now ≡ old ++ word → Written now rest old all
first_written all rest word old now is e =
    ap (λ w. w ++ flat_map behind_space rest) e ∙ append_assoc old word (flat_map behind_space rest) ∙ ap (λ ws. old ++ spaced ws) (sym is)

-- one word more, behind a space
pub more_written : (all left rest : List (List ℕ)) (word old now space new : List ℕ) → left ≡ word ∷ rest → space ≡ now ++ 32 ∷ [] → new ≡ space ++ word → Written now left old all → Written new rest old all
more_written all left rest word old now space new is e f so_far =
    ap (λ w. w ++ flat_map behind_space rest) (f ∙ ap (λ w. w ++ word) e)
    ∙ append_assoc (now ++ 32 ∷ []) word (flat_map behind_space rest)
    ∙ append_assoc now (32 ∷ []) (word ++ flat_map behind_space rest)
    ∙ sym (ap (λ ws. now ++ flat_map behind_space ws) is)
    ∙ so_far

-- no word is left
pub all_written : (all left : List (List ℕ)) (old now : List ℕ) → left ≡ [] → Written now left old all → now ≡ old ++ spaced all
all_written all left old now none so_far = sym (append-nil now) ∙ sym (ap (λ ws. now ++ flat_map behind_space ws) none) ∙ so_far

-- the words of values, and of entries
abbrev pub words_of : List Data → List (List ℕ)
words_of ds = value_texts (items_of ds)

abbrev pub entry_words : List Data → List (List ℕ)
entry_words ds = entry_texts (entries_in (items_of ds))

pub words_come : (old new : List Data) (d : Data) → old ≡ d ∷ new → words_of old ≡ value_text d ∷ words_of new
words_come old new d e = ap words_of e

pub entry_words_come : (old new : List Data) (key value : Data) → old ≡ struct_of key value ∷ new → entry_words old ≡ in_braces (value_text key) (value_text value) ∷ entry_words new
entry_words_come old new key value e = ap entry_words e

pub no_words : (ds : List Data) → ds ≡ [] → words_of ds ≡ []
no_words ds e = ap words_of e

pub no_entry_words : (ds : List Data) → ds ≡ [] → entry_words ds ≡ []
no_entry_words ds e = ap entry_words e

-- what stood before stands there still, where a front of what was to come was appended
pub front_kept : (old tail now new : List ℕ) → now ≡ old ++ tail → take (length now) new ≡ now → take (length old) new ≡ old
front_kept old tail now new e front =
    let le : length old ≤ length now = omega (arith, ap length e, length-append old tail) in
    sym (take-take (length old) (length now) new le) ∙ ap (λ (bs : List ℕ). take (length old) bs) (front ∙ e) ∙ take-append_seam old tail

-- and where that was done twice
pub front_both : (old now new : List ℕ) → take (length old) now ≡ old → take (length now) new ≡ now → take (length old) new ≡ old
front_both old now new a b =
    let le : length old ≤ length now = omega (arith, ap length a, length-take {A = ℕ}) in
    sym (take-take (length old) (length now) new le) ∙ ap (λ (bs : List ℕ). take (length old) bs) b ∙ a

-- and where a space came between
pub front_spaced : (old now space new : List ℕ) → take (length old) now ≡ old → space ≡ now ++ 32 ∷ [] → take (length space) new ≡ space → take (length old) new ≡ old
front_spaced old now space new a e b = front_both old now new a (front_kept now (32 ∷ []) space new e b)
