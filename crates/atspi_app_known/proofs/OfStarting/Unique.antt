-- A text is a unique bus name by its characters where it is one by its bytes.
use Rattle.std.proofs.Common.{◌≡◌, ℕ, Bool, true, false, List, [], ◌∷◌, Option, None, Some, refl, sym, ap, ◌∙◌, chars, IsUtf8}
use Rattle.std.specs.Prelude.{◌&&◌, if◌then◌else◌}
use Rattle.atspi_types.specs.Kinds.{text}
use Rattle.atspi_types.specs.Data.{Data, text_data, type_of}
use Rattle.atspi_base.specs.valid_names.Names.{is_bus_name, is_unique_name}
use Rattle.atspi_protocol.specs.exporting.Starting.{unique_name_in}
use Rattle.atspi_app_known.proofs.OfHearing.Names.{name_plain, name_rule}

and_true : (b : Bool) → (b && true) ≡ b
and_true true = refl
and_true false = refl

and_false : (b : Bool) → (b && false) ≡ false
and_false true = refl
and_false false = refl

pub unique_yes : (s : List ℕ) → IsUtf8 s → is_bus_name s ≡ true → is_unique_name s ≡ (is_unique_name (chars s) && is_bus_name (chars s))
unique_yes s u e =
    sym (ap (λ (t : List ℕ). is_unique_name t && is_bus_name t) (name_plain s e) ∙ ap (λ b. is_unique_name s && b) e ∙ and_true (is_unique_name s))

pub unique_no : (s : List ℕ) → IsUtf8 s → is_bus_name s ≡ false → false ≡ (is_unique_name (chars s) && is_bus_name (chars s))
unique_no s u e = sym (ap (λ b. is_unique_name (chars s) && b) (name_rule s u ∙ e) ∙ and_false (is_unique_name (chars s)))

-- values that are no name
no_text : (d : Data) (rest : List Data) → (type_of d ≡ text → ⊥) → unique_name_in (d ∷ rest) ≡ None
no_text (text_data cs) rest other = absurd (other refl)
no_text _ rest other = refl

pub wrong_text : (all rest : List Data) (d : Data) → all ≡ d ∷ rest → (type_of d ≡ text → ⊥) → unique_name_in all ≡ None
wrong_text all rest d e other = ap unique_name_in e ∙ no_text d rest other
