-- Arguments that are there, are not there, or are of another type than the one that is read.
use Rattle.std.proofs.Common.{◌≡◌, ℕ, List, [], ◌∷◌, Some, None, refl, ap, ◌∙◌, chars}
use Rattle.std.specs.Prelude.{pos, slice_get, IsTrue}
use Rattle.std.proofs.lemmas.Str.{chars-nil}
use Rattle.atspi_types.specs.Kinds.{i32, number, text, path}
use Rattle.atspi_types.specs.Data.{Data, number_data, text_data, path_data, structure_data, Items, item, items_of, type_of}
use Rattle.atspi_marshal_in_place.specs.codes.Codes.{is_structure}
use Rattle.atspi_protocol.specs.members.Arguments.{characters_in, signed_in}
use Rattle.atspi_registry.specs.calls.inner.Arguments.{reference_of}

pub not_text : (d : Data) → (type_of d ≡ text → ⊥) → chars [] ≡ characters_in (Some d)
not_text (text_data cs) other = absurd (other refl)
not_text _ other = chars-nil

pub not_signed : (d : Data) → (type_of d ≡ number i32 → ⊥) → pos 0 ≡ signed_in (Some d)
not_signed (number_data i32 n) other = absurd (other refl)
not_signed _ other = refl

-- the first argument, and the second behind it
pub first_is : (all new : List Data) (d : Data) → all ≡ d ∷ new → slice_get all 0 ≡ Some d
first_is all new d e = ap (λ (ds : List Data). slice_get ds 0) e

pub second_is : (all new : List Data) (d : Data) → all ≡ d ∷ new → slice_get all 1 ≡ slice_get new 0
second_is all new d e = ap (λ (ds : List Data). slice_get ds 1) e

pub no_first : (all : List Data) (n : ℕ) → all ≡ [] → slice_get all n ≡ None
no_first all n e = ap (λ (ds : List Data). slice_get ds n) e

-- no reference: the first argument is no struct, the first field no text, or the second no path
no_structure : (d : Data) (ds : List Data) → (IsTrue (is_structure (type_of d)) → ⊥) → reference_of (d ∷ ds) ≡ None
no_structure (structure_data fs) ds other = absurd (other refl)
no_structure _ ds other = refl

no_name : (d : Data) (fs : Items) (ds : List Data) → (type_of d ≡ text → ⊥) → reference_of (structure_data (item d fs) ∷ ds) ≡ None
no_name (text_data cs) fs ds other = absurd (other refl)
no_name _ fs ds other = refl

no_path : (cs : List ℕ) (d : Data) (fs : Items) (ds : List Data) → (type_of d ≡ path → ⊥) → reference_of (structure_data (item (text_data cs) (item d fs)) ∷ ds) ≡ None
no_path cs (path_data bs) fs ds other = absurd (other refl)
no_path cs _ fs ds other = refl

pub wrong_fields : (all new : List Data) (d : Data) → all ≡ d ∷ new → (IsTrue (is_structure (type_of d)) → ⊥) → reference_of all ≡ None
wrong_fields all new d e other = ap reference_of e ∙ no_structure d new other

pub wrong_name : (all new fs rest : List Data) (d y : Data) → all ≡ d ∷ new → d ≡ structure_data (items_of fs) → fs ≡ y ∷ rest → (type_of y ≡ text → ⊥) → reference_of all ≡ None
wrong_name all new fs rest d y e is first other =
    ap reference_of (e ∙ ap (λ (x : Data). x ∷ new) (is ∙ ap (λ (l : List Data). structure_data (items_of l)) first)) ∙ no_name y (items_of rest) new other

pub wrong_path : (all new fs rest more : List Data) (d y z : Data) (cs : List ℕ) → all ≡ d ∷ new → d ≡ structure_data (items_of fs) → fs ≡ y ∷ rest → y ≡ text_data cs → rest ≡ z ∷ more → (type_of z ≡ path → ⊥) → reference_of all ≡ None
wrong_path all new fs rest more d y z cs e is first name second other =
    ap reference_of (e ∙ ap (λ (x : Data). x ∷ new) (is ∙ ap (λ (l : List Data). structure_data (items_of l)) (first ∙ ap (λ (x : Data). x ∷ rest) name ∙ ap (λ (l : List Data). text_data cs ∷ l) second)))
    ∙ no_path cs z (items_of more) new other
