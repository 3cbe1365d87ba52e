-- The first argument of a call.
use Rattle.std.proofs.Common.{◌≡◌, ℕ, List, [], ◌∷◌, refl}
use Rattle.atspi_types.specs.Kinds.{text}
use Rattle.atspi_types.specs.Data.{Data, number_data, boolean_data, text_data, path_data, signature_data, array_data, structure_data, dictionary_data, variant_data, type_of}
use Rattle.atspi_match.specs.routing.Answers.{first_text}

pub no_first : (d : Data) (ds : List Data) → (type_of d ≡ text → ⊥) → first_text (d ∷ ds) ≡ []
no_first (number_data m n) ds other = refl
no_first (boolean_data b) ds other = refl
no_first (text_data cs) ds other = absurd (other refl)
no_first (path_data bs) ds other = refl
no_first (signature_data ks) ds other = refl
no_first (array_data k es) ds other = refl
no_first (structure_data es) ds other = refl
no_first (dictionary_data k v es) ds other = refl
no_first (variant_data k d) ds other = refl
