-- How arguments are read one behind the other.
use Rattle.std.specs.Prelude.{◌≡◌, ℕ, Bool, true, false, List, ◌∷◌, Option, None, Some, chars}
use Rattle.std.specs.Borrow.{Bor}
use Rattle.atspi_types.specs.Kinds.{boolean}
use Rattle.atspi_types.specs.Data.{Data, boolean_data, text_data, variant_data}

-- the first of the values is a text; a boolean in a variant
abbrev pub begins_with_text : List Data → Bool
begins_with_text (text_data cs ∷ ds) = true
begins_with_text ds = false

abbrev pub begins_with_switch : List Data → Bool
begins_with_switch (variant_data boolean (boolean_data on) ∷ ds) = true
begins_with_switch ds = false

-- it came, and behind it stand the others; or the first value is none
abbrev pub TextComes : Option (Bor (List ℕ)) → List Data → List Data → Type 0
TextComes (Some s) old new = old ≡ text_data (chars s.now) ∷ new
TextComes None old new = begins_with_text old ≡ false

abbrev pub SwitchComes : Option Bool → List Data → List Data → Type 0
SwitchComes (Some on) old new = old ≡ variant_data boolean (boolean_data on) ∷ new
SwitchComes None old new = begins_with_switch old ≡ false
