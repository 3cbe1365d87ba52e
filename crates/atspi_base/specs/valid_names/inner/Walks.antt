-- The walk over a name from byte to byte, as tables give it.
use Rattle.std.specs.Prelude.{ℕ, List, [], ◌∷◌, ◌==◌, if◌then◌else◌}
use Rattle.std.specs.Char.{is_ascii_digit}
use Rattle.atspi_base.specs.valid_names.Elements.{is_plain}
use Rattle.atspi_base.specs.declared.valid_names.elements.Form.{Form}
use Rattle.atspi_base.specs.declared.valid_names.elements.Form.TheVariants.{Path, Interface, WellKnown, Unique}

-- 2 a digit, 1 another plain byte, 3 -, 4 ., 5 /, 0 any other
abbrev pub byte_class : ℕ → ℕ
byte_class b = if is_plain b then (if is_ascii_digit b then 2 else 1) else if b == 45 then 3 else if b == 46 then 4
    else if b == 47 then 5 else 0

-- what stands between elements
abbrev pub separator_of : Form → ℕ
separator_of Path = 47
separator_of Interface = 46
separator_of WellKnown = 46
separator_of Unique = 46

-- at a byte of each class, from before an element, from inside one and from behind a byte that may not stand there
abbrev pub next_states : Form → List ℕ
next_states Path = 16 ∷ 8 ∷ 8 ∷ 16 ∷ 16 ∷ 16 ∷ 16 ∷ 16 ∷ 16 ∷ 8 ∷ 8 ∷ 16 ∷ 16 ∷ 0 ∷ 16 ∷ 16 ∷ 16 ∷ 16 ∷ 16 ∷ 16 ∷ 16
    ∷ 16 ∷ 16 ∷ 16 ∷ []
next_states Interface = 16 ∷ 8 ∷ 16 ∷ 16 ∷ 16 ∷ 16 ∷ 16 ∷ 16 ∷ 16 ∷ 8 ∷ 8 ∷ 16 ∷ 0 ∷ 16 ∷ 16 ∷ 16 ∷ 16 ∷ 16 ∷ 16 ∷ 16
    ∷ 16 ∷ 16 ∷ 16 ∷ 16 ∷ []
next_states WellKnown = 16 ∷ 8 ∷ 16 ∷ 8 ∷ 16 ∷ 16 ∷ 16 ∷ 16 ∷ 16 ∷ 8 ∷ 8 ∷ 8 ∷ 0 ∷ 16 ∷ 16 ∷ 16 ∷ 16 ∷ 16 ∷ 16 ∷ 16 ∷ 16
    ∷ 16 ∷ 16 ∷ 16 ∷ []
next_states Unique = 16 ∷ 8 ∷ 8 ∷ 8 ∷ 16 ∷ 16 ∷ 16 ∷ 16 ∷ 16 ∷ 8 ∷ 8 ∷ 8 ∷ 0 ∷ 16 ∷ 16 ∷ 16 ∷ 16 ∷ 16 ∷ 16 ∷ 16 ∷ 16
    ∷ 16 ∷ 16 ∷ 16 ∷ []
