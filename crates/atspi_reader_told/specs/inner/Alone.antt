-- A body that is one text alone, and a unique name.
use Rattle.std.specs.Prelude.{ℕ, Bool, false, ◌&&◌, List, Option, Some, None}
use Rattle.atspi_types.specs.Data.{Data}
use Rattle.atspi_base.specs.valid_names.Names.{is_bus_name, is_unique_name}
use Rattle.atspi_protocol.specs.news.Arguments.{then_text, then_end}

abbrev pub text_alone : List Data → Option (List ℕ)
text_alone = then_text (λ text. then_end text)

abbrev pub is_unique : List ℕ → Bool
is_unique name = is_bus_name name && is_unique_name name

abbrev pub unique_if : Option (List ℕ) → Bool
unique_if None = false
unique_if (Some name) = is_unique name
