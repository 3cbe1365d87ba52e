-- The bytes of a body.
use Rattle.std.specs.Prelude.{◌≡◌, ◌%◌, ℕ, List}
use Rattle.atspi_types.specs.Data.{Data, items_of, types_of}
use Rattle.atspi_types.specs.declared.fault.Order.{Order}
use Rattle.atspi_marshal.specs.Spelling.{spellings, FieldsFit}

-- these bytes spell the values of a body, one behind the other from a multiple of 8 on, and within the limits (D-Bus
-- Specification, "Message Format")
pub record IsBody (o : Order) (values : List Data) (bytes : List ℕ) : Type 0 where
  pub place : ℕ
  pub even : place % 8 ≡ 0
  pub spelled : bytes ≡ spellings o place (items_of values)
  pub fits : FieldsFit o 64 place (items_of values) (types_of (items_of values))
