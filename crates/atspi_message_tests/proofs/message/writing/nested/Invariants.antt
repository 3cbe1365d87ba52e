use Rattle.std.proofs.Common.{◌≡◌}
use Rattle.atspi_types.specs.Kinds.{variant}
use Rattle.atspi_types.specs.Data.{IsWellTyped, type_of}
use Rattle.atspi_types.specs.DataView.{data_of}
use Rattle.atspi_message_tests.proofs.message.writing.nested.Given as goal

abbrev pub invariant-loop : goal.invariant-loop
invariant-loop l = IsWellTyped (data_of l.value) × (type_of (data_of l.value) ≡ variant)
