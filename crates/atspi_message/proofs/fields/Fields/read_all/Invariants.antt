use Rattle.std.proofs.Common.{◌≡◌, ◌≤◌, ◌-◌}
use Rattle.atspi_marshal.specs.Reading.{input_of}
use Rattle.atspi_message.specs.inner.Reading.{none_found, all_fields_at}
use Rattle.atspi_message.specs.inner.FieldsView.{found_of}
use Rattle.atspi_message.proofs.fields.Fields.read_all.Given as goal

-- what was found, and the fields that are still to be read, are all
abbrev pub invariant-loop : goal.invariant-loop
invariant-loop l =
    (l.at ≤ l.bound.end) × (all_fields_at (input_of l.input) l.bound (l.bound.end - l.counter) (found_of l.fields) l.at ≡ all_fields_at (input_of l.input) l.bound l.bound.end none_found 16)
