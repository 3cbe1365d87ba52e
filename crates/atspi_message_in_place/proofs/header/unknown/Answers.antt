use Rattle.std.proofs.Common.{ap, ◌∙◌}
use Rattle.atspi_types.specs.Kinds.{Kind}
use Rattle.atspi_marshal.specs.Reading.{input_of, read}
use Rattle.atspi_marshal_in_place.specs.Passing.{after}
use Rattle.atspi_message_in_place.proofs.HeaderFields.{is_variant, is_one, is_no_fault}
use Rattle.atspi_message_in_place.proofs.header.unknown.Goals as goal

pub returns-in-Ok-Some-clause-read : goal.returns-in-Ok-Some-clause-read
returns-in-Ok-Some-clause-read c =
    c.pass.ensures.place ∙ ap (λ (k : Kind). after (read (input_of c.args.input.now) 62 k c.args.bound c.args.at)) (is_variant c.in-Ok-Some.ty (rw c.in-Ok-Some.field-0-is at c.in-Ok-Some.ensures))

pub returns-in-Ok-None-clause-read : goal.returns-in-Ok-None-clause-read
returns-in-Ok-None-clause-read c = absurd (is_one (rw c.in-Ok-None.field-0-is at c.in-Ok-None.ensures))

pub returns-in-Err-clause-read : goal.returns-in-Err-clause-read
returns-in-Err-clause-read c = absurd (is_no_fault c.in-Err.wrong c.in-Err.ensures)
