use Rattle.std.proofs.Common.{rules, arith}
use Rattle.atspi_live_conversation.proofs.conversation.Conversation.tell.Goals as goal

pub returns-in-Ok-Some-clause-err : goal.returns-in-Ok-Some-clause-err
returns-in-Ok-Some-clause-err g c aside =
    (c.attend.new.feeder, rw c.in-Ok-Some.field-0-is at (c.in-Ok-Some.ensures.ok aside), first_of (search rules, omega (arith, c.saturating_sub-start.ensures, c.len.ensures)))
