use Rattle.std.proofs.Common.{refl}
use Rattle.atspi_auth.specs.Lines.{lines_of, joined}
use Rattle.atspi_auth.specs.Replies.{answer, reply_to}
use Rattle.atspi_auth.specs.Requests.{is_grant, is_number}
use Rattle.atspi_auth.specs.Talk.{heard, hears, hears_bytes}
use Rattle.atspi_live_examples.proofs.conversation.cases.is_over.Goals as goal

pub returns-clause-stage : goal.returns-clause-stage
unfolding heard hears hears_bytes lines_of joined answer reply_to is_grant is_number
returns-clause-stage c = refl

pub returns-clause-behind : goal.returns-clause-behind
unfolding heard hears hears_bytes lines_of joined answer reply_to is_grant is_number
returns-clause-behind c = refl

pub returns-clause-lines : goal.returns-clause-lines
unfolding heard hears hears_bytes lines_of joined answer reply_to is_grant is_number
returns-clause-lines c = refl
