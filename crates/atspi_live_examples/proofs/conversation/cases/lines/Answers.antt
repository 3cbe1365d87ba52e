use Rattle.std.proofs.Common.{refl}
use Rattle.atspi_auth.specs.Lines.{lines_of, joined}
use Rattle.atspi_auth.specs.Replies.{answer, reply_to}
use Rattle.atspi_auth.specs.Requests.{is_grant, is_number}
use Rattle.atspi_auth.specs.Talk.{heard, hears, hears_bytes}
use Rattle.atspi_live_examples.proofs.conversation.cases.lines.Goals as goal

pub returns-clause-first : goal.returns-clause-first
unfolding heard hears hears_bytes lines_of joined answer reply_to is_grant is_number
returns-clause-first c = refl

pub returns-clause-not_whole : goal.returns-clause-not_whole
unfolding heard hears hears_bytes lines_of joined answer reply_to is_grant is_number
returns-clause-not_whole c = refl

pub returns-clause-second : goal.returns-clause-second
unfolding heard hears hears_bytes lines_of joined answer reply_to is_grant is_number
returns-clause-second c = refl
