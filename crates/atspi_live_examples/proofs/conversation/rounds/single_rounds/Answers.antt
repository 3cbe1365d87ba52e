use Rattle.std.proofs.Common.{[], ◌∷◌, ◌++◌, refl, sym, inr, ◌∙◌, append-nil, lit<, lit≤}
use Rattle.std.specs.Prelude.{codes}
use Rattle.atspi_auth.specs.Lines.{end_of_line}
use Rattle.atspi_live_host.specs.declared.call.Did.TheVariants.{Done, NotYet}
use Rattle.atspi_live_host.specs.declared.call.Call.TheVariants.{Read, Write}
use Rattle.atspi_live_examples.specs.conversation.Silent.{hail}
use Rattle.atspi_live_examples.proofs.OfConversation.Given.{first_round, lines_second, none_second, not_first, other_not_first, said, second_round}
use Rattle.atspi_live_examples.proofs.conversation.rounds.single_rounds.Goals as goal

pub returns-clause-nothing_read : goal.returns-clause-nothing_read
returns-clause-nothing_read c = first_round

pub returns-clause-all_given : goal.returns-clause-all_given
returns-clause-all_given c = second_round

pub returns-clause-answered : goal.returns-clause-answered
returns-clause-answered c = (
  Read 0 (codes "DATA" ++ end_of_line) (Done 6) ∷ [],
  Write 0 (codes "DATA" ++ end_of_line) NotYet ∷ [],
  (codes "DATA" ++ end_of_line, Done 6, tt, lit≤ tt, refl),
  inr (NotYet, tt, (codes "DATA" ++ end_of_line, lit< tt, lit≤ tt, said (codes "DATA" ++ end_of_line) (hail ++ (codes "DATA" ++ end_of_line)) [] none_second (append-nil (hail ++ (codes "DATA" ++ end_of_line)) ∙ sym lines_second), refl)),
  refl,
)

pub returns-clause-is_due : goal.returns-clause-is_due
returns-clause-is_due c r = not_first r

pub returns-clause-is_other : goal.returns-clause-is_other
returns-clause-is_other c r = other_not_first r
