use Rattle.atspi_world.proofs.TurnsMade.{busy_told, none_told, made_as}
use Rattle.atspi_world.proofs.stage.Stage.make_turns.Goals as goal

pub returns-clause-does : goal.returns-clause-does
returns-clause-does g c = λ p is.
    busy_told p c.args.most c.args.most _ _ _ (made_as p c.args.most c.args.most _ _ _ _ c.if-not-branch.false (c.in_ok-turns.ensures.turned p c.args.most is)) c.in_ok-note.ensures.told

pub returns-then-not-branch-clause-does : goal.returns-then-not-branch-clause-does
returns-then-not-branch-clause-does g c = λ p is. none_told p c.args.most c.args.most _ _ (made_as p c.args.most c.args.most _ _ _ _ c.if-not-branch.true (c.in_ok-turns.ensures.turned p c.args.most is))
