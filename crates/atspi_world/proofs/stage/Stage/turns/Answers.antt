use Rattle.std.proofs.Common.{Err, sym, ap, arith}
use Rattle.atspi_world.proofs.TurnsMade.{finds_as, finds_so, turned_none, turned_more, made_some, made_all, made_as}
use Rattle.atspi_world.specs.Halts.{IsLostBy, IsSpentBy, WorkLost, WorkSpent}
use Rattle.atspi_world_parties.proofs.Faults.{given_is}
use Rattle.atspi_world.proofs.Halted.{then_lost, then_spent}
use Rattle.atspi_world.proofs.TurnsHalted.{turned_broken}
use Rattle.atspi_world.proofs.stage.Stage.turns.Goals as goal

pub loop-turn-init : goal.loop-turn-init
loop-turn-init g c = record { stage = c.requires.stage; turned = λ p count is. turned_none p count c.args.most _ is }

pub loop-turn-preserved : goal.loop-turn-preserved
loop-turn-preserved g c =
    let inv = c.loop-turn.invariant in
    record {
      stage = c.in_ok-turn-in-Some.ensures.stage;
      turned = λ p count is. turned_more p count c.args.most c.loop-turn._turn _ _ _ c.in-Some.turn (inv.turned p count is) c.loop-turn-test.true
          (finds_as _ c.next_turn.result _ c.in-Some.is c.next_turn.ensures) c.in_ok-turn-in-Some.ensures.does;
    }

pub returns-in-None-clause-turned : goal.returns-in-None-clause-turned
returns-in-None-clause-turned g c = λ p count is.
    made_some p count c.args.most c.loop-turn._turn _ _ (c.loop-turn.invariant.turned p count is) (finds_as _ c.next_turn.result _ c.in-None.is c.next_turn.ensures)

pub returns-clause-turned : goal.returns-clause-turned
returns-clause-turned g c = λ p count is.
    made_as p count c.args.most _ _ _ _ (sym c.is_some.ensures)
    (made_all p count c.args.most c.loop-turn._turn _ _ c.next_turn-2.result (c.loop-turn.invariant.turned p count is) (omega arith) (finds_so c.next_turn-2.result _ c.next_turn-2.ensures))

pub returns-in_err-turn-in-Some-clause-lost : goal.returns-in_err-turn-in-Some-clause-lost
returns-in_err-turn-in-Some-clause-lost g c = λ is p count playing.
    turned_broken IsLostBy WorkLost then_lost p count c.args.most c.loop-turn._turn _ _ _ c.in-Some.turn (c.loop-turn.invariant.turned p count playing) c.loop-turn-test.true (finds_as _ c.next_turn.result _ c.in-Some.is c.next_turn.ensures)
    (c.in_err-turn-in-Some.ensures.lost (ap Err (given_is c.from_residual.result _ _ c.from_residual.ensures.1 is)))

pub returns-in_err-turn-in-Some-clause-spent : goal.returns-in_err-turn-in-Some-clause-spent
returns-in_err-turn-in-Some-clause-spent g c = λ is p count playing.
    turned_broken IsSpentBy WorkSpent then_spent p count c.args.most c.loop-turn._turn _ _ _ c.in-Some.turn (c.loop-turn.invariant.turned p count playing) c.loop-turn-test.true (finds_as _ c.next_turn.result _ c.in-Some.is c.next_turn.ensures)
    (c.in_err-turn-in-Some.ensures.spent (ap Err (given_is c.from_residual.result _ _ c.from_residual.ensures.1 is)))
