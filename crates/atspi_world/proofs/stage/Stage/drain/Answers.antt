use Rattle.std.proofs.Common.{Err, inl, inr, ap, arith}
use Rattle.atspi_trace.specs.Work.{draining}
use Rattle.atspi_world.proofs.Parts.{none_done}
use Rattle.atspi_world.proofs.TurnsMade.{finds_as, drained_more, quiet_told}
use Rattle.atspi_world.specs.Halts.{IsLostBy, IsSpentBy, WorkLost, WorkSpent}
use Rattle.atspi_world_parties.proofs.Faults.{given_is}
use Rattle.atspi_world.proofs.Halted.{then_lost, then_spent}
use Rattle.atspi_world.proofs.TurnsHalted.{drained_broken, none_made, one_made, many_made}
use Rattle.atspi_world.proofs.stage.Stage.drain.Goals as goal

pub loop-turn-init : goal.loop-turn-init
loop-turn-init g c = record { stage = c.requires.stage; drained = λ p is. none_done p draining _ is; made = λ p is. none_made p _ is }

pub loop-turn-preserved : goal.loop-turn-preserved
loop-turn-preserved g c = record {
  stage = c.in_ok-turn-in-Some.ensures.stage;
  drained = λ p is. drained_more p _ _ _ c.in-Some.turn (c.loop-turn.invariant.drained p is) (finds_as _ c.next_turn.result _ c.in-Some.is c.next_turn.ensures) c.in_ok-turn-in-Some.ensures.does;
  made = λ p is. one_made c.loop-turn._turn p _ _ _ c.in-Some.turn (c.loop-turn.invariant.made p is) (finds_as _ c.next_turn.result _ c.in-Some.is c.next_turn.ensures) c.in_ok-turn-in-Some.ensures.does;
}

pub returns-in-None-clause-does : goal.returns-in-None-clause-does
returns-in-None-clause-does g c = λ p is.
    quiet_told p _ _ _ (c.loop-turn.invariant.drained p is) (finds_as _ c.next_turn.result _ c.in-None.is c.next_turn.ensures) c.in_ok-note-in-None.ensures.told

pub returns-in_err-turn-in-Some-clause-lost : goal.returns-in_err-turn-in-Some-clause-lost
returns-in_err-turn-in-Some-clause-lost g c = λ is p playing.
    drained_broken IsLostBy WorkLost then_lost p _ _ _ c.in-Some.turn (c.loop-turn.invariant.drained p playing) (finds_as _ c.next_turn.result _ c.in-Some.is c.next_turn.ensures) (c.in_err-turn-in-Some.ensures.lost (ap Err (given_is c.from_residual.result _ _ c.from_residual.ensures.1 is)))

pub returns-in_err-turn-in-Some-clause-spent : goal.returns-in_err-turn-in-Some-clause-spent
returns-in_err-turn-in-Some-clause-spent g c = λ is p playing.
    inl (drained_broken IsSpentBy WorkSpent then_spent p _ _ _ c.in-Some.turn (c.loop-turn.invariant.drained p playing) (finds_as _ c.next_turn.result _ c.in-Some.is c.next_turn.ensures) (c.in_err-turn-in-Some.ensures.spent (ap Err (given_is c.from_residual.result _ _ c.from_residual.ensures.1 is))))

pub returns-clause-spent : goal.returns-clause-spent
returns-clause-spent g c = λ is p playing. inr (many_made c.loop-turn._turn p _ _ (omega arith) (c.loop-turn.invariant.made p playing))
