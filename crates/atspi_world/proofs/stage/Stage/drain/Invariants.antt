use Rattle.atspi_trace.specs.play.Playing.{Playing}
use Rattle.atspi_trace.specs.Work.{draining}
use Rattle.atspi_world.specs.Stage.{IsStage}
use Rattle.atspi_world.specs.inner.Turns.{PartDone}
use Rattle.atspi_world.specs.Worlds.{staged, IsPlaying}
use Rattle.atspi_world.proofs.TurnsHalted.{AreMade}
use Rattle.atspi_world.proofs.stage.Stage.drain.Given as goal

-- turns were made, and all others are left
abbrev pub invariant-loop-turn : goal.invariant-loop-turn
invariant-loop-turn g l =
    let before = staged g.A.Application.exporter g.R.Follower.follower l.initial.self in
    let now = staged g.A.Application.exporter g.R.Follower.follower l.self in
    record {
      stage : IsStage g.A.Application.is_app g.R.Follower.is_follower g.A.Application.is_kit g.A.Application.is_spare l.self;
      drained : (p : Playing) → IsPlaying p before → PartDone p draining draining before now;
      made : (p : Playing) → IsPlaying p before → AreMade l._turn p before now;
    }
