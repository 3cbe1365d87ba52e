use Rattle.std.proofs.Common.{ℕ}
use Rattle.atspi_trace.specs.play.Playing.{Playing}
use Rattle.atspi_world.specs.Stage.{IsStage}
use Rattle.atspi_world.specs.Worlds.{staged, IsPlaying}
use Rattle.atspi_world.proofs.TurnsMade.{SoFar}
use Rattle.atspi_world.proofs.stage.Stage.turns.Given as goal

-- so many turns were made
abbrev pub invariant-loop-turn : goal.invariant-loop-turn
invariant-loop-turn g l =
    let before = staged g.A.Application.exporter g.R.Follower.follower l.initial.self in
    let now = staged g.A.Application.exporter g.R.Follower.follower l.self in
    record {
      stage : IsStage g.A.Application.is_app g.R.Follower.is_follower g.A.Application.is_kit g.A.Application.is_spare l.self;
      turned : (p : Playing) (count : ℕ) → IsPlaying p before → SoFar p count l.most l._turn before now;
    }
