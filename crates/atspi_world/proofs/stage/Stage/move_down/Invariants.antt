use Rattle.std.proofs.Common.{◌≡◌, ◌+◌, ◌≤◌, Some}
use Rattle.atspi_trace.specs.play.Playing.{Playing}
use Rattle.atspi_trace.specs.World.{here, End}
use Rattle.atspi_trace.specs.Ends.{end_at}
use Rattle.atspi_world.specs.Stage.{IsStage}
use Rattle.atspi_world.specs.Worlds.{staged, IsPlaying}
use Rattle.atspi_world.proofs.DownwardSteps.{MovedSoFar}
use Rattle.atspi_world.proofs.stage.Stage.move_down.Given as goal

-- so many bytes are left, and each message that was taken had one at least
abbrev pub invariant-loop-message : goal.invariant-loop-message
invariant-loop-message g l =
    let before = staged g.A.Application.exporter g.R.Follower.follower l.initial.self in
    let now = staged g.A.Application.exporter g.R.Follower.follower l.self in
    record {
      stage : IsStage g.A.Application.is_app g.R.Follower.is_follower g.A.Application.is_kit g.A.Application.is_spare l.self;
      moved : (p : Playing) (e : End) → IsPlaying p before → end_at p.world.ends l.conn ≡ Some e → e.standing ≡ here → (l.left + l._message ≤ l.most) × MovedSoFar p l.conn l.most l.left before now;
    }
