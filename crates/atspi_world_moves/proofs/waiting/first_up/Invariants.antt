use Rattle.std.proofs.Common.{◌≡◌, ◌≤◌, drop, length, min}
use Rattle.atspi_world_moves.specs.Waits.{first_up}
use Rattle.atspi_world_moves.proofs.waiting.first_up.Given as goal

-- none was found up to here
abbrev pub invariant-loop-post : goal.invariant-loop-post
invariant-loop-post l = record {
  number : l.conn ≡ min l.post-index 4294967295;
  none : length l.posts ≤ 4294967296 → first_up 0 l.posts ≡ first_up l.post-index (drop l.post-index l.posts);
}
