use Rattle.std.proofs.Common.{◌≡◌, drop}
use Rattle.std.specs.Prelude.{slice_get}
use Rattle.atspi_reader.proofs.Rest.{held_of}
use Rattle.atspi_reader.proofs.state.Reader.held.Given as goal

-- among those that are left, the one that is asked for stands so far behind
abbrev pub invariant-loop-app : goal.invariant-loop-app
invariant-loop-app l = slice_get (held_of (drop l.app-index l.app-items)) l.left ≡ slice_get (held_of l.app-items) l.k
