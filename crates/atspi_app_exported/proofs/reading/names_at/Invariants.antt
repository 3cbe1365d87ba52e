use Rattle.std.proofs.Common.{◌≡◌, take}
use Rattle.std.specs.FinMap.{get}
use Rattle.atspi_protocol.specs.whole.Whole.{as_actions}
use Rattle.atspi_app_exported.proofs.reading.names_at.Given as goal

abbrev pub invariant-loop-i : goal.invariant-loop-i
invariant-loop-i g l = l.names ≡ take l.i (as_actions (get (g.F.Face.nodes l.deeds) l.node))
