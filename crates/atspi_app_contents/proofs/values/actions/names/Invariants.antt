use Rattle.std.proofs.Common.{◌≡◌, take}
use Rattle.std.specs.FinMap.{get}
use Rattle.atspi_app_contents.specs.values.Actions.{actions_in}
use Rattle.atspi_app_contents.proofs.values.actions.names.Given as goal

abbrev pub invariant-loop-i : goal.invariant-loop-i
invariant-loop-i g l = l.names ≡ take l.i (actions_in (get (g.D.Face.nodes l.actions) l.node))
