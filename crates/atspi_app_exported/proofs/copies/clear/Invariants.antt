use Rattle.std.proofs.Common.{◌≡◌, ◌-◌}
use Rattle.atspi_app_exported.specs.Parts.{AreSmall}
use Rattle.atspi_app_exported.proofs.Copied.{IsClear}
use Rattle.atspi_app_exported.proofs.copies.clear.Given as goal

abbrev pub invariant-loop-node : goal.invariant-loop-node
invariant-loop-node g l = record {
  clear : IsClear l.at (g.F.Face.nodes l.face);
  small : AreSmall (g.F.Face.nodes l.face);
  kind : g.F.Face.of_kind l.face ≡ g.F.Face.of_kind l.fn.face;
  same_one : g.F.Face.number l.face ≡ g.F.Face.number l.fn.face;
}

abbrev pub decreases-loop-node : goal.decreases-loop-node
decreases-loop-node g l = 4294967296 - l.at
