use Rattle.std.proofs.Common.{◌≡◌, ◌-◌}
use Rattle.atspi_app_exported.proofs.Copied.{IsCopied}
use Rattle.atspi_app_exported.proofs.copies.copy_nodes.Given as goal

abbrev pub invariant-loop-node : goal.invariant-loop-node
invariant-loop-node g l = record {
  copied : IsCopied l.at (g.F.Face.nodes l.from) (g.G.Face.nodes l.to);
  kind : g.G.Face.of_kind l.to ≡ g.G.Face.of_kind l.fn.to;
  same_one : g.G.Face.number l.to ≡ g.G.Face.number l.fn.to;
}

abbrev pub decreases-loop-node : goal.decreases-loop-node
decreases-loop-node g l = 4294967296 - l.at
