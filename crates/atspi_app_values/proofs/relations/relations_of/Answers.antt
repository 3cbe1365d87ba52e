use Rattle.std.proofs.Common.{◌≡◌, ℕ, ap, ◌∙◌, arith}
use Rattle.atspi_tree.specs.TreeShape.{row_of}
use Rattle.atspi_app_values.specs.Relations.{relations_among}
use Rattle.atspi_app_values.proofs.RelationLemmas.{below, kinds_below}
use Rattle.atspi_app_values.proofs.relations.relations_of.Goals as goal

pub returns : goal.returns
returns c =
    let last : c.loop-kind.kind ≡ 19 = omega (arith, c.loop-kind.auto.kind-end, c.loop-kind-test.false) in
    c.loop-kind.invariant
    ∙ ap (λ (k : ℕ). relations_among c.args.bus.now (row_of c.args.node c.args.tree.now) (below k)) last
    ∙ ap (relations_among c.args.bus.now (row_of c.args.node c.args.tree.now)) kinds_below
