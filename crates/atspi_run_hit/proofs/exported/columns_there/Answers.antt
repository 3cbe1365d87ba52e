use Rattle.std.proofs.Common.{ap, ◌∙◌}
use Rattle.atspi_tree_model.specs.declared.contents.Kinds.{Kinds}
use Rattle.atspi_faces.specs.face.Nodes.{count_at}
use Rattle.atspi_app_exported.specs.Boxed.{faces_in}
use Rattle.atspi_app_exported.proofs.Known.{kinds_found}
use Rattle.atspi_run_hit.proofs.Exporting.{columns_of_other, columns_of_table}
use Rattle.atspi_run_hit.proofs.exported.columns_there.Goals as goal

pub returns-then-kinds : goal.returns-then-kinds
returns-then-kinds g c = let x = kinds_found c.args.exported.now.tree.rows c.args.node c.kinds.result (rw c.tree-tree.ensures at c.kinds.ensures) in
    c.count.ensures ∙ ap (λ ns. count_at ns c.args.node) c.grid.ensures.nodes
    ∙ columns_of_table c.args.exported.now.tree.rows (faces_in (λ b. (goal.Face-dyn g (b.vtable, b.value)).nodes b.value) c.args.exported.now.kit) c.args.exported.now.tree.added c.args.node x.row c.requires.exported.lawful x.there (ap (λ (k : Kinds). k.table) x.kinds_are ∙ c.if-kinds.true)

pub returns : goal.returns
returns g c = let x = kinds_found c.args.exported.now.tree.rows c.args.node c.kinds.result (rw c.tree-tree.ensures at c.kinds.ensures) in
    columns_of_other c.args.exported.now.tree.rows (faces_in (λ b. (goal.Face-dyn g (b.vtable, b.value)).nodes b.value) c.args.exported.now.kit) c.args.exported.now.tree.added c.args.node x.row c.requires.exported.lawful x.there (ap (λ (k : Kinds). k.table) x.kinds_are ∙ c.if-kinds.false)
