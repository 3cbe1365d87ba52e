use Rattle.atspi_app_exported.specs.Boxed.{faces_in}
use Rattle.std.proofs.Common.{ap, ◌∙◌}
use Rattle.atspi_tree_model.specs.declared.contents.Kinds.{Kinds}
use Rattle.atspi_app_exported.proofs.Known.{kinds_found, if_ok, names_are_there, names_are_read, names_not_read}
use Rattle.atspi_app_exported.proofs.exported.Exported.actions_if.Goals as goal

pub actions_at-requires : goal.actions_at-requires
actions_at-requires g c =
    let x = kinds_found c.args.self.now.tree.rows c.args.node c.kinds.result c.kinds.ensures in
    names_are_there c.args.self.now.tree.rows (faces_in (λ b. (goal.Face-dyn g (b.vtable, b.value)).nodes b.value) c.args.self.now.kit) c.args.self.now.tree.added c.args.node x.row c.requires.exported.lawful x.there (ap (λ (k : Kinds). k.action) x.kinds_are ∙ c.if-kinds.true)

pub returns-then-kinds-clause-actions : goal.returns-then-kinds-clause-actions
returns-then-kinds-clause-actions g c =
    let x = kinds_found c.args.self.now.tree.rows c.args.node c.kinds.result c.kinds.ensures in
    if_ok _ _ c.actions_at.result (λ what s. (names_are_read c.args.self.now.tree.rows (faces_in (λ b. (goal.Face-dyn g (b.vtable, b.value)).nodes b.value) c.args.self.now.kit) c.args.self.now.tree.added c.args.node x.row what c.requires.exported.lawful x.there (ap (λ (k : Kinds). k.action) x.kinds_are ∙ c.if-kinds.true) s).0) c.actions_at.ensures

pub returns-then-kinds-clause-known : goal.returns-then-kinds-clause-known
returns-then-kinds-clause-known g c =
    let x = kinds_found c.args.self.now.tree.rows c.args.node c.kinds.result c.kinds.ensures in
    if_ok _ _ c.actions_at.result (λ what s. (names_are_read c.args.self.now.tree.rows (faces_in (λ b. (goal.Face-dyn g (b.vtable, b.value)).nodes b.value) c.args.self.now.kit) c.args.self.now.tree.added c.args.node x.row what c.requires.exported.lawful x.there (ap (λ (k : Kinds). k.action) x.kinds_are ∙ c.if-kinds.true) s).1) c.actions_at.ensures

pub returns-clause-actions : goal.returns-clause-actions
returns-clause-actions g c =
    let x = kinds_found c.args.self.now.tree.rows c.args.node c.kinds.result c.kinds.ensures in
    c.no_actions.ensures ∙ names_not_read c.args.self.now.tree.rows (faces_in (λ b. (goal.Face-dyn g (b.vtable, b.value)).nodes b.value) c.args.self.now.kit) c.args.self.now.tree.added c.args.node x.row c.requires.exported.lawful x.there (ap (λ (k : Kinds). k.action) x.kinds_are ∙ c.if-kinds.false)
