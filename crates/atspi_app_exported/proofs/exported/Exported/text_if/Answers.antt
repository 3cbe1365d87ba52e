use Rattle.atspi_app_exported.specs.Boxed.{faces_in}
use Rattle.std.proofs.Common.{ap, ◌∙◌}
use Rattle.atspi_tree_model.specs.declared.contents.Kinds.{Kinds}
use Rattle.atspi_app_exported.proofs.Known.{kinds_found, if_ok, text_is_there, text_is_read, text_not_read}
use Rattle.atspi_app_exported.proofs.exported.Exported.text_if.Goals as goal

pub text_at-requires : goal.text_at-requires
text_at-requires g c =
    let x = kinds_found c.args.self.now.tree.rows c.args.node c.kinds.result c.kinds.ensures in
    text_is_there c.args.self.now.tree.rows (faces_in (λ b. (goal.Face-dyn g (b.vtable, b.value)).nodes b.value) c.args.self.now.kit) c.args.self.now.tree.added c.args.node x.row c.requires.exported.lawful x.there (ap (λ (k : Kinds). k.text) x.kinds_are ∙ c.if-kinds.true)

pub returns-then-kinds-clause-text : goal.returns-then-kinds-clause-text
returns-then-kinds-clause-text g c =
    let x = kinds_found c.args.self.now.tree.rows c.args.node c.kinds.result c.kinds.ensures in
    if_ok _ _ c.text_at.result (λ what s. (text_is_read c.args.self.now.tree.rows (faces_in (λ b. (goal.Face-dyn g (b.vtable, b.value)).nodes b.value) c.args.self.now.kit) c.args.self.now.tree.added c.args.node x.row what c.requires.exported.lawful x.there (ap (λ (k : Kinds). k.text) x.kinds_are ∙ c.if-kinds.true) s).0) c.text_at.ensures

pub returns-then-kinds-clause-known : goal.returns-then-kinds-clause-known
returns-then-kinds-clause-known g c =
    let x = kinds_found c.args.self.now.tree.rows c.args.node c.kinds.result c.kinds.ensures in
    if_ok _ _ c.text_at.result (λ what s. (text_is_read c.args.self.now.tree.rows (faces_in (λ b. (goal.Face-dyn g (b.vtable, b.value)).nodes b.value) c.args.self.now.kit) c.args.self.now.tree.added c.args.node x.row what c.requires.exported.lawful x.there (ap (λ (k : Kinds). k.text) x.kinds_are ∙ c.if-kinds.true) s).1) c.text_at.ensures

pub returns-clause-text : goal.returns-clause-text
returns-clause-text g c =
    let x = kinds_found c.args.self.now.tree.rows c.args.node c.kinds.result c.kinds.ensures in
    c.no_actions.ensures ∙ text_not_read c.args.self.now.tree.rows (faces_in (λ b. (goal.Face-dyn g (b.vtable, b.value)).nodes b.value) c.args.self.now.kit) c.args.self.now.tree.added c.args.node x.row c.requires.exported.lawful x.there (ap (λ (k : Kinds). k.text) x.kinds_are ∙ c.if-kinds.false)
