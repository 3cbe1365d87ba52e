use Rattle.std.proofs.Common.{not, ap, ◌∙◌}
use Rattle.atspi_tree_model.specs.Edits.{lacks_kind}
use Rattle.atspi_tree_model.specs.Row.{ShapeRow}
use Rattle.atspi_tree_edits.specs.declared.refusals.Face.TheVariants.{Text, Editable, Selection, Action}
use Rattle.atspi_tree_edits.specs.inner.Face.{kind_of}
use Rattle.atspi_tree_edits.proofs.Faults.{asked}
use Rattle.atspi_tree_edits.proofs.refusals.has_face.Goals as goal

pub returns-in-Text : goal.returns-in-Text
returns-in-Text c =
    ap (λ face. lacks_kind (kind_of face) c.args.tree.now.rows c.args.node) c.in-Text.is
    ∙ ap not (asked c.args.tree.now c.args.node (λ (row : ShapeRow). row.kinds) _ (kind_of Text) c.requires.lawful c.requires.there c.kinds-kinds.ensures)

pub returns-in-Editable : goal.returns-in-Editable
returns-in-Editable c =
    ap (λ face. lacks_kind (kind_of face) c.args.tree.now.rows c.args.node) c.in-Editable.is
    ∙ ap not (asked c.args.tree.now c.args.node (λ (row : ShapeRow). row.kinds) _ (kind_of Editable) c.requires.lawful c.requires.there c.kinds-kinds.ensures)

pub returns-in-Selection : goal.returns-in-Selection
returns-in-Selection c =
    ap (λ face. lacks_kind (kind_of face) c.args.tree.now.rows c.args.node) c.in-Selection.is
    ∙ ap not (asked c.args.tree.now c.args.node (λ (row : ShapeRow). row.kinds) _ (kind_of Selection) c.requires.lawful c.requires.there c.kinds-kinds.ensures)

pub returns-in-Action : goal.returns-in-Action
returns-in-Action c =
    ap (λ face. lacks_kind (kind_of face) c.args.tree.now.rows c.args.node) c.in-Action.is
    ∙ ap not (asked c.args.tree.now c.args.node (λ (row : ShapeRow). row.kinds) _ (kind_of Action) c.requires.lawful c.requires.there c.kinds-kinds.ensures)
