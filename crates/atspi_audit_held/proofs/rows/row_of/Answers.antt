use Rattle.std.proofs.Common.{◌∙◌, ap}
use Rattle.atspi_tree_model.specs.Path.{path_of}
use Rattle.atspi_tree_model.specs.View.{caret_of, characters_of, kinds_number}
use Rattle.atspi_audit_held.specs.Held.{told_of}
use Rattle.atspi_audit_held.proofs.Showing.{contents_by, number_by, read_by, row_by, shape_there}
use Rattle.atspi_audit_held.proofs.rows.row_of.Goals as goal

pub name-requires : goal.name-requires
name-requires c = shape_there c.args.tree.now c.args.node c.tree-shape.result.now c.tree-shape.ensures.shape c.requires.there

pub description-requires : goal.description-requires
description-requires c = shape_there c.args.tree.now c.args.node c.tree-shape.result.now c.tree-shape.ensures.shape c.requires.there

pub role-role-requires : goal.role-role-requires
role-role-requires c = shape_there c.args.tree.now c.args.node c.tree-shape.result.now c.tree-shape.ensures.shape c.requires.there

pub states-states-requires : goal.states-states-requires
states-states-requires c = shape_there c.args.tree.now c.args.node c.tree-shape.result.now c.tree-shape.ensures.shape c.requires.there

pub faces-faces-requires : goal.faces-faces-requires
faces-faces-requires c = shape_there c.args.tree.now c.args.node c.tree-shape.result.now c.tree-shape.ensures.shape c.requires.there

pub returns : goal.returns
returns c row f =
    let t = c.args.tree.now in
    let n = c.args.node in
    let s = c.tree-shape.result.now in
    let e = c.tree-shape.ensures.shape in
    row_by (told_of c.args.known) row _ _ _ _ _ _ c.in_ok-characters.characters c.caret.result c.columns.result _ _ _
    (c.in_ok-path.ensures ∙ ap path_of (number_by t n row f))
    (c.in_ok-name.ensures ∙ read_by (λ row. row.name) t n row c.name.result.now s e f c.name.ensures)
    (c.in_ok-description.ensures ∙ read_by (λ row. row.description) t n row c.description.result.now s e f c.description.ensures)
    (read_by (λ row. row.role) t n row c.role-role.result s e f c.role-role.ensures)
    (read_by (λ row. row.states) t n row c.states-states.result s e f c.states-states.ensures)
    (read_by (λ row. kinds_number row.kinds) t n row c.faces-faces.result s e f c.faces-faces.ensures)
    (contents_by (λ row. characters_of row.contents.text) t n row c.in_ok-characters.characters f c.in_ok-characters.ensures)
    (contents_by (λ row. caret_of row.contents.text) t n row c.caret.result f c.caret.ensures)
    (contents_by (λ row. row.contents.columns) t n row c.columns.result f c.columns.ensures)
    c.text_part-text.ensures c.number_part-caret.ensures c.number_part-columns.ensures
