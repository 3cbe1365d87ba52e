use Rattle.std.proofs.Common.{sym, subst}
use Rattle.atspi_types.specs.DataView.{data_of}
use Rattle.atspi_protocol.specs.declared.members.property.ObjectProperty.{ObjectProperty}
use Rattle.atspi_app_contents.specs.values.Seen.{faces_of}
use Rattle.atspi_app_contents.specs.answers.Told.{IsProperty}
use Rattle.atspi_app_contents.proofs.OfAnswers.Kept.{keeps_text, few_columns, few_actions}
use Rattle.atspi_app_contents.proofs.OfAnswers.Telling.{is_character_count, is_caret, is_column_count, is_action_count}
use Rattle.atspi_app_contents.proofs.answers.properties.property.Goals as goal

pub character_count-requires : goal.character_count-requires
character_count-requires g c = keeps_text (g.C.Face.of_kind c.args.texts.now) (g.G.Face.of_kind c.args.columns.now) (g.D.Face.of_kind c.args.actions.now) (faces_of (g.C.Face.nodes c.args.texts.now) (g.G.Face.nodes c.args.columns.now) (g.D.Face.nodes c.args.actions.now)) c.args.node c.requires.kept

pub caret-requires : goal.caret-requires
caret-requires g c = keeps_text (g.C.Face.of_kind c.args.texts.now) (g.G.Face.of_kind c.args.columns.now) (g.D.Face.of_kind c.args.actions.now) (faces_of (g.C.Face.nodes c.args.texts.now) (g.G.Face.nodes c.args.columns.now) (g.D.Face.nodes c.args.actions.now)) c.args.node c.requires.kept

pub rows-requires-clause-kind : goal.rows-requires-clause-kind
rows-requires-clause-kind g c = c.requires.kept.of_columns

pub columns_value-requires-clause-kind : goal.columns_value-requires-clause-kind
columns_value-requires-clause-kind g c = c.requires.kept.of_columns

pub columns_value-requires-clause-few : goal.columns_value-requires-clause-few
columns_value-requires-clause-few g c = few_columns (g.C.Face.of_kind c.args.texts.now) (g.G.Face.of_kind c.args.columns.now) (g.D.Face.of_kind c.args.actions.now) (faces_of (g.C.Face.nodes c.args.texts.now) (g.G.Face.nodes c.args.columns.now) (g.D.Face.nodes c.args.actions.now)) c.args.node c.requires.kept

pub actions_value-requires-clause-kind : goal.actions_value-requires-clause-kind
actions_value-requires-clause-kind g c = c.requires.kept.of_actions

pub actions_value-requires-clause-few : goal.actions_value-requires-clause-few
actions_value-requires-clause-few g c = few_actions (g.C.Face.of_kind c.args.texts.now) (g.G.Face.of_kind c.args.columns.now) (g.D.Face.of_kind c.args.actions.now) (faces_of (g.C.Face.nodes c.args.texts.now) (g.G.Face.nodes c.args.columns.now) (g.D.Face.nodes c.args.actions.now)) c.args.node c.requires.kept

pub returns-in-CharacterCount : goal.returns-in-CharacterCount
returns-in-CharacterCount g c = λ name. subst (λ (q : ObjectProperty). IsProperty c.args.tree.now (faces_of (g.C.Face.nodes c.args.texts.now) (g.G.Face.nodes c.args.columns.now) (g.D.Face.nodes c.args.actions.now)) name c.args.node q (data_of c.character_count.result)) (sym c.in-CharacterCount.is) (is_character_count c.args.tree.now (faces_of (g.C.Face.nodes c.args.texts.now) (g.G.Face.nodes c.args.columns.now) (g.D.Face.nodes c.args.actions.now)) name c.args.node (data_of c.character_count.result) c.character_count.ensures)

pub returns-in-CaretOffset : goal.returns-in-CaretOffset
returns-in-CaretOffset g c = λ name. subst (λ (q : ObjectProperty). IsProperty c.args.tree.now (faces_of (g.C.Face.nodes c.args.texts.now) (g.G.Face.nodes c.args.columns.now) (g.D.Face.nodes c.args.actions.now)) name c.args.node q (data_of c.caret.result)) (sym c.in-CaretOffset.is) (is_caret c.args.tree.now (faces_of (g.C.Face.nodes c.args.texts.now) (g.G.Face.nodes c.args.columns.now) (g.D.Face.nodes c.args.actions.now)) name c.args.node (data_of c.caret.result) c.caret.ensures)

pub returns-in-NSelectedChildren : goal.returns-in-NSelectedChildren
returns-in-NSelectedChildren g c = λ name. subst (λ (q : ObjectProperty). IsProperty c.args.tree.now (faces_of (g.C.Face.nodes c.args.texts.now) (g.G.Face.nodes c.args.columns.now) (g.D.Face.nodes c.args.actions.now)) name c.args.node q (data_of c.selected_children.result)) (sym c.in-NSelectedChildren.is) (c.selected_children.ensures (faces_of (g.C.Face.nodes c.args.texts.now) (g.G.Face.nodes c.args.columns.now) (g.D.Face.nodes c.args.actions.now)) name)

pub returns-in-NRows : goal.returns-in-NRows
returns-in-NRows g c = λ name. subst (λ (q : ObjectProperty). IsProperty c.args.tree.now (faces_of (g.C.Face.nodes c.args.texts.now) (g.G.Face.nodes c.args.columns.now) (g.D.Face.nodes c.args.actions.now)) name c.args.node q (data_of c.rows.result)) (sym c.in-NRows.is) (c.rows.ensures (g.C.Face.nodes c.args.texts.now) (g.D.Face.nodes c.args.actions.now) name)

pub returns-in-NColumns : goal.returns-in-NColumns
returns-in-NColumns g c = λ name. subst (λ (q : ObjectProperty). IsProperty c.args.tree.now (faces_of (g.C.Face.nodes c.args.texts.now) (g.G.Face.nodes c.args.columns.now) (g.D.Face.nodes c.args.actions.now)) name c.args.node q (data_of c.columns_value.result)) (sym c.in-NColumns.is) (is_column_count c.args.tree.now (faces_of (g.C.Face.nodes c.args.texts.now) (g.G.Face.nodes c.args.columns.now) (g.D.Face.nodes c.args.actions.now)) name c.args.node (data_of c.columns_value.result) c.columns_value.ensures)

pub returns-in-NActions : goal.returns-in-NActions
returns-in-NActions g c = λ name. subst (λ (q : ObjectProperty). IsProperty c.args.tree.now (faces_of (g.C.Face.nodes c.args.texts.now) (g.G.Face.nodes c.args.columns.now) (g.D.Face.nodes c.args.actions.now)) name c.args.node q (data_of c.actions_value.result)) (sym c.in-NActions.is) (is_action_count c.args.tree.now (faces_of (g.C.Face.nodes c.args.texts.now) (g.G.Face.nodes c.args.columns.now) (g.D.Face.nodes c.args.actions.now)) name c.args.node (data_of c.actions_value.result) c.actions_value.ensures)
