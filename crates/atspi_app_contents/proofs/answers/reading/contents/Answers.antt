use Rattle.std.proofs.Common.{sym, ◌∙◌}
use Rattle.std.proofs.lemmas.Result.{IfOk-weaker}
use Rattle.atspi_types.specs.DataView.{data_of, all_data}
use Rattle.atspi_marshal_in_place.specs.Items.{fields_data}
use Rattle.atspi_app_contents.specs.values.Seen.{faces_of}
use Rattle.atspi_app_contents.proofs.OfAnswers.Kept.{keeps_text}
use Rattle.atspi_app_contents.proofs.OfAnswers.Telling.{told_cells, told_one, last_reads}
use Rattle.atspi_app_contents.proofs.answers.reading.contents.Goals as goal

pub text-requires-clause-kept : goal.text-requires-clause-kept
text-requires-clause-kept g c = keeps_text (g.C.Face.of_kind c.args.texts.now) (g.G.Face.of_kind c.args.columns.now) (g.D.Face.of_kind c.args.actions.now) (faces_of (g.C.Face.nodes c.args.texts.now) (g.G.Face.nodes c.args.columns.now) (g.D.Face.nodes c.args.actions.now)) c.args.node c.requires.kept

pub column_count-columns-requires : goal.column_count-columns-requires
column_count-columns-requires g c = c.requires.kept.of_columns

pub action_value-requires-clause-kind : goal.action_value-requires-clause-kind
action_value-requires-clause-kind g c = c.requires.kept.of_actions

pub action_value-requires-clause-member : goal.action_value-requires-clause-member
action_value-requires-clause-member g c =
    last_reads c.args.member c.requires.member (sym c.reads_text.ensures ∙ c.if-reads_text.false) (sym c.reads_selection.ensures ∙ c.if-reads_selection.false) (sym c.reads_table.ensures ∙ c.if-reads_table.false)

pub returns-then-reads_text : goal.returns-then-reads_text
returns-then-reads_text g c = IfOk-weaker c.text.result _ _ (λ vs h. h c.args.tree.now (g.G.Face.nodes c.args.columns.now) (g.D.Face.nodes c.args.actions.now) c.args.bus.now) c.text.ensures

pub returns-then-reads_selection : goal.returns-then-reads_selection
returns-then-reads_selection g c =
    IfOk-weaker c.one.result _ _
    (λ vs e. told_one c.args.tree.now (faces_of (g.C.Face.nodes c.args.texts.now) (g.G.Face.nodes c.args.columns.now) (g.D.Face.nodes c.args.actions.now)) c.args.bus.now c.args.node c.args.member (fields_data c.args.args) (all_data vs) (data_of c.in_ok-selection.field-0) e (c.in_ok-selection.ensures (faces_of (g.C.Face.nodes c.args.texts.now) (g.G.Face.nodes c.args.columns.now) (g.D.Face.nodes c.args.actions.now))))
    c.one.ensures

pub returns-then-reads_table : goal.returns-then-reads_table
returns-then-reads_table g c =
    IfOk-weaker c.one-then-reads_table.result _ _
    (λ vs e. told_one c.args.tree.now (faces_of (g.C.Face.nodes c.args.texts.now) (g.G.Face.nodes c.args.columns.now) (g.D.Face.nodes c.args.actions.now)) c.args.bus.now c.args.node c.args.member (fields_data c.args.args) (all_data vs) (data_of c.in_ok-table.field-0) e
    (told_cells c.args.tree.now (faces_of (g.C.Face.nodes c.args.texts.now) (g.G.Face.nodes c.args.columns.now) (g.D.Face.nodes c.args.actions.now)) c.args.bus.now c.args.node c.args.member (fields_data c.args.args) (data_of c.in_ok-table.field-0) c.column_count-columns.result c.column_count-columns.ensures c.in_ok-table.ensures))
    c.one-then-reads_table.ensures

pub returns : goal.returns
returns g c =
    IfOk-weaker c.one-2.result _ _
    (λ vs e. told_one c.args.tree.now (faces_of (g.C.Face.nodes c.args.texts.now) (g.G.Face.nodes c.args.columns.now) (g.D.Face.nodes c.args.actions.now)) c.args.bus.now c.args.node c.args.member (fields_data c.args.args) (all_data vs) (data_of c.in_ok-action_value.field-0) e
    (c.in_ok-action_value.ensures c.args.tree.now (g.C.Face.nodes c.args.texts.now) (g.G.Face.nodes c.args.columns.now) c.args.bus.now))
    c.one-2.ensures
