use Rattle.std.proofs.Common.{sym, subst}
use Rattle.std.proofs.lemmas.Result.{IfOk-weaker}
use Rattle.atspi_types.specs.DataView.{data_of}
use Rattle.atspi_marshal_in_place.specs.Items.{fields_data}
use Rattle.atspi_protocol.specs.declared.members.member.ObjectMember.{ObjectMember}
use Rattle.atspi_app_contents.specs.answers.inner.Told.{TellsCells}
use Rattle.atspi_app_contents.proofs.answers.table.table.Goals as goal

pub returns-in-GetIndexAt : goal.returns-in-GetIndexAt
returns-in-GetIndexAt c = subst (λ (m : ObjectMember). TellsCells c.args.tree.now c.args.columns c.args.bus.now c.args.node m (fields_data c.args.args) (data_of c.get_index_at.result)) (sym c.in-GetIndexAt.is) (c.get_index_at.ensures c.args.bus.now)

pub returns-in-GetRowAtIndex : goal.returns-in-GetRowAtIndex
returns-in-GetRowAtIndex c = subst (λ (m : ObjectMember). TellsCells c.args.tree.now c.args.columns c.args.bus.now c.args.node m (fields_data c.args.args) (data_of c.get_row_at_index.result)) (sym c.in-GetRowAtIndex.is) (c.get_row_at_index.ensures c.args.bus.now)

pub returns-in-GetColumnAtIndex : goal.returns-in-GetColumnAtIndex
returns-in-GetColumnAtIndex c = subst (λ (m : ObjectMember). TellsCells c.args.tree.now c.args.columns c.args.bus.now c.args.node m (fields_data c.args.args) (data_of c.get_column_at_index.result)) (sym c.in-GetColumnAtIndex.is) (c.get_column_at_index.ensures c.args.bus.now)

pub returns-in-GetSelectedRows : goal.returns-in-GetSelectedRows
returns-in-GetSelectedRows c = IfOk-weaker c.get_selected_rows.result _ _ (λ v h. subst (λ (m : ObjectMember). TellsCells c.args.tree.now c.args.columns c.args.bus.now c.args.node m (fields_data c.args.args) (data_of v)) (sym c.in-GetSelectedRows.is) (h c.args.bus.now (fields_data c.args.args))) c.get_selected_rows.ensures

pub returns-in-IsRowSelected : goal.returns-in-IsRowSelected
returns-in-IsRowSelected c = subst (λ (m : ObjectMember). TellsCells c.args.tree.now c.args.columns c.args.bus.now c.args.node m (fields_data c.args.args) (data_of c.row_selected.result)) (sym c.in-IsRowSelected.is) (c.row_selected.ensures c.args.bus.now)

pub returns-in-IsSelected : goal.returns-in-IsSelected
returns-in-IsSelected c = subst (λ (m : ObjectMember). TellsCells c.args.tree.now c.args.columns c.args.bus.now c.args.node m (fields_data c.args.args) (data_of c.cell_selected.result)) (sym c.in-IsSelected.is) (c.cell_selected.ensures c.args.bus.now)
