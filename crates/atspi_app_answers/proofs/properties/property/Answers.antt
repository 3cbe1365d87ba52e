use Rattle.std.proofs.Common.{sym, subst}
use Rattle.std.specs.Prelude.{IfOk}
use Rattle.atspi_types.specs.DataView.{data_of}
use Rattle.atspi_protocol.specs.declared.members.property.ObjectProperty.{ObjectProperty}
use Rattle.atspi_app_answers.specs.Told.{IsProperty}
use Rattle.atspi_app_answers.proofs.properties.property.Goals as goal

pub returns-in-Name : goal.returns-in-Name
returns-in-Name c = subst (λ (p : ObjectProperty). IfOk c.name_of.result (λ v. IsProperty c.args.tree.now c.args.bus.now c.args.id.now c.args.counts c.args.node p (data_of v))) (sym c.in-Name.is) c.name_of.ensures

pub returns-in-Description : goal.returns-in-Description
returns-in-Description c = subst (λ (p : ObjectProperty). IfOk c.description_of.result (λ v. IsProperty c.args.tree.now c.args.bus.now c.args.id.now c.args.counts c.args.node p (data_of v))) (sym c.in-Description.is) c.description_of.ensures

pub returns-in-Parent : goal.returns-in-Parent
returns-in-Parent c = subst (λ (p : ObjectProperty). IfOk c.parent_of.result (λ v. IsProperty c.args.tree.now c.args.bus.now c.args.id.now c.args.counts c.args.node p (data_of v))) (sym c.in-Parent.is) c.parent_of.ensures

pub returns-in-ChildCount : goal.returns-in-ChildCount
returns-in-ChildCount c = subst (λ (p : ObjectProperty). IfOk c.child_count_of.result (λ v. IsProperty c.args.tree.now c.args.bus.now c.args.id.now c.args.counts c.args.node p (data_of v))) (sym c.in-ChildCount.is) c.child_count_of.ensures

pub returns-in-Locale : goal.returns-in-Locale
returns-in-Locale c = subst (λ (p : ObjectProperty). IfOk c.locale_of.result (λ v. IsProperty c.args.tree.now c.args.bus.now c.args.id.now c.args.counts c.args.node p (data_of v))) (sym c.in-Locale.is) c.locale_of.ensures

pub returns-in-AccessibleId : goal.returns-in-AccessibleId
returns-in-AccessibleId c = subst (λ (p : ObjectProperty). IfOk c.accessible_id_of.result (λ v. IsProperty c.args.tree.now c.args.bus.now c.args.id.now c.args.counts c.args.node p (data_of v))) (sym c.in-AccessibleId.is) c.accessible_id_of.ensures

pub returns-in-ToolkitName : goal.returns-in-ToolkitName
returns-in-ToolkitName c = subst (λ (p : ObjectProperty). IfOk c.toolkit_name_of.result (λ v. IsProperty c.args.tree.now c.args.bus.now c.args.id.now c.args.counts c.args.node p (data_of v))) (sym c.in-ToolkitName.is) c.toolkit_name_of.ensures

pub returns-in-Version : goal.returns-in-Version
returns-in-Version c = subst (λ (p : ObjectProperty). IfOk c.version_of.result (λ v. IsProperty c.args.tree.now c.args.bus.now c.args.id.now c.args.counts c.args.node p (data_of v))) (sym c.in-Version.is) c.version_of.ensures

pub returns-in-AtspiVersion : goal.returns-in-AtspiVersion
returns-in-AtspiVersion c = subst (λ (p : ObjectProperty). IfOk c.atspi_version_of.result (λ v. IsProperty c.args.tree.now c.args.bus.now c.args.id.now c.args.counts c.args.node p (data_of v))) (sym c.in-AtspiVersion.is) c.atspi_version_of.ensures

pub returns-in-Id : goal.returns-in-Id
returns-in-Id c = subst (λ (p : ObjectProperty). IfOk c.id_of.result (λ v. IsProperty c.args.tree.now c.args.bus.now c.args.id.now c.args.counts c.args.node p (data_of v))) (sym c.in-Id.is) c.id_of.ensures

pub returns-in-CharacterCount : goal.returns-in-CharacterCount
returns-in-CharacterCount c = subst (λ (p : ObjectProperty). IfOk c.character_count_of.result (λ v. IsProperty c.args.tree.now c.args.bus.now c.args.id.now c.args.counts c.args.node p (data_of v))) (sym c.in-CharacterCount.is) c.character_count_of.ensures

pub returns-in-CaretOffset : goal.returns-in-CaretOffset
returns-in-CaretOffset c = subst (λ (p : ObjectProperty). IfOk c.caret_offset_of.result (λ v. IsProperty c.args.tree.now c.args.bus.now c.args.id.now c.args.counts c.args.node p (data_of v))) (sym c.in-CaretOffset.is) c.caret_offset_of.ensures

pub returns-in-NSelectedChildren : goal.returns-in-NSelectedChildren
returns-in-NSelectedChildren c = subst (λ (p : ObjectProperty). IfOk c.selected_count_of.result (λ v. IsProperty c.args.tree.now c.args.bus.now c.args.id.now c.args.counts c.args.node p (data_of v))) (sym c.in-NSelectedChildren.is) c.selected_count_of.ensures

pub returns-in-NRows : goal.returns-in-NRows
returns-in-NRows c = subst (λ (p : ObjectProperty). IfOk c.row_count_of.result (λ v. IsProperty c.args.tree.now c.args.bus.now c.args.id.now c.args.counts c.args.node p (data_of v))) (sym c.in-NRows.is) c.row_count_of.ensures

pub returns-in-NColumns : goal.returns-in-NColumns
returns-in-NColumns c = subst (λ (p : ObjectProperty). IfOk c.column_count_of.result (λ v. IsProperty c.args.tree.now c.args.bus.now c.args.id.now c.args.counts c.args.node p (data_of v))) (sym c.in-NColumns.is) c.column_count_of.ensures

pub returns-in-NActions : goal.returns-in-NActions
returns-in-NActions c = subst (λ (p : ObjectProperty). IfOk c.action_count_of.result (λ v. IsProperty c.args.tree.now c.args.bus.now c.args.id.now c.args.counts c.args.node p (data_of v))) (sym c.in-NActions.is) c.action_count_of.ensures
