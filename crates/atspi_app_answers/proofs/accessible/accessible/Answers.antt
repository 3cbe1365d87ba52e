use Rattle.std.proofs.Common.{sym, subst}
use Rattle.std.specs.Prelude.{IfOk}
use Rattle.atspi_types.specs.DataView.{data_of}
use Rattle.atspi_marshal_in_place.specs.Items.{fields_data}
use Rattle.atspi_protocol.specs.declared.members.member.ObjectMember.{ObjectMember}
use Rattle.atspi_app_answers.specs.Told.{Tells}
use Rattle.atspi_app_answers.proofs.accessible.accessible.Goals as goal

pub returns-in-GetChildAtIndex : goal.returns-in-GetChildAtIndex
returns-in-GetChildAtIndex c = subst (λ (m : ObjectMember). IfOk c.get_child_at_index.result (λ v. Tells c.args.tree.now c.args.bus.now c.args.node m (fields_data c.args.args) (data_of v))) (sym c.in-GetChildAtIndex.is) c.get_child_at_index.ensures

pub returns-in-GetChildren : goal.returns-in-GetChildren
returns-in-GetChildren c = subst (λ (m : ObjectMember). IfOk c.get_children.result (λ v. Tells c.args.tree.now c.args.bus.now c.args.node m (fields_data c.args.args) (data_of v))) (sym c.in-GetChildren.is) c.get_children.ensures

pub returns-in-GetIndexInParent : goal.returns-in-GetIndexInParent
returns-in-GetIndexInParent c = subst (λ (m : ObjectMember). IfOk c.get_index_in_parent.result (λ v. Tells c.args.tree.now c.args.bus.now c.args.node m (fields_data c.args.args) (data_of v))) (sym c.in-GetIndexInParent.is) c.get_index_in_parent.ensures

pub returns-in-GetRelationSet : goal.returns-in-GetRelationSet
returns-in-GetRelationSet c = subst (λ (m : ObjectMember). IfOk c.get_relation_set.result (λ v. Tells c.args.tree.now c.args.bus.now c.args.node m (fields_data c.args.args) (data_of v))) (sym c.in-GetRelationSet.is) c.get_relation_set.ensures

pub returns-in-GetRole : goal.returns-in-GetRole
returns-in-GetRole c = subst (λ (m : ObjectMember). IfOk c.get_role.result (λ v. Tells c.args.tree.now c.args.bus.now c.args.node m (fields_data c.args.args) (data_of v))) (sym c.in-GetRole.is) c.get_role.ensures

pub returns-in-GetRoleName : goal.returns-in-GetRoleName
returns-in-GetRoleName c = subst (λ (m : ObjectMember). IfOk c.get_role_name.result (λ v. Tells c.args.tree.now c.args.bus.now c.args.node m (fields_data c.args.args) (data_of v))) (sym c.in-GetRoleName.is) c.get_role_name.ensures

pub returns-in-GetLocalizedRoleName : goal.returns-in-GetLocalizedRoleName
returns-in-GetLocalizedRoleName c = subst (λ (m : ObjectMember). IfOk c.get_localized_role_name.result (λ v. Tells c.args.tree.now c.args.bus.now c.args.node m (fields_data c.args.args) (data_of v))) (sym c.in-GetLocalizedRoleName.is) c.get_localized_role_name.ensures

pub returns-in-GetState : goal.returns-in-GetState
returns-in-GetState c = subst (λ (m : ObjectMember). IfOk c.get_state.result (λ v. Tells c.args.tree.now c.args.bus.now c.args.node m (fields_data c.args.args) (data_of v))) (sym c.in-GetState.is) c.get_state.ensures

pub returns-in-GetAttributes : goal.returns-in-GetAttributes
returns-in-GetAttributes c = subst (λ (m : ObjectMember). IfOk c.get_attributes.result (λ v. Tells c.args.tree.now c.args.bus.now c.args.node m (fields_data c.args.args) (data_of v))) (sym c.in-GetAttributes.is) c.get_attributes.ensures

pub returns-in-GetApplication : goal.returns-in-GetApplication
returns-in-GetApplication c = subst (λ (m : ObjectMember). IfOk c.get_application.result (λ v. Tells c.args.tree.now c.args.bus.now c.args.node m (fields_data c.args.args) (data_of v))) (sym c.in-GetApplication.is) c.get_application.ensures

pub returns-in-GetInterfaces : goal.returns-in-GetInterfaces
returns-in-GetInterfaces c = subst (λ (m : ObjectMember). IfOk c.get_interfaces.result (λ v. Tells c.args.tree.now c.args.bus.now c.args.node m (fields_data c.args.args) (data_of v))) (sym c.in-GetInterfaces.is) c.get_interfaces.ensures
