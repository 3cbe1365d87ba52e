use Rattle.std.proofs.Common.{sym, subst}
use Rattle.std.proofs.lemmas.Result.{IfOk-weaker}
use Rattle.atspi_types.specs.DataView.{data_of}
use Rattle.atspi_marshal_in_place.specs.Items.{fields_data}
use Rattle.atspi_protocol.specs.declared.members.member.ObjectMember.{ObjectMember}
use Rattle.atspi_app_contents.specs.answers.inner.Told.{TellsActions}
use Rattle.atspi_app_contents.proofs.answers.actions.action_value.Goals as goal

pub returns-in-GetDescription : goal.returns-in-GetDescription
returns-in-GetDescription g c = IfOk-weaker c.get_description.result _ _ (λ v h. subst (λ (m : ObjectMember). TellsActions (g.D.Face.nodes c.args.actions.now) c.args.node m (fields_data c.args.args) (data_of v)) (sym c.in-GetDescription.is) (h (g.D.Face.nodes c.args.actions.now) c.args.node (fields_data c.args.args))) c.get_description.ensures

pub returns-in-GetKeyBinding : goal.returns-in-GetKeyBinding
returns-in-GetKeyBinding g c = IfOk-weaker c.get_key_binding.result _ _ (λ v h. subst (λ (m : ObjectMember). TellsActions (g.D.Face.nodes c.args.actions.now) c.args.node m (fields_data c.args.args) (data_of v)) (sym c.in-GetKeyBinding.is) (h (g.D.Face.nodes c.args.actions.now) c.args.node (fields_data c.args.args))) c.get_key_binding.ensures

pub returns-in-GetActions : goal.returns-in-GetActions
returns-in-GetActions g c = IfOk-weaker c.get_actions.result _ _ (λ v h. subst (λ (m : ObjectMember). TellsActions (g.D.Face.nodes c.args.actions.now) c.args.node m (fields_data c.args.args) (data_of v)) (sym c.in-GetActions.is) (h (fields_data c.args.args))) c.get_actions.ensures

pub returns-in-GetName : goal.returns-in-GetName
returns-in-GetName g c = IfOk-weaker c.get_name.result _ _ (λ v h. subst (λ (m : ObjectMember). TellsActions (g.D.Face.nodes c.args.actions.now) c.args.node m (fields_data c.args.args) (data_of v)) (sym c.in-GetName.is) h) c.get_name.ensures
