use Rattle.std.proofs.Common.{sym, subst}
use Rattle.atspi_types.specs.DataView.{data_of}
use Rattle.atspi_marshal_in_place.specs.Items.{fields_data}
use Rattle.atspi_protocol.specs.declared.members.member.ObjectMember.{ObjectMember}
use Rattle.atspi_app_contents.specs.answers.inner.Told.{TellsOne}
use Rattle.atspi_app_contents.proofs.answers.selection.selection.Goals as goal

pub returns-in-IsChildSelected : goal.returns-in-IsChildSelected
returns-in-IsChildSelected c = subst (λ (m : ObjectMember). TellsOne c.args.tree.now c.args.bus.now c.args.node m (fields_data c.args.args) (data_of c.is_child_selected.result)) (sym c.in-IsChildSelected.is) (c.is_child_selected.ensures c.args.bus.now)
