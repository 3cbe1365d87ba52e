use Rattle.std.proofs.Common.{refl, sym, ap, subst, ◌∙◌}
use Rattle.std.proofs.lemmas.Result.{IfOk-weaker}
use Rattle.std.specs.Prelude.{IfOk}
use Rattle.atspi_types.specs.DataView.{all_data}
use Rattle.atspi_protocol.specs.declared.members.member.ObjectMember.{ObjectMember}
use Rattle.atspi_app_answers.specs.Told.{TreeReturns}
use Rattle.atspi_protocol.specs.objects.Answers.{tells_all}
use Rattle.atspi_protocol.proofs.OfWhole.Followed.{shape_is_kept}
use Rattle.atspi_app_answers.specs.Seen.{seen}
use Rattle.atspi_app_answers.proofs.MemberLemmas.{nothing}
use Rattle.atspi_app_answers.proofs.answers.tree_member.Goals as goal

pub returns-in-GetItems : goal.returns-in-GetItems
returns-in-GetItems c =
    subst (λ (m : ObjectMember). IfOk c.items_values.result (λ v. TreeReturns c.args.tree.now c.args.bus.now m (all_data v))) (sym c.in-GetItems.is)
    (IfOk-weaker c.items_values.result _ _
    (λ v h faces id body. let a = seen c.args.tree.now faces c.args.bus.now id in ap (tells_all a) (sym (h a (shape_is_kept c.args.tree.now.rows faces) refl)))
    c.items_values.ensures)

pub returns-in_default : goal.returns-in_default
returns-in_default c = λ faces id body.
    let a = seen c.args.tree.now faces c.args.bus.now id in
    nothing a body c.args.member c.in_default.not-GetItems ∙ ap (tells_all a) (sym c.new.ensures)
