use Rattle.std.proofs.Common.{sym, ap, subst, ◌∙◌}
use Rattle.std.proofs.lemmas.Result.{IfOk-weaker}
use Rattle.std.specs.Prelude.{MatchResult}
use Rattle.atspi_protocol.specs.declared.members.member.ObjectMember.{ObjectMember}
use Rattle.atspi_app_answers.specs.Told.{TellsAll, Refuses}
use Rattle.atspi_types.specs.DataView.{all_data}
use Rattle.atspi_marshal_in_place.specs.Items.{fields_data}
use Rattle.atspi_protocol.specs.objects.Answers.{tells_all}
use Rattle.atspi_protocol.specs.whole.Whole.{filled}
use Rattle.atspi_app_answers.specs.Seen.{seen}
use Rattle.atspi_app_answers.proofs.Answering.{with_fault}
use Rattle.atspi_app_answers.proofs.MemberLemmas.{unknown}
use Rattle.atspi_app_answers.proofs.members.member_values.Goals as goal

pub returns-then-is_accessible : goal.returns-then-is_accessible
returns-then-is_accessible c =
    with_fault c.accessible_values.result c.or_fault.result _ _ c.or_fault.ensures c.accessible_values.ensures tt

pub returns-in-GetLocale : goal.returns-in-GetLocale
returns-in-GetLocale c =
    subst
    (λ (m : ObjectMember).
    MatchResult c.or_fault-in-GetLocale.result (λ v. TellsAll c.args.tree.now c.args.bus.now c.args.node m (fields_data c.args.args) (all_data v))
    (Refuses c.args.tree.now c.args.bus.now c.args.node m (fields_data c.args.args)))
    (sym c.in-GetLocale.is)
    (with_fault c.locale_values.result c.or_fault-in-GetLocale.result _ _ c.or_fault-in-GetLocale.ensures
    (IfOk-weaker c.locale_values.result _ _ (λ v h faces id s is. ap (tells_all (seen c.args.tree.now faces c.args.bus.now id)) (sym h)) c.locale_values.ensures)
    tt)

pub returns-in_default : goal.returns-in_default
returns-in_default c = λ faces id s is.
    unknown (seen c.args.tree.now faces c.args.bus.now id) (filled faces s) (fields_data c.args.args) c.args.member
    (sym c.is_accessible.ensures ∙ c.if-is_accessible.false) c.requires.shape c.in_default.not-GetLocale c.in_default.not-Ping
