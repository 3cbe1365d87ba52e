use Rattle.std.proofs.Common.{false, true, refl, ap, sym, ◌∙◌}
use Rattle.std.proofs.lemmas.Result.{IfOk-weaker}
use Rattle.atspi_reader_known.specs.declared.plan.Plan.{Plan}
use Rattle.atspi_reader_known.specs.Planned.{planned}
use Rattle.atspi_reader_known.proofs.Plans.{settle_wish}
use Rattle.atspi_reader_known.proofs.apps.planned_wish.Goals as goal

pub returns-then-not-is : goal.returns-then-not-is
returns-then-not-is c =
    let app = c.args.app.now in
    IfOk-weaker c.wish_now.result _ _
    (λ w same. same ∙ settle_wish c.args.plan c.args.name.now app false app (sym c.is.ensures ∙ c.if-not-is.true) refl)
    c.wish_now.ensures

pub returns-in-Put : goal.returns-in-Put
returns-in-Put c =
    let app = c.args.app.now in
    let other = c.in-Put.other.now in
    IfOk-weaker c.wish_now-in-Put.result _ _
    (λ w same. same ∙ settle_wish c.args.plan c.args.name.now app true other (sym c.is.ensures ∙ c.if-not-is.false) (ap (λ (p : Plan). planned p app) c.in-Put.is))
    c.wish_now-in-Put.ensures
