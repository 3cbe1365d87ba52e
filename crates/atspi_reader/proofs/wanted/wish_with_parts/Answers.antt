use Rattle.std.proofs.Common.{List, refl, ap, ◌∙◌}
use Rattle.std.proofs.lemmas.Result.{IfOk-weaker}
use Rattle.atspi_protocol.specs.following.ReaderState.{Followed}
use Rattle.atspi_protocol.specs.following.Wishes.{wishes}
use Rattle.atspi_reader_known.specs.declared.plan.Plan.TheVariants.{Settle}
use Rattle.atspi_reader_known.specs.Wanted.{first, refusing}
use Rattle.atspi_reader_known.proofs.Plans.{plan_changed}
use Rattle.atspi_reader.proofs.wanted.wish_with_parts.Goals as goal

pub returns : goal.returns
returns c =
    IfOk-weaker c.wish.result _ _
    (λ w same. same ∙ ap (λ (l : List Followed). first (wishes l)) (plan_changed (Settle c.args.parts) (refusing c.args.parts.now) (λ app. refl) c.args.name.now c.args.apps.now)) c.wish.ensures
