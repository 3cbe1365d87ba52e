use Rattle.std.proofs.Common.{List, ap, ◌∙◌}
use Rattle.std.proofs.lemmas.Result.{IfOk-weaker}
use Rattle.atspi_protocol.specs.following.ReaderState.{Followed}
use Rattle.atspi_protocol.specs.following.Wishes.{wishes}
use Rattle.atspi_reader_known.specs.Wanted.{first}
use Rattle.atspi_reader_known.proofs.Plans.{plan_forgets}
use Rattle.atspi_reader.proofs.wanted.wish_without.Goals as goal

pub returns : goal.returns
returns c =
    IfOk-weaker c.wish.result _ _ (λ w same. same ∙ ap (λ (l : List Followed). first (wishes l)) (plan_forgets c.args.name.now c.args.apps.now)) c.wish.ensures
