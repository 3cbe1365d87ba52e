use Rattle.std.proofs.Common.{List, ap, ◌∙◌}
use Rattle.std.specs.Prelude.{flat_map}
use Rattle.std.proofs.lemmas.Result.{IfOk-weaker}
use Rattle.atspi_protocol.specs.following.ReaderState.{Followed}
use Rattle.atspi_protocol.specs.following.Wishes.{wishes}
use Rattle.atspi_reader_known.specs.Planned.{one_planned}
use Rattle.atspi_reader_known.specs.Wanted.{first}
use Rattle.atspi_reader_known.proofs.Plans.{wish_planned}
use Rattle.atspi_reader_known.proofs.apps.Apps.wish.Goals as goal

pub returns : goal.returns
returns c =
    IfOk-weaker c.first_planned.result _ _
    (λ w same. same ∙ wish_planned c.args.plan c.args.name.now c.deref.result.now
    ∙ ap (λ (l : List Followed). first (wishes (flat_map (one_planned c.args.plan c.args.name.now) l))) (c.deref.ensures.value ∙ c.self.view_is))
    c.first_planned.ensures
