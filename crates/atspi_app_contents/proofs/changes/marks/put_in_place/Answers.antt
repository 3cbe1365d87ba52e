use Rattle.std.proofs.Common.{sym, ap, ◌∙◌}
use Rattle.std.proofs.lemmas.Result.{IfOk-weaker}
use Rattle.atspi_app_contents.specs.changes.inner.Steps.{put_in_place}
use Rattle.atspi_app_contents.proofs.changes.marks.put_in_place.Goals as goal

pub returns-in-Some : goal.returns-in-Some
returns-in-Some c =
    IfOk-weaker c.put_over.result _ _ (λ steps h. h ∙ ap (put_in_place c.args.node c.args.marks.now c.args.index c.args.mark) (sym c.in-Some.is ∙ c.mark_at.ensures)) c.put_over.ensures

pub returns-in-None : goal.returns-in-None
returns-in-None c = ap (put_in_place c.args.node c.args.marks.now c.args.index c.args.mark) (sym c.in-None.is ∙ c.mark_at.ensures)
