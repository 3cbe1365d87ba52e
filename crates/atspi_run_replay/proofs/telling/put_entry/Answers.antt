use Rattle.std.proofs.Common.{◌++◌, ap, sym, ◌∙◌, append-nil}
use Rattle.std.specs.Prelude.{slice_get}
use Rattle.std.proofs.lemmas.Result.{on_ok_weaker}
use Rattle.atspi_run_replay.specs.Told.{told_text}
use Rattle.atspi_run_replay.specs.inner.Told.{told_if}
use Rattle.atspi_run_replay.proofs.telling.put_entry.Goals as goal

pub put_event-requires : goal.put_event-requires
put_event-requires g c = sym (c.in-Some.ensures ∙ ap (λ t. slice_get t c.args.place) c.trace.ensures)

pub returns-in-Some : goal.returns-in-Some
returns-in-Some g c =
    let w = c.args.world.now.carrier in
    on_ok_weaker c.put_event.result
    (λ e. e ∙ ap (λ o. c.args.text.now ++ told_text c.args.options (told_if w.posts.items w.trace.items c.args.place o)) (c.in-Some.ensures ∙ ap (λ t. slice_get t c.args.place) c.trace.ensures))
    c.put_event.ensures

pub returns-in-None : goal.returns-in-None
returns-in-None g c =
    let w = c.args.world.now.carrier in
    sym (append-nil c.args.text.now)
    ∙ ap (λ o. c.args.text.now ++ told_text c.args.options (told_if w.posts.items w.trace.items c.args.place o)) (c.in-None.ensures ∙ ap (λ t. slice_get t c.args.place) c.trace.ensures)
