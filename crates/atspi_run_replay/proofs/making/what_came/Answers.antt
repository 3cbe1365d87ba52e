use Rattle.std.proofs.Common.{ap, ◌∙◌}
use Rattle.std.specs.Prelude.{count_by}
use Rattle.atspi_trace.specs.Entry.{entry_of}
use Rattle.atspi_run_replay.specs.Made.{is_spoken, is_step}
use Rattle.atspi_run_replay.proofs.Came.{came}
use Rattle.atspi_run_replay.proofs.making.what_came.Goals as goal

pub returns : goal.returns
returns g c seed count made =
    let steps = c.count_steps.ensures ∙ ap (λ events. count_by (λ event. is_step (entry_of event)) events) c.trace-2.ensures in
    let says = c.count_says.ensures ∙ ap (λ events. count_by (λ event. is_spoken (entry_of event)) events) c.trace-3.ensures in
    came seed count _ made _ _ _ steps c.row_count.ensures says (rw c.trace.ensures at c.all_fit.ensures)
