use Rattle.std.proofs.Common.{◌∙◌}
use Rattle.std.proofs.lemmas.Result.{IfErr-weaker, err_from_is_err_and, on_ok_weaker}
use Rattle.atspi_run_replay.proofs.Script.{made_name, three_lines}
use Rattle.atspi_run_replay.proofs.Stopping.{first_stops, same_stop, second_stops, third_stops}
use Rattle.atspi_run_replay.proofs.making.begin.Goals as goal

pub returns-clause-done : goal.returns-clause-done
returns-clause-done g c = on_ok_weaker c.act-3.result (λ last. three_lines c.in-Ok.name _ _ _ _ (c.in-Ok.ensures ∙ made_name) c.in_ok-act.ensures.done c.in_ok-act-2.ensures.done last) c.act-3.ensures.done

pub returns-in_err-act-clause-stops : goal.returns-in_err-act-clause-stops
returns-in_err-act-clause-stops g c =
    let p = err_from_is_err_and c.from_residual.result c.from_residual.ensures.1 in
    rw p.1 (first_stops c.in-Ok.name p.0 _ (c.in-Ok.ensures ∙ made_name) c.requires.played (same_stop _ _ _ _ p.2 c.in_err-act.ensures.stops))

pub returns-in_err-act-2-clause-stops : goal.returns-in_err-act-2-clause-stops
returns-in_err-act-2-clause-stops g c =
    let p = err_from_is_err_and c.from_residual-in_err-act-2.result c.from_residual-in_err-act-2.ensures.1 in
    rw p.1 (second_stops c.in-Ok.name p.0 _ _ (c.in-Ok.ensures ∙ made_name) c.requires.played c.in_ok-act.ensures.done (same_stop _ _ _ _ p.2 c.in_err-act-2.ensures.stops))

pub returns-clause-stops : goal.returns-clause-stops
returns-clause-stops g c =
    IfErr-weaker c.act-3.result _ _
    (λ stop h. third_stops c.in-Ok.name stop _ _ _ (c.in-Ok.ensures ∙ made_name) c.requires.played c.in_ok-act.ensures.done c.in_ok-act-2.ensures.done h)
    c.act-3.ensures.stops
