use Rattle.std.proofs.Common.{arith, subst, sym}
use Rattle.std.proofs.lemmas.Result.{IfErr-weaker, err_from_is_err_and, on_ok_weaker}
use Rattle.atspi_run_replay.specs.inner.Made.{ScriptStops}
use Rattle.atspi_run_replay.proofs.Script.{finished_at}
use Rattle.atspi_run_replay.proofs.Stopping.{drain_stops}
use Rattle.atspi_run_replay.proofs.making.make_edits.Goals as goal

pub returns-clause-made : goal.returns-clause-made
returns-clause-made g c =
    on_ok_weaker c.act.result (λ last. finished_at c.args.draws.now.state c.args.count c.loop-number.number c.loop-number.draws.state _ _ (omega (arith, c.loop-number.auto.number-end (omega arith))) c.loop-number.invariant.drawn last) c.act.ensures.done

pub returns-in_err-make_edit-clause-stops : goal.returns-in_err-make_edit-clause-stops
returns-in_err-make_edit-clause-stops g c =
    let p = err_from_is_err_and c.from_residual.result c.from_residual.ensures.1 in
    rw p.1
    (subst (ScriptStops c.args.count c.args.draws.now.state) (sym p.2) (c.in_err-make_edit.ensures.stops c.args.count c.args.draws.now.state (omega (arith, c.loop-number-test.true)) c.loop-number.invariant.drawn))

pub returns-clause-stops : goal.returns-clause-stops
returns-clause-stops g c =
    IfErr-weaker c.act.result _ _
    (λ stop h. drain_stops c.args.count c.loop-number.number c.loop-number.draws.state c.args.draws.now.state stop _ (omega (arith, c.loop-number.auto.number-end (omega arith))) c.loop-number.invariant.drawn h)
    c.act.ensures.stops
