use Rattle.std.proofs.Common.{subst, sym}
use Rattle.std.proofs.lemmas.Result.{err_from_is_err_and}
use Rattle.atspi_run_replay.specs.inner.Made.{ScriptStops}
use Rattle.atspi_run_replay.proofs.Script.{opened}
use Rattle.atspi_run_replay.proofs.making.make_in.Goals as goal

pub make_edits-requires-clause-drawn : goal.make_edits-requires-clause-drawn
make_edits-requires-clause-drawn g c = opened _ _ _ c.requires.played c.in_ok-begin.ensures.done

pub returns-in_err-begin-clause-stops : goal.returns-in_err-begin-clause-stops
returns-in_err-begin-clause-stops g c =
    let p = err_from_is_err_and c.from_residual.result c.from_residual.ensures.1 in
    rw p.1 (subst (ScriptStops c.args.count c.args.seed) (sym p.2) (c.in_err-begin.ensures.stops c.args.count c.args.seed))

pub returns-in_err-make_edits-clause-stops : goal.returns-in_err-make_edits-clause-stops
returns-in_err-make_edits-clause-stops g c =
    let p = err_from_is_err_and c.from_residual-in_err-make_edits.result c.from_residual-in_err-make_edits.ensures.1 in
    rw p.1 (subst (λ n. ScriptStops c.args.count n p.0) c.new-draws.ensures (subst (ScriptStops c.args.count c.new-draws.result.state) (sym p.2) c.in_err-make_edits.ensures.stops))
