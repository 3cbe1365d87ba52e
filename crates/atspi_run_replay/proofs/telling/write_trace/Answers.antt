use Rattle.std.proofs.Common.{◌≤◌, length, refl, subst, ◌∙◌}
use Rattle.std.proofs.lemmas.Result.{on_ok_weaker, on_err_weaker}
use Rattle.atspi_run_replay.specs.inner.Told.{told_from}
use Rattle.atspi_run_replay.proofs.Pending.{pending_end, pending_next, pending_part, pending_piece, pending_start, pending_stop}
use Rattle.atspi_run_replay.proofs.TellLemmas.{from_end}
use Rattle.atspi_run_replay.proofs.telling.write_trace.Goals as goal

pub loop-place-init : goal.loop-place-init
loop-place-init g c =
    let w = c.args.world.now.carrier in
    rw c.new-text.ensures record { told = pending_start c.args.options (g.K.Sink.written c.args.sink.now) (told_from w.posts.items w.trace.items c.args.from); steady = refl }

pub returns-in_default-clause-err : goal.returns-in_default-clause-err
returns-in_default-clause-err g c = pending_stop c.loop-place.invariant.told

pub returns-in-Err-clause-err : goal.returns-in-Err-clause-err
returns-in-Err-clause-err g c =
    let w = c.args.world.now.carrier in
    pending_part _ (pending_next w.posts.items w.trace.items c.loop-place.place _ c.loop-place.invariant.told c.in-Ok.ensures) c.in-Err.ensures.err

pub returns-in-Err-clause-cause : goal.returns-in-Err-clause-cause
returns-in-Err-clause-cause g c = rw c.loop-place.invariant.steady at c.in-Err.ensures.cause

pub loop-place-preserved : goal.loop-place-preserved
loop-place-preserved g c =
    let w = c.args.world.now.carrier in
    record {
      told = pending_piece _ (pending_next w.posts.items w.trace.items c.loop-place.place _ c.loop-place.invariant.told c.in-Ok.ensures) c.in_default-write_piece.ensures.ok;
      steady = c.in_default-write_piece.ensures.cause ∙ c.loop-place.invariant.steady;
    }

pub returns-clause-ok : goal.returns-clause-ok
returns-clause-ok g c =
    let w = c.args.world.now.carrier in
    let all = subst (λ t. length t ≤ c.loop-place.place) c.trace-place-end.ensures c.loop-place-test.false in
    on_ok_weaker c.write.result (λ a. pending_end _ c.loop-place.invariant.told (from_end w.posts.items w.trace.items c.loop-place.place all) a) c.write.ensures.ok

pub returns-clause-err : goal.returns-clause-err
returns-clause-err g c = on_err_weaker c.write.result (λ a. pending_part _ c.loop-place.invariant.told a) c.write.ensures.err

pub returns-clause-cause : goal.returns-clause-cause
returns-clause-cause g c = rw c.loop-place.invariant.steady at c.write.ensures.cause
