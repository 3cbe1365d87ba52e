use Rattle.std.proofs.Common.{sym, ◌∙◌, arith, [], get_or}
use Rattle.std.proofs.lemmas.Result.{err_from_is_err_and}
use Rattle.atspi_types.specs.inner.OpenView.{context_of}
use Rattle.atspi_types.specs.SignatureFaults.{at_top}
use Rattle.atspi_types.specs.SignatureReading.{walk, step_at}
use Rattle.atspi_types.proofs.ReadingLemmas.{handed_on, walk-err, walk-ok, walk-end}
use Rattle.atspi_types.proofs.parser.walk.Goals as goal

pub returns-in_err-open : goal.returns-in_err-open
returns-in_err-open c =
    let p = err_from_is_err_and c.from_residual-in_err-open.result c.from_residual-in_err-open.ensures.1 in
    rw (p.1, p.2) (handed_on context_of context_of c.in_err-open.field-0.0 (step_at (context_of c.loop-i.open) c.loop-i.i (get_or c.args.bytes.now c.loop-i.i 0)) (walk (at_top []) 0 c.args.bytes.now)
    (λ f e. sym c.loop-i.invariant.1 ∙ walk-err (context_of c.loop-i.open) c.args.bytes.now c.loop-i.i f (omega arith) e) c.in_err-open.ensures.step)

pub loop-i-preserved : goal.loop-i-preserved
loop-i-preserved c = (c.in_ok-open.ensures.begins, sym (walk-ok (context_of c.loop-i.open) (context_of c.in_ok-open.open) c.args.bytes.now c.loop-i.i (omega arith) c.in_ok-open.ensures.step) ∙ c.loop-i.invariant.1)

pub returns : goal.returns
returns c = sym c.loop-i.invariant.1 ∙ walk-end (context_of c.loop-i.open) c.args.bytes.now c.loop-i.i (omega arith)
