use Rattle.std.proofs.Common.{[], take}
use Rattle.std.proofs.lemmas.Result.{err_from_is_err_and}
use Rattle.atspi_types.specs.KindView.{kinds_in}
use Rattle.atspi_types.specs.inner.OpenView.{context_of}
use Rattle.atspi_types.specs.SignatureFaults.{at_top}
use Rattle.atspi_types.specs.SignatureReading.{walk, signature_in}
use Rattle.atspi_types.proofs.ReadingLemmas.{handed_on, front-err, front-ok, take-min}
use Rattle.atspi_types.proofs.parser.read_types.Goals as goal

pub returns-in_err-open : goal.returns-in_err-open
returns-in_err-open c =
    let p = err_from_is_err_and c.from_residual.result c.from_residual.ensures.1 in
    rw (p.1, p.2) (handed_on context_of kinds_in c.in_err-open.field-0.0 (walk (at_top []) 0 (take c.min.result c.args.bytes.now)) (signature_in c.args.bytes.now)
    (λ f e. front-err c.args.bytes.now f (rw (c.min.ensures, take-min c.args.bytes.now 255) at e)) c.in_err-open.ensures)

pub returns : goal.returns
returns c = rw (front-ok c.args.bytes.now (context_of c.in_ok-open.open) (rw (c.min.ensures, take-min c.args.bytes.now 255) at c.in_ok-open.ensures)) c.finish.ensures
