use Rattle.std.proofs.Common.{List, ℕ, subst}
use Rattle.std.proofs.lemmas.Result.{on_err_weaker}
use Rattle.atspi_base.specs.Outside.{AppendsPart}
use Rattle.atspi_run_check.proofs.lines.tell.Goals as goal

pub returns-clause-err : goal.returns-clause-err
returns-clause-err g c =
    on_err_weaker c.write_waiting.result
    (λ a. subst (λ (bs : List ℕ). AppendsPart (g.K.Sink.written c.args.sink.now) (g.K.Sink.written c.write_waiting.new.sink) bs) c.in-Ok.ensures a)
    c.write_waiting.ensures.err
