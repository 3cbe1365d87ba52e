use Rattle.std.proofs.Common.{subst, ℕ}
use Rattle.atspi_run.specs.Words.{Tells}
use Rattle.atspi_run.proofs.WordLemmas.{tells}
use Rattle.atspi_run.proofs.words.tell.Goals as goal

pub returns-clause-told : goal.returns-clause-told
returns-clause-told g c text asks =
    let due = c.text_for-due.ensures.told text asks in
    subst (λ (n : ℕ). Tells n text c.status_of.result (g.K.Sink.written c.args.sink.now) (g.K.Sink.written c.write_all.new.sink)) due.0
    (tells c.write_all.result _ _ text _ _ _ c.status_of.ensures c.write_all.ensures.ok c.write_all.ensures.err due.1)
