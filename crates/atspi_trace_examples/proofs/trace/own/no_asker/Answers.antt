use Rattle.std.proofs.Common.{◌≡◌, ap, ◌∙◌}
use Rattle.atspi_script_lines.specs.declared.line.Party.TheVariants.{Reader}
use Rattle.atspi_protocol.specs.declared.following.question.Question.TheVariants.{Hello}
use Rattle.atspi_protocol.specs.following.Calls.{asking}
use Rattle.atspi_trace.specs.World.{here, stopped, away, an_application, a_reader, End}
use Rattle.atspi_trace_examples.specs.trace.Small.{exporter, idle, reader}
use Rattle.atspi_trace_examples.proofs.OfTrace.Asker.{asker_is}
use Rattle.atspi_trace_examples.proofs.trace.own.no_asker.Goals as goal

pub returns-clause-another : goal.returns-clause-another
returns-clause-another c = λ b own.
    let who : Reader 0 ≡ Reader 1 = ap (λ (x : End). x.who) (asker_is b (reader 0 idle) 1 (asking 5 Hello) own) ∙ own.whose in
    absurd cc

pub returns-clause-stopped : goal.returns-clause-stopped
returns-clause-stopped c = λ b own.
    let standing : stopped ≡ here = ap (λ (x : End). x.standing) (asker_is b (record (reader 0 idle) { standing = stopped }) 0 (asking 5 Hello) own) ∙ own.standing in
    absurd cc

pub returns-clause-left : goal.returns-clause-left
returns-clause-left c = λ b own.
    let standing : away ≡ here = ap (λ (x : End). x.standing) (asker_is b (record (reader 0 idle) { standing = away }) 0 (asking 5 Hello) own) ∙ own.standing in
    absurd cc

pub returns-clause-application : goal.returns-clause-application
returns-clause-application c = λ b own.
    let role : an_application exporter ≡ a_reader own.hearer = ap (λ (x : End). x.role) (asker_is b (record (reader 0 idle) { role = an_application exporter }) 0 (asking 5 Hello) own) ∙ own.reader in
    absurd cc
