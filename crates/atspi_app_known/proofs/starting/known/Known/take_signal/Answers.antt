use Rattle.std.proofs.Common.{sym, ap, ◌∙◌}
use Rattle.std.proofs.lemmas.Result.{on_ok_weaker}
use Rattle.atspi_protocol.specs.exporting.Exporter.{queues}
use Rattle.atspi_protocol.specs.exporting.Hearing.{Change}
use Rattle.atspi_app_known.specs.starting.KnownView.{known_in}
use Rattle.atspi_app_known.proofs.starting.known.Known.take_signal.Goals as goal

pub returns-in-Registered-clause-ok : goal.returns-in-Registered-clause-ok
returns-in-Registered-clause-ok c = on_ok_weaker c.register.result (λ e s.
    e s ∙ ap (λ (change : Change). queues (record (known_in c.args.self.now s) { heard = change.heard }) change.told) (sym (c.in-Registered.ensures c.args.self.now.heard))) c.register.ensures.ok

pub returns-in-Deregistered-clause-ok : goal.returns-in-Deregistered-clause-ok
returns-in-Deregistered-clause-ok c = on_ok_weaker c.deregister.result (λ e s.
    e s ∙ ap (λ (change : Change). queues (record (known_in c.args.self.now s) { heard = change.heard }) change.told) (sym (c.in-Deregistered.ensures c.args.self.now.heard))) c.deregister.ensures.ok
