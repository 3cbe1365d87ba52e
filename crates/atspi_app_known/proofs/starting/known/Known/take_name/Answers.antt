use Rattle.std.proofs.Common.{ℕ, List, [], ◌∷◌, Some, ap, ◌∙◌, chars}
use Rattle.atspi_message.specs.Envelope.{Envelope, envelope_of}
use Rattle.atspi_protocol.specs.exporting.Exporter.{Exporter, add_match, awaits, queues, sends}
use Rattle.atspi_protocol.specs.exporting.Starting.{greeted}
use Rattle.atspi_app_known.specs.happenings.View.{next_of}
use Rattle.atspi_app_known.specs.starting.KnownView.{known_in}
use Rattle.atspi_app_known.proofs.starting.known.Known.take_name.Goals as goal

pub returns-in-None-clause-ok : goal.returns-in-None-clause-ok
returns-in-None-clause-ok c = λ s. c.end_start.ensures s ∙ ap (greeted (known_in c.args.self.now s)) c.in-None.ensures.name

pub returns-in_ok-ask_alone-in-Some-clause-ok : goal.returns-in_ok-ask_alone-in-Some-clause-ok
returns-in_ok-ask_alone-in-Some-clause-ok c = λ s.
    let text = chars c.in-Some.text.now in
    ap (λ (x : Exporter). record x { name = Some c.in_ok-name-in-Some.name }) (c.in_ok-ask_alone-in-Some.ensures.ok s)
    ∙ ap (λ (n : List ℕ). record (queues (known_in c.args.self.now s) (sends (envelope_of c.in_ok-call-in-Some.call) ∷ [])) { phase = awaits add_match (next_of c.args.self.now.queue); name = Some n }) c.in_ok-name-in-Some.ensures
    ∙ ap (λ (m : Envelope). record (queues (known_in c.args.self.now s) (sends m ∷ [])) { phase = awaits add_match (next_of c.args.self.now.queue); name = Some text }) (c.in_ok-call-in-Some.ensures text)
    ∙ ap (greeted (known_in c.args.self.now s)) c.in-Some.ensures.name
