use Rattle.std.proofs.Common.{ℕ, List, [], ◌∷◌, ◌++◌, ap, ◌∙◌, filter, not}
use Rattle.atspi_message.specs.Envelope.{Envelope, envelope_of}
use Rattle.atspi_protocol.specs.exporting.Exporter.{Happening, Exporter, embed, awaits, queues, sends, sent_in}
use Rattle.atspi_protocol.specs.exporting.Hearing.{exchanged, is_heard, firsts}
use Rattle.atspi_protocol.specs.exporting.Starting.{start_call, name_or_empty}
use Rattle.atspi_app_known.specs.happenings.View.{happened, next_of}
use Rattle.atspi_app_known.specs.hearing.Lent.{lent_pairs}
use Rattle.atspi_app_known.specs.starting.KnownView.{known_in}
use Rattle.atspi_app_known.proofs.OfStarting.Queueing.{quiet, both}
use Rattle.atspi_app_known.proofs.starting.known.Known.take_pairs.Goals as goal

pub ask-requires : goal.ask-requires
ask-requires c =
    let listed = lent_pairs c.args.pairs.now in
    ap sent_in c.in_ok-exchange.ensures.told
    ∙ quiet (filter (λ (p : List ℕ × List ℕ). not (is_heard listed p)) c.args.self.now.heard) (filter (λ (p : List ℕ × List ℕ). not (is_heard c.args.self.now.heard p)) (firsts listed))

pub returns-clause-ok : goal.returns-clause-ok
returns-clause-ok c = λ s.
    let k = known_in c.args.self.now s in
    let listed = lent_pairs c.args.pairs.now in
    let change = exchanged c.args.self.now.heard listed in
    let m = envelope_of c.in_ok-call.call in
    let n = next_of c.args.self.now.queue in
    let silent = quiet (filter (λ (p : List ℕ × List ℕ). not (is_heard listed p)) c.args.self.now.heard) (filter (λ (p : List ℕ × List ℕ). not (is_heard c.args.self.now.heard p)) (firsts listed)) in
    ap (λ (x : Exporter). record x { heard = c.in_ok-exchange.exchange.heard }) (c.in_ok-ask.ensures.ok s)
    ∙ ap (λ (h : List (List ℕ × List ℕ)). record (queues k (happened c.in_ok-exchange.exchange.told ++ sends m ∷ [])) { phase = awaits embed n; heard = h }) c.in_ok-exchange.ensures.heard
    ∙ ap (λ (t : List Happening). record (queues k (t ++ sends m ∷ [])) { phase = awaits embed n; heard = change.heard }) c.in_ok-exchange.ensures.told
    ∙ ap (λ (e : Envelope). record (queues k (change.told ++ sends e ∷ [])) { phase = awaits embed n; heard = change.heard }) (c.in_ok-call.ensures ∙ ap (λ (name : List ℕ). start_call name embed) c.in_ok-name.ensures)
    ∙ both (record k { heard = change.heard }) change.told (start_call (name_or_empty c.args.self.now.name) embed) embed silent
