use Rattle.std.proofs.Common.{◌≡◌, ◌+◌, ◌<◌, [], ◌∷◌, ap, arith}
use Rattle.atspi_message.specs.Envelope.{envelope_of}
use Rattle.atspi_protocol.specs.exporting.Exporter.{sends, sent_in}
use Rattle.atspi_app_known.specs.happenings.View.{happened}
use Rattle.atspi_app_known.proofs.OfHappenings.Waiting.{sent-append}
use Rattle.atspi_app_known.proofs.starting.known.Known.ask.Goals as goal

pub returns-in-Err-clause-spent : goal.returns-in-Err-clause-spent
returns-in-Err-clause-spent c = λ h.
    let more = ap sent_in c.in_ok-push_message.ensures.ok in
    let both = sent-append (happened c.args.told.now) (sends (envelope_of c.args.call) ∷ []) in
    let past = c.in-Err.ensures.spent.0 h in
    let none = c.requires in
    omega (arith, past, more, both, none)

pub overflow_cast-self : goal.overflow_cast-self
overflow_cast-self c =
    let more = ap sent_in c.in_ok-push_message.ensures.ok in
    let both = sent-append (happened c.args.told.now) (sends (envelope_of c.args.call) ∷ []) in
    let next = c.in-Ok.ensures.next in
    let few = c.post.new.self.few in
    let is = c.next_number-serial.ensures in
    let none = c.requires in
    let small : c.next_number-serial.result < 4294967296 = omega (arith, is, next, few, more, both, none) in record { fits = small }
