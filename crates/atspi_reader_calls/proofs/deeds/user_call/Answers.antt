use Rattle.std.proofs.Common.{◌∙◌, ap, List, ℕ}
use Rattle.atspi_message.specs.Envelope.{Envelope, envelope_of}
use Rattle.atspi_protocol.specs.following.Calls.{user_call, deed_call}
use Rattle.atspi_reader_calls.proofs.Meets.{user_meets, of_made}
use Rattle.atspi_reader_calls.proofs.deeds.user_call.Goals as goal

pub returns-clause-call : goal.returns-clause-call
returns-clause-call c =
    c.numbered.ensures ∙ ap (λ (e : Envelope). record e { serial = c.args.serial }) (c.in_ok-message.ensures ∙ ap (λ (path : List ℕ). deed_call c.args.name.now path c.args.deed.now) c.in_ok-path.ensures)

pub returns-clause-meets : goal.returns-clause-meets
returns-clause-meets c = λ some.
    of_made _ (user_call c.args.serial c.args.name.now c.args.node c.args.deed.now)
    (c.numbered.ensures ∙ ap (λ (e : Envelope). record e { serial = c.args.serial }) (c.in_ok-message.ensures ∙ ap (λ (path : List ℕ). deed_call c.args.name.now path c.args.deed.now) c.in_ok-path.ensures))
    (user_meets c.args.serial c.args.name.now c.args.node c.args.deed.now some)
