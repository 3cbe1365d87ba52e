use Rattle.std.proofs.Common.{◌++◌, ◌∙◌, ap}
use Rattle.std.proofs.lemmas.Result.{on_ok_weaker}
use Rattle.atspi_message.specs.Envelope.{Envelope, envelope_of}
use Rattle.atspi_message.specs.Bytes.{written}
use Rattle.atspi_world_parties.proofs.wires.write_from.Goals as goal

pub returns-clause-ok : goal.returns-clause-ok
returns-clause-ok c =
    on_ok_weaker c.write.result (λ e. e ∙ ap (λ (x : Envelope). c.args.out.now ++ written x)
    (c.signed-taken.ensures ∙ ap (λ (x : Envelope). record x { sender = c.in_ok-name.name }) c.in_ok-copy.ensures ∙ ap (λ n. record (envelope_of c.args.message.now) { sender = n }) c.in_ok-name.ensures)) c.write.ensures.ok
