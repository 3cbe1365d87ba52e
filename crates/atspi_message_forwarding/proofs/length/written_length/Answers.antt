use Rattle.std.proofs.Common.{◌+◌, ℕ, ap, sym, ◌∙◌, arith}
use Rattle.atspi_marshal.specs.Input.{aligned}
use Rattle.atspi_message_in_place.specs.View.{envelope_at}
use Rattle.atspi_message.specs.Length.{told}
use Rattle.atspi_message.proofs.Lengths.{header_end, written_length}
use Rattle.atspi_message_forwarding.proofs.Passing.{names_of, body_length}
use Rattle.atspi_message_forwarding.proofs.length.written_length.Goals as goal

pub returns : goal.returns
returns c =
    let m = c.args.m.now in
    let e = envelope_at m in
    let error = c.name_end-error.ensures _ (c.name_end-member.ensures _ (c.name_end-interface.ensures _ (c.name_end-path.ensures 16 (omega arith)))) in
    let sender = c.name_end-sender.ensures _ (c.name_end-destination.ensures _ (c.number_end-reply.ensures _ error)) in
    c.behind.ensures _ (c.at_eight.ensures _ (c.types_end-types.ensures _ sender))
    ∙ ap told (sym (written_length e (names_of m) ∙ ap (λ (n : ℕ). aligned 8 (header_end e) + n) (body_length e m.body_bytes.now m.lies)))
