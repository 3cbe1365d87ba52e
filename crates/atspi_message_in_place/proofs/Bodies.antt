-- The bytes of a message behind its padding are those of its body.
use Rattle.std.proofs.Common.{◌≡◌, ℕ, List, length, drop, take, sym, ap, ◌∙◌, arith}
use Rattle.std.proofs.lemmas.List.{take_all, length-drop}
use Rattle.atspi_types.specs.Data.{items_of}
use Rattle.atspi_marshal.specs.Input.{aligned}
use Rattle.atspi_marshal.specs.Spelling.{spellings}
use Rattle.atspi_message.specs.Envelope.{Envelope}
use Rattle.atspi_message.specs.Bytes.{body_place, body_bytes, IsMessage}
use Rattle.atspi_message.specs.Front.{input_in, body_place_in}
use Rattle.atspi_message.proofs.IsSpelled.{front_is}
use Rattle.atspi_message.proofs.Placed.{fields_end, layout_to}
use Rattle.atspi_message_in_place.specs.Bodies.{IsBody}

pub body_lies : (bytes : List ℕ) (e : Envelope) → IsMessage e bytes → IsBody e.order e.body (drop (body_place_in bytes) bytes)
unfolding body_place body_bytes
body_lies bytes e m =
    let front = front_is bytes e m.fields m.meets m.fits m.spelled in
    let l = layout_to (input_in bytes) e m.fields m.spelled in
    let place = aligned 8 (fields_end e.order m.fields) in
    let start : body_place_in bytes ≡ place = ap (λ (n : ℕ). aligned 8 n) front.end in
    let body = spellings e.order place (items_of e.body) in
    let whole : take (length body) (drop place bytes) ≡ drop place bytes = take_all (length body) (drop place bytes) (omega (arith, l.body.0, length-drop place bytes)) in
    record {
      place = place;
      even = omega arith;
      spelled = ap (λ (n : ℕ). drop n bytes) start ∙ (sym whole ∙ l.body.1);
      fits = m.fits.body;
    }
