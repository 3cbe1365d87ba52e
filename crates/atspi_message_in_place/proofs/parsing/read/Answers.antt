use Rattle.std.proofs.Common.{ap, subst, sym, ◌∙◌, refl, arith, List, ℕ}
use Rattle.std.proofs.lemmas.Grind.{merely}
use Rattle.std.specs.Prelude.{slice_index}
use Rattle.std.specs.Int.{w32}
use Rattle.atspi_types.specs.declared.fault.Order.{Order}
use Rattle.atspi_marshal.specs.Input.{whole, number_in}
use Rattle.atspi_marshal_in_place.specs.Items.{fields_data}
use Rattle.atspi_message.specs.Envelope.{Envelope}
use Rattle.atspi_message.specs.inner.Reading.{Describes}
use Rattle.atspi_message.proofs.ParsingLaws.{made_from, whole_from}
use Rattle.atspi_message_in_place.specs.View.{bytes_of, found_in}
use Rattle.atspi_message_in_place.specs.Bodies.{IsBody}
use Rattle.atspi_message_in_place.proofs.Bodies.{body_lies}
use Rattle.atspi_message_in_place.proofs.Names.{named_from}
use Rattle.atspi_message_in_place.proofs.ParsingLaws.{is_message}
use Rattle.atspi_message_in_place.proofs.parsing.read.Goals as goal

pub body_bytes-requires : goal.body_bytes-requires
body_bytes-requires c = (let w = whole_from c.args.bytes.now c.requires.length in (omega (arith, w.long), omega (arith, w.whole), omega (arith, c.requires.length, c.requires.sound.short)))

pub invariant_of-result : goal.invariant_of-result
invariant_of-result c =
    let h = c.in_ok-header.header in
    let bytes = c.args.bytes.now in
    let values = fields_data c.in_ok-body.body in
    let e : Envelope =
    record {
      order = c.order_of-2.result;
      kind = slice_index bytes 1;
      flags = slice_index bytes 2;
      serial = c.u32_at.result;
      path = bytes_of h.path;
      interface = bytes_of h.interface;
      member = bytes_of h.member;
      error = bytes_of h.error;
      reply = h.reply;
      destination = bytes_of h.destination;
      sender = bytes_of h.sender;
      body = values;
    }
    in
    let describes : Describes e bytes (found_in h) values =
    record {
      order = c.order_of-2.ensures;
      kind = refl;
      flags = refl;
      serial = c.u32_at.ensures ∙ ap (λ (o : Order). number_in (whole o bytes) w32 8) c.order_of.ensures;
      path = refl;
      interface = refl;
      member = refl;
      error = refl;
      reply = refl;
      destination = refl;
      sender = refl;
      body = refl;
    }
    in
    let read = made_from bytes c.order_of.result c.fields_end.result (found_in h) values c.order_of.ensures c.fields_end.ensures c.in_ok-header.ensures c.in_ok-body.ensures in
    let is = is_message bytes e (found_in h) values (λ i. omega (arith, c.type_inv.bytes i)) c.requires.length c.requires.sound describes read in
    record {
      named = named_from h.path h.interface h.member h.error h.destination h.sender e is.named refl refl refl refl refl refl;
      lies = merely (subst (λ (bs : List ℕ). IsBody e.order values bs) (sym c.body_bytes.ensures) (body_lies bytes e is));
    }

pub returns : goal.returns
returns c = record {
  found = found_in c.in_ok-header.header;
  values = fields_data c.in_ok-body.body;
  read_ = made_from c.args.bytes.now c.order_of.result c.fields_end.result (found_in c.in_ok-header.header) (fields_data c.in_ok-body.body) c.order_of.ensures c.fields_end.ensures c.in_ok-header.ensures c.in_ok-body.ensures;
  describes = record {
    order = c.order_of-2.ensures;
    kind = refl;
    flags = refl;
    serial = c.u32_at.ensures ∙ ap (λ (o : Order). number_in (whole o c.args.bytes.now) w32 8) c.order_of.ensures;
    path = refl;
    interface = refl;
    member = refl;
    error = refl;
    reply = refl;
    destination = refl;
    sender = refl;
    body = refl;
  };
}
