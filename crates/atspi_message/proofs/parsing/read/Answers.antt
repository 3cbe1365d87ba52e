use Rattle.std.proofs.Common.{ap, ◌∙◌, refl}
use Rattle.std.specs.Int.{w32}
use Rattle.atspi_types.specs.declared.fault.Order.{Order}
use Rattle.atspi_types.specs.DataView.{all_data}
use Rattle.atspi_marshal.specs.Input.{whole, number_in}
use Rattle.atspi_message.specs.inner.FieldsView.{found_of}
use Rattle.atspi_message.proofs.ParsingLaws.{made_from}
use Rattle.atspi_message.proofs.parsing.read.Goals as goal

pub returns : goal.returns
returns c = record {
  found = found_of c.in_ok-fields.fields;
  values = all_data c.in_ok-body.body;
  read_ = made_from c.args.bytes.now c.order_of.result c.fields_end.result (found_of c.in_ok-fields.fields) (all_data c.in_ok-body.body) c.order_of.ensures c.fields_end.ensures c.in_ok-fields.ensures c.in_ok-body.ensures;
  describes = record {
    order = c.order_of-2.ensures;
    kind = refl;
    flags = refl;
    serial = c.u32_at.ensures ∙ ap (λ (o : Order). number_in (whole o c.args.bytes.now) w32 8) c.order_of.ensures;
    path = refl;
    interface = refl;
    member = refl;
    error = refl;
    reply = refl;
    destination = refl;
    sender = refl;
    body = refl;
  };
}
