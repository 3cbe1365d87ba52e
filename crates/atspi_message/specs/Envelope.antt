-- What a message is, apart from where it lies in memory (D-Bus Specification, "Message Protocol").
use Rattle.std.specs.Prelude.{ℕ, List, Option}
use Rattle.atspi_types.specs.Data.{Data}
use Rattle.atspi_types.specs.DataView.{all_data}
use Rattle.atspi_types.specs.declared.fault.Order.{Order}
use Rattle.atspi_message.specs.declared.message.Message.{Message}

-- A message: the order of its bytes, its type and flags, its serial, the fields that it has, and the values of its
-- body. A name is the list of its bytes, which are also its characters.
pub record Envelope : Type 0 where
  pub order : Order
  pub kind : ℕ
  pub flags : ℕ
  pub serial : ℕ
  pub path : Option (List ℕ)
  pub interface : Option (List ℕ)
  pub member : Option (List ℕ)
  pub error : Option (List ℕ)
  pub reply : Option ℕ
  pub destination : Option (List ℕ)
  pub sender : Option (List ℕ)
  pub body : List Data

-- how contracts see a message
abbrev pub envelope_of : Message → Envelope
envelope_of m =
    record {
      order = m.order;
      kind = m.kind;
      flags = m.flags;
      serial = m.serial;
      path = m.path;
      interface = m.interface;
      member = m.member;
      error = m.error;
      reply = m.reply;
      destination = m.destination;
      sender = m.sender;
      body = all_data m.body;
    }
