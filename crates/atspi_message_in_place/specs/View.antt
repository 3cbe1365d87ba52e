-- How contracts see what is borrowed from the bytes of a message.
use Rattle.std.specs.Prelude.{◌≡◌, ℕ, List, Option, Some, None, Result, Ok, Err}
use Rattle.std.specs.Borrow.{Bor}
use Rattle.atspi_types.specs.Kinds.{u32, kinds_of}
use Rattle.atspi_types.specs.Data.{Data, number_data, text_data, path_data, signature_data}
use Rattle.atspi_types.specs.declared.fault.Fault.{Fault}
use Rattle.atspi_marshal_in_place.specs.codes.TyRefs.{refs_kinds}
use Rattle.atspi_marshal_in_place.specs.declared.codes.types.TysRef.{TysRef}
use Rattle.atspi_marshal_in_place.specs.Items.{fields_data}
use Rattle.atspi_message.specs.Envelope.{Envelope}
use Rattle.atspi_message.specs.inner.FieldsView.{descriptors_of}
use Rattle.atspi_message.specs.inner.Reading.{Found, some_of}
use Rattle.atspi_message_in_place.specs.declared.header.Header.{Header}
use Rattle.atspi_message_in_place.specs.declared.message.MessageRef.{MessageRef}

-- a name, as the list of its bytes
abbrev pub bytes_of : Option (Bor (List ℕ)) → Option (List ℕ)
bytes_of (Some name) = Some name.now
bytes_of None = None

-- types as the value of SIGNATURE
abbrev pub types_value : TysRef → Data
types_value ts = signature_data (kinds_of (refs_kinds ts))

-- the fields of a header as they were read
abbrev pub found_in : Header → Found
found_in h =
    record {
      path = some_of path_data (bytes_of h.path);
      interface = some_of text_data (bytes_of h.interface);
      member = some_of text_data (bytes_of h.member);
      error = some_of text_data (bytes_of h.error);
      reply = some_of (number_data u32) h.reply;
      destination = some_of text_data (bytes_of h.destination);
      sender = some_of text_data (bytes_of h.sender);
      signature = some_of types_value h.signature;
      descriptors = descriptors_of h.descriptors;
    }

-- the message that lies in the bytes
abbrev pub envelope_at : MessageRef → Envelope
envelope_at m =
    record {
      order = m.order;
      kind = m.kind;
      flags = m.flags;
      serial = m.serial;
      path = bytes_of m.path;
      interface = bytes_of m.interface;
      member = bytes_of m.member;
      error = bytes_of m.error;
      reply = m.reply;
      destination = bytes_of m.destination;
      sender = bytes_of m.sender;
      body = fields_data m.body;
    }

-- What a function returned, seen by view, is what reading gives.
abbrev pub Reads : {X Y : Type 0} → (X → Y) → Result X Fault → Result Y Fault → Type 0
Reads view (Ok x) read = read ≡ Ok (view x)
Reads view (Err f) read = read ≡ Err f
