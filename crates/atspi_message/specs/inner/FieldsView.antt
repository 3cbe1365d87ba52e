-- How contracts see the fields of a header as they were read.
use Rattle.std.specs.Prelude.{Bool, true, false, Option, Some, None}
use Rattle.atspi_types.specs.Kinds.{u32}
use Rattle.atspi_types.specs.Data.{Data, number_data, text_data, path_data, signature_data}
use Rattle.atspi_types.specs.SignatureView.{signature_kinds}
use Rattle.atspi_types.specs.declared.signature.Signature.{Signature}
use Rattle.atspi_message.specs.declared.fields.Fields.{Fields}
use Rattle.atspi_message.specs.inner.Reading.{Found, some_of}

abbrev pub signature_value : Signature → Data
signature_value s = signature_data (signature_kinds s)

-- UNIX_FDS is kept where it is 0
abbrev pub descriptors_of : Bool → Option Data
descriptors_of true = Some (number_data u32 0)
descriptors_of false = None

abbrev pub found_of : Fields → Found
found_of f =
    record {
      path = some_of path_data f.path;
      interface = some_of text_data f.interface;
      member = some_of text_data f.member;
      error = some_of text_data f.error;
      reply = some_of (number_data u32) f.reply;
      destination = some_of text_data f.destination;
      sender = some_of text_data f.sender;
      signature = some_of signature_value f.signature;
      descriptors = descriptors_of f.descriptors;
    }
