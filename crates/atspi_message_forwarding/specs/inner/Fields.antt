-- The fields of a header that are names.
use Rattle.atspi_message.specs.declared.code.Code.{Code}
use Rattle.atspi_message.specs.declared.code.Code.TheVariants as codes
use Rattle.atspi_message_forwarding.specs.declared.field.NameField.{NameField}
use Rattle.atspi_message_forwarding.specs.declared.field.NameField.TheVariants.{Interface, Member, Error, Destination}
use Rattle.atspi_message_forwarding.specs.declared.field.NameField.TheVariants.{Sender}

-- as one of all fields
abbrev pub code_for : NameField → Code
code_for Interface = codes.Interface
code_for Member = codes.Member
code_for Error = codes.Error
code_for Destination = codes.Destination
code_for Sender = codes.Sender
