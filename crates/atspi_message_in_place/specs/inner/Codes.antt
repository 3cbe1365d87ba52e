-- The known fields of a header: six are names.
use Rattle.atspi_message.specs.declared.code.Code.{Code}
use Rattle.atspi_message.specs.declared.code.Code.TheVariants as codes
use Rattle.atspi_message_in_place.specs.declared.code.NameCode.{NameCode}
use Rattle.atspi_message_in_place.specs.declared.code.NameCode.TheVariants.{Path, Interface, Member, Error, Destination}
use Rattle.atspi_message_in_place.specs.declared.code.NameCode.TheVariants.{Sender}
use Rattle.atspi_message_in_place.specs.declared.code.Code.{Code as Known}
use Rattle.atspi_message_in_place.specs.declared.code.Code.TheVariants.{Name, Reply, Signature, Descriptors}

abbrev pub name_code : NameCode → Code
name_code Path = codes.Path
name_code Interface = codes.Interface
name_code Member = codes.Member
name_code Error = codes.Error
name_code Destination = codes.Destination
name_code Sender = codes.Sender

abbrev pub field_code : Known → Code
field_code (Name n) = name_code n
field_code Reply = codes.Reply
field_code Signature = codes.Signature
field_code Descriptors = codes.Descriptors
