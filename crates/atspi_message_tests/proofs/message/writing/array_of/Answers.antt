use Rattle.atspi_marshal.proofs.PlainBodies.{array_typed}
use Rattle.atspi_message_tests.proofs.message.writing.array_of.Goals as goal

pub returns : goal.returns
returns c = array_typed c.in_ok-bytes.bytes.items c.from_bytes.result c.from_bytes.ensures
