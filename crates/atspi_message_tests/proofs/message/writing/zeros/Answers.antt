use Rattle.atspi_types.specs.DataView.{all_data}
use Rattle.atspi_marshal.proofs.PlainBodies.{plain_typed}
use Rattle.atspi_message_tests.proofs.message.writing.zeros.Goals as goal

pub returns : goal.returns
returns c = plain_typed c.in_ok-bytes.bytes.items (all_data c.from_bytes.result) c.from_bytes.ensures
