use Rattle.std.proofs.Common.{sym, ◌∙◌}
use Rattle.atspi_message_in_place.proofs.Names.{name_is_text}
use Rattle.atspi_message_in_place.proofs.name.name_body.Goals as goal

pub from_utf8_unchecked-text-requires : goal.from_utf8_unchecked-text-requires
from_utf8_unchecked-text-requires c = name_is_text c.args.code c.slice-bytes.result.now (sym c.is_name.ensures ∙ cc)
