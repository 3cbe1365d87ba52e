use Rattle.std.proofs.Common.{chars}
use Rattle.atspi_base.proofs.TextLemmas.{text_is}
use Rattle.atspi_base.proofs.text.Text.read.Goals as goal

pub invariant_of-result : goal.invariant_of-result
invariant_of-result c =
    rw (c.in_ok-from_str.ensures.ok, c.in_ok-text.ensures.lies) record {
      no_zero = (text_is c.args.bytes.now (chars c.args.bytes.now) c.in_ok-text.ensures.text).2;
      counted = c.requires;
    }
