use Rattle.std.proofs.Common.{chars, arith}
use Rattle.atspi_units.proofs.CharLemmas.{char_is}
use Rattle.atspi_units.proofs.unit.char_at.Goals as goal

pub returns : goal.returns
returns c = char_is (chars c.args.text.now) c.args.at (omega (arith, c.count.ensures, c.if-count-at.false))
