use Rattle.std.proofs.Common.{rules}
use Rattle.atspi_browse.proofs.WordLemmas.{is_unit, not_unit}
use Rattle.atspi_browse.proofs.reading.read_unit_line.Goals as goal

pub returns-then-ne : goal.returns-then-ne
returns-then-ne c = not_unit c.split_word.result.0.now c.split_word.result.1.now c.args.bytes.now c.split_word.ensures.all c.split_word.ensures.free c.split_word.ensures.behind (search rules)

pub returns : goal.returns
returns c = is_unit c.split_word.result.0.now c.split_word.result.1.now c.args.bytes.now c.line_of.result c.split_word.ensures.all c.split_word.ensures.free c.split_word.ensures.behind (search rules) c.line_of.ensures
