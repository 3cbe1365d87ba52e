use Rattle.std.proofs.Common.{rules}
use Rattle.atspi_browse.proofs.WordLemmas.{no_way}
use Rattle.atspi_browse.proofs.words.next_way.Goals as goal

pub returns : goal.returns
returns c = no_way c.in-Some.word.now c.in-Some.rest.now c.args.bytes.now c.in-Some.ensures.0 c.in-Some.ensures.1 (search rules) (search rules) (search rules)
