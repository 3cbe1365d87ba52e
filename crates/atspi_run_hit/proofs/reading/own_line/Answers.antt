use Rattle.atspi_run_hit.proofs.OwnLines.{own_read}
use Rattle.atspi_run_hit.proofs.reading.own_line.Goals as goal

pub returns : goal.returns
returns c = own_read c.split_word.result.0.now c.split_word.result.1.now c.args.bytes.now c.own_of.result c.split_word.ensures.all c.split_word.ensures.free c.split_word.ensures.behind c.own_of.ensures
