use Rattle.atspi_whole_tree.proofs.Read.{caret_read}
use Rattle.atspi_whole_tree.proofs.reading.caret_at.Goals as goal

pub returns : goal.returns
returns g c = caret_read _ c.args.node c.caret.result c.requires c.caret.ensures
