use Rattle.std.proofs.Common.{◌∙◌}
use Rattle.atspi_reader_told.proofs.Texts.{empty_text}
use Rattle.atspi_reader_told.proofs.ended.is_nobody.Goals as goal

pub returns : goal.returns
returns c = c.is_empty.ensures ∙ empty_text c.args.owner.now c.utf8.owner
