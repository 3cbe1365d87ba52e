use Rattle.std.proofs.Common.{◌∙◌}
use Rattle.atspi_reader_news.proofs.Same.{same_texts}
use Rattle.atspi_reader_news.proofs.words.is_same.Goals as goal

pub returns : goal.returns
returns c = c.eq.ensures ∙ same_texts c.args.text.now c.args.other.now c.utf8.text c.utf8.other
