use Rattle.std.proofs.Common.{◌∙◌}
use Rattle.atspi_cache.proofs.Plain.{same_word}
use Rattle.atspi_reader_known.proofs.fresh.is_word.Goals as goal

pub returns : goal.returns
returns c = c.eq.ensures ∙ same_word c.as_str.result.now c.args.text.now c.args.word.now c.utf8.word c.requires.plain c.as_str.ensures.spelled c.as_str.ensures.chars
