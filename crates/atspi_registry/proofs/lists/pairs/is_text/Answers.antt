use Rattle.std.proofs.Common.{◌∙◌}
use Rattle.atspi_registry.proofs.OfLists.Same.{same_text}
use Rattle.atspi_registry.proofs.lists.pairs.is_text.Goals as goal

pub returns : goal.returns
returns c = c.is_same.ensures ∙ same_text c.as_str.result.now c.args.other.now c.args.text.now c.as_str.utf8 c.utf8.other c.as_str.ensures.chars
