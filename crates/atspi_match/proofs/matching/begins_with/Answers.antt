use Rattle.atspi_match.proofs.Texts.{begins-Decides}
use Rattle.atspi_match.proofs.matching.begins_with.Goals as goal

pub returns : goal.returns
returns c = begins-Decides _ _ _ c.starts_with.ensures.value
