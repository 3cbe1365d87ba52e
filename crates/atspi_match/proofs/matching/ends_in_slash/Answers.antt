use Rattle.atspi_match.proofs.Texts.{ends-Decides}
use Rattle.atspi_match.proofs.matching.ends_in_slash.Goals as goal

pub returns : goal.returns
returns c = ends-Decides _ _ c.ends_with.ensures.value
