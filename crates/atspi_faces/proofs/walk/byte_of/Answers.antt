use Rattle.std.proofs.Common.{◌∙◌, arith}
use Rattle.atspi_base.proofs.PlaceLemmas.{cut_ascii, cut_end}
use Rattle.atspi_faces.proofs.walk.byte_of.Goals as goal

pub returns-then-text-count : goal.returns-then-text-count
returns-then-text-count c = cut_ascii _ _ c.utf8.text (c.if-text-count.true ∙ c.requires.counted) (omega arith)

pub returns-then-at-count : goal.returns-then-at-count
returns-then-at-count c = cut_end _ _ c.utf8.text (c.if-at-count.true ∙ c.requires.counted)
