use Rattle.std.proofs.Common.{rules}
use Rattle.atspi_reader_known.proofs.Refusals.{none_same}
use Rattle.atspi_reader_known.proofs.refused.Parts.new.Goals as goal

pub returns : goal.returns
returns c = none_same _ (λ q. search rules) (λ q. search rules) (λ q. search rules)
