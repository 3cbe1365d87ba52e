use Rattle.std.proofs.Common.{◌∷◌, ◌++◌, [], ap, lit<}
use Rattle.std.specs.Prelude.{codes}
use Rattle.std.proofs.lemmas.Fmt.{decimal_digit}
use Rattle.atspi_speech.proofs.examples.secrets.Goals as goal

pub returns : goal.returns
returns c = record {
  typed = ap (λ d. (codes "typed: " ++ (d ++ codes " characters")) ∷ []) (decimal_digit 2 (lit< tt));
  one = ap (λ d. (codes "deleted: " ++ (d ++ codes " characters")) ∷ []) (decimal_digit 1 (lit< tt));
}
