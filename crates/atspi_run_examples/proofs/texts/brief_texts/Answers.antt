use Rattle.std.proofs.Common.{ℕ, List, [], ◌∷◌, ◌++◌, refl, ap, arith}
use Rattle.std.specs.Prelude.{codes}
use Rattle.std.proofs.lemmas.Fmt.{decimal_digit}
use Rattle.hex.specs.Hex.{encode_with}
use Rattle.atspi_run_examples.proofs.texts.brief_texts.Goals as goal

pub returns-clause-bytes : goal.returns-clause-bytes
unfolding encode_with
returns-clause-bytes c = refl

pub returns-clause-wired : goal.returns-clause-wired
unfolding encode_with
returns-clause-wired c =
    ap (λ (w : List ℕ). ((((codes "got bus reg " ++ (w ++ [])) ++ []) ++ 10 ∷ []) ++ []) ++ (codes "= 6c01" ++ 10 ∷ [])) (decimal_digit 5 (omega arith))

pub returns-clause-not_wired : goal.returns-clause-not_wired
returns-clause-not_wired c = ap (λ (w : List ℕ). ((((codes "got bus reg " ++ (w ++ [])) ++ []) ++ 10 ∷ []) ++ []) ++ []) (decimal_digit 5 (omega arith))
