-- The line that tells a message at fault.
use Rattle.std.specs.Prelude.{ℕ, List, [], ◌∷◌, ◌++◌, codes}
use Rattle.std.specs.Fmt.{decimal}

-- `fault START PLACE REASON`
abbrev pub fault_line : ℕ → ℕ → ℕ → List ℕ
fault_line start place reason = codes "fault "
    ++ (decimal start ++ (codes " " ++ (decimal place ++ (codes " " ++ (decimal reason ++ 10 ∷ [])))))
