-- Words that only the private contracts and proofs beside `Texts` use.
use Rattle.std.specs.Prelude.{ℕ, Option, None, Some}

-- a character's code point, 0 where there is none
abbrev pub code_of : Option ℕ → ℕ
code_of None = 0
code_of (Some c) = c
