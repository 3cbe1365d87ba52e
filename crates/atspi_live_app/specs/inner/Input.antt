-- Words behind `Input` that only private contracts and proofs use.
use Rattle.std.specs.Prelude.{◌≡◌, ℕ, ◌<◌, ◌+◌, List, [], ◌∷◌, Option, Result, MatchOption}
use Rattle.std.specs.Prelude.{MatchResult}
use Rattle.atspi_base.specs.declared.outside.NoMemory.{NoMemory}
use Rattle.atspi_script_lines.specs.declared.line.LineFault.{LineFault}
use Rattle.atspi_live_app.specs.inner.Asking.{AsksFor}
use Rattle.atspi_live_app.specs.declared.asking.Ask.{Ask}
use Rattle.atspi_live_app.specs.declared.input.End.{End}
use Rattle.atspi_live_app.specs.Input.{BlamesEnd, left_in}

abbrev pub Blames : Result End NoMemory → ℕ → ℕ → Type 0
Blames r before after = MatchResult r (BlamesEnd before after) (λ _. after ≡ before)

-- a line was passed, which asks for this
pub record Passes (asked : Result Ask LineFault) (text : List ℕ) (at number at' number' : ℕ) : Type 0 where
  pub line : List ℕ
  pub first : left_in text at ≡ line ∷ left_in text at'
  pub asks : AsksFor asked line
  pub counted : number + 1 < 18446744073709551616 → number' ≡ number + 1

-- the next line was passed, or none was left
abbrev pub NextAsk : Option (Result Ask LineFault) → List ℕ → ℕ → ℕ → List ℕ → ℕ → ℕ → Type 0
NextAsk next text at number text' at' number' =
    (text' ≡ text)
    × MatchOption next ((left_in text at ≡ []) × (at' ≡ at) × (number' ≡ number))
    (λ asked. Passes asked text at number at' number')
