-- Words behind `Lines` that only private contracts and proofs use.
use Rattle.std.specs.Prelude.{◌≡◌, Bool, ℕ, ◌<◌, length, List, ◌∷◌}
use Rattle.atspi_run_replay.specs.Lines.{lines_read}

-- the text begins with this line, and this text follows
pub record FirstLine (ended : Bool) (text line rest : List ℕ) : Type 0 where
  pub shorter : length rest < length text
  pub lines : lines_read ended text ≡ line ∷ lines_read ended rest
