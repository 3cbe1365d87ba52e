-- Words behind `Handed` that only private contracts and proofs use.
use Rattle.std.specs.Prelude.{◌≡◌, ℕ, Bool, List, [], ◌∷◌, Option, None, Some}
use Rattle.atspi_message.specs.Envelope.{Envelope}
use Rattle.atspi_protocol.specs.following.ReaderState.{ReaderState}
use Rattle.atspi_live_reader.specs.Spoken.{spoken_in}
use Rattle.atspi_live_reader.specs.Handed.{KeepsLine, GivesSo}

abbrev pub HandsAll : {M : Type 0} → (M → Envelope) → Option M → ReaderState → ReaderState → Bool → Bool → List ℕ
    → List ℕ → Type 0
HandsAll seen None old new starved starved' lines lines' = GivesSo [] old new starved starved' lines lines'
HandsAll seen (Some m) old new starved starved' lines lines' =
    GivesSo (seen m ∷ []) old new starved starved' lines lines'

-- all that it did was handed over, and nothing else changed
pub record GivesRest (old new : ReaderState) (starved starved' : Bool) (lines lines' : List ℕ) : Type 0 where
  pub whole : old ≡ record new { out = old.out }
  pub kept : KeepsLine starved starved' lines lines' (spoken_in old.out)
