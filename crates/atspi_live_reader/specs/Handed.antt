-- What is handed over of what a reader did, for its link and as lines.
use Rattle.std.specs.Prelude.{◌≡◌, ◌⊎◌, ℕ, Bool, true, List, [], ◌∷◌, ◌++◌}
use Rattle.atspi_message.specs.Envelope.{Envelope, envelope_of}
use Rattle.atspi_protocol.specs.following.ReaderState.{Done, sends, ReaderState}
use Rattle.atspi_reader.specs.Steps.{IsState}
use Rattle.atspi_live_reader.specs.Spoken.{following, sent_in, spoken_in}
use Rattle.atspi_live_reader.specs.declared.handed.Handed.{Handed}
use Rattle.atspi_live_reader.specs.declared.handed.Handed.TheVariants as handed

-- lines stand behind the others, or memory was wanting for one
abbrev pub KeepsLine : Bool → Bool → List ℕ → List ℕ → List ℕ → Type 0
KeepsLine starved starved' lines lines' line = (starved' ≡ true) ⊎ ((starved' ≡ starved) × (lines' ≡ lines ++ line))

-- these are the oldest things that it did, and their lines were kept
pub record Gives (old new : ReaderState) (done : List Done) (starved starved' : Bool) (lines lines' : List ℕ)
    : Type 0 where
  pub whole : old ≡ record new { out = done ++ new.out }
  pub kept : KeepsLine starved starved' lines lines' (spoken_in done)

-- the oldest thing that it did: a message, or none
abbrev pub HandsOver : Handed → ReaderState → ReaderState → Bool → Bool → List ℕ → List ℕ → Type 0
HandsOver (handed.Message m) old new starved starved' lines lines' =
    Gives old new (sends (envelope_of m) ∷ []) starved starved' lines lines'
HandsOver handed.Aside old new starved starved' lines lines' = (d : Done) × (sent_in (d ∷ []) ≡ [])
    × Gives old new (d ∷ []) starved starved' lines lines'
HandsOver handed.Nothing old new starved starved' lines lines' = Gives old new [] starved starved' lines lines'

-- the oldest things that it did, with these messages among them
pub record GivesSo (messages : List Envelope) (old new : ReaderState) (starved starved' : Bool) (lines lines' : List ℕ)
    : Type 0 where
  pub done : List Done
  pub sent : sent_in done ≡ messages
  pub gives : Gives old new done starved starved' lines lines'

-- bytes that stand at the front of all
abbrev pub IsFrontOf : List ℕ → List ℕ → Type 0
IsFrontOf front all = (left : List ℕ) × (front ++ left ≡ all)

-- From its start on a reader took these messages and handed out those; with the lines that are to be written the bytes
-- that were written are all that it spoke. Or memory was wanting for a line, and they are a front of that.
pub record Follows (written : List ℕ) (r : ReaderState) (starved : Bool) (lines : List ℕ) (took said : List Envelope)
    : Type 0 where
  pub is : IsState r
  pub done : List Done
  pub whole : record r { out = done ++ r.out } ≡ following took
  pub sent : sent_in done ≡ said
  pub told : ((starved ≡ true) × IsFrontOf written (spoken_in done)) ⊎ (written ++ lines ≡ spoken_in done)
