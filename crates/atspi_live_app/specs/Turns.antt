-- In which order an application does the lines of its input and takes its messages, by what each read of a run took.
use Rattle.std.specs.Prelude.{◌≡◌, ◌⊎◌, ◌<◌, ◌≤◌, ℕ, ◌==◌, List, [], ◌∷◌, ◌++◌, length, map, take, Option, None, Some}
use Rattle.std.specs.Prelude.{⊤, if◌then◌else◌}
use Rattle.std.specs.List.{concat}
use Rattle.atspi_auth.specs.Talk.{behind, client_start}
use Rattle.atspi_message.specs.Envelope.{Envelope}
use Rattle.atspi_stream.specs.Stream.{AwaitsMore, IsParted}
use Rattle.atspi_live_host.specs.declared.call.Call.{Call}
use Rattle.atspi_live_host.specs.declared.call.Call.TheVariants.{Listen, Accept, Connect, Read, Write, Close}
use Rattle.atspi_live_conversation.specs.Speech.{envelopes}
use Rattle.atspi_live_app.specs.Pace.{AllTake, total}
use Rattle.atspi_live_app.specs.Standing.{Event, does, lines_in, taken_in}

-- the bytes that a call read on a link, and those of each read of these calls
abbrev pub read_by : ℕ → Call → List (List ℕ)
read_by k (Listen path did) = []
read_by k (Accept did) = []
read_by k (Connect path did) = []
read_by k (Read link bytes did) = if link == k then bytes ∷ [] else []
read_by k (Write link bytes did) = []
read_by k (Close link) = []

abbrev pub pieces : ℕ → List Call → List (List ℕ)
pieces k [] = []
pieces k (c ∷ cs) = read_by k c ++ pieces k cs

-- these are all messages that are whole in the bytes of a link
pub record AreWhole (es : List Envelope) (t : List ℕ) : Type 0 where
  pub messages : List (Envelope × List ℕ)
  pub rest : List ℕ
  pub parted : IsParted (behind client_start t) messages rest
  pub awaits : AwaitsMore rest
  pub are : envelopes messages ≡ es

-- What happened before a line is in turn: the line stands before the read of the round behind those that the lines
-- before it take, and the messages before it are all that are whole in what the reads before that one took.
pub record IsBefore (reads : List (List ℕ)) (before : List Event) : Type 0 where
  pub done : List (List ℕ × ℕ)
  pub lines : map (λ (t : List ℕ × ℕ). t.0) done ≡ lines_in before
  pub timed : AllTake done
  pub begun : total done < length reads
  pub whole : AreWhole (taken_in before) (concat (take (total done) reads))

-- Before each line stands what is in turn; and of the lines that are left none is due: the first stands before no read
-- of these.
pub record IsInTurn (reads : List (List ℕ)) (history : List Event) (left : List (List ℕ)) : Type 0 where
  pub each : (before after : List Event) (line : List ℕ) → before ++ does line ∷ after ≡ history → IsBefore reads before
  pub done : List (List ℕ × ℕ)
  pub lines : map (λ (t : List ℕ × ℕ). t.0) done ≡ lines_in history
  pub timed : AllTake done
  pub due : (left ≡ []) ⊎ (length reads ≤ total done)

-- the same, where a host tells its calls
abbrev pub InTurn : ℕ → Option (List Call) → List Event → List (List ℕ) → Type 0
InTurn k None history left = ⊤
InTurn k (Some cs) history left = IsInTurn (pieces k cs) history left
