-- What a reader says on its link and speaks on its output, of all that it does.
use Rattle.std.specs.Prelude.{◌≡◌, ◌<◌, ◌≤◌, ℕ, List, [], ◌∷◌, ◌++◌, codes, fold, length}
use Rattle.atspi_auth.specs.Talk.{behind, client_start}
use Rattle.atspi_base.specs.Quoted.{quoted}
use Rattle.atspi_message.specs.Envelope.{Envelope}
use Rattle.atspi_message.specs.Bytes.{IsMessage}
use Rattle.atspi_stream.specs.Stream.{AwaitsMore, HasFault, IsParted, bytes_of}
use Rattle.atspi_protocol.specs.following.ReaderState.{Done, sends, speaks, tells_end, ReaderState, begins}
use Rattle.atspi_protocol.specs.following.Takes.{starts, reader_takes}
use Rattle.atspi_live_conversation.specs.Speech.{envelopes}

-- the line of what is spoken about an application
abbrev pub say_line : List ℕ → List ℕ → List ℕ
say_line name text = codes "say " ++ (name ++ (32 ∷ (quoted text ++ 10 ∷ [])))

-- the messages among what a reader did, and the lines
abbrev pub sent_in : List Done → List Envelope
sent_in [] = []
sent_in (sends e ∷ ds) = e ∷ sent_in ds
sent_in (speaks name text ∷ ds) = sent_in ds
sent_in (tells_end name ∷ ds) = sent_in ds

abbrev pub spoken_in : List Done → List ℕ
spoken_in [] = []
spoken_in (sends e ∷ ds) = spoken_in ds
spoken_in (speaks name text ∷ ds) = say_line name text ++ spoken_in ds
spoken_in (tells_end name ∷ ds) = spoken_in ds

-- a reader that has started and took these messages, with all that it did since
abbrev pub following : List Envelope → ReaderState
following took = fold reader_takes (starts begins) took

-- From its start on it took these messages and handed out those: what it did so far and what it has queued is all that
-- it does. None of its own has passed the last number.
pub record IsAfter (r : ReaderState) (took said : List Envelope) : Type 0 where
  pub done : List Done
  pub whole : record r { out = done ++ r.out } ≡ following took
  pub sent : sent_in done ≡ said
  pub numbered : r.next ≤ 4294967296

-- it has nothing left to hand out
abbrev pub IsEmpty : ReaderState → Type 0
IsEmpty r = r.out ≡ []

-- the message that it asks for behind one more would pass number 4,294,967,295
abbrev pub IsSpent : ReaderState → Envelope → Type 0
IsSpent r e = 4294967296 < (reader_takes r e).next

-- What is written is a front of the lines of what a reader did that took messages at the front of the bytes taken.
pub record IsSpoken (t w : List ℕ) : Type 0 where
  pub messages : List (Envelope × List ℕ)
  pub rest : List ℕ
  pub parted : IsParted (behind client_start t) messages rest
  pub done : List Done
  pub more : List Done
  pub all : done ++ more ≡ (following (envelopes messages)).out
  pub left : List ℕ
  pub front : w ++ left ≡ spoken_in done

-- What is written is all lines of what a reader did that took the whole messages of the bytes taken: behind them more
-- is awaited.
pub record IsAllSpoken (t w : List ℕ) : Type 0 where
  pub messages : List (Envelope × List ℕ)
  pub rest : List ℕ
  pub parted : IsParted (behind client_start t) messages rest
  pub awaits : AwaitsMore rest
  pub all : w ≡ spoken_in (following (envelopes messages)).out

-- the same of the messages before one that is at fault, which stands so many bytes behind the first
pub record IsSpokenToFault (start place reason : ℕ) (t w : List ℕ) : Type 0 where
  pub messages : List (Envelope × List ℕ)
  pub rest : List ℕ
  pub parted : IsParted (behind client_start t) messages rest
  pub fault : HasFault rest place reason
  pub before : start ≡ length (bytes_of messages)
  pub all : w ≡ spoken_in (following (envelopes messages)).out

-- and of those before one for which the reader would pass the last number
pub record IsSpokenToSpent (t w : List ℕ) : Type 0 where
  pub messages : List (Envelope × List ℕ)
  pub message : Envelope
  pub bytes : List ℕ
  pub rest : List ℕ
  pub parted : IsParted (behind client_start t) messages (bytes ++ rest)
  pub is : IsMessage message bytes
  pub spent : IsSpent (following (envelopes messages)) message
  pub all : w ≡ spoken_in (following (envelopes messages)).out
