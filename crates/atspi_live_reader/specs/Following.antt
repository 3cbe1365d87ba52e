-- A reader that speaks while it converses.
use Rattle.std.specs.Prelude.{◌≡◌, ◌⊎◌, ◌≤◌, ℕ, ◌+◌, true, false, List, [], ◌++◌, Option, None, Some, ⊤}
use Rattle.std.specs.Io.KnownBytes.{Appends}
use Rattle.atspi_base.specs.Outside.{AppendsPart, Rose}
use Rattle.atspi_message.specs.Envelope.{Envelope}
use Rattle.atspi_reader.specs.ReaderOf.{reader_of}
use Rattle.atspi_live_host.specs.declared.call.Call.{Call}
use Rattle.atspi_live_host.specs.Calls.{taken}
use Rattle.atspi_live_conversation.specs.Left.{IsLeft}
use Rattle.atspi_live_conversation.specs.Rounds.{AreRounds, Breaks, IsRound, IsRun}
use Rattle.atspi_live_conversation.specs.Speech.{Ends, Speaks}
use Rattle.atspi_live_conversation.specs.Talking.{Blames, Going}
use Rattle.atspi_live_conversation.specs.declared.conversation.Conversation.{Conversation}
use Rattle.atspi_live_conversation.specs.declared.ending.Ending.{Ending}
use Rattle.atspi_live_conversation.specs.declared.ending.Ending.TheVariants as endings
use Rattle.atspi_live_reader.specs.Spoken.{IsAfter, IsEmpty, IsSpent, IsSpoken}
use Rattle.atspi_live_reader.specs.Handed.{Follows}
use Rattle.atspi_live_reader.specs.Shows.{last_words}
use Rattle.atspi_live_reader.specs.declared.live_reader.LiveReader.{LiveReader}
use Rattle.atspi_live_reader.specs.declared.over.Over.{Over}
use Rattle.atspi_live_reader.specs.declared.over.Over.TheVariants as overs

-- what a live reader did, where these bytes were written
abbrev pub Stands : List ℕ → LiveReader → List Envelope → List Envelope → Type 0
Stands written l took said = Follows written (reader_of l.reader) l.starved l.lines took said

-- no line is to be written, and for none memory was wanting
pub record IsQuiet (l : LiveReader) : Type 0 where
  pub fed : l.starved ≡ false
  pub none : l.lines ≡ []

-- the lines were written
pub record SpeaksOn (old new : LiveReader) (w w' : Option (List ℕ)) : Type 0 where
  pub wrote : Appends w w' old.lines
  pub fed : old.starved ≡ false
  pub same : new.reader ≡ old.reader
  pub quiet : IsQuiet new

-- where host and sink tell: what was written is a front of what is spoken for the bytes that were taken
abbrev pub SpeaksUp : ℕ → Option (List Call) → List ℕ → Type 0
SpeaksUp k None w = ⊤
SpeaksUp k (Some cs) w = IsSpoken (taken k cs) w

-- why the lines were not all written
abbrev pub IsMuted : Over → LiveReader → Option (List ℕ) → Option (List ℕ) → Type 0
IsMuted (overs.Ended ending) l w w' = (ending ≡ endings.NoMemory) × (w' ≡ w)
IsMuted overs.NotWritten l w w' = (l.starved ≡ false) × AppendsPart w w' l.lines

-- the conversation went on, and some lines were written
pub record GoesOn (k : ℕ) (calls calls' : Option (List Call)) (c c' : Conversation) (old new : LiveReader)
    (w w' : Option (List ℕ)) : Type 0 where
  pub line : List ℕ
  pub wrote : Appends w w' line
  pub goes : (written : List ℕ) (n : ℕ) → Going (Stands written) k calls n c old
      → Going (Stands (written ++ line)) k calls' (n + 1) c' new

-- how a run is over: by its ending, or because the sink failed
abbrev pub IsEndedSo : ℕ → Over → ℕ → Option (List Call) → Type 0
IsEndedSo k (overs.Ended ending) rounds calls = Ends IsAfter IsSpent k ending rounds calls
IsEndedSo k overs.NotWritten rounds calls = ⊤

-- a run that is over, in which these bytes were written before: what was said, what was written, and why it ended
pub record IsOver (k : ℕ) (over : Over) (rounds : ℕ) (written : List ℕ) (calls : Option (List Call))
    (w w' : Option (List ℕ)) : Type 0 where
  pub line : List ℕ
  pub wrote : Appends w w' line
  pub speaks : Speaks IsAfter k calls
  pub speaks_up : SpeaksUp k calls (written ++ line)
  pub so : IsEndedSo k over rounds calls

-- a message for which it would pass the last number
abbrev pub IsSpentIn : LiveReader → Envelope → Type 0
IsSpentIn l e = IsSpent (reader_of l.reader) e

-- a turn in which the run was over otherwise than by the sink: nothing was written in it, and so the reader stands that
-- had written these bytes before
abbrev pub EndsTurn : ℕ → Over → List ℕ → Option (List Call) → Option (List ℕ) → Option (List ℕ) → LiveReader → Type 0
EndsTurn k (overs.Ended ending) written calls w w' l = (w' ≡ w) × IsLeft (Stands written) IsSpentIn k ending calls l
EndsTurn k overs.NotWritten written calls w w' l = ⊤

-- the same of the run: what was written in it
abbrev pub EndsRun : ℕ → Over → Option (List Call) → Option (List ℕ) → Option (List ℕ) → LiveReader → Type 0
EndsRun k (overs.Ended ending) calls w w' l = (written : List ℕ) × Appends w w' written
    × IsLeft (Stands written) IsSpentIn k ending calls l
EndsRun k overs.NotWritten calls w w' l = ⊤

-- these are the words: the lines that were not written yet, and the last ones; where memory was wanting for a line they
-- are not known
abbrev pub AreWords : LiveReader → Ending → List ℕ → Type 0
AreWords l ending words = (l.starved ≡ true) ⊎ (words ≡ l.lines ++ last_words ending (reader_of l.reader))

-- the status of a run whose last words were not all written: the sink failed, or memory was wanting
abbrev pub IsUntold : ℕ → Type 0
IsUntold status = (status ≡ 4) ⊎ (status ≡ 5)

-- only a front of some words was written then
abbrev pub WritesPart : ℕ → List ℕ → Option (List ℕ) → Option (List ℕ) → Type 0
WritesPart status words w w' = IsUntold status × AppendsPart w w' words

-- the calls of a turn that ended the run, before which these bytes were taken and those given
abbrev pub BreaksOver : ℕ → ℕ → Over → List ℕ → List ℕ → List Call → Type 0
BreaksOver k most (overs.Ended ending) t g calls = Breaks IsAfter IsEmpty k most ending t g calls
BreaksOver k most overs.NotWritten t g calls = IsRound IsAfter IsEmpty k most t g calls

-- the calls of a run that is over so: whole rounds, and the one in which it ended; where the sink failed, whole rounds
-- alone
abbrev pub RunsOver : ℕ → Over → ℕ → List Call → Type 0
RunsOver k (overs.Ended ending) rounds calls = IsRun (λ _. IsAfter) IsEmpty k 4096 ending rounds calls
RunsOver k overs.NotWritten rounds calls = (whole : ℕ) × (whole ≤ rounds)
    × AreRounds (λ _. IsAfter) IsEmpty k 4096 whole calls

-- the counts of the host and of the sink: each rose where it failed, and else is the same
abbrev pub OverBlames : Over → ℕ → ℕ → Type 0
OverBlames (overs.Ended ending) before after = Blames ending before after
OverBlames overs.NotWritten before after = after ≡ before

abbrev pub BlamesSink : Over → ℕ → ℕ → Type 0
BlamesSink (overs.Ended ending) before after = after ≡ before
BlamesSink overs.NotWritten before after = (before ≤ after) × Rose before after
