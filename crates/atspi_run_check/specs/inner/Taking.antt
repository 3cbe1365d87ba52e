-- A stream of messages that is taken in piece by piece, with its lines on their way to a sink.
use Rattle.std.specs.Prelude.{◌≡◌, ◌<◌, ◌≤◌, ℕ, List, [], ◌++◌, length, Option, MatchOption, Result, MatchResult}
use Rattle.std.specs.Io.KnownBytes.{Appends, Consumes, IsAtEnd}
use Rattle.atspi_types.specs.declared.fault.Fault.{Fault}
use Rattle.atspi_base.specs.Outside.{Rose, AppendsPart}
use Rattle.atspi_message.specs.Envelope.{Envelope}
use Rattle.atspi_stream.specs.Stream.{AwaitsMore, HasFault, IsParted}
use Rattle.atspi_run_check.specs.Check.{check_lines, CheckedAll, CheckedFault, CheckedTaken, CheckedLimit, CheckedSome}
use Rattle.atspi_run_check.specs.Check.{Writes, WritesPart}
use Rattle.atspi_run_check.specs.declared.lines.Halt.{Halt}
use Rattle.atspi_run_check.specs.declared.lines.Halt.TheVariants as halts
use Rattle.atspi_run_check.specs.declared.checking.TheConstants.{CHECK_LIMIT}
use Rattle.atspi_run_check.specs.declared.checking.End.{End}
use Rattle.atspi_run_check.specs.declared.checking.End.TheVariants.{Whole, TooLong, Failed, Malformed, Halted}

-- behind what waited this text was put: a part was written, and the rest waits
abbrev pub Puts : List ℕ → List ℕ → Option (List ℕ) → Option (List ℕ) → List ℕ → Type 0
Puts waited waits old new text = (part : List ℕ) × (part ++ waits ≡ waited ++ text) × Appends old new part

-- the count rose where the sink failed, and else is the same
abbrev pub BlamesHalt : ℕ → ℕ → Halt → Type 0
BlamesHalt before after halts.Write = (before ≤ after) × Rose before after
BlamesHalt before after halts.NoMemory = after ≡ before

abbrev pub BlamesLines : {T : Type 0} → Result T Halt → ℕ → ℕ → Type 0
BlamesLines r before after = MatchResult r (λ _. after ≡ before) (BlamesHalt before after)

-- what is held behind whole messages awaits more, or has a fault
abbrev pub EndsIn : Option Fault → List ℕ → Type 0
EndsIn fault held = MatchOption fault (AwaitsMore held) (λ f. HasFault held f.place f.reason)

-- the whole messages that were held, the first with so many bytes before it, were put as lines
pub record Told (fault : Option Fault) (start : ℕ) (old new waited waits : List ℕ) (w w' : Option (List ℕ))
    : Type 0 where
  pub messages : List (Envelope × List ℕ)
  pub parted : IsParted old messages new
  pub end : EndsIn fault new
  pub puts : Puts waited waits w w' (check_lines start messages)

-- the first of them were, and of what waited then a part was written
pub record ToldPart (start : ℕ) (old waited : List ℕ) (w w' : Option (List ℕ)) : Type 0 where
  pub messages : List (Envelope × List ℕ)
  pub rest : List ℕ
  pub parted : IsParted old messages rest
  pub part : AppendsPart w w' (waited ++ check_lines start messages)

-- the whole messages that were held were written as lines, and nothing waits
pub record Shown (fault : Option Fault) (start : ℕ) (old new : List ℕ) (w w' : Option (List ℕ)) : Type 0 where
  pub messages : List (Envelope × List ℕ)
  pub parted : IsParted old messages new
  pub end : EndsIn fault new
  pub written : Appends w w' (check_lines start messages)

-- What was taken of a source, of whose whole messages the lines were written. What is past the limit is not fed.
pub record Took (left left' : Option (List ℕ)) (held : List ℕ) (fed : ℕ) (w w' : Option (List ℕ)) : Type 0 where
  pub read : List ℕ
  pub more : List ℕ
  pub messages : List (Envelope × List ℕ)
  pub consumed : Consumes left left' (read ++ more)
  pub parted : IsParted read messages held
  pub counted : length read ≡ fed
  pub within : fed ≤ CHECK_LIMIT
  pub written : Appends w w' (check_lines 0 messages)

-- what was taken where the lines could not all be put
pub record TookPart (left left' : Option (List ℕ)) (w w' : Option (List ℕ)) : Type 0 where
  pub read : List ℕ
  pub more : List ℕ
  pub messages : List (Envelope × List ℕ)
  pub rest : List ℕ
  pub consumed : Consumes left left' (read ++ more)
  pub parted : IsParted read messages rest
  pub part : AppendsPart w w' (check_lines 0 messages)

-- how taking ended
abbrev pub TakesIn : End → Option (List ℕ) → Option (List ℕ) → List ℕ → ℕ → Option (List ℕ) → Option (List ℕ) → Type 0
TakesIn Whole left left' held fed w w' = (t : Took left left' held fed w w') × (t.more ≡ []) × AwaitsMore held
    × IsAtEnd left'
TakesIn TooLong left left' held fed w w' = (t : Took left left' held fed w w') × (0 < length t.more)
    × (fed ≡ CHECK_LIMIT) × AwaitsMore held
TakesIn Failed left left' held fed w w' = (t : Took left left' held fed w w') × (t.more ≡ []) × AwaitsMore held
TakesIn (Malformed f) left left' held fed w w' = Took left left' held fed w w' × HasFault held f.place f.reason
TakesIn (Halted halt) left left' held fed w w' = TookPart left left' w w'

-- the count of the source rose where it failed, and else is the same
abbrev pub BlamesSource : ℕ → ℕ → End → Type 0
BlamesSource before after Failed = Rose before after
BlamesSource before after _ = after ≡ before

-- the count of the sink rose where that failed, and else is the same
abbrev pub BlamesSink : ℕ → ℕ → End → Type 0
BlamesSink before after (Halted halt) = BlamesHalt before after halt
BlamesSink before after _ = after ≡ before

-- the status says what was written of the input
pub data Ends (status : ℕ) (left left' w w' : Option (List ℕ)) : Type 0 where
  whole_end : status ≡ 0 → IsAtEnd left' → Writes left w w' (CheckedAll CHECK_LIMIT) → Ends status left left' w w'
  read_end : status ≡ 3 → Writes left w w' (CheckedTaken left') → Ends status left left' w w'
  write_end : status ≡ 4 → WritesPart left w w' (CheckedSome CHECK_LIMIT) → Ends status left left' w w'
  memory_end : status ≡ 5 → WritesPart left w w' (CheckedSome CHECK_LIMIT) → Ends status left left' w w'
  fault_end : status ≡ 6 → Writes left w w' (CheckedFault CHECK_LIMIT) → Ends status left left' w w'
  limit_end : status ≡ 8 → Writes left w w' (CheckedLimit CHECK_LIMIT) → Ends status left left' w w'

-- the status of lines that could not all be put
abbrev pub halt_status : Halt → ℕ
halt_status halts.Write = 4
halt_status halts.NoMemory = 5
