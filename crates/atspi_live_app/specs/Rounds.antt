-- The calls of a run, round by round, where an application does the lines of its input and takes its messages in turn.
use Rattle.std.specs.Prelude.{◌<◌, ℕ, List, take, Option}
use Rattle.atspi_message.specs.Envelope.{Envelope}
use Rattle.atspi_live_host.specs.declared.call.Call.{Call}
use Rattle.atspi_live_conversation.specs.Rounds.{AreRounds, IsRun}
use Rattle.atspi_protocol.specs.exporting.Exporter.{Exporter}
use Rattle.atspi_live_app.specs.Pace.{IsPaced, StopsAt, begun_by}
use Rattle.atspi_live_app.specs.Standing.{IsAfter, IsEmpty}
use Rattle.atspi_live_app.specs.Turns.{IsInTurn, pieces}
use Rattle.atspi_live_app.specs.declared.over.Over.{Over}
use Rattle.atspi_live_app.specs.declared.over.Over.TheVariants as overs

-- what an application has done where so many rounds of a run with these calls have begun: what is in turn by what their
-- reads took
abbrev pub IsAfterReads : ℕ → List (List ℕ) → List Call → ℕ → Option Exporter → List Envelope → List Envelope → Type 0
IsAfterReads k lines calls begun = IsAfter (IsInTurn (take begun (pieces k calls))) lines

-- the calls of a run that is over so, and the lines that were done before its reads
abbrev pub RunsPaced : List (List ℕ) → ℕ → Over → ℕ → List Call → Type 0
RunsPaced lines k (overs.Ended ending) rounds calls =
    (run : IsRun (IsAfterReads k lines calls) IsEmpty k 4096 ending rounds calls)
    × IsPaced lines (begun_by ending run.whole)
RunsPaced lines k (overs.Stopped stop) rounds calls = (whole : ℕ) × (whole < rounds)
    × AreRounds (IsAfterReads k lines calls) IsEmpty k 4096 whole calls × StopsAt lines whole
