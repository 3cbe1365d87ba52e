-- WHICH LAWS OF THE HEADLINE every lawful trace of a script keeps, in one run that has its lines and its entries.
use Rattle.std.specs.Prelude.{◌≡◌, ℕ, false, List}
use Rattle.std.specs.List.{AllByRecursion}
use Rattle.atspi_script_lines.specs.declared.line.Line.{Line}
use Rattle.atspi_script_lines.specs.Line.{Spells}
use Rattle.atspi_trace.specs.Entry.{Entry}
use Rattle.atspi_trace.specs.Due.{begins, at_work, after_all, is_lost, Lawful}
use Rattle.atspi_headline.specs.Words.{Act, lines_in, entries_in, starting, of_registry, of_reader, hearing, writes_a}
use Rattle.atspi_headline.specs.Words.{Everywhere, Unless, AreDue}
use Rattle.atspi_headline.specs.Headline.{BeginsWithLine, start_due, registry_words_due, hearing_due, CallsAre}
use Rattle.atspi_headline.specs.Headline.{NothingBehind, LawOfSteps, LawOfApplications, LawOfReaders, LawOfShownRows}
use Rattle.atspi_headline.specs.Headline.{LawOfSpokenLines, LawOfExits}

-- each line is one that bytes spell
abbrev pub IsSpelled : Line → Type 0
IsSpelled line = (bytes : List ℕ) × Spells line bytes

-- a lawful trace of such lines, behind which the registry is there
pub record IsWhole (lines : List Line) (trace : List Entry) : Type 0 where
  pub spelled : AllByRecursion IsSpelled lines
  pub lawful : Lawful lines trace
  pub there : is_lost (at_work (after_all (begins lines) trace)).world ≡ false

-- some run has these lines and this trace, and keeps these laws
pub record HasRun (Laws : List Act → Type 0) (lines : List Line) (trace : List Entry) : Type 0 where
  pub run : List Act
  pub of_lines : lines_in run ≡ lines
  pub of_trace : entries_in run ≡ trace
  pub keeps : Laws run

abbrev pub OfEachTrace : (List Act → Type 0) → Type 0
OfEachTrace Laws = (lines : List Line) (trace : List Entry) → IsWhole lines trace → HasRun Laws lines trace

-- A run begins with a line, and an end starts behind its line, and nowhere else
pub record StartsFollowTheirLines (run : List Act) : Type 0 where
  pub begins : BeginsWithLine run
  pub starts : AreDue false starting start_due run

-- The registry sends what its step sends, from the state that the run tells, behind what it takes, and nowhere else
abbrev pub RegistrySendsItsStep : List Act → Type 0
RegistrySendsItsStep run = AreDue false of_registry registry_words_due run

-- What an application hears of changes directly behind the registry's signal, or the return to its third call, which
-- lists all pairs; and nowhere else
abbrev pub ApplicationsHear : List Act → Type 0
ApplicationsHear run = AreDue false hearing hearing_due run

-- Behind a reader's start stands its Hello, behind its line its user's call, behind a message that it took at most one
-- call of its own, and a reader sends nothing else
abbrev pub CallsBehind : List Act → Act → List Act → Type 0
CallsBehind before act behind = Unless (writes_a of_reader act) (CallsAre false before act behind)

abbrev pub ReadersCallInTurn : List Act → Type 0
ReadersCallInTurn run = Everywhere CallsBehind run

-- Of an end that was dropped nothing stands behind that, and behind the registry nothing at all
abbrev pub NothingFollowsADrop : List Act → Type 0
NothingFollowsADrop run = Everywhere NothingBehind run

-- ALL THAT IS PROVED, of one run: the laws of steps, of applications, of registry, hearing and readers, of shown rows,
-- of spoken lines and of exits, whole; of the law of segments that a run begins with a line, and where ends start; of
-- that of dropped ends that nothing of one stands behind its drop
pub record ProvedLaws (run : List Act) : Type 0 where
  pub starts : StartsFollowTheirLines run
  pub steps : LawOfSteps false run
  pub applications : LawOfApplications false run
  pub readers : LawOfReaders false run
  pub shown : LawOfShownRows false run
  pub spoken : LawOfSpokenLines false run
  pub exits : LawOfExits false run
  pub drops : NothingFollowsADrop run
