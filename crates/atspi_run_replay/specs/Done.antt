-- What lines of a script come to: a lawful trace of them.
use Rattle.std.specs.Prelude.{◌≡◌, ◌⊎◌, ℕ, false, List, [], ◌∷◌, ◌++◌, None, Some}
use Rattle.std.specs.List.{AllByRecursion}
use Rattle.atspi_script_lines.specs.declared.line.Line.{Line}
use Rattle.atspi_script_lines.specs.Line.{Spells}
use Rattle.atspi_script_lines.specs.declared.line.Party.TheVariants.{Registry}
use Rattle.atspi_trace.specs.Entry.{Entry, dropped}
use Rattle.atspi_trace.specs.World.{World}
use Rattle.atspi_trace.specs.Work.{Work, work_of}
use Rattle.atspi_trace.specs.Due.{begins, at_work, after_all, is_lost, Lawful, Begun, refusal_at}
use Rattle.atspi_trace.specs.play.Playing.{Playing}
use Rattle.atspi_trace.specs.play.Played.{refused}
use Rattle.atspi_trace.specs.play.Breaking.{does_next, IsLostAt, IsSpentAt}
use Rattle.atspi_trace_played.specs.Turns.{IsUnspent}
use Rattle.atspi_world_parties.specs.Refusals.{refusal_of}
use Rattle.atspi_run_replay.specs.declared.naming.Halt.{Halt}
use Rattle.atspi_run_replay.specs.declared.naming.Halt.TheVariants.{RegistryLost, Spent}
use Rattle.atspi_run_replay.specs.declared.naming.Refused.{Refused}
use Rattle.atspi_run_replay.specs.declared.naming.Refused.TheVariants as whys
use Rattle.atspi_run_replay.specs.Told.{Told, entries_told}
use Rattle.atspi_run_replay.specs.Wired.{AreWired, IsTold}
use Rattle.atspi_run_replay.specs.Names.{RefusedAs}

-- bytes spell these lines, one by one
abbrev pub AreSpelled : List (List ℕ) → List Line → Type 0
AreSpelled [] [] = Unit {0}
AreSpelled (bytes ∷ texts) (line ∷ lines) = Spells line bytes × AreSpelled texts lines
AreSpelled texts lines = ⊥

-- the registry is there behind a trace of lines
abbrev pub HasRegistry : List Line → List Entry → Type 0
HasRegistry lines trace = is_lost (at_work (after_all (begins lines) trace)).world ≡ false

-- WHAT WAS TOLD IS A LAWFUL TRACE OF THE LINES, with the bytes of its messages; the registry is there behind it, and no
-- message of it passes the last serial
pub record IsLawfulOf (texts : List (List ℕ)) (told : List Told) : Type 0 where
  pub lines : List Line
  pub spelled : AreSpelled texts lines
  pub lawful : Lawful lines (entries_told told)
  pub there : HasRegistry lines (entries_told told)
  pub unspent : AllByRecursion IsUnspent (entries_told told)
  pub now : Playing
  pub told_so : IsTold lines told now

-- a line is refused behind them: its bytes spell none, or the lawful trace refuses the one that they spell
abbrev pub RefusedLawfully : List Line → List Told → List ℕ → Refused → Type 0
RefusedLawfully lines told bytes (whys.World why) = (line : Line) × Spells line bytes
    × (refusal_at (lines ++ line ∷ []) (entries_told told) ≡ Some (refusal_of why))
RefusedLawfully lines told bytes why = Unit {0}

pub record IsRefusedBehind (lines : List Line) (told : List Told) (bytes : List ℕ) (why : Refused) : Type 0 where
  pub bytes_are : RefusedAs bytes why
  pub lawful : RefusedLawfully lines told bytes why

-- why a world comes to its end while a line is done: the bus drops the registry, or a message would pass the last
-- serial
abbrev pub BreaksOff : Halt → Playing → Work → List Entry → Type 0
BreaksOff RegistryLost p left entries = IsLostAt p left entries
BreaksOff Spent p left entries = IsSpentAt p left entries

-- the world that was reached then: that behind the cause which dropped the registry; that before the cause which spent
-- serials, or behind it
abbrev pub IsReached : (why : Halt) (p : Playing) (left : Work) (entries : List Entry) → BreaksOff why p left entries
    → World → Type 0
IsReached RegistryLost p left entries breaks w = w ≡ (does_next breaks.at).now.world
IsReached Spent p left entries breaks w = (w ≡ breaks.at.moved) ⊎ (w ≡ (does_next breaks.at).now.world)

-- what stands last then: that the registry was dropped
abbrev pub EndsWith : Halt → List Entry → Type 0
EndsWith RegistryLost entries = (front : List Entry) × (queued : ℕ) × (len : ℕ)
    × (entries ≡ front ++ dropped Registry queued len ∷ [])
EndsWith Spent entries = Unit {0}

-- THE WORLD CAME TO ITS END AT A LINE behind them, in the world that they came to, which does not refuse it, and just
-- what it wrote up to there was told: all of it is the front of a lawful trace, and the bytes are those of its
-- messages, by the names that ends have in the world that was reached. No message that was told passes the last serial:
-- where serials were spent, the cause that spent them is the first of which one would.
pub record IsHaltedBehind (lines : List Line) (told more : List Told) (now : Playing) (bytes : List ℕ) (why : Halt)
    : Type 0 where
  pub line : Line
  pub spells : Spells line bytes
  pub told_so : IsTold lines told now
  pub accepted : refused now line ≡ None
  pub breaks : BreaksOff why now (work_of now.world line) (entries_told more)
  pub begun : Begun (lines ++ line ∷ []) (entries_told (told ++ more))
  pub unspent : AllByRecursion IsUnspent (entries_told (told ++ more))
  pub last : EndsWith why (entries_told more)
  pub reached : World
  pub is_reached : IsReached why now (work_of now.world line) (entries_told more) breaks reached
  pub wired : AreWired reached (entries_told told) more

-- what was told of those of the lines that stand before the rest
pub record Upto (lines rest : List (List ℕ)) (told : List Told) : Type 0 where
  pub done : List (List ℕ)
  pub front : lines ≡ done ++ rest
  pub lawful : IsLawfulOf done told
