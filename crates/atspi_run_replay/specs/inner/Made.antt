-- Words behind `Made` that only private contracts and proofs use.
use Rattle.std.specs.Prelude.{◌≡◌, ◌⊎◌, ℕ, ◌+◌, List, [], ◌∷◌, ◌++◌}
use Rattle.atspi_script_lines.specs.declared.line.Line.{Line}
use Rattle.atspi_script_lines.specs.declared.line.Line.TheVariants.{Drain}
use Rattle.atspi_tree.specs.TreeShape.{TreeShape, IsLawful}
use Rattle.atspi_run_make.specs.Drawing.{live_nodes}
use Rattle.atspi_run_make.specs.Live.{CanFollow}
use Rattle.atspi_trace.specs.Entry.{Entry, entries_of}
use Rattle.atspi_trace_laws.specs.order.Scripts.{CanAllStand}
use Rattle.atspi_trace.specs.play.Playing.{Playing}
use Rattle.atspi_trace.specs.play.Played.{IsPlayed}
use Rattle.atspi_world.specs.Lines.{LineDone}
use Rattle.atspi_world.specs.Worlds.{Staged, IsPlaying}
use Rattle.atspi_run_replay.specs.declared.naming.Stop.{Stop}
use Rattle.atspi_run_replay.specs.declared.naming.Stop.TheVariants.{Refused, Halted, Write, NoMemory}
use Rattle.atspi_run_replay.specs.Made.{tree_told, AreDrawn, StandsBehind, IsRefusedOf, IsHaltedOf}

-- why a script is not done to its end; the sink has no part in it
abbrev pub ScriptStops : ℕ → ℕ → Stop → Type 0
ScriptStops count seed (Refused why) = IsRefusedOf count seed
ScriptStops count seed (Halted why) = IsHaltedOf why count seed
ScriptStops count seed NoMemory = Unit {0}
ScriptStops count seed Write = ⊥

-- these lines were played, and all that the stage tells is of them
pub record HasPlayed (lines : List Line) (s : Staged) : Type 0 where
  pub can : CanAllStand lines
  pub now : Playing
  pub is : IsPlaying now s
  pub played : IsPlayed lines (entries_of s.trace) now

-- why any script stops whose next line this is, behind lines that were played in a stage
abbrev pub StopsAt : Line → Staged → Stop → Type 0
StopsAt line s stop = (count seed : ℕ) (lines : List Line) → HasPlayed lines s
    → StandsBehind seed count lines line (entries_of s.trace) → ScriptStops count seed stop

-- lines were done, one behind the other
abbrev pub LinesDone : List Line → Staged → Staged → Type 0
LinesDone [] old new = new ≡ old
LinesDone (line ∷ lines) old new = (next : Staged) × LineDone line old next × LinesDone lines next new

-- so many edits were drawn and made in a stage
pub record HasDrawn (seed k x : ℕ) (s : Staged) : Type 0 where
  pub lines : List Line
  pub drawn : AreDrawn seed k lines (entries_of s.trace) x
  pub played : HasPlayed lines s

-- the whole script was done in it
pub record HasMade (seed k : ℕ) (s : Staged) : Type 0 where
  pub lines : List Line
  pub early : List Entry
  pub more : List Entry
  pub state : ℕ
  pub drawn : AreDrawn seed k lines early state
  pub so : entries_of s.trace ≡ early ++ more
  pub played : HasPlayed (lines ++ Drain ∷ []) s

-- the live nodes were seen in a front of a trace, and below which number; or none were, and any tree can be followed
pub record WereSeen (seen : List ℕ) (next : ℕ) (trace : List Entry) : Type 0 where
  pub early : List Entry
  pub more : List Entry
  pub so : trace ≡ early ++ more
  pub is_tree : IsLawful (tree_told early)
  pub live : seen ≡ live_nodes (tree_told early)
  pub below : next ≡ (tree_told early).added + 1

abbrev pub AreSeen : List ℕ → ℕ → List Entry → Type 0
AreSeen seen next trace = ((t : TreeShape) → CanFollow seen next t) ⊎ WereSeen seen next trace
