-- What `make` does, by its status, and the script that it does.
use Rattle.std.specs.Prelude.{◌≡◌, ◌⊎◌, ℕ, suc, ◌<◌, ◌%◌, ◌==◌, Bool, true, false, List, [], ◌∷◌, ◌++◌, Option}
use Rattle.std.specs.Prelude.{None, Some, codes, count_by, if◌then◌else◌}
use Rattle.std.specs.Fmt.{decimal}
use Rattle.std.specs.List.{AllByRecursion}
use Rattle.std.specs.Io.KnownBytes.{Appends}
use Rattle.atspi_base.specs.Outside.{AppendsPart}
use Rattle.atspi_tree_model.specs.declared.edit.Edit.{Edit}
use Rattle.atspi_tree_model.specs.Tree.{shape_of}
use Rattle.atspi_script_lines.specs.declared.line.Line.{Line}
use Rattle.atspi_script_lines.specs.declared.line.Line.TheVariants.{App, Reader, Edit as Edit_line, Turns, Drain}
use Rattle.atspi_tree.specs.TreeShape.{TreeShape}
use Rattle.atspi_run_make.specs.Drawing.{drawn_edit}
use Rattle.atspi_trace.specs.Entry.{Entry, changed, spoke}
use Rattle.atspi_trace.specs.Work.{Refusal, work_of}
use Rattle.atspi_trace.specs.Due.{Begun, Lawful, refusal_at}
use Rattle.atspi_trace_laws.specs.laws.NineLaws.{rows_due}
use Rattle.atspi_trace_laws.specs.laws.Words.{added, held, live_tree}
use Rattle.atspi_trace_played.specs.Turns.{IsUnspent}
use Rattle.atspi_trace.specs.play.Playing.{Playing}
use Rattle.atspi_trace.specs.play.Played as playing
use Rattle.atspi_trace.specs.play.Played.{IsPlayed}
use Rattle.atspi_world_parties.specs.Shown.{row_total}
use Rattle.atspi_run_replay.specs.declared.naming.Halt.{Halt}
use Rattle.atspi_run_replay.specs.declared.naming.Halt.TheVariants.{RegistryLost, Spent}
use Rattle.atspi_run_replay.specs.Done.{BreaksOff, EndsWith, HasRegistry}

-- `made N SEED steps S nodes M says K`
abbrev pub made_text : ℕ → ℕ → ℕ → ℕ → ℕ → List ℕ
made_text count seed steps nodes says =
    codes "made " ++ decimal count ++ codes " " ++ decimal seed ++ codes " steps " ++ decimal steps ++ codes " nodes "
    ++ decimal nodes ++ codes " says " ++ decimal says ++ 10 ∷ []

-- the statuses of a script that was not done to its end
abbrev pub IsHalt : ℕ → Type 0
IsHalt status = (status ≡ 1) ⊎ ((status ≡ 5) ⊎ ((status ≡ 9) ⊎ (status ≡ 13)))

abbrev pub IsMakeStatus : ℕ → Type 0
IsMakeStatus status = (status ≡ 0) ⊎ ((status ≡ 4) ⊎ IsHalt status)

-- an entry that is a step of a tree, and one that is a spoken line
abbrev pub is_step : Entry → Bool
is_step (changed app step) = true
is_step entry = false

abbrev pub is_spoken : Entry → Bool
is_spoken (spoke reader app line) = true
is_spoken entry = false

-- THE SCRIPT OF `make`: an application and a reader, which come to know of one another; then the edits, with 64 turns
-- behind each sixteenth; and all that then waits
abbrev pub opening : List Line
opening = App (codes "Made") ∷ Reader ∷ Drain ∷ []

abbrev pub turns_behind : ℕ → List Line
turns_behind k = if k % 16 == 0 then Turns 64 ∷ [] else []

-- the edit with a number, and the turns behind it
abbrev pub round : ℕ → Edit → List Line
round k edit = Edit_line 0 edit ∷ turns_behind k

-- the tree of the first application, as a trace tells it: the fold of its steps
abbrev pub tree_told : List Entry → TreeShape
tree_told trace = record { rows = shape_of (live_tree trace 0); added = added trace 0 }

-- SO MANY EDITS WERE DRAWN AND MADE: these are the lines, their lawful trace, and the generator's state, which began as
-- the seed. Each edit is the one that is drawn of the tree that the lawful trace of the lines before it tells.
pub data AreDrawn (seed : ℕ) : ℕ → List Line → List Entry → ℕ → Type 0 where
  none_drawn : (trace : List Entry) → Lawful opening trace → AreDrawn seed 0 opening trace seed
  one_drawn : (k x : ℕ) (lines : List Line) (trace more : List Entry) → AreDrawn seed k lines trace x
      → Lawful (lines ++ round (suc k) (drawn_edit (tree_told trace) (suc k) x).edit) (trace ++ more)
      → AreDrawn seed (suc k) (lines ++ round (suc k) (drawn_edit (tree_told trace) (suc k) x).edit) (trace ++ more)
      (drawn_edit (tree_told trace) (suc k) x).state

-- THE NEXT LINE OF A SCRIPT OF SO MANY EDITS: it stands there behind these lines, of which this is a lawful trace. It
-- is one of the opening; or the edit that is drawn of the tree that the trace tells; or the turns behind a sixteenth
-- edit; or the drain behind the last one.
pub data StandsBehind (seed count : ℕ) : List Line → Line → List Entry → Type 0 where
  in_opening : (lines rest : List Line) (line : Line) (trace : List Entry) → opening ≡ lines ++ line ∷ rest
      → Lawful lines trace → StandsBehind seed count lines line trace
  next_edit : (k x : ℕ) (lines : List Line) (trace : List Entry) → AreDrawn seed k lines trace x → k < count
      → StandsBehind seed count lines (Edit_line 0 (drawn_edit (tree_told trace) (suc k) x).edit) trace
  next_turns : (k x : ℕ) (lines : List Line) (trace more : List Entry) → AreDrawn seed k lines trace x → k < count
      → suc k % 16 ≡ 0
      → Lawful (lines ++ Edit_line 0 (drawn_edit (tree_told trace) (suc k) x).edit ∷ []) (trace ++ more)
      → StandsBehind seed count (lines ++ Edit_line 0 (drawn_edit (tree_told trace) (suc k) x).edit ∷ []) (Turns 64)
      (trace ++ more)
  last_drain : (x : ℕ) (lines : List Line) (trace : List Entry) → AreDrawn seed count lines trace x
      → StandsBehind seed count lines Drain trace

-- A LINE OF THE SCRIPT IS REFUSED, by the lawful trace of the lines before it
pub record IsRefusedOf (count seed : ℕ) : Type 0 where
  pub lines : List Line
  pub line : Line
  pub trace : List Entry
  pub next : StandsBehind seed count lines line trace
  pub why : Refusal
  pub refused : refusal_at (lines ++ line ∷ []) trace ≡ Some why

-- the world comes to its end at a line behind those of this trace, which is not refused; what it wrote up to there is
-- `more`, and all is the front of a lawful trace of which no message passes the last serial
pub record IsBrokenOff (why : Halt) (lines : List Line) (line : Line) (trace more : List Entry) : Type 0 where
  pub now : Playing
  pub played : IsPlayed lines trace now
  pub accepted : playing.refused now line ≡ None
  pub breaks : BreaksOff why now (work_of now.world line) more
  pub begun : Begun (lines ++ line ∷ []) (trace ++ more)
  pub unspent : AllByRecursion IsUnspent (trace ++ more)
  pub last : EndsWith why more

-- THE WORLD COMES TO ITS END AT A LINE OF THE SCRIPT
pub record IsHaltedOf (why : Halt) (count seed : ℕ) : Type 0 where
  pub lines : List Line
  pub line : Line
  pub trace : List Entry
  pub more : List Entry
  pub next : StandsBehind seed count lines line trace
  pub broken : IsBrokenOff why lines line trace more

-- THE NUMBERS ARE THOSE OF A LAWFUL TRACE OF THE SCRIPT: its steps, its spoken lines, and the rows that the reader is
-- due to show of the application behind it. The registry is there behind it too, and no message passes the last serial.
pub record AreOfScript (count seed steps nodes says : ℕ) : Type 0 where
  pub lines : List Line
  pub early : List Entry
  pub more : List Entry
  pub state : ℕ
  pub drawn : AreDrawn seed count lines early state
  pub lawful : Lawful (lines ++ Drain ∷ []) (early ++ more)
  pub there : HasRegistry (lines ++ Drain ∷ []) (early ++ more)
  pub unspent : AllByRecursion IsUnspent (early ++ more)
  pub steps_are : steps ≡ count_by is_step (early ++ more)
  pub nodes_are : nodes ≡ row_total (rows_due (early ++ more) 0 (held (early ++ more) 0 0))
  pub says_are : says ≡ count_by is_spoken (early ++ more)

-- 0: the line was written. 4: a front of it. 1: a line of the script is refused. 9: the registry was dropped at one,
-- and 13: serials were spent. With any status but 0 and 4 nothing was written.
pub record Made (count seed status : ℕ) (w w' : Option (List ℕ)) : Type 0 where
  pub known : IsMakeStatus status
  pub done : status ≡ 0
      → (steps : ℕ) × (nodes : ℕ) × (says : ℕ) × AreOfScript count seed steps nodes says
      × Appends w w' (made_text count seed steps nodes says)
  pub write : status ≡ 4
      → (steps : ℕ) × (nodes : ℕ) × (says : ℕ) × AreOfScript count seed steps nodes says
      × AppendsPart w w' (made_text count seed steps nodes says)
  pub refused : status ≡ 1 → IsRefusedOf count seed
  pub lost : status ≡ 9 → IsHaltedOf RegistryLost count seed
  pub spent : status ≡ 13 → IsHaltedOf Spent count seed
  pub nothing : (status ≡ 0 → ⊥) → (status ≡ 4 → ⊥) → Appends w w' []
