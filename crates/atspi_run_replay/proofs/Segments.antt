-- A line that bytes spell can stand in a script, and one that was done is played.
use Rattle.std.proofs.Common.{ℕ, List, [], ◌∷◌, ◌++◌}
use Rattle.atspi_script_lines.specs.declared.line.Line.{Line}
use Rattle.atspi_script_lines.specs.declared.line.Line.TheVariants.{Blank, Quota, App, Reader, Edit, Call, Swap, Exit, Leave, Bytes, Turns, Drain, Show}
use Rattle.atspi_script_lines.specs.Line.{Spells}
use Rattle.atspi_trace.specs.Entry.{Entry}
use Rattle.atspi_trace_laws.specs.order.Scripts.{CanStand}
use Rattle.atspi_trace.specs.play.Playing.{Playing}
use Rattle.atspi_trace.specs.play.Played.{IsPlayed, did}
use Rattle.atspi_world.specs.MayAct.{MayAct}
use Rattle.atspi_world.specs.Worlds.{Staged}
use Rattle.atspi_world.specs.Lines.{IsLineDone}
use Rattle.atspi_run_replay.proofs.MayLemmas.{line_may}

-- a line that a world may be given can stand in a script; so can one that bytes spell
pub stands : (line : Line) → MayAct line → CanStand line
stands (Edit app edit) may = may
stands Blank may = tt
stands (Quota quota) may = tt
stands (App name) may = tt
stands Reader may = tt
stands (Call reader app node deed) may = tt
stands (Swap app) may = tt
stands (Exit app) may = tt
stands (Leave reader) may = tt
stands (Bytes who up count) may = tt
stands (Turns count) may = tt
stands Drain may = tt
stands (Show reader app) may = tt

pub can_stand : (line : Line) (bytes : List ℕ) → Spells line bytes → CanStand line
can_stand line bytes s = stands line (line_may line bytes s)

-- the lines that were played, and this one
pub played_more : (lines : List Line) (es : List Entry) (p : Playing) (line : Line) (old new : Staged) → IsPlayed lines es p → (d : IsLineDone p line old new) → IsPlayed (lines ++ line ∷ []) (es ++ d.done.entries) d.done.after
played_more lines es p line old new h d = did lines line es d.done.entries p d.done.after h d.not_refused d.done.plays d.done.is.is.lives
