-- A line that the world refuses is refused by the lawful trace of the lines before it.
use Rattle.std.proofs.Common.{◌≡◌, ◌⊎◌, List, [], ◌∷◌, ◌++◌, None, Some, sym, ap, subst, ◌∙◌, append-nil}
use Rattle.atspi_script_lines.specs.declared.line.Line.{Line}
use Rattle.atspi_trace.specs.Entry.{Entry}
use Rattle.atspi_trace.specs.Work as work
use Rattle.atspi_trace.specs.Work.{Refusal, resting, work_of}
use Rattle.atspi_trace.specs.Due.{Scene, rested, scene_of, unless_refused, is_lost, refusal_in, refusal_at, Lawful, Begun}
use Rattle.atspi_trace_laws.specs.order.Scripts.{CanAllStand}
use Rattle.atspi_trace.specs.play.Playing.{Playing}
use Rattle.atspi_trace.specs.play.Played.{refused, IsPlayed}
use Rattle.atspi_trace.specs.play.Breaking.{IsLostAt, IsSpentAt}
use Rattle.atspi_trace_played.proofs.AllPieces.{pieces}
use Rattle.atspi_trace_played.proofs.Building.{onwards}
use Rattle.atspi_trace_played.proofs.Playing.{agrees, is_lawful, played_stage}
use Rattle.atspi_trace_played.proofs.PlayingBroken.{broken_begun}
use Rattle.atspi_trace_played.proofs.PlayingDropped.{lost_drops}
use Rattle.atspi_trace_played.proofs.PlayingStage.{Stage}
use Rattle.atspi_run_replay.specs.declared.naming.Halt.TheVariants.{RegistryLost}
use Rattle.atspi_run_replay.specs.Done.{EndsWith, HasRegistry}

pub is_refused : (lines : List Line) (es : List Entry) (p : Playing) (line : Line) (why : Refusal) → CanAllStand (lines ++ line ∷ []) → IsPlayed lines es p → refused p line ≡ Some why
    → refusal_at (lines ++ line ∷ []) es ≡ Some why
is_refused lines es p line why can h due =
    let stage = played_stage pieces lines es p h (line ∷ []) can in
    let passed = stage.midway.passed ++ p.world ∷ [] in
    let so : work.refused p.world line ≡ Some why = sym (agrees pieces (lines ++ line ∷ []) (line ∷ []) es p resting stage line) ∙ due in
    ap (λ (s : Scene). refusal_in s.world s.left)
    (stage.midway.next ∙ ap (λ o. unless_refused o (onwards [] passed p.world (work_of p.world line)) (scene_of (rested p.world) passed (line ∷ []))) so)
    ∙ so

pub lawful : (lines : List Line) (es : List Entry) (p : Playing) → CanAllStand lines → IsPlayed lines es p → Lawful lines es
lawful lines es p can h = is_lawful pieces lines es p can h

-- the registry is there behind them
pub there : (lines : List Line) (es : List Entry) (p : Playing) → CanAllStand lines → IsPlayed lines es p → HasRegistry lines es
there lines es p can h =
    let none = append-nil lines in
    let stage = subst (λ l. Stage l es p resting []) none (played_stage pieces lines es p h [] (subst CanAllStand (sym none) can)) in
    ap (λ (s : Scene). is_lost s.world) stage.midway.next ∙ stage.here

-- and what is written of a line that is broken off is the front of a lawful trace
pub begins_so : (lines : List Line) (es : List Entry) (p : Playing) (line : Line) (more : List Entry) → CanAllStand (lines ++ line ∷ []) → IsPlayed lines es p → refused p line ≡ None
    → (IsLostAt p (work_of p.world line) more ⊎ IsSpentAt p (work_of p.world line) more) → Begun (lines ++ line ∷ []) (es ++ more)
begins_so = broken_begun pieces

-- which ends with the registry's drop where that is lost
pub drops_last : (lines : List Line) (es : List Entry) (p : Playing) (line : Line) (more : List Entry) → CanAllStand (lines ++ line ∷ []) → IsPlayed lines es p → refused p line ≡ None
    → IsLostAt p (work_of p.world line) more → EndsWith RegistryLost more
drops_last = lost_drops pieces
