-- A line that is broken off, by what its work is.
use Rattle.std.proofs.Common.{◌≡◌, ◌⊎◌, inl, ℕ, Bool, true, false, Some, sym, ap, ◌∙◌, subst}
use Rattle.std.specs.Prelude.{None}
use Rattle.atspi_tree_model.specs.declared.edit.Edit.{Edit}
use Rattle.atspi_script_lines.specs.declared.deed.Deed.{Deed}
use Rattle.atspi_script_lines.specs.declared.line.Line.{Line}
use Rattle.atspi_script_lines.specs.declared.line.Line.TheVariants as lines
use Rattle.atspi_script_lines.specs.declared.line.Party.{Party}
use Rattle.atspi_script_lines.specs.declared.line.Party.TheVariants.{App, Reader}
use Rattle.atspi_trace.specs.World.{End}
use Rattle.atspi_trace.specs.Ends.{conn_of, end_at, end_if, end_of}
use Rattle.atspi_trace.specs.Causes.{edits, calls}
use Rattle.atspi_trace.specs.Work.{Work, doing, moving_up, moving_down, moving, turning, draining, with_conn, name_of, work_of}
use Rattle.atspi_trace.specs.play.Playing.{Playing}
use Rattle.atspi_trace.specs.play.Plays.{plays}
use Rattle.atspi_world.specs.Halts.{IsSpentBy, WorkLost, WorkSpent, ManyTurns, LineLostElse, LineSpentElse}
use Rattle.atspi_world_parties.specs.Asked.{EditIsRefused}
use Rattle.atspi_world.specs.Refusals.{CallAtIsRefused}
use Rattle.atspi_world.specs.Worlds.{Staged, IsPlaying}
use Rattle.atspi_world.proofs.Conns.{conn_end}
use Rattle.atspi_world.proofs.Halted.{once_spent}
use Rattle.atspi_world.proofs.Lining.{Finds, found_is, edit_is, call_is}

-- bytes of a link, up or down
module _ (Broken : Playing → Work → Type 0) (who : Party) (up : Bool) (count conn : ℕ) (old : Staged) (found : Finds (Some conn) who old.posts) where
  bytes_broken : ((p : Playing) (e : End) → IsPlaying p old → end_at p.world.ends conn ≡ Some e → Broken p (moving up count conn)) → (p : Playing) → IsPlaying p old → Broken p (work_of p.world (lines.Bytes who up count))
  bytes_broken breaks p is =
      let there = found_is p.world old who (Some conn) is.is found in
      let e = conn_end p.world.ends who conn there in
      subst (λ o. Broken p (with_conn o (moving up count))) (sym there) (breaks p e.0 is e.1)

  pub up_broken : up ≡ true → ((p : Playing) (e : End) → IsPlaying p old → end_at p.world.ends conn ≡ Some e → Broken p (moving_up conn count)) → (p : Playing) → IsPlaying p old → Broken p (work_of p.world (lines.Bytes who up count))
  up_broken is breaks = bytes_broken (λ p e playing at. subst (λ u. Broken p (moving u count conn)) (sym is) (breaks p e playing at))

  pub down_broken : up ≡ false → ((p : Playing) (e : End) → IsPlaying p old → end_at p.world.ends conn ≡ Some e → Broken p (moving_down conn count)) → (p : Playing) → IsPlaying p old → Broken p (work_of p.world (lines.Bytes who up count))
  down_broken is breaks = bytes_broken (λ p e playing at. subst (λ u. Broken p (moving u count conn)) (sym is) (breaks p e playing at))

module _ (who : Party) (up : Bool) (count conn : ℕ) (old new : Staged) (found : Finds (Some conn) who old.posts) where
  pub up_line_lost : up ≡ true → ((p : Playing) (e : End) → IsPlaying p old → end_at p.world.ends conn ≡ Some e → WorkLost p (moving_up conn count) old new) → LineLostElse (lines.Bytes who up count) old new
  up_line_lost is breaks = λ p playing free. (free, up_broken (λ q work. WorkLost q work old new) who up count conn old found is breaks p playing)

  pub up_line_spent : up ≡ true → ((p : Playing) (e : End) → IsPlaying p old → end_at p.world.ends conn ≡ Some e → WorkSpent p (moving_up conn count) old new) → LineSpentElse (lines.Bytes who up count) old new
  up_line_spent is breaks = λ p playing free. (free, inl (up_broken (λ q work. WorkSpent q work old new) who up count conn old found is breaks p playing))

  pub down_line_spent : up ≡ false → ((p : Playing) (e : End) → IsPlaying p old → end_at p.world.ends conn ≡ Some e → WorkSpent p (moving_down conn count) old new) → LineSpentElse (lines.Bytes who up count) old new
  down_line_spent is breaks = λ p playing free. (free, inl (down_broken (λ q work. WorkSpent q work old new) who up count conn old found is breaks p playing))

-- AN EDIT, and A CALL
pub edit_line_spent : (app : ℕ) (edit : Edit) (conn : ℕ) (old new : Staged) → Finds (Some conn) (App app) old.posts → EditIsRefused None old.apps app edit
    → ((p : Playing) → IsPlaying p old → conn_of p.world.ends (App app) ≡ Some conn → IsSpentBy (plays p (edits conn edit)) old new) → LineSpentElse (lines.Edit app edit) old new
edit_line_spent app edit conn old new found accepts spends = λ p is free.
    let there = found_is p.world old (App app) (Some conn) is.is found in (
      edit_is app edit conn old None found accepts p is free,
      inl (subst (λ o. WorkSpent p (with_conn o (λ k. doing (edits k edit))) old new) (sym there) (once_spent p (edits conn edit) old new is (spends p is there))),
    )

pub call_line_spent : (reader app node : ℕ) (deed : Deed) (conn callee : ℕ) (old new : Staged) → Finds (Some conn) (Reader reader) old.posts → Finds (Some callee) (App app) old.posts
    → CallAtIsRefused None old.readers reader old.posts callee
    → ((p : Playing) (e : End) → IsPlaying p old → conn_of p.world.ends (Reader reader) ≡ Some conn → end_at p.world.ends callee ≡ Some e → IsSpentBy (plays p (calls conn (name_of (Some e)) node deed)) old new)
    → LineSpentElse (lines.Call reader app node deed) old new
call_line_spent reader app node deed conn callee old new found other accepts spends = λ p is free.
    let w = p.world in
    let there = found_is w old (Reader reader) (Some conn) is.is found in
    let there' = found_is w old (App app) (Some callee) is.is other in
    let e = conn_end w.ends (App app) callee there' in
    let end_is : end_of w.ends (App app) ≡ Some e.0 = ap (end_if w.ends) there' ∙ e.1 in (
      call_is reader app node deed conn callee old None found other accepts p is free,
      inl (subst (λ o. WorkSpent p (with_conn o (λ k. doing (calls k (name_of (end_of w.ends (App app))) node deed))) old new) (sym there)
          (subst (λ x. WorkSpent p (doing (calls conn (name_of x) node deed)) old new) (sym end_is) (once_spent p (calls conn (name_of (Some e.0)) node deed) old new is (spends p e.0 is there e.1)))),
    )

-- THE LINES that ask for no edit and no call
module _ (line : Line) (old new : Staged) where
  pub turns_lost : (count : ℕ) → line ≡ lines.Turns count → ((p : Playing) → IsPlaying p old → WorkLost p (turning count count) old new) → LineLostElse line old new
  turns_lost count e loses = subst (λ l. LineLostElse l old new) (sym e) at
    where
      at : LineLostElse (lines.Turns count) old new
      at = λ p is free. (free, loses p is)

  pub turns_spent : (count : ℕ) → line ≡ lines.Turns count → ((p : Playing) → IsPlaying p old → WorkSpent p (turning count count) old new) → LineSpentElse line old new
  turns_spent count e spends = subst (λ l. LineSpentElse l old new) (sym e) at
    where
      at : LineSpentElse (lines.Turns count) old new
      at = λ p is free. (free, inl (spends p is))

  pub drain_lost : line ≡ lines.Drain → ((p : Playing) → IsPlaying p old → WorkLost p draining old new) → LineLostElse line old new
  drain_lost e loses = subst (λ l. LineLostElse l old new) (sym e) at
    where
      at : LineLostElse lines.Drain old new
      at = λ p is free. (free, loses p is)

  pub drain_spent : line ≡ lines.Drain → ((p : Playing) → IsPlaying p old → WorkSpent p draining old new ⊎ ManyTurns p old new) → LineSpentElse line old new
  drain_spent e spends = subst (λ l. LineSpentElse l old new) (sym e) at
    where
      at : LineSpentElse lines.Drain old new
      at = λ p is free. (free, spends p is)

  pub bytes_lost : (who : Party) (up : Bool) (count : ℕ) → line ≡ lines.Bytes who up count → LineLostElse (lines.Bytes who up count) old new → LineLostElse line old new
  bytes_lost who up count e loses = subst (λ l. LineLostElse l old new) (sym e) loses

  pub bytes_spent : (who : Party) (up : Bool) (count : ℕ) → line ≡ lines.Bytes who up count → LineSpentElse (lines.Bytes who up count) old new → LineSpentElse line old new
  bytes_spent who up count e spends = subst (λ l. LineSpentElse l old new) (sym e) spends

-- an edit, or a call, that a line is
pub spent_as : (line known : Line) (old new : Staged) → line ≡ known → LineSpentElse known old new → LineSpentElse line old new
spent_as line known old new e spends = subst (λ l. LineSpentElse l old new) (sym e) spends
