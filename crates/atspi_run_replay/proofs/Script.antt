-- The script of `make`, as it is done in a stage: the lines that were played so far, and the edits that were drawn.
use Rattle.std.proofs.Common.{◌≡◌, ◌==◌, ◌-◌, ◌<◌, ℕ, zero, suc, Result, inl, inr, arith, Bool, true, false, List, [], ◌∷◌, ◌++◌, refl, sym, ap, subst, ◌∙◌, append_assoc, append-nil}
use Rattle.std.specs.List.{AllByRecursion}
use Rattle.std.specs.Prelude.{◌%◌, codes, if◌then◌else◌}
use Rattle.std.specs.Result.{OnOk}
use Rattle.std.specs.Str.{chars}
use Rattle.std.proofs.lemmas.Bool.{eq-eqb}
use Rattle.std.proofs.lemmas.Result.{on_ok_weaker}
use Rattle.atspi_tree_model.specs.declared.edit.Edit.{Edit}
use Rattle.atspi_tree_model.specs.Edits.{IsEdit}
use Rattle.atspi_script_lines.specs.declared.limits.TheConstants.{QUOTA_MOST}
use Rattle.atspi_script_lines.specs.declared.line.Line.{Line}
use Rattle.atspi_script_lines.specs.declared.line.Line.TheVariants.{App, Reader, Drain, Turns, Edit as Edit_line}
use Rattle.atspi_run_make.specs.Drawing.{drawn_edit}
use Rattle.atspi_trace.specs.Entry.{Entry, entries_of}
use Rattle.atspi_trace.specs.Due.{Lawful}
use Rattle.atspi_trace.specs.play.Playing.{first_playing}
use Rattle.atspi_trace.specs.play.Played.{IsPlayed, begun}
use Rattle.atspi_world.specs.Lines.{IsLineDone, LineDone}
use Rattle.atspi_world.specs.MayAct.{MayAct}
use Rattle.atspi_world.specs.Worlds.{Staged, IsPlaying}
use Rattle.atspi_run_replay.specs.declared.naming.Stop.{Stop}
use Rattle.atspi_run_replay.specs.Made.{AreDrawn, none_drawn, one_drawn, opening, round, tree_told, turns_behind}
use Rattle.atspi_run_replay.specs.inner.Made.{AreSeen, HasDrawn, HasMade, HasPlayed, LinesDone}
use Rattle.atspi_run_replay.proofs.Course.{can_more}
use Rattle.atspi_run_replay.proofs.Refusing.{lawful}
use Rattle.atspi_run_replay.proofs.Segments.{played_more, stands}

pub played_none : (s : Staged) → IsPlaying (first_playing QUOTA_MOST) s → s.trace ≡ [] → HasPlayed [] s
played_none s is none = record {
  can = tt;
  now = first_playing QUOTA_MOST;
  is = is;
  played = subst (λ events. IsPlayed [] (entries_of events) (first_playing QUOTA_MOST)) (sym none) begun;
}

-- ONE MORE LINE: the trace is that before it, and more
pub record Longer (lines : List Line) (old new : Staged) : Type 0 where
  pub played : HasPlayed lines new
  pub more : List Entry
  pub so : entries_of new.trace ≡ entries_of old.trace ++ more

pub played_line : (lines : List Line) (line : Line) (old new : Staged) → MayAct line → HasPlayed lines old → LineDone line old new → Longer (lines ++ line ∷ []) old new
played_line lines line old new may h d =
    let one : IsLineDone h.now line old new = d h.now h.is in
    record {
      played = record {
        can = can_more lines line h.can (stands line may);
        now = one.done.after;
        is = one.done.is;
        played = subst (λ es. IsPlayed (lines ++ line ∷ []) es one.done.after) (sym one.done.wrote) (played_more lines (entries_of old.trace) h.now line old new h.played one);
      };
      more = one.done.entries;
      so = one.done.wrote;
    }

pub played_lines : (lines more : List Line) (old new : Staged) → AllByRecursion MayAct more → HasPlayed lines old → LinesDone more old new → Longer (lines ++ more) old new
played_lines lines [] old new may h same =
    subst (λ s. Longer (lines ++ []) old s) (sym same) (record {
      played = subst (λ l. HasPlayed l old) (sym (append-nil lines)) h;
      more = [];
      so = sym (append-nil (entries_of old.trace));
    })
played_lines lines (line ∷ more) old new may h done =
    let first = played_line lines line old done.0 may.0 h done.1 in
    let rest = played_lines (lines ++ line ∷ []) more done.0 new may.1 first.played done.2 in
    record {
      played = subst (λ l. HasPlayed l new) (append_assoc lines (line ∷ []) more) rest.played;
      more = first.more ++ rest.more;
      so = rest.so ∙ ap (λ es. es ++ rest.more) first.so ∙ append_assoc (entries_of old.trace) first.more rest.more;
    }

-- what is played is lawful
pub lawful_so : (lines : List Line) (s : Staged) → HasPlayed lines s → Lawful lines (entries_of s.trace)
lawful_so lines s h = lawful lines (entries_of s.trace) h.now h.can h.played

-- THE SCRIPT BEGINS
pub opened : (seed : ℕ) (old new : Staged) → HasPlayed [] old → LinesDone opening old new → HasDrawn seed 0 seed new
opened seed old new h done =
    let all = played_lines [] opening old new (tt, (tt, (tt, tt))) h done in
    record { lines = opening; drawn = none_drawn (entries_of new.trace) (lawful_so opening new all.played); played = all.played }

may_turn : (k : ℕ) → AllByRecursion MayAct (turns_behind k)
may_turn k = by (k % 16 == 0)
  where
    by : (b : Bool) → AllByRecursion MayAct (if b then Turns 64 ∷ [] else [])
    by true = (tt, tt)
    by false = tt

-- ONE MORE EDIT IS DRAWN AND MADE
pub one_more : (seed k x state : ℕ) (edit : Edit) (old new : Staged) → IsEdit edit → HasDrawn seed k x old → edit ≡ (drawn_edit (tree_told (entries_of old.trace)) (suc k) x).edit
    → state ≡ (drawn_edit (tree_told (entries_of old.trace)) (suc k) x).state → LinesDone (round (suc k) edit) old new → HasDrawn seed (suc k) state new
one_more seed k x state edit old new may h edit_is state_is done =
    let all = played_lines h.lines (round (suc k) edit) old new (may, may_turn (suc k)) h.played done in
    let law : Lawful (h.lines ++ round (suc k) edit) (entries_of old.trace ++ all.more) = subst (Lawful (h.lines ++ round (suc k) edit)) all.so (lawful_so (h.lines ++ round (suc k) edit) new all.played) in
    let t = drawn_edit (tree_told (entries_of old.trace)) (suc k) x in
    let drawn : AreDrawn seed (suc k) (h.lines ++ round (suc k) t.edit) (entries_of old.trace ++ all.more) t.state =
    one_drawn k x h.lines (entries_of old.trace) all.more h.drawn (subst (λ e. Lawful (h.lines ++ round (suc k) e) (entries_of old.trace ++ all.more)) edit_is law) in
    record {
      lines = h.lines ++ round (suc k) edit;
      drawn = subst (λ es. AreDrawn seed (suc k) (h.lines ++ round (suc k) edit) es state) (sym all.so)
          (subst (λ e. AreDrawn seed (suc k) (h.lines ++ round (suc k) e) (entries_of old.trace ++ all.more) state) (sym edit_is)
          (subst (AreDrawn seed (suc k) (h.lines ++ round (suc k) t.edit) (entries_of old.trace ++ all.more)) (sym state_is) drawn));
      played = all.played;
    }

-- and all that waits then
pub finished : (seed k x : ℕ) (old new : Staged) → HasDrawn seed k x old → LineDone Drain old new → HasMade seed k new
finished seed k x old new h done =
    let last = played_line h.lines Drain old new tt h.played done in
    record { lines = h.lines; early = entries_of old.trace; more = last.more; state = x; drawn = h.drawn; so = last.so; played = last.played }

-- the name is its own characters
pub made_name : chars (codes "Made") ≡ codes "Made"
unfolding chars
made_name = refl

-- the lines of the opening, one behind the other
pub three_lines : (name : List ℕ) (a b c d : Staged) → name ≡ codes "Made" → LineDone (App name) a b → LineDone Reader b c → LineDone Drain c d → LinesDone opening a d
three_lines name a b c d is first second third = (b, subst (λ n. LineDone (App n) a b) is first, (c, second, (d, third, refl)))

-- the turns behind an edit
pub turned : {T : Type 0} (r : Result T Stop) (k : ℕ) (old new : Staged) → k % 16 ≡ 0 → OnOk r (LineDone (Turns 64) old new) → OnOk r (LinesDone (turns_behind k) old new)
turned r k old new e h = on_ok_weaker r (λ done. subst (λ (b : Bool). LinesDone (if b then Turns 64 ∷ [] else []) old new) (sym (eq-eqb (k % 16) 0 e)) (new, done, refl)) h

-- ONE MORE EDIT, by its number
pub one_more_at : (seed n x state : ℕ) (edit : Edit) (old mid new : Staged) → 0 < n → IsEdit edit → HasDrawn seed (n - 1) x old → edit ≡ (drawn_edit (tree_told (entries_of old.trace)) n x).edit
    → state ≡ (drawn_edit (tree_told (entries_of old.trace)) n x).state → LineDone (Edit_line 0 edit) old mid → LinesDone (turns_behind n) mid new → HasDrawn seed n state new
one_more_at seed zero x state edit old mid new some may h edit_is state_is done turns = absurd (omega arith)
one_more_at seed (suc k) x state edit old mid new some may h edit_is state_is done turns =
    let same : suc k - 1 ≡ k = omega arith in
    one_more seed k x state edit old new may (subst (λ j. HasDrawn seed j x old) same h) edit_is state_is (mid, done, turns)

-- WHAT WAS SEEN is seen in a front of a longer trace too
later : (seen : List ℕ) (next : ℕ) (es ys more : List Entry) → ys ≡ es ++ more → AreSeen seen next es → AreSeen seen next ys
later seen next es ys more longer (inl any) = inl any
later seen next es ys more longer (inr x) = inr record {
  early = x.early;
  more = x.more ++ more;
  so = longer ∙ ap (λ l. l ++ more) x.so ∙ append_assoc x.early x.more more;
  is_tree = x.is_tree;
  live = x.live;
  below = x.below;
}

pub seen_behind : (seen : List ℕ) (next seed k n x : ℕ) (edit : Edit) (old mid new : Staged) → IsEdit edit → HasDrawn seed k x old → LineDone (Edit_line 0 edit) old mid → LinesDone (turns_behind n) mid new
    → AreSeen seen next (entries_of old.trace) → AreSeen seen next (entries_of new.trace)
seen_behind seen next seed k n x edit old mid new may h done turns a =
    let all = played_lines h.lines (round n edit) old new (may, may_turn n) h.played (mid, done, turns) in
    later seen next (entries_of old.trace) (entries_of new.trace) all.more all.so a

-- all edits were made where the next would be one too many
pub finished_at : (seed count n x : ℕ) (old new : Staged) → n - 1 ≡ count → HasDrawn seed (n - 1) x old → LineDone Drain old new → HasMade seed count new
finished_at seed count n x old new all h done = finished seed count x old new (subst (λ k. HasDrawn seed k x old) all h) done
