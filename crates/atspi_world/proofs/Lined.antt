-- What each line but an edit and a call does, by what its causes do.
use Rattle.std.proofs.Common.{◌≡◌, ◌⊎◌, inl, inr, ℕ, zero, suc, ◌<◌, ◌≤◌, Bool, true, false, cond, List, [], ◌∷◌, length, Option, None, Some, refl, sym, ap, ◌∙◌, subst, arith}
use Rattle.std.specs.Prelude.{filter, nat_le, nat_lt, if◌then◌else◌}
use Rattle.std.proofs.lemmas.Bool.{leb-false, ltb-false}
use Rattle.std.proofs.lemmas.Option.{same_Some}
use Rattle.atspi_tree_model.specs.declared.edit.Edit.{Edit}
use Rattle.atspi_tree_model.specs.declared.edit.EditFault.TheVariants.{TextFull}
use Rattle.atspi_tree_model.specs.Edits.{is_long_name}
use Rattle.atspi_tree_model.specs.Forest.{first_of}
use Rattle.atspi_script_lines.specs.declared.deed.Deed.{Deed}
use Rattle.atspi_script_lines.specs.declared.limits.TheConstants.{QUOTA_LEAST, QUOTA_MOST}
use Rattle.atspi_script_lines.specs.declared.line.Line.{Line}
use Rattle.atspi_script_lines.specs.declared.line.Line.TheVariants as lines
use Rattle.atspi_script_lines.specs.declared.line.Party.{Party}
use Rattle.atspi_script_lines.specs.declared.line.Party.TheVariants.{App, Reader}
use Rattle.atspi_trace.specs.World.{End}
use Rattle.atspi_trace.specs.Ends.{is_here, conn_of, end_at, end_if, end_of, is_app, app_count, reader_count}
use Rattle.atspi_trace.specs.Causes.{renews, starts_app, starts_reader, swaps_face, exits}
use Rattle.atspi_trace.specs.Work.{Refusal, spare_count, dead, no_kit, no_reader, no_spare, late, of_edit, refusal_if, if_started, if_here, turning, draining}
use Rattle.atspi_trace.specs.play.Playing.{Playing}
use Rattle.atspi_trace.specs.play.Plays.{plays}
use Rattle.atspi_world.specs.Lines.{CausedAt, IsSegment, LineDoneElse, WorkDone, WorkOf, WorkOfElse}
use Rattle.atspi_world.specs.MayAct.{MayAct}
use Rattle.atspi_world.specs.Worlds.{Staged, IsPlaying, Happens}
use Rattle.atspi_world.proofs.Conns.{conn_end, conn_who}
use Rattle.atspi_world.proofs.Lining.{exit_line}
use Rattle.atspi_world.proofs.Segments.{caused_once, rested}

-- what is not refused for want of kits, readers and faces
below : (n k : ℕ) (why : Refusal) → refusal_if (nat_le n k) why ≡ None → k < n
below n k why h = by (nat_le n k) refl h
  where
    by : (b : Bool) → nat_le n k ≡ b → refusal_if b why ≡ None → k < n
    by true t e = absurd cc
    by false t e = leb-false n k t

pub kits_left : (n k : ℕ) (why : Refusal) (o : Option Refusal) → first_of (refusal_if (nat_le n k) why) o ≡ None → k < n
kits_left n k why o h = below n k why (first (refusal_if (nat_le n k) why) h)
  where
    first : (x : Option Refusal) → first_of x o ≡ None → x ≡ None
    first None e = refl
    first (Some x) e = absurd cc

pub readers_left : (n k : ℕ) (why : Refusal) → refusal_if (nat_le n k) why ≡ None → k < n
readers_left n k why h = below n k why h

-- an application that was started counts
some_app : (ends : List End) (conn a : ℕ) (e : End) → end_at ends conn ≡ Some e → e.who ≡ App a → 0 < app_count ends
some_app [] zero a e at who = absurd cc
some_app [] (suc conn) a e at who = absurd cc
some_app (x ∷ xs) zero a e at who =
    let is : is_app x.who ≡ true = ap (λ (y : End). is_app y.who) (same_Some x e at) ∙ ap is_app who in
    let one : app_count (x ∷ xs) ≡ suc (app_count xs) = ap (λ b. length (cond b (x ∷ filter (λ (y : End). is_app y.who) xs) (filter (λ (y : End). is_app y.who) xs))) is in
    omega (arith, one)
some_app (x ∷ xs) (suc conn) a e at who = by (is_app x.who) (some_app xs conn a e at who)
  where
    by : (b : Bool) → 0 < app_count xs → 0 < length (cond b (x ∷ filter (λ (y : End). is_app y.who) xs) (filter (λ (y : End). is_app y.who) xs))
    by true h = omega (arith, h)
    by false h = h

app_there : (ends : List End) (a : ℕ) (then_ : End → Option Refusal) → if_started (end_of ends (App a)) then_ ≡ None → 0 < app_count ends
app_there ends a then_ h = by (conn_of ends (App a)) refl h
  where
    by : (o : Option ℕ) → conn_of ends (App a) ≡ o → if_started (end_if ends o) then_ ≡ None → 0 < app_count ends
    by None at none = absurd cc
    by (Some k) at none = (let e = conn_end ends (App a) k at in some_app ends k a e.0 e.1 (conn_who ends (App a) k e.0 at e.1))

pub faces_left : (n k : ℕ) (why : Refusal) (o : Option End) → if_started o (λ e. if_here e (λ a. refusal_if (nat_le n k) why)) ≡ None → k < n
faces_left n k why None h = absurd cc
faces_left n k why (Some e) h = by (is_here e.standing) h
  where
    by : (b : Bool) → (if b then refusal_if (nat_le n k) why else Some dead) ≡ None → k < n
    by true i = below n k why i
    by false i = absurd cc

-- a line that is no edit and no call
pub line_else : (line : Line) (old new : Staged) → ((app : ℕ) (edit : Edit) → line ≡ lines.Edit app edit → ⊥) → ((reader app node : ℕ) (deed : Deed) → line ≡ lines.Call reader app node deed → ⊥)
    → WorkOfElse line old new → LineDoneElse line old new
line_else (lines.Edit app edit) old new no_edit no_call h = absurd (no_edit app edit refl)
line_else (lines.Call reader app node deed) old new no_edit no_call h = absurd (no_call reader app node deed refl)
line_else lines.Blank old new no_edit no_call h = λ p is free. record { not_refused = free; done = h p is free }
line_else (lines.Quota quota) old new no_edit no_call h = λ p is free. record { not_refused = free; done = h p is free }
line_else (lines.App name) old new no_edit no_call h = λ p is free. record { not_refused = free; done = h p is free }
line_else lines.Reader old new no_edit no_call h = λ p is free. record { not_refused = free; done = h p is free }
line_else (lines.Swap app) old new no_edit no_call h = λ p is free. record { not_refused = free; done = h p is free }
line_else (lines.Exit app) old new no_edit no_call h = λ p is free. record { not_refused = free; done = h p is free }
line_else (lines.Leave reader) old new no_edit no_call h = λ p is free. record { not_refused = free; done = h p is free }
line_else (lines.Bytes who up count) old new no_edit no_call h = λ p is free. record { not_refused = free; done = h p is free }
line_else (lines.Turns count) old new no_edit no_call h = λ p is free. record { not_refused = free; done = h p is free }
line_else lines.Drain old new no_edit no_call h = λ p is free. record { not_refused = free; done = h p is free }
line_else (lines.Show reader app) old new no_edit no_call h = λ p is free. record { not_refused = free; done = h p is free }

-- no more than the registry is there
not_late : (n : ℕ) → refusal_if (nat_lt 1 n) late ≡ None → n ≤ 1
not_late n h = by (nat_lt 1 n) refl h
  where
    by : (b : Bool) → nat_lt 1 n ≡ b → refusal_if b late ≡ None → n ≤ 1
    by true t e = absurd cc
    by false t e = ltb-false 1 n t

-- THE LINES, each by what its causes do
module _ (line : Line) (old new : Staged) where
  pub line_app : (name : List ℕ) → line ≡ lines.App name → ((p : Playing) → IsPlaying p old → app_count p.world.ends < 16 → Happens (plays p (starts_app name)) old new) → WorkOfElse line old new
  line_app name e does_ = subst (λ l. WorkOfElse l old new) (sym e) (at does_)
    where
      at : ((p : Playing) → IsPlaying p old → app_count p.world.ends < 16 → Happens (plays p (starts_app name)) old new) → WorkOfElse (lines.App name) old new
      at d = λ p is free. caused_once p (starts_app name) old new (d p is (kits_left 16 (app_count p.world.ends) no_kit (refusal_if (is_long_name name) (of_edit TextFull)) free))

  pub line_reader : line ≡ lines.Reader → ((p : Playing) → IsPlaying p old → reader_count p.world.ends < 4 → Happens (plays p starts_reader) old new) → WorkOfElse line old new
  line_reader e does_ = subst (λ l. WorkOfElse l old new) (sym e) (at does_)
    where
      at : ((p : Playing) → IsPlaying p old → reader_count p.world.ends < 4 → Happens (plays p starts_reader) old new) → WorkOfElse lines.Reader old new
      at d = λ p is free. caused_once p starts_reader old new (d p is (readers_left 4 (reader_count p.world.ends) no_reader free))

  pub line_swap : (app : ℕ) → line ≡ lines.Swap app → ((p : Playing) → IsPlaying p old → p.world.swaps < 16 → 0 < app_count p.world.ends → Happens (plays p swaps_face) old new) → WorkOfElse line old new
  line_swap app e does_ = subst (λ l. WorkOfElse l old new) (sym e) (at does_)
    where
      at : ((p : Playing) → IsPlaying p old → p.world.swaps < 16 → 0 < app_count p.world.ends → Happens (plays p swaps_face) old new) → WorkOfElse (lines.Swap app) old new
      at d = λ p is free. caused_once p swaps_face old new (d p is (faces_left 16 p.world.swaps no_spare (end_of p.world.ends (App app)) free)
          (app_there p.world.ends app (λ x. if_here x (λ a. refusal_if (nat_le spare_count p.world.swaps) no_spare)) free))

  pub line_exit : (app : ℕ) → line ≡ lines.Exit app → CausedAt (App app) exits old new → WorkOfElse line old new
  line_exit app e does_ = subst (λ l. WorkOfElse l old new) (sym e) (exit_line (App app) old new does_)

  pub line_leave : (reader : ℕ) → line ≡ lines.Leave reader → CausedAt (Reader reader) exits old new → WorkOfElse line old new
  line_leave reader e does_ = subst (λ l. WorkOfElse l old new) (sym e) (exit_line (Reader reader) old new does_)

  pub line_quota : (quota : ℕ) → line ≡ lines.Quota quota → MayAct line → ((p : Playing) → QUOTA_LEAST ≤ quota → quota ≤ QUOTA_MOST → IsPlaying p old → length p.world.ends ≤ 1 → Happens (plays p (renews quota)) old new)
      → WorkOfElse line old new
  line_quota quota e may does_ = subst (λ l. WorkOfElse l old new) (sym e) (at (subst MayAct e may) does_)
    where
      at : MayAct (lines.Quota quota) → ((p : Playing) → QUOTA_LEAST ≤ quota → quota ≤ QUOTA_MOST → IsPlaying p old → length p.world.ends ≤ 1 → Happens (plays p (renews quota)) old new) → WorkOfElse (lines.Quota quota) old new
      at m d = λ p is free. caused_once p (renews quota) old new (d p m.0 m.1 is (not_late (length p.world.ends) free))

  pub line_show : (reader app : ℕ) → line ≡ lines.Show reader app → WorkOf (lines.Show reader app) old new → WorkOfElse line old new
  line_show reader app e does_ = subst (λ l. WorkOfElse l old new) (sym e) does_

  pub line_edit : (app : ℕ) (edit : Edit) → line ≡ lines.Edit app edit → WorkOfElse line old new
  line_edit app edit e = subst (λ l. WorkOfElse l old new) (sym e) tt

  pub line_call : (reader app node : ℕ) (deed : Deed) → line ≡ lines.Call reader app node deed → WorkOfElse line old new
  line_call reader app node deed e = subst (λ l. WorkOfElse l old new) (sym e) tt

  pub line_turns : (count : ℕ) → line ≡ lines.Turns count → ((p : Playing) → IsPlaying p old → IsSegment p (turning count count) old new) → WorkOfElse line old new
  line_turns count e does_ = subst (λ l. WorkOfElse l old new) (sym e) (at does_)
    where
      at : ((p : Playing) → IsPlaying p old → IsSegment p (turning count count) old new) → WorkOfElse (lines.Turns count) old new
      at d = λ p is free. d p is

  pub line_drain : line ≡ lines.Drain → ((p : Playing) → IsPlaying p old → WorkDone p draining old new) → WorkOfElse line old new
  line_drain e does_ = subst (λ l. WorkOfElse l old new) (sym e) (at does_)
    where
      at : ((p : Playing) → IsPlaying p old → WorkDone p draining old new) → WorkOfElse lines.Drain old new
      at d = λ p is free. d p is

  pub line_bytes : (who : Party) (up : Bool) (count : ℕ) → line ≡ lines.Bytes who up count → WorkOf (lines.Bytes who up count) old new → WorkOfElse line old new
  line_bytes who up count e does_ = subst (λ l. WorkOfElse l old new) (sym e) does_

line_blank : (line : Line) (s : Staged) → line ≡ lines.Blank → WorkOfElse line s s
line_blank line s e = subst (λ l. WorkOfElse l s s) (sym e) at
  where
    at : WorkOfElse lines.Blank s s
    at = λ p is free. rested p s is

-- a blank line does nothing; an edit and a call are done elsewhere
pub line_rest : (line : Line) (s : Staged) → (line ≡ lines.Blank) ⊎ (((app : ℕ) × (edit : Edit) × (line ≡ lines.Edit app edit)) ⊎ ((reader : ℕ) × (app : ℕ) × (node : ℕ) × (deed : Deed) × (line ≡ lines.Call reader app node deed)))
    → WorkOfElse line s s
line_rest line s (inl e) = line_blank line s e
line_rest line s (inr (inl x)) = line_edit line s s x.0 x.1 x.2
line_rest line s (inr (inr x)) = line_call line s s x.0 x.1 x.2 x.3 x.4
