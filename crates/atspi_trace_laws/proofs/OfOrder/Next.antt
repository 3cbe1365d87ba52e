-- What is next of a line is allowed.
use Rattle.std.proofs.Common.{◌≡◌, inl, inr, ℕ, zero, suc, ◌+◌, ◌-◌, Bool, true, false, List, [], ◌∷◌, length, None, Some, refl, sym, ap, ◌∙◌, subst, arith}
use Rattle.std.specs.Prelude.{Option, slice_get, nat_le, nat_lt, if◌then◌else◌}
use Rattle.atspi_tree_model.specs.declared.edit.Edit.{Edit}
use Rattle.atspi_tree_model.specs.declared.edit.EditFault.TheVariants.{TextFull}
use Rattle.atspi_tree_model.specs.Forest.{first_of}
use Rattle.atspi_tree_model.specs.Edits.{is_long_name, IsEdit}
use Rattle.atspi_script_lines.specs.declared.deed.Deed.{Deed}
use Rattle.atspi_script_lines.specs.declared.limits.TheConstants.{APP_COUNT, READER_COUNT}
use Rattle.atspi_script_lines.specs.declared.line.Line.{Line}
use Rattle.atspi_script_lines.specs.declared.line.Line.TheVariants.{Blank, Quota, App as App_line, Reader as Reader_line, Edit as Edit_line, Call, Swap, Exit, Leave, Bytes, Turns, Drain, Show}
use Rattle.atspi_script_lines.specs.declared.line.Party.{Party}
use Rattle.atspi_script_lines.specs.declared.line.Party.TheVariants.{Registry, App, Reader}
use Rattle.atspi_trace.specs.World.{Standing, here, stopped, away, Said, Letter, End, World}
use Rattle.atspi_trace.specs.Ends.{is_here, same_party, conn_of, end_of, end_at, end_if, app_count, reader_count}
use Rattle.atspi_trace.specs.Causes.{Cause, edits, calls, swaps_face, exits, shows, routes, unjoins, gets, missing}
use Rattle.atspi_trace.specs.Work.{Refusal, no_party, dead, late, no_kit, no_reader, no_spare, spare_count, of_edit, refusal_if, if_started, if_here, no_more, edit_refusal, call_refusal, refused, Work, resting, doing, moving_up, moving_down, turning, draining, with_conn, moving, name_of, work_of, up_turn, down_turn, first_up, first_down, next_turn, cause, rests, moved_up, moved_down, next_up, next_down, of_end, next_of_turns, next_of_drain, next_of}
use Rattle.atspi_trace_laws.specs.order.Scripts.{CanStand}
use Rattle.atspi_trace_laws.proofs.OfOrder.Parties.{no_none, same_some, same-party, found}
use Rattle.atspi_trace_laws.proofs.OfOrder.Allowed.{Allowed, IsWork, NextFine}

-- no refusal of a list of two
neither : {A : Type 0} (o p : Option A) → first_of o p ≡ None → (o ≡ None) × (p ≡ None)
neither None p h = (refl, h)
neither (Some x) p h = absurd (no_none x (sym h))

not_refused : (b : Bool) (why : Refusal) → refusal_if b why ≡ None → b ≡ false
not_refused false why h = refl
not_refused true why h = absurd (no_none why (sym h))

if_is_here : (e : End) (next : End → Option Refusal) (st : Standing) → e.standing ≡ st → if_here e next ≡ None → (e.standing ≡ here) × (next e ≡ None)
if_is_here e next here s h = (s, ap (λ t. if is_here t then next e else Some dead) (sym s) ∙ h)
if_is_here e next stopped s h = absurd (no_none dead (sym h ∙ ap (λ t. if is_here t then next e else Some dead) s))
if_is_here e next away s h = absurd (no_none dead (sym h ∙ ap (λ t. if is_here t then next e else Some dead) s))

-- the party of a line is there, and here
pub record Stands (w : World) (who : Party) (conn : ℕ) (next : End → Option Refusal) : Type 0 where
  pub e : End
  pub there : end_at w.ends conn ≡ Some e
  pub whose : e.who ≡ who
  pub goes_on : next e ≡ None

stands : (w : World) (who : Party) (conn : ℕ) (next : End → Option Refusal) → conn_of w.ends who ≡ Some conn → if_started (end_of w.ends who) next ≡ None → Stands w who conn next
stands w who conn next h r =
    let f = found (λ (e : End). same_party e.who who) w.ends conn h in
    record {
      e = f.0;
      there = f.1;
      whose = same-party f.0.who who f.2;
      goes_on = ap (λ o. if_started o next) (sym (ap (end_if w.ends) h ∙ f.1)) ∙ r;
    }

edit_fine : (w : World) (app : ℕ) (edit : Edit) (o : Option ℕ) → IsEdit edit → conn_of w.ends (App app) ≡ o
    → if_started (end_of w.ends (App app)) (λ e. if_here e (λ a. edit_refusal edit a.role)) ≡ None → IsWork w (with_conn o (λ conn. doing (edits conn edit)))
edit_fine w app edit None k h r = tt
edit_fine w app edit (Some conn) k h r =
    let f = stands w (App app) conn (λ e. if_here e (λ a. edit_refusal edit a.role)) h r in
    let g = if_is_here f.e (λ a. edit_refusal edit a.role) f.e.standing refl f.goes_on in
    (f.e, app, record { there = f.there; standing = g.0 }, f.whose, g.1, k)

call_fine : (w : World) (reader : ℕ) (name : List ℕ) (node : ℕ) (deed : Deed) (next : End → Option Refusal) (o : Option ℕ) → conn_of w.ends (Reader reader) ≡ o
    → if_started (end_of w.ends (Reader reader)) (λ r. if_here r next) ≡ None → IsWork w (with_conn o (λ conn. doing (calls conn name node deed)))
call_fine w reader name node deed next None h r = tt
call_fine w reader name node deed next (Some conn) h r =
    let f = stands w (Reader reader) conn (λ e. if_here e next) h r in
    let g = if_is_here f.e next f.e.standing refl f.goes_on in
    (f.e, reader, record { there = f.there; standing = g.0 }, f.whose)

exit_fine : (w : World) (who : Party) (o : Option ℕ) → same_party who Registry ≡ false → conn_of w.ends who ≡ o
    → if_started (end_of w.ends who) (λ e. if_here e no_more) ≡ None → IsWork w (with_conn o (λ conn. doing (exits conn)))
exit_fine w who None n h r = tt
exit_fine w who (Some conn) n h r =
    let f = stands w who conn (λ e. if_here e no_more) h r in
    let g = if_is_here f.e no_more f.e.standing refl f.goes_on in
    (f.e, record { there = f.there; standing = g.0 }, ap (λ p. same_party p Registry) f.whose ∙ n)

swap_fine : (w : World) (app : ℕ) (o : Option ℕ) → conn_of w.ends (App app) ≡ o
    → if_started (end_of w.ends (App app)) (λ e. if_here e (λ a. refusal_if (nat_le spare_count w.swaps) no_spare)) ≡ None → Allowed w swaps_face
swap_fine w app None h r = absurd (no_none no_party (sym r ∙ ap (λ o. if_started (end_if w.ends o) (λ e. if_here e (λ a. refusal_if (nat_le spare_count w.swaps) no_spare))) h))
swap_fine w app (Some conn) h r =
    let f = found (λ (e : End). same_party e.who (App app)) w.ends conn h in
    (f.0, app, conn, f.1, same-party f.0.who (App app) f.2)

show_fine : (w : World) (reader app : ℕ) (o : Option ℕ) → conn_of w.ends (Reader reader) ≡ o → IsWork w (with_conn o (λ conn. doing (shows conn app)))
show_fine w reader app None h = tt
show_fine w reader app (Some conn) h =
    let f = found (λ (e : End). same_party e.who (Reader reader)) w.ends conn h in
    (f.0, reader, f.1, same-party f.0.who (Reader reader) f.2)

moving_fine : (w : World) (up : Bool) (count : ℕ) (o : Option ℕ) → IsWork w (with_conn o (moving up count))
moving_fine w true count None = tt
moving_fine w true count (Some conn) = tt
moving_fine w false count None = tt
moving_fine w false count (Some conn) = tt

-- of the two ends that a call names the caller is here
caller_here : (w : World) (reader app : ℕ) (o : Option End)
    → if_started (end_of w.ends (Reader reader)) (λ r. if_started o (λ a. if_here r (λ caller. call_refusal app caller.role))) ≡ None
    → if_started (end_of w.ends (Reader reader)) (λ r. if_here r (λ caller. call_refusal app caller.role)) ≡ None
caller_here w reader app (Some a) h = h
caller_here w reader app None h = by (end_of w.ends (Reader reader)) h
  where
    by : (p : Option End) → if_started p (λ r. if_started None (λ a. if_here r (λ caller. call_refusal app caller.role))) ≡ None
        → if_started p (λ r. if_here r (λ caller. call_refusal app caller.role)) ≡ None
    by None k = k
    by (Some r) k = absurd (no_none _ (sym k))

pub line_fine : (w : World) (line : Line) → CanStand line → refused w line ≡ None → IsWork w (work_of w line)
line_fine w Blank k h = tt
line_fine w (Quota quota) k h = not_refused (nat_lt 1 (length w.ends)) late h
line_fine w (App_line name) k h =
    let both = neither (refusal_if (nat_le APP_COUNT (app_count w.ends)) no_kit) (refusal_if (is_long_name name) (of_edit TextFull)) h in
    (not_refused (is_long_name name) (of_edit TextFull) both.1, not_refused (nat_le APP_COUNT (app_count w.ends)) no_kit both.0)
line_fine w Reader_line k h = not_refused (nat_le READER_COUNT (reader_count w.ends)) no_reader h
line_fine w (Edit_line app edit) k h = edit_fine w app edit (conn_of w.ends (App app)) k refl h
line_fine w (Call reader app node deed) k h =
    call_fine w reader (name_of (end_of w.ends (App app))) node deed (λ caller. call_refusal app caller.role) (conn_of w.ends (Reader reader)) refl
    (caller_here w reader app (end_of w.ends (App app)) h)
line_fine w (Swap app) k h = swap_fine w app (conn_of w.ends (App app)) refl h
line_fine w (Exit app) k h = exit_fine w (App app) (conn_of w.ends (App app)) refl refl h
line_fine w (Leave reader) k h = exit_fine w (Reader reader) (conn_of w.ends (Reader reader)) refl refl h
line_fine w (Bytes who up count) k h = moving_fine w up count (conn_of w.ends who)
line_fine w (Turns count) k h = tt
line_fine w Drain k h = tt
line_fine w (Show reader app) k h = show_fine w reader app (conn_of w.ends (Reader reader)) refl

-- turns
up_fine : (w : World) (conn : ℕ) (e : End) (st : Standing) (link : List Said) (c : Cause) → end_at w.ends conn ≡ Some e → e.standing ≡ st → e.up ≡ link
    → up_turn conn st link ≡ Some c → Allowed w c
up_fine w conn e here (said ∷ rest) c h s u t = subst (Allowed w) (same_some (routes conn) c t) (e, said, rest, record { there = h; standing = s }, u)
up_fine w conn e here [] c h s u t = absurd (no_none c t)
up_fine w conn e stopped link c h s u t = subst (Allowed w) (same_some (unjoins conn) c t) (e, h, s)
up_fine w conn e away link c h s u t = absurd (no_none c t)

down_fine : (w : World) (conn : ℕ) (e : End) (st : Standing) (link : List Letter) (c : Cause) → end_at w.ends conn ≡ Some e → e.standing ≡ st → e.down ≡ link
    → down_turn conn st link ≡ Some c → Allowed w c
down_fine w conn e here (letter ∷ rest) c h s u t = subst (Allowed w) (same_some (gets conn) c t) (e, letter, rest, record { there = h; standing = s }, u)
down_fine w conn e here [] c h s u t = absurd (no_none c t)
down_fine w conn e stopped link c h s u t = absurd (no_none c t)
down_fine w conn e away link c h s u t = absurd (no_none c t)

either : {A : Type 0} (P : A → Type 0) (o p : Option A) (c : A) → first_of o p ≡ Some c → ((d : A) → o ≡ Some d → P d) → ((d : A) → p ≡ Some d → P d) → P c
either P None p c h f g = g c h
either P (Some x) p c h f g = f c h

abbrev Sees : World → ℕ → List End → Type 0
Sees w conn es = (k : ℕ) (e : End) → slice_get es k ≡ Some e → end_at w.ends (conn + k) ≡ Some e

sees_first : (w : World) (conn : ℕ) (e : End) (es : List End) → Sees w conn (e ∷ es) → end_at w.ends conn ≡ Some e
sees_first w conn e es s = let same : conn + 0 ≡ conn = omega arith in subst (λ k. end_at w.ends k ≡ Some e) same (s 0 e refl)

sees_rest : (w : World) (conn : ℕ) (e : End) (es : List End) → Sees w conn (e ∷ es) → Sees w (suc conn) es
sees_rest w conn e es s k x h = let same : conn + suc k ≡ suc conn + k = omega arith in subst (λ j. end_at w.ends j ≡ Some x) same (s (suc k) x h)

first_up_fine : (w : World) (conn : ℕ) (es : List End) → Sees w conn es → (c : Cause) → first_up conn es ≡ Some c → Allowed w c
first_up_fine w conn [] s c h = absurd (no_none c h)
first_up_fine w conn (e ∷ es) s c h =
    either (Allowed w) (up_turn conn e.standing e.up) (first_up (suc conn) es) c h
    (λ d t. up_fine w conn e e.standing e.up d (sees_first w conn e es s) refl refl t)
    (λ d t. first_up_fine w (suc conn) es (sees_rest w conn e es s) d t)

first_down_fine : (w : World) (conn : ℕ) (es : List End) → Sees w conn es → (c : Cause) → first_down conn es ≡ Some c → Allowed w c
first_down_fine w conn [] s c h = absurd (no_none c h)
first_down_fine w conn (e ∷ es) s c h =
    either (Allowed w) (down_turn conn e.standing e.down) (first_down (suc conn) es) c h
    (λ d t. down_fine w conn e e.standing e.down d (sees_first w conn e es s) refl refl t)
    (λ d t. first_down_fine w (suc conn) es (sees_rest w conn e es s) d t)

sees_all : (w : World) → Sees w 0 w.ends
sees_all w k e h = let same : k ≡ 0 + k = omega arith in subst (λ j. end_at w.ends j ≡ Some e) same h

turn_fine : (w : World) (c : Cause) → next_turn w ≡ Some c → Allowed w c
turn_fine w c h =
    either (Allowed w) (first_up 0 w.ends) (first_down 0 w.ends) c h
    (λ d t. first_up_fine w 0 w.ends (sees_all w) d t)
    (λ d t. first_down_fine w 0 w.ends (sees_all w) d t)

-- bytes
next_up_fine : (w : World) (conn count : ℕ) (e : End) (st : Standing) (m : ℕ) (link : List Said) → end_at w.ends conn ≡ Some e → e.standing ≡ st → e.up ≡ link
    → NextFine w (next_up w conn count st m link)
next_up_fine w conn count e here m (said ∷ rest) h s u = by (nat_le (missing said.message m) count)
  where
    by : (b : Bool) → NextFine w (if b then cause (routes conn) w (moving_up conn (count - missing said.message m)) else rests (moved_up w conn count))
    by true = (refl, (e, said, rest, record { there = h; standing = s }, u), tt)
    by false = inr (inl (record { conn = conn; count = count; e = e; said = said; rest = rest; is_here = record { there = h; standing = s }; link = u; after = refl }))
next_up_fine w conn count e here m [] h s u = inl refl
next_up_fine w conn zero e stopped m link h s u = inl refl
next_up_fine w conn (suc count) e stopped m link h s u = (refl, (e, h, s), tt)
next_up_fine w conn count e away m link h s u = inl refl

next_down_fine : (w : World) (conn count : ℕ) (e : End) (st : Standing) (m : ℕ) (link : List Letter) → end_at w.ends conn ≡ Some e → e.standing ≡ st → e.down ≡ link
    → NextFine w (next_down w conn count st m link)
next_down_fine w conn count e here m (letter ∷ rest) h s u = by (nat_le (missing letter.said.message m) count)
  where
    by : (b : Bool) → NextFine w (if b then cause (gets conn) w (moving_down conn (count - missing letter.said.message m)) else rests (moved_down w conn count))
    by true = (refl, (e, letter, rest, record { there = h; standing = s }, u), tt)
    by false = inr (inr (record { conn = conn; count = count; e = e; letter = letter; rest = rest; is_here = record { there = h; standing = s }; link = u; after = refl }))
next_down_fine w conn count e here m [] h s u = inl refl
next_down_fine w conn count e stopped m link h s u = inl refl
next_down_fine w conn count e away m link h s u = inl refl

at_up : (w : World) (conn count : ℕ) (o : Option End) → end_at w.ends conn ≡ o → NextFine w (of_end w o (λ e. next_up w conn count e.standing e.up_moved e.up))
at_up w conn count None h = inl refl
at_up w conn count (Some e) h = next_up_fine w conn count e e.standing e.up_moved e.up h refl refl

at_down : (w : World) (conn count : ℕ) (o : Option End) → end_at w.ends conn ≡ o → NextFine w (of_end w o (λ e. next_down w conn count e.standing e.down_moved e.down))
at_down w conn count None h = inl refl
at_down w conn count (Some e) h = next_down_fine w conn count e e.standing e.down_moved e.down h refl refl

at_turns : (w : World) (count left : ℕ) (o : Option Cause) → next_turn w ≡ o → NextFine w (next_of_turns w count left o)
at_turns w count left None h = inl refl
at_turns w count zero (Some c) h = (refl, tt, tt)
at_turns w count (suc left) (Some c) h = (refl, turn_fine w c h, tt)

at_drain : (w : World) (o : Option Cause) → next_turn w ≡ o → NextFine w (next_of_drain w o)
at_drain w None h = (refl, h, tt)
at_drain w (Some c) h = (refl, turn_fine w c h, tt)

pub next_fine : (w : World) (work : Work) → IsWork w work → NextFine w (next_of w work)
next_fine w resting f = inl refl
next_fine w (doing c) f = (refl, f, tt)
next_fine w (moving_up conn count) f = at_up w conn count (end_at w.ends conn) refl
next_fine w (moving_down conn count) f = at_down w conn count (end_at w.ends conn) refl
next_fine w (turning count left) f = at_turns w count left (next_turn w) refl
next_fine w draining f = at_drain w (next_turn w) refl
