-- WHAT A LINE DOES, and what a turn or the bytes of a line do, in the few forms that there are, each with its line.
use Rattle.std.proofs.Common.{◌≡◌, ℕ, zero, suc, ◌-◌, Bool, true, false, List, [], ◌∷◌, length, None, Some, refl, sym, ap, ◌∙◌, subst}
use Rattle.std.specs.Prelude.{Option, nat_lt, nat_le, Result, Ok, Err, if◌then◌else◌}
use Rattle.atspi_tree_model.specs.declared.edit.Edit.{Edit}
use Rattle.atspi_tree_model.specs.declared.edit.EditFault.{EditFault}
use Rattle.atspi_tree_model.specs.Edits.{is_long_name, IsEdit}
use Rattle.atspi_script_lines.specs.declared.deed.Deed.{Deed}
use Rattle.atspi_script_lines.specs.declared.limits.TheConstants.{APP_COUNT, READER_COUNT}
use Rattle.atspi_script_lines.specs.declared.line.Line.{Line}
use Rattle.atspi_script_lines.specs.declared.line.Line.TheVariants.{Blank, Quota, App as App_line, Reader as Reader_line, Edit as Edit_line, Call, Swap, Exit, Leave, Bytes, Turns, Drain, Show}
use Rattle.atspi_script_lines.specs.declared.line.Party.{Party}
use Rattle.atspi_script_lines.specs.declared.line.Party.TheVariants.{Bus as The_bus, Registry, App, Reader}
use Rattle.atspi_protocol.specs.registering.RegistryState.{RegistryState}
use Rattle.atspi_protocol.specs.exporting.Exporter.{Exporter}
use Rattle.atspi_protocol.specs.exporting.Taking.{app_edits}
use Rattle.atspi_trace.specs.Entry.{busy, quiet}
use Rattle.atspi_trace.specs.World.{Standing, here, stopped, away, Hearer, Role, the_registry, an_application, a_reader, Said, Letter, End, World, first_world}
use Rattle.atspi_trace.specs.Ends.{is_here, same_party, number_of, conn_of, end_of, end_at, end_if, app_count, reader_count}
use Rattle.atspi_trace.specs.Causes.{Cause, renews, starts_app, starts_reader, edits, calls, swaps_face, exits, shows, tells_busy, tells_quiet, routes, unjoins, gets, Done, only, app_did, app_starts, edited_to, edited, reader_starts, called, shown, routed, on_end, missing, does}
use Rattle.atspi_trace.specs.Work as work
use Rattle.atspi_trace.specs.Work.{Refusal, no_party, dead, of_edit, if_started, if_here, no_more, if_refused, edit_refusal, call_refusal, refused, Work, resting, doing, moving_up, moving_down, turning, draining, with_conn, name_of, work_of, up_turn, down_turn, next_turn, Next, cause, rests, moved_up, moved_down, next_up, next_down, of_end, next_of_turns, next_of_drain, next_of}
use Rattle.atspi_trace_laws.specs.order.Scripts.{CanStand}
use Rattle.atspi_trace_laws.proofs.OfOrder.Parties.{no_none, same-party, found}
use Rattle.atspi_trace_laws.proofs.OfOrder.Allowed.{IsHere, Allowed, IsBare}
use Rattle.atspi_trace_laws.proofs.OfOrder.Shape.{RoleFits, Shape}
use Rattle.atspi_trace_laws.proofs.OfOrder.Effects.{AppTakes, Stopping, BusTakes, BusEnds, RegistryTakes, ReaderTakes, app_role, reader_role, take_is}
use Rattle.atspi_trace_played.proofs.BuildingFading.{IsTurn, IsQuietTurn}
use Rattle.atspi_trace_played.proofs.BuildingFuel.{is_turn}

-- A LINE
pub data LineDid (w : World) : Line → Done → Type 0 where
  renewed : (quota : ℕ) → nat_lt 1 (length w.ends) ≡ false → LineDid w (Quota quota) (only (first_world quota) [])
  app_began : (name : List ℕ) → is_long_name name ≡ false → nat_le APP_COUNT (app_count w.ends) ≡ false → LineDid w (App_line name) (app_starts w name)
  reader_began : nat_le READER_COUNT (reader_count w.ends) ≡ false → LineDid w Reader_line (reader_starts w)
  edited_app : (app conn : ℕ) (edit : Edit) (e : End) (before after : Exporter) → IsHere w.ends conn e → e.who ≡ App app → e.role ≡ an_application before
      → app_edits before edit ≡ Ok after → IsEdit edit → LineDid w (Edit_line app edit) (app_did w conn [] before after)
  called_app : (reader app node conn : ℕ) (deed : Deed) (e : End) (hearer : Hearer) → IsHere w.ends conn e → e.who ≡ Reader reader → e.role ≡ a_reader hearer
      → LineDid w (Call reader app node deed) (called w conn (name_of (end_of w.ends (App app))) node deed (a_reader hearer))
  swapped : (app : ℕ) → LineDid w (Swap app) (only (record w { swaps = suc w.swaps }) [])
  app_stopped : (app : ℕ) (d : Done) (b : Stopping w d) → b.e.who ≡ App app → LineDid w (Exit app) d
  reader_stopped : (reader : ℕ) (d : Done) (b : Stopping w d) → b.e.who ≡ Reader reader → LineDid w (Leave reader) d
  showed : (reader app conn : ℕ) (e : End) (hearer : Hearer) → end_at w.ends conn ≡ Some e → e.who ≡ Reader reader → e.role ≡ a_reader hearer
      → LineDid w (Show reader app) (shown w conn app (a_reader hearer))

-- the cause of a line
same_doing : (c d : Cause) → doing c ≡ doing d → c ≡ d
same_doing c d h = ap (λ x. cause_in x c) h
  where
    cause_in : Work → Cause → Cause
    cause_in (doing x) y = x
    cause_in work y = y

not_doing : (work : Work) (c : Cause) → IsBare work → work ≡ doing c → ⊥
not_doing work c b h = subst IsBare h b

-- the party of a line is there
pub there_at : (w : World) (who : Party) (conn : ℕ) → conn_of w.ends who ≡ Some conn → (e : End) × (end_at w.ends conn ≡ Some e) × (e.who ≡ who)
there_at w who conn h =
    let f = found (λ (e : End). same_party e.who who) w.ends conn h in
    (f.0, f.1, same-party f.0.who who f.2)

started_so : (w : World) (who : Party) (conn : ℕ) (e : End) (next : End → Option Refusal) → conn_of w.ends who ≡ Some conn → end_at w.ends conn ≡ Some e → if_started (end_of w.ends who) next ≡ None → next e ≡ None
started_so w who conn e next h there ok = ap (λ o. if_started o next) (sym (ap (end_if w.ends) h ∙ there)) ∙ ok

here_so : (e : End) (next : End → Option Refusal) (st : Standing) → e.standing ≡ st → if_here e next ≡ None → (e.standing ≡ here) × (next e ≡ None)
here_so e next here s h = (s, ap (λ t. if is_here t then next e else Some dead) (sym s) ∙ h)
here_so e next stopped s h = absurd (no_none dead (sym h ∙ ap (λ t. if is_here t then next e else Some dead) s))
here_so e next away s h = absurd (no_none dead (sym h ∙ ap (λ t. if is_here t then next e else Some dead) s))

ok_so : (r : Result Exporter EditFault) → if_refused r ≡ None → (t : Exporter) × (r ≡ Ok t)
ok_so (Ok t) h = (t, refl)
ok_so (Err fault) h = absurd (no_none (of_edit fault) (sym h))

on_known : (w : World) (conn : ℕ) (e : End) (act : End → Done) → end_at w.ends conn ≡ Some e → on_end w (end_at w.ends conn) act ≡ act e
on_known w conn e act h = ap (λ o. on_end w o act) h

edit_did : (w : World) (app : ℕ) (edit : Edit) (c : Cause) (o : Option ℕ) → Shape w → IsEdit edit → conn_of w.ends (App app) ≡ o
    → if_started (end_of w.ends (App app)) (λ e. if_here e (λ a. edit_refusal edit a.role)) ≡ None → with_conn o (λ conn. doing (edits conn edit)) ≡ doing c → LineDid w (Edit_line app edit) (does w c)
edit_did w app edit c None s k h ok is = absurd (not_doing resting c tt is)
edit_did w app edit c (Some conn) s k h ok is =
    let t = there_at w (App app) conn h in
    let x = here_so t.0 (λ a. edit_refusal edit a.role) t.0.standing refl (started_so w (App app) conn t.0 (λ e. if_here e (λ a. edit_refusal edit a.role)) h t.1 ok) in
    let f = app_role t.0.role app (subst (λ p. RoleFits p t.0.role) t.2 (s.roles conn t.0 t.1)) in
    let g = ok_so (app_edits f.0 edit) (ap (edit_refusal edit) (sym f.1) ∙ x.1) in
    let now : does w (edits conn edit) ≡ app_did w conn [] f.0 g.0 =
    on_known w conn t.0 (λ a. edited w conn edit a.role) t.1 ∙ ap (edited w conn edit) f.1 ∙ ap (edited_to w conn f.0) g.1 in
    subst (LineDid w (Edit_line app edit)) (sym now ∙ ap (does w) (same_doing (edits conn edit) c is))
    (edited_app app conn edit t.0 f.0 g.0 (record { there = t.1; standing = x.0 }) t.2 f.1 g.1 k)

-- of the two ends that a call names the caller is here
caller_here : (w : World) (reader app : ℕ) (o : Option End)
    → if_started (end_of w.ends (Reader reader)) (λ r. if_started o (λ a. if_here r (λ caller. call_refusal app caller.role))) ≡ None
    → if_started (end_of w.ends (Reader reader)) (λ r. if_here r (λ caller. call_refusal app caller.role)) ≡ None
caller_here w reader app (Some a) h = h
caller_here w reader app None h = by (end_of w.ends (Reader reader)) h
  where
    by : (p : Option End) → if_started p (λ r. if_started None (λ a. if_here r (λ caller. call_refusal app caller.role))) ≡ None
        → if_started p (λ r. if_here r (λ caller. call_refusal app caller.role)) ≡ None
    by None k = k
    by (Some r) k = absurd (no_none _ (sym k))

call_did : (w : World) (reader app node : ℕ) (deed : Deed) (c : Cause) (o : Option ℕ) → Shape w → conn_of w.ends (Reader reader) ≡ o
    → if_started (end_of w.ends (Reader reader)) (λ r. if_here r (λ caller. call_refusal app caller.role)) ≡ None
    → with_conn o (λ conn. doing (calls conn (name_of (end_of w.ends (App app))) node deed)) ≡ doing c → LineDid w (Call reader app node deed) (does w c)
call_did w reader app node deed c None s h ok is = absurd (not_doing resting c tt is)
call_did w reader app node deed c (Some conn) s h ok is =
    let t = there_at w (Reader reader) conn h in
    let x = here_so t.0 (λ caller. call_refusal app caller.role) t.0.standing refl (started_so w (Reader reader) conn t.0 (λ r. if_here r (λ caller. call_refusal app caller.role)) h t.1 ok) in
    let f = reader_role t.0.role reader (subst (λ p. RoleFits p t.0.role) t.2 (s.roles conn t.0 t.1)) in
    let name : List ℕ = name_of (end_of w.ends (App app)) in
    let now : does w (calls conn name node deed) ≡ called w conn name node deed (a_reader f.0) =
    on_known w conn t.0 (λ a. called w conn name node deed a.role) t.1 ∙ ap (called w conn name node deed) f.1 in
    subst (LineDid w (Call reader app node deed)) (sym now ∙ ap (does w) (same_doing (calls conn name node deed) c is))
    (called_app reader app node conn deed t.0 f.0 (record { there = t.1; standing = x.0 }) t.2 f.1)

stop_did : (w : World) (who : Party) (conn : ℕ) → same_party who Registry ≡ false → conn_of w.ends who ≡ Some conn → if_started (end_of w.ends who) (λ e. if_here e no_more) ≡ None
    → (b : Stopping w (does w (exits conn))) × (b.e.who ≡ who)
stop_did w who conn n h ok =
    let t = there_at w who conn h in
    let x = here_so t.0 no_more t.0.standing refl (started_so w who conn t.0 (λ e. if_here e no_more) h t.1 ok) in
    let b : Stopping w (does w (exits conn)) = record { conn = conn; e = t.0; is_here = record { there = t.1; standing = x.0 }; no_registry = ap (λ p. same_party p Registry) t.2 ∙ n; is = refl } in
    (b, t.2)

exit_did : (w : World) (app : ℕ) (c : Cause) (o : Option ℕ) → conn_of w.ends (App app) ≡ o → if_started (end_of w.ends (App app)) (λ e. if_here e no_more) ≡ None
    → with_conn o (λ conn. doing (exits conn)) ≡ doing c → LineDid w (Exit app) (does w c)
exit_did w app c None h ok is = absurd (not_doing resting c tt is)
exit_did w app c (Some conn) h ok is =
    let x = stop_did w (App app) conn refl h ok in
    subst (LineDid w (Exit app)) (ap (does w) (same_doing (exits conn) c is)) (app_stopped app (does w (exits conn)) x.0 x.1)

leave_did : (w : World) (reader : ℕ) (c : Cause) (o : Option ℕ) → conn_of w.ends (Reader reader) ≡ o → if_started (end_of w.ends (Reader reader)) (λ e. if_here e no_more) ≡ None
    → with_conn o (λ conn. doing (exits conn)) ≡ doing c → LineDid w (Leave reader) (does w c)
leave_did w reader c None h ok is = absurd (not_doing resting c tt is)
leave_did w reader c (Some conn) h ok is =
    let x = stop_did w (Reader reader) conn refl h ok in
    subst (LineDid w (Leave reader)) (ap (does w) (same_doing (exits conn) c is)) (reader_stopped reader (does w (exits conn)) x.0 x.1)

show_did : (w : World) (reader app : ℕ) (c : Cause) (o : Option ℕ) → Shape w → conn_of w.ends (Reader reader) ≡ o → with_conn o (λ conn. doing (shows conn app)) ≡ doing c → LineDid w (Show reader app) (does w c)
show_did w reader app c None s h is = absurd (not_doing resting c tt is)
show_did w reader app c (Some conn) s h is =
    let t = there_at w (Reader reader) conn h in
    let f = reader_role t.0.role reader (subst (λ p. RoleFits p t.0.role) t.2 (s.roles conn t.0 t.1)) in
    let now : does w (shows conn app) ≡ shown w conn app (a_reader f.0) = on_known w conn t.0 (λ a. shown w conn app a.role) t.1 ∙ ap (shown w conn app) f.1 in
    subst (LineDid w (Show reader app)) (sym now ∙ ap (does w) (same_doing (shows conn app) c is)) (showed reader app conn t.0 f.0 t.1 t.2 f.1)

pub line_did : (w : World) (line : Line) (c : Cause) → Shape w → refused w line ≡ None → CanStand line → Allowed w c → work_of w line ≡ doing c → LineDid w line (does w c)
line_did w Blank c s ok can a is = absurd (not_doing resting c tt is)
line_did w (Quota quota) c s ok can a is =
    let same = same_doing (renews quota) c is in
    subst (LineDid w (Quota quota)) (ap (does w) same) (renewed quota (subst (Allowed w) (sym same) a))
line_did w (App_line name) c s ok can a is =
    let same = same_doing (starts_app name) c is in
    let b : Allowed w (starts_app name) = subst (Allowed w) (sym same) a in
    subst (LineDid w (App_line name)) (ap (does w) same) (app_began name b.0 b.1)
line_did w Reader_line c s ok can a is =
    let same = same_doing starts_reader c is in
    subst (LineDid w Reader_line) (ap (does w) same) (reader_began (subst (Allowed w) (sym same) a))
line_did w (Edit_line app edit) c s ok can a is = edit_did w app edit c (conn_of w.ends (App app)) s can refl ok is
line_did w (Call reader app node deed) c s ok can a is = call_did w reader app node deed c (conn_of w.ends (Reader reader)) s refl (caller_here w reader app (end_of w.ends (App app)) ok) is
line_did w (Swap app) c s ok can a is = subst (LineDid w (Swap app)) (ap (does w) (same_doing swaps_face c is)) (swapped app)
line_did w (Exit app) c s ok can a is = exit_did w app c (conn_of w.ends (App app)) refl ok is
line_did w (Leave reader) c s ok can a is = leave_did w reader c (conn_of w.ends (Reader reader)) refl ok is
line_did w (Bytes who up count) c s ok can a is = absurd (bytes_no (conn_of w.ends who) up is)
  where
    bytes_no : (o : Option ℕ) (up : Bool) → with_conn o (work.moving up count) ≡ doing c → ⊥
    bytes_no None up h = not_doing resting c tt h
    bytes_no (Some conn) true h = not_doing (moving_up conn count) c tt h
    bytes_no (Some conn) false h = not_doing (moving_down conn count) c tt h
line_did w (Turns count) c s ok can a is = absurd (not_doing (turning count count) c tt is)
line_did w Drain c s ok can a is = absurd (not_doing draining c tt is)
line_did w (Show reader app) c s ok can a is = show_did w reader app c (conn_of w.ends (Reader reader)) s refl is

-- WHAT IS LEFT OF A LINE: the bus takes a message or an end, an end takes a message, or it is told that something waits, or nothing
pub data TurnDid (w : World) : Cause → Done → Type 0 where
  told_busy : (turns : ℕ) → TurnDid w (tells_busy turns) (only w (busy turns ∷ []))
  told_quiet : next_turn w ≡ None → TurnDid w tells_quiet (only w (quiet ∷ []))
  bus_took : (d : Done) (b : BusTakes w d) → TurnDid w (routes b.conn) d
  bus_ended : (d : Done) (b : BusEnds w d) → TurnDid w (unjoins b.conn) d
  registry_took : (d : Done) (b : RegistryTakes w d) → TurnDid w (gets b.conn) d
  app_took : (d : Done) (b : AppTakes w d) → TurnDid w (gets b.conn) d
  reader_took : (d : Done) (b : ReaderTakes w d) → TurnDid w (gets b.conn) d

pub of_registry : (who : Party) (s : RegistryState) → RoleFits who (the_registry s) → who ≡ Registry
of_registry Registry s f = refl
of_registry The_bus s f = absurd f
of_registry (App a) s f = absurd f
of_registry (Reader r) s f = absurd f

of_app : (who : Party) (s : Exporter) → RoleFits who (an_application s) → who ≡ App (number_of who)
of_app (App a) s f = refl
of_app Registry s f = absurd f
of_app The_bus s f = absurd f
of_app (Reader r) s f = absurd f

of_reader : (who : Party) (h : Hearer) → RoleFits who (a_reader h) → who ≡ Reader (number_of who)
of_reader (Reader r) h f = refl
of_reader Registry h f = absurd f
of_reader The_bus h f = absurd f
of_reader (App a) h f = absurd f

take_did : (w : World) (conn : ℕ) (e : End) (letter : Letter) (rest : List Letter) (role : Role) → Shape w → IsHere w.ends conn e → e.down ≡ letter ∷ rest → e.role ≡ role
    → TurnDid w (gets conn) (does w (gets conn))
take_did w conn e letter rest (the_registry s) sh h link f =
    registry_took (does w (gets conn)) (record {
      conn = conn;
      e = e;
      before = s;
      letter = letter;
      rest = rest;
      is_here = h;
      whose = of_registry e.who s (subst (RoleFits e.who) f (sh.roles conn e h.there));
      role = f;
      link = link;
      is = take_is w conn e letter rest (the_registry s) h.there link f;
    })
take_did w conn e letter rest (an_application s) sh h link f =
    app_took (does w (gets conn)) (record {
      conn = conn;
      app = number_of e.who;
      e = e;
      before = s;
      letter = letter;
      rest = rest;
      is_here = h;
      whose = of_app e.who s (subst (RoleFits e.who) f (sh.roles conn e h.there));
      role = f;
      link = link;
      is = take_is w conn e letter rest (an_application s) h.there link f;
    })
take_did w conn e letter rest (a_reader s) sh h link f =
    reader_took (does w (gets conn)) (record {
      conn = conn;
      reader = number_of e.who;
      e = e;
      hearer = s;
      letter = letter;
      rest = rest;
      is_here = h;
      whose = of_reader e.who s (subst (RoleFits e.who) f (sh.roles conn e h.there));
      role = f;
      link = link;
      is = take_is w conn e letter rest (a_reader s) h.there link f;
    })

pub turn_did : (w : World) (c : Cause) → Shape w → IsQuietTurn c → Allowed w c → TurnDid w c (does w c)
turn_did w (tells_busy turns) s t a = told_busy turns
turn_did w tells_quiet s t a = told_quiet a
turn_did w (routes conn) s t a =
    bus_took (does w (routes conn)) (record {
      conn = conn;
      e = a.0;
      said = a.1;
      rest = a.2;
      is_here = a.3;
      link = a.4;
      is = on_known w conn a.0 (λ x. routed w conn x.who x.up) a.3.there ∙ ap (routed w conn a.0.who) a.4;
    })
turn_did w (unjoins conn) s t a = bus_ended (does w (unjoins conn)) (record { conn = conn; e = a.0; there = a.1; standing = a.2; is = refl })
turn_did w (gets conn) s t a = take_did w conn a.0 a.1 a.2 a.0.role s a.3 a.4 refl
turn_did w (renews quota) s t a = absurd t
turn_did w (starts_app name) s t a = absurd t
turn_did w starts_reader s t a = absurd t
turn_did w (edits conn edit) s t a = absurd t
turn_did w (calls conn name node deed) s t a = absurd t
turn_did w swaps_face s t a = absurd t
turn_did w (exits conn) s t a = absurd t
turn_did w (shows conn app) s t a = absurd t

-- the cause of a work that is no single cause is one of these
abbrev QuietNext : Next → Type 0
QuietNext (cause c v left) = IsQuietTurn c
QuietNext (rests v) = Unit {0}

of_turn : (c : Cause) → IsTurn c → IsQuietTurn c
of_turn (routes conn) t = tt
of_turn (unjoins conn) t = tt
of_turn (gets conn) t = tt
of_turn (tells_busy turns) t = tt
of_turn tells_quiet t = tt
of_turn (renews quota) t = t
of_turn (starts_app name) t = t
of_turn starts_reader t = t
of_turn (edits conn edit) t = t
of_turn (calls conn name node deed) t = t
of_turn swaps_face t = t
of_turn (exits conn) t = t
of_turn (shows conn app) t = t

up_quiet : (w : World) (conn count : ℕ) (st : Standing) (m : ℕ) (link : List Said) → QuietNext (next_up w conn count st m link)
up_quiet w conn count here m (said ∷ rest) = by (nat_le (missing said.message m) count)
  where
    by : (b : Bool) → QuietNext (if b then cause (routes conn) w (moving_up conn (count - missing said.message m)) else rests (moved_up w conn count))
    by true = tt
    by false = tt
up_quiet w conn count here m [] = tt
up_quiet w conn zero stopped m link = tt
up_quiet w conn (suc count) stopped m link = tt
up_quiet w conn count away m link = tt

down_quiet : (w : World) (conn count : ℕ) (st : Standing) (m : ℕ) (link : List Letter) → QuietNext (next_down w conn count st m link)
down_quiet w conn count here m (letter ∷ rest) = by (nat_le (missing letter.said.message m) count)
  where
    by : (b : Bool) → QuietNext (if b then cause (gets conn) w (moving_down conn (count - missing letter.said.message m)) else rests (moved_down w conn count))
    by true = tt
    by false = tt
down_quiet w conn count here m [] = tt
down_quiet w conn count stopped m link = tt
down_quiet w conn count away m link = tt

at_end_quiet : (w : World) (o : Option End) (next : End → Next) → ((e : End) → QuietNext (next e)) → QuietNext (of_end w o next)
at_end_quiet w None next f = tt
at_end_quiet w (Some e) next f = f e

turns_quiet : (w : World) (count left : ℕ) (o : Option Cause) → next_turn w ≡ o → QuietNext (next_of_turns w count left o)
turns_quiet w count left None h = tt
turns_quiet w count zero (Some c) h = tt
turns_quiet w count (suc left) (Some c) h = of_turn c (is_turn w c h)

drain_quiet : (w : World) (o : Option Cause) → next_turn w ≡ o → QuietNext (next_of_drain w o)
drain_quiet w None h = tt
drain_quiet w (Some c) h = of_turn c (is_turn w c h)

next_quiet : (w : World) (work : Work) → IsBare work → QuietNext (next_of w work)
next_quiet w resting b = tt
next_quiet w (doing c) b = absurd b
next_quiet w (moving_up conn count) b = at_end_quiet w (end_at w.ends conn) (λ e. next_up w conn count e.standing e.up_moved e.up) (λ e. up_quiet w conn count e.standing e.up_moved e.up)
next_quiet w (moving_down conn count) b = at_end_quiet w (end_at w.ends conn) (λ e. next_down w conn count e.standing e.down_moved e.down) (λ e. down_quiet w conn count e.standing e.down_moved e.down)
next_quiet w (turning count left) b = turns_quiet w count left (next_turn w) refl
next_quiet w draining b = drain_quiet w (next_turn w) refl

pub bare_quiet : (w : World) (work left : Work) (c : Cause) → IsBare work → next_of w work ≡ cause c w left → IsQuietTurn c
bare_quiet w work left c b is = subst QuietNext is (next_quiet w work b)

-- A LINE OF WHICH MORE IS LEFT than one cause moves bytes or makes turns, or does nothing
abbrev pub IsBareLine : Line → Type 0
IsBareLine Blank = Unit {0}
IsBareLine (Bytes who up count) = Unit {0}
IsBareLine (Turns count) = Unit {0}
IsBareLine Drain = Unit {0}
IsBareLine line = ⊥

-- who is not there is refused
none_there : (w : World) (who : Party) (next : End → Option Refusal) → conn_of w.ends who ≡ None → if_started (end_of w.ends who) next ≡ None → ⊥
none_there w who next h ok = no_none no_party (sym ok ∙ ap (λ o. if_started (end_if w.ends o) next) h)

bare_at : (w : World) (who : Party) (line : Line) (make : ℕ → Cause) (next : End → Option Refusal) (o : Option ℕ) → conn_of w.ends who ≡ o → if_started (end_of w.ends who) next ≡ None
    → IsBare (with_conn o (λ conn. doing (make conn))) → IsBareLine line
bare_at w who line make next (Some conn) h ok b = absurd b
bare_at w who line make next None h ok b = absurd (none_there w who next h ok)

pub bare_line : (w : World) (line : Line) → refused w line ≡ None → IsBare (work_of w line) → IsBareLine line
bare_line w Blank ok b = tt
bare_line w (Bytes who up count) ok b = tt
bare_line w (Turns count) ok b = tt
bare_line w Drain ok b = tt
bare_line w (Quota quota) ok b = absurd b
bare_line w (App_line name) ok b = absurd b
bare_line w Reader_line ok b = absurd b
bare_line w (Swap app) ok b = absurd b
bare_line w (Edit_line app edit) ok b = bare_at w (App app) (Edit_line app edit) (λ conn. edits conn edit) (λ e. if_here e (λ a. edit_refusal edit a.role)) (conn_of w.ends (App app)) refl ok b
bare_line w (Call reader app node deed) ok b =
    bare_at w (Reader reader) (Call reader app node deed) (λ conn. calls conn (name_of (end_of w.ends (App app))) node deed) (λ r. if_here r (λ caller. call_refusal app caller.role)) (conn_of w.ends (Reader reader)) refl
    (caller_here w reader app (end_of w.ends (App app)) ok) b
bare_line w (Exit app) ok b = bare_at w (App app) (Exit app) (λ conn. exits conn) (λ e. if_here e no_more) (conn_of w.ends (App app)) refl ok b
bare_line w (Leave reader) ok b = bare_at w (Reader reader) (Leave reader) (λ conn. exits conn) (λ e. if_here e no_more) (conn_of w.ends (Reader reader)) refl ok b
bare_line w (Show reader app) ok b = bare_at w (Reader reader) (Show reader app) (λ conn. shows conn app) (λ r. if_started (end_of w.ends (App app)) no_more) (conn_of w.ends (Reader reader)) refl ok b
