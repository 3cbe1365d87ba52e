-- That nothing waits is written alone: where it is owed, nothing else is owed behind it.
use Rattle.std.proofs.Common.{◌≡◌, ℕ, zero, suc, Bool, true, false, List, [], ◌∷◌, ◌++◌, length, map, Option, None, Some, refl, sym, subst}
use Rattle.std.specs.Prelude.{Result, Ok, Err, if◌then◌else◌}
use Rattle.std.specs.List.{AllByRecursion}
use Rattle.atspi_tree_model.specs.declared.edit.Edit.{Edit}
use Rattle.atspi_tree_model.specs.declared.edit.EditFault.{EditFault}
use Rattle.atspi_script_lines.specs.declared.deed.Deed.{Deed}
use Rattle.atspi_script_lines.specs.declared.line.Line.{Line}
use Rattle.atspi_script_lines.specs.declared.line.Party.{Party}
use Rattle.atspi_script_lines.specs.declared.line.Party.TheVariants.{Bus as The_bus, Registry, App, Reader}
use Rattle.atspi_message.specs.Envelope.{Envelope}
use Rattle.atspi_match.specs.declared.routing.closing.Closing.{Closing}
use Rattle.atspi_protocol.specs.registering.Steps.{registry_takes}
use Rattle.atspi_protocol.specs.exporting.Exporter.{Happening, steps, sends, hears, deaf, Exporter, begins as begins_app}
use Rattle.atspi_protocol.specs.exporting.Starting.{starts}
use Rattle.atspi_protocol.specs.exporting.Taking.{app_edits, app_takes}
use Rattle.atspi_protocol.specs.declared.following.question.Question.{Question}
use Rattle.atspi_trace.specs.Entry.{Entry, started, changed, sent, got, heard, unheard, spoke, showed, exited, gone, dropped, busy, quiet}
use Rattle.atspi_trace.specs.World.{Said, Letter, Role, the_registry, an_application, a_reader, End, World, newcomer}
use Rattle.atspi_trace.specs.Ends.{number_of, party_at, app_count, put_up, end_at, with_end, taken_down}
use Rattle.atspi_trace.specs.Hearing.{question_in}
use Rattle.atspi_trace.specs.Carrying as carrying
use Rattle.atspi_trace.specs.Carrying.{bus_entries}
use Rattle.atspi_trace.specs.Causes.{Cause, renews, starts_app, starts_reader, edits, calls, swaps_face, exits, shows, tells_busy, tells_quiet, routes, unjoins, gets, did, edited_to, edited, called, shown, routed, without_bytes, missing, taken, took, on_end, Done, does}
use Rattle.atspi_trace.specs.Work.{Refusal, refused, Work, work_of, Next, cause, rests, next_of}
use Rattle.atspi_trace.specs.Due.{Progress, freed, rested, wrote, went, progress, bound, Scene, begins, scene_of, line_done, line_worked, unless_refused, from_lines, is_lost, onward, at_work_owing, at_work, rest_entries, writes, asks_freely, own_or_due, chosen, happens_owing, happens, after_all}
use Rattle.atspi_trace_laws.proofs.OfOrder.BusWords.{all_any, bus_all}
use Rattle.atspi_trace_laws.proofs.OfHeard.Quiet.{heard_all}

abbrev pub Alone : List Entry → Type 0
Alone [] = Unit {0}
Alone (quiet ∷ es) = es ≡ []
Alone (e ∷ es) = Alone es

abbrev NotQuiet : Entry → Type 0
NotQuiet quiet = ⊥
NotQuiet entry = Unit {0}

none_alone : (es : List Entry) → AllByRecursion NotQuiet es → Alone es
none_alone [] a = tt
none_alone (quiet ∷ es) a = absurd a.0
none_alone (started who name ∷ es) a = none_alone es a.1
none_alone (changed app step ∷ es) a = none_alone es a.1
none_alone (sent who e ∷ es) a = none_alone es a.1
none_alone (got taker from serial ∷ es) a = none_alone es a.1
none_alone (heard app listener pattern ∷ es) a = none_alone es a.1
none_alone (unheard app listener pattern ∷ es) a = none_alone es a.1
none_alone (spoke reader app text ∷ es) a = none_alone es a.1
none_alone (showed reader app rows ∷ es) a = none_alone es a.1
none_alone (exited who ∷ es) a = none_alone es a.1
none_alone (gone reader app ∷ es) a = none_alone es a.1
none_alone (dropped who queued len ∷ es) a = none_alone es a.1
none_alone (busy turns ∷ es) a = none_alone es a.1

rest_alone : (es : List Entry) → Alone es → Alone (rest_entries es)
rest_alone [] a = tt
rest_alone (quiet ∷ es) a = subst Alone (sym a) tt
rest_alone (started who name ∷ es) a = a
rest_alone (changed app step ∷ es) a = a
rest_alone (sent who e ∷ es) a = a
rest_alone (got taker from serial ∷ es) a = a
rest_alone (heard app listener pattern ∷ es) a = a
rest_alone (unheard app listener pattern ∷ es) a = a
rest_alone (spoke reader app text ∷ es) a = a
rest_alone (showed reader app rows ∷ es) a = a
rest_alone (exited who ∷ es) a = a
rest_alone (gone reader app ∷ es) a = a
rest_alone (dropped who queued len ∷ es) a = a
rest_alone (busy turns ∷ es) a = a

-- EACH CAUSE
did_none : (app : ℕ) (hs : List Happening) → AllByRecursion NotQuiet (map (did app) hs)
did_none app [] = tt
did_none app (steps step ∷ hs) = (tt, did_none app hs)
did_none app (sends e ∷ hs) = (tt, did_none app hs)
did_none app (hears listener pattern ∷ hs) = (tt, did_none app hs)
did_none app (deaf listener pattern ∷ hs) = (tt, did_none app hs)

sent_none : (who : Party) (es : List Envelope) → AllByRecursion NotQuiet (map (sent who) es)
sent_none who [] = tt
sent_none who (e ∷ es) = (tt, sent_none who es)

bus_none : (ends : List End) (own : List Envelope) (closings : List Closing) → AllByRecursion NotQuiet (bus_entries ends own closings)
bus_none ends own closings =
    bus_all NotQuiet (λ e. tt) ends own closings (all_any (λ (x : Closing). (queued len : ℕ) → NotQuiet (dropped (party_at ends x.conn) queued len)) (λ x queued len. tt) closings)

edited_to_none : (w : World) (conn : ℕ) (s : Exporter) (r : Result Exporter EditFault) → AllByRecursion NotQuiet (edited_to w conn s r).entries
edited_to_none w conn s (Ok t) = did_none (number_of (party_at w.ends conn)) t.out
edited_to_none w conn s (Err fault) = tt

edited_none : (w : World) (conn : ℕ) (edit : Edit) (role : Role) → AllByRecursion NotQuiet (edited w conn edit role).entries
edited_none w conn edit (an_application s) = edited_to_none w conn s (app_edits s edit)
edited_none w conn edit (the_registry s) = tt
edited_none w conn edit (a_reader h) = tt

called_none : (w : World) (conn : ℕ) (name : List ℕ) (node : ℕ) (deed : Deed) (role : Role) → AllByRecursion NotQuiet (called w conn name node deed role).entries
called_none w conn name node deed (a_reader h) = (tt, tt)
called_none w conn name node deed (the_registry s) = tt
called_none w conn name node deed (an_application s) = tt

shown_none : (w : World) (conn app : ℕ) (role : Role) → AllByRecursion NotQuiet (shown w conn app role).entries
shown_none w conn app (a_reader h) = (tt, tt)
shown_none w conn app (the_registry s) = tt
shown_none w conn app (an_application s) = tt

routed_none : (w : World) (conn : ℕ) (who : Party) (link : List Said) → AllByRecursion NotQuiet (routed w conn who link).entries
routed_none w conn who [] = tt
routed_none w conn who (said ∷ rest) =
    let c = carrying.takes (record { bus = w.bus; ends = w.ends }) conn who said in (tt, bus_none c.ends c.bus.own c.bus.closings)

took_none : (w : World) (conn : ℕ) (letter : Letter) (who : Party) (role : Role) → AllByRecursion NotQuiet (took w conn letter who role).entries
took_none w conn letter who (the_registry s) = (tt, sent_none who (registry_takes s letter.said.message).sent)
took_none w conn letter who (an_application s) = (tt, did_none (number_of (party_at w.ends conn)) (app_takes s letter.said.message).out)
took_none w conn letter who (a_reader h) = (tt, heard_all NotQuiet (λ r app line. tt) (λ r app. tt) (number_of who) h w.ends letter)

taken_none : (w : World) (conn : ℕ) (e : End) (link : List Letter) → AllByRecursion NotQuiet (taken w conn e link).entries
taken_none w conn e [] = tt
taken_none w conn e (letter ∷ rest) = took_none (record w { bus = without_bytes conn (missing letter.said.message e.down_moved) w.bus; ends = with_end conn taken_down w.ends }) conn letter e.who e.role

at_none : (w : World) (o : Option End) (act : End → Done) → ((e : End) → AllByRecursion NotQuiet (act e).entries) → AllByRecursion NotQuiet (on_end w o act).entries
at_none w None act f = tt
at_none w (Some e) act f = f e

does_alone : (w : World) (c : Cause) → Alone (does w c).entries
does_alone w (renews quota) = tt
does_alone w (starts_app name) = none_alone (map (did (number_of (party_at (w.ends ++ put_up [] (newcomer (App (app_count w.ends)) (an_application (begins_app name))) ∷ []) (length w.ends)))) (starts (begins_app name)).out) (did_none (number_of (party_at (w.ends ++ put_up [] (newcomer (App (app_count w.ends)) (an_application (begins_app name))) ∷ []) (length w.ends))) (starts (begins_app name)).out)
does_alone w starts_reader = tt
does_alone w (edits conn edit) = none_alone (on_end w (end_at w.ends conn) (λ e. edited w conn edit e.role)).entries (at_none w (end_at w.ends conn) (λ e. edited w conn edit e.role) (λ e. edited_none w conn edit e.role))
does_alone w (calls conn name node deed) = none_alone (on_end w (end_at w.ends conn) (λ e. called w conn name node deed e.role)).entries (at_none w (end_at w.ends conn) (λ e. called w conn name node deed e.role) (λ e. called_none w conn name node deed e.role))
does_alone w swaps_face = tt
does_alone w (exits conn) = tt
does_alone w (shows conn app) = none_alone (on_end w (end_at w.ends conn) (λ e. shown w conn app e.role)).entries (at_none w (end_at w.ends conn) (λ e. shown w conn app e.role) (λ e. shown_none w conn app e.role))
does_alone w (tells_busy turns) = tt
does_alone w tells_quiet = refl
does_alone w (routes conn) = none_alone (on_end w (end_at w.ends conn) (λ e. routed w conn e.who e.up)).entries (at_none w (end_at w.ends conn) (λ e. routed w conn e.who e.up) (λ e. routed_none w conn e.who e.up))
does_alone w (unjoins conn) =
    let c = carrying.takes_end (record { bus = w.bus; ends = w.ends }) conn in none_alone (bus_entries c.ends c.bus.own c.bus.closings) (bus_none c.ends c.bus.own c.bus.closings)
does_alone w (gets conn) = none_alone (on_end w (end_at w.ends conn) (λ e. taken w conn e e.down)).entries (at_none w (end_at w.ends conn) (λ e. taken w conn e e.down) (λ e. taken_none w conn e e.down))

-- ALONG THE LINES
wrote_alone : (go : World → Work → Progress) → ((w : World) (work : Work) → Alone (go w work).owing) → (w : World) (free : Option ℕ) (work : Work) (l : List Entry) → Alone l → Alone (wrote go w free work l).owing
wrote_alone go f w free work [] a = f w work
wrote_alone go f w free work (e ∷ es) a = a

went_alone : (go : World → Work → Progress) → ((w : World) (work : Work) → Alone (go w work).owing) → (n : Next) → Alone (went go n).owing
went_alone go f (rests w) = tt
went_alone go f (cause c w work) = wrote_alone go f (does w c).world (freed c) work (does w c).entries (does_alone w c)

progress_alone : (n : ℕ) (w : World) (work : Work) → Alone (progress n w work).owing
progress_alone zero w work = tt
progress_alone (suc n) w work = went_alone (λ v rest. progress n v rest) (λ v rest. progress_alone n v rest) (next_of w work)

worked_alone : (next : World → List World → Scene) → ((w : World) (ws : List World) → Alone (next w ws).owing) → (passed : List World) (lines : List Line) (p : Progress) (l : List Entry) → Alone p.owing
    → Alone (line_done next passed lines p l).owing
worked_alone next f passed lines p [] a = f p.world _
worked_alone next f passed lines p (e ∷ es) a = a

unless_alone : (o : Option Refusal) (s stuck : Scene) → Alone s.owing → Alone stuck.owing → Alone (unless_refused o s stuck).owing
unless_alone None s stuck a b = a
unless_alone (Some why) s stuck a b = b

lines_alone : (lines : List Line) (w : World) (passed : List World) → Alone (from_lines lines w passed).owing
lines_alone [] w passed = tt
lines_alone (line ∷ lines) w passed =
    let p : Progress = progress (bound w) w (work_of w line) in
    unless_alone (refused w line) (line_worked (λ v ws. from_lines lines v ws) passed lines p) (scene_of (rested w) passed (line ∷ lines))
    (worked_alone (λ v ws. from_lines lines v ws) (λ v ws. lines_alone lines v ws) passed lines p p.owing (progress_alone (bound w) w (work_of w line))) tt

onward_alone : (s : Scene) → Alone s.owing → Alone (onward s).owing
onward_alone s a = by (is_lost s.world)
  where
    p : Progress
    p = progress (bound s.world) s.world s.work

    by : (b : Bool) → Alone (if b then s else line_worked (λ v ws. from_lines s.left v ws) s.passed s.left p).owing
    by true = a
    by false = worked_alone (λ v ws. from_lines s.left v ws) (λ v ws. lines_alone s.left v ws) s.passed s.left p p.owing (progress_alone (bound s.world) s.world s.work)

owing_alone : (s : Scene) (l : List Entry) → Alone s.owing → Alone (at_work_owing s l).owing
owing_alone s [] a = onward_alone s a
owing_alone s (e ∷ es) a = a

pub work_alone : (s : Scene) → Alone s.owing → Alone (at_work s).owing
work_alone s a = owing_alone s s.owing a

writes_alone : (s : Scene) → Alone s.owing → Alone (writes s).owing
writes_alone s a = rest_alone (at_work s).owing (work_alone s a)

asks_alone : (s : Scene) (o : Option ℕ) (m : Envelope) (question : Question) → Alone s.owing → Alone (asks_freely s o m question).owing
asks_alone s None m question a = a
asks_alone s (Some conn) m question a = a

own_alone : (s : Scene) (m : Envelope) (o : Option Question) → Alone s.owing → Alone (own_or_due s m o).owing
own_alone s m None a = writes_alone s a
own_alone s m (Some question) a = asks_alone s s.free m question a

chosen_alone : (s : Scene) (entry : Entry) → Alone s.owing → Alone (chosen s entry).owing
chosen_alone s (sent (Reader r) e) a = own_alone s e (question_in e) a
chosen_alone s (sent The_bus e) a = writes_alone s a
chosen_alone s (sent Registry e) a = writes_alone s a
chosen_alone s (sent (App b) e) a = writes_alone s a
chosen_alone s entry a = writes_alone s a

owed_alone : (s : Scene) (entry : Entry) (l : List Entry) → Alone s.owing → Alone (happens_owing s entry l).owing
owed_alone s entry [] a = chosen_alone s entry a
owed_alone s entry (e ∷ es) a = writes_alone s a

all_alone : (s : Scene) (es : List Entry) → Alone s.owing → Alone (after_all s es).owing
all_alone s [] a = a
all_alone s (e ∷ es) a = all_alone (happens s e) es (owed_alone s e s.owing a)

pub always_alone : (lines : List Line) (es : List Entry) → Alone (after_all (begins lines) es).owing
always_alone lines es = all_alone (begins lines) es tt
