-- What a cause writes first is no reader's own call.
use lib.Utf8.{encode}
use Rattle.std.proofs.Common.{◌≡◌, ℕ, List, [], ◌∷◌, map, None, Some, refl}
use Rattle.std.specs.Prelude.{Option, Result, Ok, Err}
use Rattle.std.specs.List.{AllByRecursion}
use Rattle.atspi_tree_model.specs.declared.edit.Edit.{Edit}
use Rattle.atspi_tree_model.specs.declared.edit.EditFault.{EditFault}
use Rattle.atspi_script_lines.specs.declared.deed.Deed.{Deed}
use Rattle.atspi_script_lines.specs.declared.deed.Deed.TheVariants.{SetCaret, InsertText, DeleteText, SetText, SelectChild, DeselectChild, SelectAll, ClearSelection, DoAction}
use Rattle.atspi_script_lines.specs.declared.line.Party.{Party}
use Rattle.atspi_script_lines.specs.declared.line.Party.TheVariants.{Bus as The_bus, Registry, App, Reader}
use Rattle.atspi_message.specs.Envelope.{Envelope}
use Rattle.atspi_match.specs.declared.routing.closing.Closing.{Closing}
use Rattle.atspi_protocol.specs.exporting.Exporter.{Happening, steps, sends, hears, deaf, Exporter}
use Rattle.atspi_protocol.specs.exporting.Taking.{app_edits}
use Rattle.atspi_protocol.specs.following.Calls.{user_call}
use Rattle.atspi_trace.specs.Entry.{Entry, sent, dropped}
use Rattle.atspi_trace.specs.World.{Said, Letter, Role, the_registry, an_application, a_reader, End, World}
use Rattle.atspi_trace.specs.Ends.{number_of, party_at, end_at, with_end, taken_down}
use Rattle.atspi_trace.specs.Hearing.{question_in}
use Rattle.atspi_trace.specs.Carrying as carrying
use Rattle.atspi_trace.specs.Carrying.{sent_by_bus, is_upto, dropped_if, bus_entries}
use Rattle.atspi_trace.specs.Causes.{Cause, renews, starts_app, starts_reader, edits, calls, swaps_face, exits, shows, tells_busy, tells_quiet, routes, unjoins, gets, did, edited_to, edited, called, shown, routed, without_bytes, missing, taken, took, on_end, Done, does}
use Rattle.atspi_trace_laws.proofs.OfOrder.BusWords.{all_any, bus_all}

abbrev pub NotOwn : Entry → Type 0
NotOwn (sent (Reader r) e) = question_in e ≡ None
NotOwn entry = Unit {0}

abbrev pub FirstPlain : List Entry → Type 0
FirstPlain [] = Unit {0}
FirstPlain (entry ∷ entries) = NotOwn entry

first_of_all : (entries : List Entry) → AllByRecursion NotOwn entries → FirstPlain entries
first_of_all [] a = tt
first_of_all (e ∷ es) a = a.0

-- a user's call has none of the forms of an own call
pub user_plain : (serial : ℕ) (name : List ℕ) (node : ℕ) (deed : Deed) → question_in (user_call serial name node deed) ≡ None
unfolding encode
user_plain serial name node (SetCaret at) = refl
user_plain serial name node (InsertText at text) = refl
user_plain serial name node (DeleteText from to) = refl
user_plain serial name node (SetText text) = refl
user_plain serial name node (SelectChild index) = refl
user_plain serial name node (DeselectChild index) = refl
user_plain serial name node SelectAll = refl
user_plain serial name node ClearSelection = refl
user_plain serial name node (DoAction index) = refl

sent_plain : (who : Party) (e : Envelope) → question_in e ≡ None → NotOwn (sent who e)
sent_plain The_bus e h = tt
sent_plain Registry e h = tt
sent_plain (App a) e h = tt
sent_plain (Reader r) e h = h

-- what an application did
did_plain : (app : ℕ) (hs : List Happening) → FirstPlain (map (did app) hs)
did_plain app [] = tt
did_plain app (steps step ∷ hs) = tt
did_plain app (sends e ∷ hs) = tt
did_plain app (hears listener pattern ∷ hs) = tt
did_plain app (deaf listener pattern ∷ hs) = tt

edited_to_plain : (w : World) (conn : ℕ) (s : Exporter) (r : Result Exporter EditFault) → FirstPlain (edited_to w conn s r).entries
edited_to_plain w conn s (Ok t) = did_plain (number_of (party_at w.ends conn)) t.out
edited_to_plain w conn s (Err fault) = tt

edited_plain : (w : World) (conn : ℕ) (edit : Edit) (role : Role) → FirstPlain (edited w conn edit role).entries
edited_plain w conn edit (an_application s) = edited_to_plain w conn s (app_edits s edit)
edited_plain w conn edit (the_registry s) = tt
edited_plain w conn edit (a_reader h) = tt

called_plain : (w : World) (conn : ℕ) (name : List ℕ) (node : ℕ) (deed : Deed) (role : Role) → FirstPlain (called w conn name node deed role).entries
called_plain w conn name node deed (a_reader h) = sent_plain (party_at w.ends conn) (user_call h.next name node deed) (user_plain h.next name node deed)
called_plain w conn name node deed (the_registry s) = tt
called_plain w conn name node deed (an_application s) = tt

shown_plain : (w : World) (conn app : ℕ) (role : Role) → FirstPlain (shown w conn app role).entries
shown_plain w conn app (a_reader h) = tt
shown_plain w conn app (the_registry s) = tt
shown_plain w conn app (an_application s) = tt

routed_plain : (w : World) (conn : ℕ) (who : Party) (link : List Said) → FirstPlain (routed w conn who link).entries
routed_plain w conn who [] = tt
routed_plain w conn who (said ∷ rest) = tt

took_plain : (w : World) (conn : ℕ) (letter : Letter) (who : Party) (role : Role) → FirstPlain (took w conn letter who role).entries
took_plain w conn letter who (the_registry s) = tt
took_plain w conn letter who (an_application s) = tt
took_plain w conn letter who (a_reader h) = tt

taken_plain : (w : World) (conn : ℕ) (e : End) (link : List Letter) → FirstPlain (taken w conn e link).entries
taken_plain w conn e [] = tt
taken_plain w conn e (letter ∷ rest) = took_plain (record w { bus = without_bytes conn (missing letter.said.message e.down_moved) w.bus; ends = with_end conn taken_down w.ends }) conn letter e.who e.role

at_plain : (w : World) (o : Option End) (act : End → Done) → ((e : End) → FirstPlain (act e).entries) → FirstPlain (on_end w o act).entries
at_plain w None act f = tt
at_plain w (Some e) act f = f e

pub does_plain : (w : World) (c : Cause) → FirstPlain (does w c).entries
does_plain w (renews quota) = tt
does_plain w (starts_app name) = tt
does_plain w starts_reader = tt
does_plain w (edits conn edit) = at_plain w (end_at w.ends conn) (λ e. edited w conn edit e.role) (λ e. edited_plain w conn edit e.role)
does_plain w (calls conn name node deed) = at_plain w (end_at w.ends conn) (λ e. called w conn name node deed e.role) (λ e. called_plain w conn name node deed e.role)
does_plain w swaps_face = tt
does_plain w (exits conn) = tt
does_plain w (shows conn app) = at_plain w (end_at w.ends conn) (λ e. shown w conn app e.role) (λ e. shown_plain w conn app e.role)
does_plain w (tells_busy turns) = tt
does_plain w tells_quiet = tt
does_plain w (routes conn) = at_plain w (end_at w.ends conn) (λ e. routed w conn e.who e.up) (λ e. routed_plain w conn e.who e.up)
does_plain w (unjoins conn) =
    let c = carrying.takes_end (record { bus = w.bus; ends = w.ends }) conn in
    first_of_all (bus_entries c.ends c.bus.own c.bus.closings) (bus_all NotOwn (λ e. tt) c.ends c.bus.own c.bus.closings (all_any (λ (x : Closing). (queued len : ℕ) → NotOwn (dropped (party_at c.ends x.conn) queued len)) (λ x queued len. tt) c.bus.closings))
does_plain w (gets conn) = at_plain w (end_at w.ends conn) (λ e. taken w conn e e.down) (λ e. taken_plain w conn e e.down)
