-- What happens next in a world, and what it does: the world after it, and the entries that it writes.
use Rattle.std.specs.Prelude.{ℕ, suc, ◌-◌, ℤ, pos, negsuc, List, [], ◌∷◌, ◌++◌, length, map, drop, Option, None, Some}
use Rattle.std.specs.Prelude.{Result, Ok, Err, if◌then◌else◌}
use Rattle.atspi_tree_model.specs.declared.edit.Edit.{Edit}
use Rattle.atspi_tree_model.specs.declared.edit.EditFault.{EditFault}
use Rattle.atspi_tree_model.specs.declared.step.Step.{Step}
use Rattle.atspi_tree_model.specs.declared.view.Row.{Row}
use Rattle.atspi_tree_model.specs.Forest.{Forest, seats}
use Rattle.atspi_tree_model.specs.Row.{TreeRow}
use Rattle.atspi_tree_model.specs.RowRules.{rows}
use Rattle.atspi_tree_model.specs.Tree.{after}
use Rattle.atspi_tree_model.specs.View.{Told, view}
use Rattle.atspi_script_lines.specs.declared.deed.Deed.{Deed}
use Rattle.atspi_script_lines.specs.declared.line.Party.{Party}
use Rattle.atspi_script_lines.specs.declared.line.Party.TheVariants.{Bus as The_bus, App, Reader}
use Rattle.atspi_message.specs.Envelope.{Envelope}
use Rattle.atspi_message.specs.Bytes.{written}
use Rattle.atspi_match.specs.routing.Queues as queues
use Rattle.atspi_match.specs.routing.Queues.{Bus, queue_of, popped}
use Rattle.atspi_protocol.specs.registering.Steps.{RegistryStep, registry_takes}
use Rattle.atspi_protocol.specs.announcing.Signals.{Signal}
use Rattle.atspi_protocol.specs.announcing.Announced.{announced}
use Rattle.atspi_protocol.specs.exporting.Exporter.{Happening, steps, sends, hears, deaf, Exporter, begins}
use Rattle.atspi_protocol.specs.exporting.Hearing.{is_covered}
use Rattle.atspi_protocol.specs.exporting.Starting.{starts, name_or_empty}
use Rattle.atspi_protocol.specs.exporting.Taking.{app_takes, app_edits}
use Rattle.atspi_trace_events.specs.declared.shown.ShownRow.{ShownRow}
use Rattle.atspi_protocol.specs.declared.news.part.PartName.{PartName}
use Rattle.atspi_protocol.specs.declared.news.part.PartName.TheVariants.{Text, Caret, Columns}
use Rattle.atspi_protocol.specs.declared.following.question.Question.{Question}
use Rattle.atspi_protocol.specs.declared.following.question.Question.TheVariants.{Hello}
use Rattle.atspi_protocol.specs.following.Calls.{asking, user_call}
use Rattle.atspi_protocol.specs.following.Wishes.{is_refused}
use Rattle.atspi_trace.specs.Entry.{Entry, started, changed, sent, got, heard, unheard, showed, exited, busy, quiet}
use Rattle.atspi_trace.specs.World.{waits, Holding, Hearer, Role, the_registry, an_application, a_reader, Said, Letter}
use Rattle.atspi_trace.specs.World.{End, World, newcomer, first_world}
use Rattle.atspi_trace.specs.Ends.{party_at, end_at, with_end, number_of, app_count, reader_count, plain, put_up}
use Rattle.atspi_trace.specs.Ends.{taken_down, stops}
use Rattle.atspi_trace.specs.Carrying as carrying
use Rattle.atspi_trace.specs.Carrying.{Carried, bus_entries, all_told}
use Rattle.atspi_trace.specs.Hearing.{holding_of, hears_letter, heard_entries}

-- The script: another quota, a start, an edit, a user's call of a node by its application's name, a swap, an end that
-- stops, what a reader shows of an application, that so many turns were made, that nothing waits. The links: the bus
-- takes the first message of an up link, or an end that stopped; an end takes the first message of its down link. Ends
-- are named by their connections.
pub data Cause : Type 0 where
  renews : ℕ → Cause
  starts_app : List ℕ → Cause
  starts_reader : Cause
  edits : ℕ → Edit → Cause
  calls : ℕ → List ℕ → ℕ → Deed → Cause
  swaps_face : Cause
  exits : ℕ → Cause
  shows : ℕ → ℕ → Cause
  tells_busy : ℕ → Cause
  tells_quiet : Cause
  routes : ℕ → Cause
  unjoins : ℕ → Cause
  gets : ℕ → Cause

pub record Done : Type 0 where
  pub world : World
  pub entries : List Entry

-- nothing happens, and only this is written
abbrev pub only : World → List Entry → Done
only w entries = record { world = w; entries = entries }

-- one end changes
abbrev pub at_end : World → ℕ → (End → End) → World
at_end w conn change = record w { ends = with_end conn change w.ends }

-- An end joins, with what it sends first
abbrev pub joins : World → Party → Role → List Said → World
joins w who role saids = record w {
  bus = queues.joins w.bus (length w.ends);
  ends = w.ends ++ put_up saids (newcomer who role) ∷ [];
}

-- what an application did, as entries
abbrev pub did : ℕ → Happening → Entry
did app (steps step) = changed app step
did app (sends e) = sent (App app) e
did app (hears listener pattern) = heard app listener pattern
did app (deaf listener pattern) = unheard app listener pattern

-- the step that the next message announces: its announcement is the first of its signals, and some pattern covers it
abbrev pub announced_if : List (List ℕ × List ℕ) → Step → List Signal → Option Step
announced_if pairs step [] = None
announced_if pairs step (signal ∷ signals) = if is_covered pairs signal.event signal.minor then Some step else None

-- its messages, each with the tree as it was then, from this tree on
abbrev pub saids : Exporter → Forest TreeRow → Option Step → List Happening → List Said
saids s f announces [] = []
saids s f announces (steps step ∷ hs) =
    saids s (after rows f step) (announced_if s.heard step (announced (name_or_empty s.name) f step)) hs
saids s f announces (sends e ∷ hs) = record { message = e; tree = f; announces = announces } ∷ saids s f None hs
saids s f announces (hears listener pattern ∷ hs) = saids s f announces hs
saids s f announces (deaf listener pattern ∷ hs) = saids s f announces hs

-- an application after what it did: what it queued is on its up link
abbrev pub has_done : Exporter → Exporter → End → End
has_done before after e =
    put_up (saids before before.tree None after.out) (record e { role = an_application (record after { out = [] }) })

abbrev pub app_did : World → ℕ → List Entry → Exporter → Exporter → Done
app_did w conn front before after =
    only (at_end w conn (has_done before after)) (front ++ map (did (number_of (party_at w.ends conn))) after.out)

abbrev pub app_starts : World → List ℕ → Done
app_starts w name =
    let who = App (app_count w.ends) in
    app_did (joins w who (an_application (begins name)) []) (length w.ends) (started who (Some name) ∷ []) (begins name)
    (starts (begins name))

abbrev pub edited_to : World → ℕ → Exporter → Result Exporter EditFault → Done
edited_to w conn s (Ok t) = app_did w conn [] s t
edited_to w conn s (Err fault) = only w []

abbrev pub edited : World → ℕ → Edit → Role → Done
edited w conn edit (an_application s) = edited_to w conn s (app_edits s edit)
edited w conn edit role = only w []

-- a reader sends a message with its next serial; a call of its own waits for its reply
abbrev pub asks : Question → Hearer → Hearer
asks question h =
    record h
    { asked = h.asked ++ record { serial = h.next; question = question; fate = waits } ∷ []; next = suc h.next }

abbrev pub reader_sends : Hearer → Envelope → End → End
reader_sends h m e = put_up (plain m ∷ []) (record e { role = a_reader h })

-- a reader's start, with Hello
abbrev pub first_hearer : Hearer
first_hearer = record { asked = []; next = 1; registry = None; named = []; holds = [] }

abbrev pub reader_starts : World → Done
reader_starts w =
    let who = Reader (reader_count w.ends) in
    only (joins w who (a_reader (asks Hello first_hearer)) (plain (asking 1 Hello) ∷ []))
    (started who None ∷ sent who (asking 1 Hello) ∷ [])

-- a user's call goes out at once
abbrev pub called : World → ℕ → List ℕ → ℕ → Deed → Role → Done
called w conn name node deed (a_reader h) =
    let e = user_call h.next name node deed in
    only (at_end w conn (reader_sends (record h { next = suc h.next }) e)) (sent (party_at w.ends conn) e ∷ [])
called w conn name node deed role = only w []

-- What a reader shows: of an application that it holds the rows of the tree as of the last message taken, with the
-- parts that it was told
abbrev pub told_in : List (List ℕ × PartName) → List ℕ → Told
told_in parts path =
    record {
      text = is_refused parts path Text;
      caret = is_refused parts path Caret;
      columns = is_refused parts path Columns;
    }

abbrev pub index_below : Option (List ℕ) → ℕ → ℤ
index_below None i = negsuc 0
index_below (Some parent) i = pos i

abbrev pub shown_row : Option (List ℕ) × ℕ × Row → ShownRow
shown_row seat = record { parent = seat.0; index = index_below seat.0 seat.1; row = seat.2 }

abbrev pub shown_rows : Forest Row → List ShownRow
shown_rows v = map shown_row (seats (λ (row : Row). Some row.path) None 0 v)

abbrev pub rows_held : Option Holding → Option (List ShownRow)
rows_held None = None
rows_held (Some k) = Some (shown_rows (view (told_in k.told) k.tree))

abbrev pub shown : World → ℕ → ℕ → Role → Done
shown w conn app (a_reader h) =
    only w (showed (number_of (party_at w.ends conn)) app (rows_held (holding_of app h.holds)) ∷ [])
shown w conn app role = only w []

-- The bus takes the first message of an up link, or an end
abbrev pub bus_did : World → List Entry → Carried → Done
bus_did w front c =
    record {
      world = record w { bus = all_told c.bus; ends = c.ends };
      entries = front ++ bus_entries c.ends c.bus.own c.bus.closings;
    }

abbrev pub routed : World → ℕ → Party → List Said → Done
routed w conn who [] = only w []
routed w conn who (said ∷ rest) =
    bus_did w (got The_bus who said.message.serial ∷ [])
    (carrying.takes (record { bus = w.bus; ends = w.ends }) conn who said)

abbrev pub ended : World → ℕ → Done
ended w conn = bus_did w [] (carrying.takes_end (record { bus = w.bus; ends = w.ends }) conn)

-- An end takes the first message of its down link: its bytes are gone from the bus
abbrev pub without_bytes : ℕ → ℕ → Bus → Bus
without_bytes conn count b = popped b conn (drop count (queue_of b.waiting.queues conn))

abbrev pub missing : Envelope → ℕ → ℕ
missing e moved = length (written e) - moved

abbrev pub registry_did : RegistryStep → End → End
registry_did step e = put_up (map plain step.sent) (record e { role = the_registry step.state })

abbrev pub took : World → ℕ → Letter → Party → Role → Done
took w conn letter who (the_registry s) =
    let step = registry_takes s letter.said.message in
    only (at_end w conn (registry_did step)) (got who letter.from letter.said.message.serial ∷ map (sent who) step.sent)
took w conn letter who (an_application s) =
    app_did w conn (got who letter.from letter.said.message.serial ∷ []) s (app_takes s letter.said.message)
took w conn letter who (a_reader h) =
    only (at_end w conn (λ e. record e { role = a_reader (hears_letter h w.ends letter) }))
    (got who letter.from letter.said.message.serial ∷ heard_entries (number_of who) h w.ends letter)

abbrev pub taken : World → ℕ → End → List Letter → Done
taken w conn e [] = only w []
taken w conn e (letter ∷ rest) =
    took
    (record w {
      bus = without_bytes conn (missing letter.said.message e.down_moved) w.bus;
      ends = with_end conn taken_down w.ends;
    })
    conn letter e.who e.role

-- what a cause does to its end
abbrev pub on_end : World → Option End → (End → Done) → Done
on_end w None act = only w []
on_end w (Some e) act = act e

abbrev pub does : World → Cause → Done
does w (renews quota) = only (first_world quota) []
does w (starts_app name) = app_starts w name
does w starts_reader = reader_starts w
does w (edits conn edit) = on_end w (end_at w.ends conn) (λ e. edited w conn edit e.role)
does w (calls conn name node deed) = on_end w (end_at w.ends conn) (λ e. called w conn name node deed e.role)
does w swaps_face = only (record w { swaps = suc w.swaps }) []
does w (exits conn) = only (at_end w conn stops) (exited (party_at w.ends conn) ∷ [])
does w (shows conn app) = on_end w (end_at w.ends conn) (λ e. shown w conn app e.role)
does w (tells_busy turns) = only w (busy turns ∷ [])
does w tells_quiet = only w (quiet ∷ [])
does w (routes conn) = on_end w (end_at w.ends conn) (λ e. routed w conn e.who e.up)
does w (unjoins conn) = ended w conn
does w (gets conn) = on_end w (end_at w.ends conn) (λ e. taken w conn e e.down)
