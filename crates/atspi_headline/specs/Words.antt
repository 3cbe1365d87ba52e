-- What a run tells, read off it: lines and entries, ends and their names, trees, messages, what is heard, what a reader
-- asked and what it holds.
use Rattle.std.specs.Prelude.{◌≡◌, ◌==◌, ◌&&◌, ◌||◌, not, suc, Bool, true, false, List, [], ◌∷◌, ◌++◌, length, map}
use Rattle.std.specs.Prelude.{filter, filter_map, flat_map, fold, position, Option, None, Some, option_map, is_some}
use Rattle.std.specs.Prelude.{bytes_eq, codes, if◌then◌else◌, ℕ, take}
use Rattle.std.specs.List.{list_any}
use Rattle.atspi_types.specs.Data.{Data, text_data}
use Rattle.atspi_message.specs.Envelope.{Envelope}
use Rattle.atspi_names.specs.Owners.{unique_name}
use Rattle.atspi_match.specs.routing.Members.{is_text}
use Rattle.atspi_match.specs.routing.Answers.{first_text}
use Rattle.atspi_tree_model.specs.Forest.{Forest, nil}
use Rattle.atspi_tree_model.specs.Row.{TreeRow}
use Rattle.atspi_tree_model.specs.RowRules.{rows}
use Rattle.atspi_tree_model.specs.Tree.{first_tree, after, added_after}
use Rattle.atspi_tree_model.specs.View.{Told}
use Rattle.atspi_script_lines.specs.declared.line.Line.{Line}
use Rattle.atspi_script_lines.specs.declared.line.Party.{Party}
use Rattle.atspi_script_lines.specs.declared.line.Party.TheVariants.{Bus as The_bus, Registry, App, Reader}
use Rattle.atspi_protocol.specs.exporting.Hearing.{is_pair}
use Rattle.atspi_protocol.specs.registering.Steps.{is_reply_to}
use Rattle.atspi_protocol.specs.news.NewsOf.{or_empty}
use Rattle.atspi_protocol.specs.declared.news.part.PartName.{PartName}
use Rattle.atspi_protocol.specs.declared.news.part.PartName.TheVariants.{Text, Caret, Columns}
use Rattle.atspi_protocol.specs.declared.following.question.Question.{Question}
use Rattle.atspi_protocol.specs.declared.following.question.Question.TheVariants.{Hello, AddMatch, RegisterEvent}
use Rattle.atspi_protocol.specs.declared.following.question.Question.TheVariants.{GetChildren, GetItems, GetPart}
use Rattle.atspi_trace.specs.Entry.{Entry, started, changed, sent, got, heard, unheard, spoke, showed, exited, gone}
use Rattle.atspi_trace.specs.Entry.{dropped, busy, quiet}

-- WHAT HAPPENED, one thing after another: the next line of the script begins; so many bytes of a party's link are
-- moved, of that to the bus (true) or of that from it; the bus takes the end of one that stopped; the trace has an
-- entry
pub data Act : Type 0 where
  begins_line : Line → Act
  moves_bytes : Party → Bool → ℕ → Act
  takes_end : Party → Act
  writes : Entry → Act

abbrev pub line_in : Act → Option Line
line_in (begins_line line) = Some line
line_in act = None

abbrev pub entry_in : Act → Option Entry
entry_in (writes entry) = Some entry
entry_in act = None

abbrev pub is_entry : Act → Bool
is_entry act = is_some (entry_in act)

abbrev pub is_move : Act → Bool
is_move (moves_bytes who up count) = true
is_move (takes_end who) = true
is_move act = false

-- a run has these lines, and writes this trace
abbrev pub lines_in : List Act → List Line
lines_in run = filter_map line_in run

abbrev pub entries_in : List Act → List Entry
entries_in run = filter_map entry_in run

-- the kinds of entries that laws speak of: a start, a step, a message of the bus, of the registry, of an application,
-- of a reader, a message taken, a change of what is heard, a spoken line, shown rows, an exit, the news that one is
-- gone, a drop, the word that something waits or nothing
pub data Kind : Type 0 where
  starting : Kind
  stepping : Kind
  of_bus : Kind
  of_registry : Kind
  of_app : Kind
  of_reader : Kind
  getting : Kind
  hearing : Kind
  speaking : Kind
  showing : Kind
  exiting : Kind
  ending : Kind
  dropping : Kind
  wording : Kind

abbrev pub is_a : Kind → Entry → Bool
is_a starting (started who name) = true
is_a stepping (changed app step) = true
is_a of_bus (sent The_bus e) = true
is_a of_registry (sent Registry e) = true
is_a of_app (sent (App app) e) = true
is_a of_reader (sent (Reader reader) e) = true
is_a getting (got taker sender serial) = true
is_a hearing (heard app listener pattern) = true
is_a hearing (unheard app listener pattern) = true
is_a speaking (spoke reader app text) = true
is_a showing (showed reader app rows_) = true
is_a exiting (exited who) = true
is_a ending (gone reader app) = true
is_a dropping (dropped who queued len) = true
is_a wording (busy turns) = true
is_a wording quiet = true
is_a kind entry = false

abbrev pub writes_a : Kind → Act → Bool
writes_a kind (writes entry) = is_a kind entry
writes_a kind act = false

-- a law holds of each act of a run, with the acts before it and those behind it
abbrev pub Along : (List Act → Act → List Act → Type 0) → List Act → List Act → Type 0
Along Law before [] = Unit {0}
Along Law before (act ∷ behind) = Law before act behind × Along Law (before ++ act ∷ []) behind

abbrev pub Everywhere : (List Act → Act → List Act → Type 0) → List Act → Type 0
Everywhere Law run = Along Law [] run

-- what each act makes of a value, with the acts before it
abbrev pub gathered : {A : Type 0} → (List Act → A → Act → A) → A → List Act → List Act → A
gathered change x before [] = x
gathered change x before (act ∷ acts) = gathered change (change before x act) (before ++ act ∷ []) acts

-- the entries of a kind that stand next, up to the first act that is none
abbrev pub next_of : (Entry → Bool) → List Act → List Entry
next_of kind (writes entry ∷ acts) = if kind entry then entry ∷ next_of kind acts else []
next_of kind acts = []

abbrev pub Unless : Bool → Type 0 → Type 0
Unless true P = Unit {0}
Unless false P = P

-- What stands is what is due; where a trace is broken off while that is written, what stands is a front of it
abbrev pub IsFrontIf : Bool → List Entry → List Entry → Type 0
IsFrontIf false found due = found ≡ due
IsFrontIf true found due = found ≡ take (length found) due

abbrev pub is_last : List Entry → List Act → Bool
is_last found behind = length found == length behind

-- OF A KIND OF ENTRIES, directly behind each act that is none of them stand just those that are due there
abbrev pub IsDueBehind : Bool → Kind → List Act → List Entry → Type 0
IsDueBehind broken kind behind due =
    let found = next_of (is_a kind) behind in IsFrontIf (broken && is_last found behind) found due

abbrev pub AreDue : Bool → Kind → (List Act → Act → List Entry) → List Act → Type 0
AreDue broken kind due run =
    Everywhere (λ before act behind. Unless (writes_a kind act) (IsDueBehind broken kind behind (due before act))) run

-- what is done at a line, a move or a message taken stands behind it, up to the next of them, or to the word that
-- something waits, or nothing
abbrev pub is_done_at : Entry → Bool
is_done_at entry = not (is_a getting entry || is_a wording entry)

abbrev pub reaction : List Act → List Entry
reaction behind = next_of is_done_at behind

abbrev pub is_done : Act → Bool
is_done (writes entry) = is_done_at entry
is_done act = false

-- the acts of a line
abbrev pub segment : List Act → List Act
segment [] = []
segment (begins_line line ∷ acts) = []
segment (act ∷ acts) = act ∷ segment acts

abbrev pub last_of : {A : Type 0} → List A → Option A
last_of [] = None
last_of (x ∷ []) = Some x
last_of (x ∷ (y ∷ xs)) = last_of (y ∷ xs)

abbrev pub without_last : {A : Type 0} → List A → List A
without_last [] = []
without_last (x ∷ []) = []
without_last (x ∷ (y ∷ xs)) = x ∷ without_last (y ∷ xs)

-- ENDS. The registry joined first, and then each in its order of starting; the bus knows them by their places
abbrev pub is_same : Party → Party → Bool
is_same The_bus The_bus = true
is_same Registry Registry = true
is_same (App a) (App b) = a == b
is_same (Reader r) (Reader s) = r == s
is_same who other = false

abbrev pub start_in : Act → Option Party
start_in (writes (started who name)) = Some who
start_in act = None

abbrev pub ends : List Act → List Party
ends run = Registry ∷ filter_map start_in run

abbrev pub place_of : List Act → Party → Option ℕ
place_of run who = position (is_same who) (ends run)

-- the end's unique name: `:1.0` is the registry's, the others follow in the order in which the bus takes their Hellos
abbrev pub greeting_in : Act → Option Party
greeting_in (writes (got The_bus who serial)) = if serial == 1 then Some who else None
greeting_in act = None

abbrev pub name_of : List Act → Party → Option (List ℕ)
name_of run who = option_map unique_name (position (is_same who) (Registry ∷ filter_map greeting_in run))

-- it was started, and neither stopped nor was dropped; it stopped, and the bus was not told yet
abbrev pub is_exit_of : Party → Act → Bool
is_exit_of who (writes (exited other)) = is_same other who
is_exit_of who act = false

abbrev pub is_out : Party → Act → Bool
is_out who (takes_end other) = is_same other who
is_out who (writes (dropped other queued len)) = is_same other who
is_out who act = false

abbrev pub is_live : List Act → Party → Bool
is_live run who =
    list_any (is_same who) (ends run) && not (list_any (is_exit_of who) run || list_any (is_out who) run)

abbrev pub is_stopped : List Act → Party → Bool
is_stopped run who = list_any (is_exit_of who) run && not (list_any (is_out who) run)

-- TREES. An application's live tree: its start makes the root, each of its steps changes it; the count of nodes added
abbrev pub tree_after : ℕ → Forest TreeRow → Act → Forest TreeRow
tree_after app f (writes (started (App a) (Some name))) = if a == app then first_tree rows name else f
tree_after app f (writes (changed a step)) = if a == app then after rows f step else f
tree_after app f act = f

abbrev pub live_tree : List Act → ℕ → Forest TreeRow
live_tree run app = fold (tree_after app) nil run

abbrev pub count_after : ℕ → ℕ → Act → ℕ
count_after app n (writes (changed a step)) = if a == app then added_after n step else n
count_after app n act = n

abbrev pub added : List Act → ℕ → ℕ
added run app = fold (count_after app) 0 run

-- the tree as of a serial: that of the acts before the application's message with it
abbrev pub is_sent_as : Party → ℕ → Act → Bool
is_sent_as who serial (writes (sent other e)) = is_same other who && e.serial == serial
is_sent_as who serial act = false

abbrev pub before_sent : Party → ℕ → List Act → List Act
before_sent who serial [] = []
before_sent who serial (act ∷ acts) = if is_sent_as who serial act then [] else act ∷ before_sent who serial acts

abbrev pub as_of : List Act → ℕ → ℕ → Forest TreeRow
as_of run app serial = live_tree (before_sent (App app) serial run) app

-- MESSAGES that a party sent, in order; that with a serial, none or one, as the bus hands it on: under its sender's
-- name
abbrev pub sent_by : Party → Act → Option Envelope
sent_by who (writes (sent other e)) = if is_same other who then Some e else None
sent_by who act = None

abbrev pub messages : List Act → Party → List Envelope
messages run who = filter_map (sent_by who) run

abbrev pub with_serial : List Act → Party → ℕ → List Envelope
with_serial run who serial = filter (λ (e : Envelope). e.serial == serial) (messages run who)

abbrev pub signed : Party → Option (List ℕ) → Envelope → Envelope
signed The_bus name e = e
signed who name e = record e { sender = name }

abbrev pub handed : List Act → Party → ℕ → List Envelope
handed run who serial = map (signed who (name_of run who)) (with_serial run who serial)

abbrev pub next_serial : List Act → Party → ℕ
next_serial run who = suc (length (messages run who))

-- the messages that a party took; it was answered, or with a return, where it took such a reply to its message
abbrev pub taken_by : List Act → Party → Act → List Envelope
taken_by run who (writes (got taker sender serial)) = if is_same taker who then handed run sender serial else []
taken_by run who act = []

abbrev pub taken : List Act → Party → List Envelope
taken run who = flat_map (taken_by run who) run

abbrev pub is_returned : List Act → Party → ℕ → Bool
is_returned run who serial =
    list_any (λ (e : Envelope). e.kind == 2 && is_reply_to (Some serial) e.reply) (taken run who)

abbrev pub is_answered : List Act → Party → ℕ → Bool
is_answered run who serial =
    list_any (λ (e : Envelope). (e.kind == 2 || e.kind == 3) && is_reply_to (Some serial) e.reply) (taken run who)

abbrev pub is_app : Party → Bool
is_app (App a) = true
is_app who = false

abbrev pub is_reader : Party → Bool
is_reader (Reader r) = true
is_reader who = false

abbrev pub count_of : (Party → Bool) → List Act → ℕ
count_of kind run = length (filter kind (ends run))

-- WHAT AN APPLICATION HAS HEARD OF: pairs of a listener's bus name and a pattern
abbrev pub pairs_after : ℕ → List (List ℕ × List ℕ) → Act → List (List ℕ × List ℕ)
pairs_after app pairs (writes (heard a listener pattern)) = if a == app then pairs ++ (listener, pattern) ∷ []
    else pairs
pairs_after app pairs (writes (unheard a listener pattern)) = if a == app
    then filter (λ p. not (is_pair (listener, pattern) p)) pairs else pairs
pairs_after app pairs act = pairs

abbrev pub heard_pairs : List Act → ℕ → List (List ℕ × List ℕ)
heard_pairs run app = fold (pairs_after app) [] run

-- its calls so far are those of its start: Hello, AddMatch, GetRegisteredEvents, Embed. Each but the first stands
-- behind the return to the one before.
abbrev pub calls_of : List Act → ℕ → List Envelope
calls_of before app = filter (λ (e : Envelope). e.kind == 1) (messages before (App app))

abbrev pub answers_last : List Envelope → Envelope → Bool
answers_last calls e = e.kind == 2 && is_reply_to (option_map (λ (c : Envelope). c.serial) (last_of calls)) e.reply

-- A reader's own calls: Hello, AddMatch, RegisterEvent, GetChildren, GetItems, GetText and Get; its user's calls have
-- other members
abbrev pub second_text : List Data → List ℕ
second_text (d ∷ (text_data cs ∷ ds)) = cs
second_text ds = []

abbrev pub part_question : PartName → Envelope → List Question
part_question part e = GetPart (or_empty e.destination) (or_empty e.path) part ∷ []

abbrev pub question_of : Envelope → List Question
question_of e =
    if is_text e.member (codes "Hello") then Hello ∷ []
    else if is_text e.member (codes "AddMatch") then AddMatch (first_text e.body) ∷ []
    else if is_text e.member (codes "RegisterEvent") then RegisterEvent (first_text e.body) ∷ []
    else if is_text e.member (codes "GetChildren") then GetChildren ∷ []
    else if is_text e.member (codes "GetItems") then GetItems (or_empty e.destination) ∷ []
    else if is_text e.member (codes "GetText") then part_question Text e
    else if not (is_text e.member (codes "Get")) then []
    else if bytes_eq (second_text e.body) (codes "CaretOffset") then part_question Caret e
    else if bytes_eq (second_text e.body) (codes "NColumns") then part_question Columns e
    else []

abbrev pub questions_in : Envelope → List Question
questions_in e = if e.kind == 1 then question_of e else []

-- which there are: those of the start, and those of applications
abbrev pub rule_of : Question → List (List ℕ)
rule_of (AddMatch rule) = rule ∷ []
rule_of question = []

abbrev pub pattern_of : Question → List (List ℕ)
pattern_of (RegisterEvent pattern) = pattern ∷ []
pattern_of question = []

-- WHAT A READER HOLDS of an application, from the return to its call for all items on, up to the news of its end: the
-- serial of the last message taken from it, and the parts of nodes, by their paths, that it was told since
pub record Held : Type 0 where
  pub last : ℕ
  pub told : List (List ℕ × PartName)

abbrev pub answered_by : List Act → ℕ → Envelope → List Question
answered_by before reader e =
    flat_map questions_in
    (filter (λ (c : Envelope). e.kind == 2 && is_reply_to (Some c.serial) e.reply) (messages before (Reader reader)))

abbrev pub held_with : ℕ → Option Held → Question → Option Held
held_with serial held (GetItems name) = Some (record { last = serial; told = [] })
held_with serial held (GetPart name path part) =
    option_map (λ (k : Held). record k { told = k.told ++ (path, part) ∷ [] }) held
held_with serial held question = held

abbrev pub held_to : ℕ → Option Held → Option Held
held_to serial held = option_map (λ (k : Held). record k { last = serial }) held

abbrev pub held_after : ℕ → ℕ → List Act → Option Held → Act → Option Held
held_after reader app before held (writes (got (Reader r) (App a) serial)) =
    if r == reader && a == app
    then fold (held_with serial) (held_to serial held)
    (flat_map (answered_by before reader) (with_serial before (App app) serial))
    else held
held_after reader app before held (writes (gone r a)) = if r == reader && a == app then None else held
held_after reader app before held act = held

abbrev pub held_of : List Act → ℕ → ℕ → Option Held
held_of run reader app = gathered (held_after reader app) None [] run

abbrev pub is_part : PartName → PartName → Bool
is_part Text Text = true
is_part Caret Caret = true
is_part Columns Columns = true
is_part part other = false

abbrev pub is_told : List (List ℕ × PartName) → List ℕ → PartName → Bool
is_told told path part = list_any (λ (t : List ℕ × PartName). bytes_eq t.0 path && is_part t.1 part) told

abbrev pub told_in : List (List ℕ × PartName) → List ℕ → Told
told_in told path = record {
  text = is_told told path Text;
  caret = is_told told path Caret;
  columns = is_told told path Columns;
}
