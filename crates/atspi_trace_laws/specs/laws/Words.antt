-- What a trace tells, read off its entries: trees, messages, patterns, names, and what a reader holds.
use Rattle.std.specs.Prelude.{ℕ, suc, ◌==◌, ◌&&◌, ◌||◌, not, Bool, false, List, [], ◌∷◌, ◌++◌, filter, filter_map, fold}
use Rattle.std.specs.Prelude.{position, Option, None, Some, option_map, if◌then◌else◌}
use Rattle.std.specs.List.{list_any}
use Rattle.atspi_tree_model.specs.Forest.{Forest, nil}
use Rattle.atspi_tree_model.specs.Row.{TreeRow}
use Rattle.atspi_tree_model.specs.RowRules.{rows}
use Rattle.atspi_tree_model.specs.Tree.{first_tree, after, added_after}
use Rattle.atspi_script_lines.specs.declared.line.Party.{Party}
use Rattle.atspi_script_lines.specs.declared.line.Party.TheVariants.{Bus as The_bus, Registry, App, Reader}
use Rattle.atspi_message.specs.Envelope.{Envelope}
use Rattle.atspi_names.specs.Owners.{unique_name}
use Rattle.atspi_match.specs.routing.Routing.{is_reply}
use Rattle.atspi_protocol.specs.exporting.Hearing.{is_pair}
use Rattle.atspi_protocol.specs.declared.news.part.PartName.{PartName}
use Rattle.atspi_protocol.specs.declared.following.question.Question.{Question}
use Rattle.atspi_protocol.specs.declared.following.question.Question.TheVariants.{GetItems, GetPart}
use Rattle.atspi_protocol.specs.following.Replied.{is_reply_to}
use Rattle.atspi_trace.specs.Entry.{Entry, started, changed, sent, got, heard, unheard, exited, gone, dropped}
use Rattle.atspi_trace.specs.Ends.{same_party}
use Rattle.atspi_trace.specs.Hearing.{question_in}

-- an application's tree: its start makes the root, each of its steps changes the tree
abbrev pub tree_after : ℕ → Forest TreeRow → Entry → Forest TreeRow
tree_after app f (started (App a) (Some name)) = if a == app then first_tree rows name else f
tree_after app f (changed a step) = if a == app then after rows f step else f
tree_after app f entry = f

abbrev pub live_tree : List Entry → ℕ → Forest TreeRow
live_tree trace app = fold (tree_after app) nil trace

-- how many nodes were ever added to it
abbrev pub count_after : ℕ → ℕ → Entry → ℕ
count_after app n (changed a step) = if a == app then added_after n step else n
count_after app n entry = n

abbrev pub added : List Entry → ℕ → ℕ
added trace app = fold (count_after app) 0 trace

-- the messages that a party sent, in order, and that with a serial
abbrev pub sent_by : Party → Entry → Option Envelope
sent_by who (sent other e) = if same_party other who then Some e else None
sent_by who entry = None

abbrev pub messages : List Entry → Party → List Envelope
messages trace who = filter_map (sent_by who) trace

abbrev pub with_serial : ℕ → List Envelope → Option Envelope
with_serial serial [] = None
with_serial serial (e ∷ es) = if e.serial == serial then Some e else with_serial serial es

abbrev pub message : List Entry → Party → ℕ → Option Envelope
message trace who serial = with_serial serial (messages trace who)

-- the tree as of a serial: that of the entries before the message with it
abbrev pub is_sent_as : Party → ℕ → Entry → Bool
is_sent_as who serial (sent other e) = same_party other who && e.serial == serial
is_sent_as who serial entry = false

abbrev pub before_sent : Party → ℕ → List Entry → List Entry
before_sent who serial [] = []
before_sent who serial (entry ∷ entries) = if is_sent_as who serial entry then []
    else entry ∷ before_sent who serial entries

abbrev pub as_of : List Entry → ℕ → ℕ → Forest TreeRow
as_of trace app serial = live_tree (before_sent (App app) serial trace) app

-- the patterns that an application has heard of
abbrev pub pairs_after : ℕ → List (List ℕ × List ℕ) → Entry → List (List ℕ × List ℕ)
pairs_after app pairs (heard a listener pattern) = if a == app then pairs ++ (listener, pattern) ∷ [] else pairs
pairs_after app pairs (unheard a listener pattern) = if a == app
    then filter (λ p. not (is_pair (listener, pattern) p)) pairs else pairs
pairs_after app pairs entry = pairs

abbrev pub heard_pairs : List Entry → ℕ → List (List ℕ × List ℕ)
heard_pairs trace app = fold (pairs_after app) [] trace

-- the first message that the bus takes of an end is its Hello; they get `:1.1`, `:1.2` and so on, in the order in which
-- the bus takes them
abbrev pub hello_of : Entry → Option Party
hello_of (got The_bus who serial) = if serial == 1 then Some who else None
hello_of entry = None

abbrev pub name_in : List Entry → Party → Option (List ℕ)
name_in trace who = option_map (λ n. unique_name (suc n)) (position (same_party who) (filter_map hello_of trace))

-- the messages that a party took
abbrev pub taken_as : List Entry → Party → Entry → Option Envelope
taken_as trace who (got taker sender serial) = if same_party taker who then message trace sender serial else None
taken_as trace who entry = None

abbrev pub taken : List Entry → Party → List Envelope
taken trace who = filter_map (taken_as trace who) trace

-- the question of a reader's own call with this serial
abbrev pub question_if : Option Envelope → Option Question
question_if None = None
question_if (Some e) = question_in e

abbrev pub own_call : List Entry → ℕ → ℕ → Option Question
own_call trace reader serial = question_if (message trace (Reader reader) serial)

-- an own call of a reader was answered, and with a return
abbrev pub is_answered : List Entry → ℕ → ℕ → Bool
is_answered trace reader serial = list_any (λ e. is_reply e && is_reply_to serial e.reply) (taken trace (Reader reader))

abbrev pub is_returned : List Entry → ℕ → ℕ → Bool
is_returned trace reader serial =
    list_any (λ (e : Envelope). e.kind == 2 && is_reply_to serial e.reply) (taken trace (Reader reader))

-- the own call that a return of an application answers
abbrev pub answer_to : List Entry → ℕ → Envelope → Option ℕ → Option Question
answer_to trace reader e None = None
answer_to trace reader e (Some serial) = if e.kind == 2 then own_call trace reader serial else None

abbrev pub answers_question : List Entry → ℕ → Option Envelope → Option Question
answers_question trace reader None = None
answers_question trace reader (Some e) = answer_to trace reader e e.reply

-- What a reader has of an application: the serial of the last message taken from it, and the parts told since the last
-- load; none before a load, and none behind the news of its end
pub record Kept : Type 0 where
  pub last : ℕ
  pub told : List (List ℕ × PartName)

abbrev pub kept_with : ℕ → Option Question → Option Kept → Option Kept
kept_with serial (Some (GetItems name)) kept = Some (record { last = serial; told = [] })
kept_with serial (Some (GetPart name path part)) kept =
    option_map (λ (k : Kept). record { last = serial; told = k.told ++ (path, part) ∷ [] }) kept
kept_with serial question kept = option_map (λ (k : Kept). record k { last = serial }) kept

abbrev pub kept_after : List Entry → ℕ → ℕ → Option Kept → Entry → Option Kept
kept_after before reader app kept (got (Reader r) (App a) serial) =
    if r == reader && a == app
    then kept_with serial (answers_question before reader (message before (App app) serial)) kept else kept
kept_after before reader app kept (gone r a) = if r == reader && a == app then None else kept
kept_after before reader app kept entry = kept

-- each entry is read with those before it: a return answers a call that was sent before it came
abbrev pub held_on : List Entry → ℕ → ℕ → Option Kept → List Entry → Option Kept
held_on before reader app kept [] = kept
held_on before reader app kept (entry ∷ entries) =
    held_on (before ++ entry ∷ []) reader app (kept_after before reader app kept entry) entries

abbrev pub held : List Entry → ℕ → ℕ → Option Kept
held trace reader app = held_on [] reader app None trace

-- a party was started, and neither stopped nor was dropped
abbrev pub starts_it : Party → Entry → Bool
starts_it who (started other name) = same_party other who
starts_it who entry = false

abbrev pub stops_it : Party → Entry → Bool
stops_it who (exited other) = same_party other who
stops_it who (dropped other queued len) = same_party other who
stops_it who entry = false

abbrev pub is_live : List Entry → Party → Bool
is_live trace who = (same_party who Registry || list_any (starts_it who) trace) && not (list_any (stops_it who) trace)
