-- THE HEADLINE, ON ONE PAGE: which traces the lines of a script may have. Each law is said of the run alone: of its
-- lines and entries, and of the bytes that links moved between them (`Words` and `Links` have the words). All else are
-- the standards' own definitions: trees and steps, announcements, answers, names and match rules, the registry, speech.
use Rattle.std.specs.Prelude.{◌≡◌, ◌==◌, ◌&&◌, ◌||◌, not, nat_le, pos, negsuc, Bool, true, false, List, [], ◌∷◌, ◌++◌}
use Rattle.std.specs.Prelude.{length, map, filter, filter_map, flat_map, fold, Option, None, Some, option_map, is_some}
use Rattle.std.specs.Prelude.{bytes_eq, codes, Result, Ok, Err, if◌then◌else◌, ℕ, ℤ}
use Rattle.std.specs.List.{list_any, list_all, AllByRecursion}
use Rattle.atspi_message.specs.Envelope.{Envelope}
use Rattle.atspi_match.specs.routing.Steps.{Move, says}
use Rattle.atspi_tree_model.specs.declared.edit.EditFault.{EditFault}
use Rattle.atspi_tree_model.specs.declared.step.Step.{Step}
use Rattle.atspi_tree_model.specs.declared.view.Row.{Row}
use Rattle.atspi_tree_model.specs.Forest.{Forest, seats}
use Rattle.atspi_tree_model.specs.Edits.{steps_of_tree}
use Rattle.atspi_tree_model.specs.View.{Told, view}
use Rattle.atspi_speech.specs.Speech.{says_after, closing_says}
use Rattle.atspi_script_lines.specs.declared.line.Line.{Line}
use Rattle.atspi_script_lines.specs.declared.line.Line.TheVariants.{App as App_line, Reader as Reader_line}
use Rattle.atspi_script_lines.specs.declared.line.Line.TheVariants.{Edit as Edit_line, Call, Exit, Leave, Bytes, Turns}
use Rattle.atspi_script_lines.specs.declared.line.Line.TheVariants.{Drain, Show}
use Rattle.atspi_script_lines.specs.declared.line.Party.{Party}
use Rattle.atspi_script_lines.specs.declared.line.Party.TheVariants.{Bus as The_bus, Registry, App, Reader}
use Rattle.atspi_protocol.specs.ends.Messages.{numbered, replies}
use Rattle.atspi_protocol.specs.objects.Application.{Application}
use Rattle.atspi_protocol.specs.objects.Answers.{Answer, answer}
use Rattle.atspi_protocol.specs.announcing.Signals.{Signal}
use Rattle.atspi_protocol.specs.announcing.Announced.{announced}
use Rattle.atspi_protocol.specs.exporting.Exporter.{add_match, get_registered_events, embed, Happening, hears, deaf}
use Rattle.atspi_protocol.specs.exporting.Starting.{start_call}
use Rattle.atspi_protocol.specs.exporting.Telling.{asked_for}
use Rattle.atspi_protocol.specs.exporting.Hearing.{Change, is_covered, heard_after, exchanged, pairs_in, unchanged}
use Rattle.atspi_protocol.specs.registering.RegistryState.{RegistryState, begins as no_pairs}
use Rattle.atspi_protocol.specs.registering.Steps.{RegistryStep, registry_takes, name_gone}
use Rattle.atspi_protocol.specs.news.NewsOf.{or_empty}
use Rattle.atspi_protocol.specs.declared.following.question.Question.{Question}
use Rattle.atspi_protocol.specs.declared.following.question.Question.TheVariants.{Hello, AddMatch, RegisterEvent}
use Rattle.atspi_protocol.specs.declared.following.question.Question.TheVariants.{GetItems}
use Rattle.atspi_protocol.specs.following.ReaderState.{start_calls}
use Rattle.atspi_protocol.specs.following.Calls.{own_call, asking, user_call}
use Rattle.atspi_trace_events.specs.declared.shown.ShownRow.{ShownRow}
use Rattle.atspi_trace.specs.Entry.{Entry, started, changed, sent, got, heard, unheard, spoke, showed, exited, gone}
use Rattle.atspi_trace.specs.Entry.{dropped, busy, quiet}
use Rattle.atspi_headline.specs.Words.{Act, begins_line, moves_bytes, writes, is_entry, is_move, lines_in, entries_in}
use Rattle.atspi_headline.specs.Words.{starting, stepping, of_bus, of_registry, of_app, of_reader, getting, hearing}
use Rattle.atspi_headline.specs.Words.{speaking, showing, exiting, ending, dropping, wording, is_a, writes_a, Along}
use Rattle.atspi_headline.specs.Words.{Everywhere, gathered, next_of, Unless, AreDue, reaction, is_done, segment}
use Rattle.atspi_headline.specs.Words.{last_of, without_last, is_same, ends, name_of, is_live, live_tree, added}
use Rattle.atspi_headline.specs.Words.{before_sent, as_of, messages, handed, next_serial, is_returned, is_answered}
use Rattle.atspi_headline.specs.Words.{is_app, is_reader, count_of, heard_pairs, calls_of, answers_last, questions_in}
use Rattle.atspi_headline.specs.Words.{rule_of, pattern_of, Held, held_of, told_in, IsFrontIf, is_last, IsDueBehind}
use Rattle.atspi_headline.specs.Links.{moves_at, completed, next_turn, bytes_move, drops_due}

-- SEGMENTS. A run begins with a line. An end starts behind its line, and nowhere else. Bytes are moved behind three
-- lines alone: `bytes` makes one move; `turns` and `drain` make turns, each the first thing that waits.
abbrev pub BeginsWithLine : List Act → Type 0
BeginsWithLine (begins_line line ∷ acts) = Unit {0}
BeginsWithLine [] = Unit {0}
BeginsWithLine acts = ⊥

abbrev pub start_due : List Act → Act → List Entry
start_due before (begins_line (App_line name)) = started (App (count_of is_app before)) (Some name) ∷ []
start_due before (begins_line Reader_line) = started (Reader (count_of is_reader before)) None ∷ []
start_due before act = []

abbrev pub IsTurn : List Act → Act → List Act → Type 0
IsTurn before (writes entry) behind = Unit {0}
IsTurn before act behind = next_turn before ≡ Some act

abbrev pub MovesOfLine : List Act → Line → List Act → Type 0
MovesOfLine before (Bytes who up count) acts = filter is_move acts ≡ bytes_move before who up count ∷ []
MovesOfLine before (Turns count) acts = Along IsTurn before acts
MovesOfLine before Drain acts = Along IsTurn before acts
MovesOfLine before line acts = filter is_move acts ≡ []

abbrev pub MovesBehind : List Act → Act → List Act → Type 0
MovesBehind before (begins_line line) behind = MovesOfLine (before ++ begins_line line ∷ []) line (segment behind)
MovesBehind before act behind = Unit {0}

pub record LawOfSegments (broken : Bool) (run : List Act) : Type 0 where
  pub begins : BeginsWithLine run
  pub starts : AreDue broken starting start_due run
  pub moves : Everywhere MovesBehind run

-- 1. THE LAW OF STEPS. The steps behind a line are those of its edit of the live tree; behind a call that an
--    application
-- takes they are those of its answer; behind anything else there is none.
abbrev pub steps_or_none : Result (List Step) EditFault → List Step
steps_or_none (Ok steps) = steps
steps_or_none (Err fault) = []

-- it answers a call that has a sender, once it took the return to its Hello
abbrev pub is_answerable : List Act → ℕ → Envelope → Bool
is_answerable before app e = e.kind == 1 && (is_some e.sender && is_returned before (App app) 1)

-- from its tree and its name, and the number that was last set at it, -1 at first
abbrev pub application : List Act → ℕ → ℤ → Application
application before app id = record {
  tree = live_tree before app;
  added = added before app;
  name = or_empty (name_of before (App app));
  id = id;
}

abbrev pub answer_as : List Act → ℕ → ℤ → Envelope → Answer
answer_as before app id e = answer (application before app id) (or_empty e.path) e.interface e.member e.body

abbrev pub id_by : List Act → ℕ → ℤ → Envelope → ℤ
id_by before app id e = if is_answerable before app e then (answer_as before app id e).id else id

abbrev pub id_after : ℕ → List Act → ℤ → Act → ℤ
id_after app before id (writes (got (App a) sender serial)) =
    if a == app then fold (id_by before app) id (handed before sender serial) else id
id_after app before id act = id

abbrev pub answered : List Act → ℕ → Envelope → Answer
answered before app e = answer_as before app (gathered (id_after app) (negsuc 0) [] before) e

abbrev pub steps_called : List Act → ℕ → Envelope → List Step
steps_called before app e = if is_answerable before app e then (answered before app e).steps else []

abbrev pub steps_due : List Act → Act → List Entry
steps_due before (begins_line (Edit_line app edit)) =
    map (changed app) (steps_or_none (steps_of_tree (live_tree before app) (added before app) edit))
steps_due before (writes (got (App app) sender serial)) =
    map (changed app) (flat_map (steps_called before app) (handed before sender serial))
steps_due before act = []

abbrev pub StepsAre : Bool → List Act → List Entry → Type 0
StepsAre broken behind due =
    let entries = reaction behind in
    IsFrontIf (broken && is_last entries behind) (filter (is_a stepping) entries) due

abbrev pub LawOfSteps : Bool → List Act → Type 0
LawOfSteps broken run =
    Everywhere (λ before act behind. Unless (is_done act) (StepsAre broken behind (steps_due before act))) run

-- 2. THE LAW OF APPLICATIONS. Directly behind each step stand its announcement and its echoes, those that some heard
-- pattern covers; behind all steps the reply to the call, or the next call of the start; nothing else, with the next
-- numbers. So: what applications sent, left out and put in again by this rule, is what stands there.
abbrev pub sends : List Act → ℕ → List Envelope → List Entry
sends before app es = map (sent (App app)) (numbered (next_serial before (App app)) es)

abbrev pub signals_of : List Act → ℕ → Step → List Signal
signals_of before app step = announced (or_empty (name_of before (App app))) (live_tree before app) step

abbrev pub signals_due : List Act → Entry → List Entry
signals_due before (changed app step) =
    sends before app
    (map (λ (s : Signal). s.message) (asked_for (heard_pairs before app) (signals_of before app step)))
signals_due before entry = []

abbrev pub next_call : List ℕ → List Envelope → List Envelope
next_call name (first ∷ []) = start_call name add_match ∷ []
next_call name (first ∷ (second ∷ [])) = start_call name get_registered_events ∷ []
next_call name (first ∷ (second ∷ (third ∷ []))) = start_call name embed ∷ []
next_call name calls = []

abbrev pub words_to : List Act → ℕ → Envelope → List Envelope
words_to before app e =
    if answers_last (calls_of before app) e
    then next_call (or_empty (name_of before (App app))) (calls_of before app)
    else if is_answerable before app e then replies (or_empty e.sender) e (answered before app e).reply
    else []

-- the application that says one thing more behind an act, and that
abbrev pub words_due : List Act → Act → ℕ × List Envelope
words_due before (begins_line (App_line name)) = (count_of is_app before, own_call Hello ∷ [])
words_due before (writes (got (App app) sender serial)) =
    (app, flat_map (words_to before app) (handed before sender serial))
words_due before act = (0, [])

abbrev pub put_in : List Act → ℕ × List Envelope → List Entry → List Entry
put_in before words [] = sends before words.0 words.1
put_in before words (entry ∷ entries) =
    let signals = signals_due before entry in
    entry ∷ (signals ++ put_in (before ++ writes entry ∷ map writes signals) words entries)

abbrev pub IsSaid : Bool → List Act → Act → List Act → Type 0
IsSaid broken before act behind =
    let entries = reaction behind in
    IsFrontIf (broken && is_last entries behind) entries
    (put_in (before ++ act ∷ []) (words_due before act) (filter (λ entry. not (is_a of_app entry)) entries))

abbrev pub LawOfApplications : Bool → List Act → Type 0
LawOfApplications broken run =
    Everywhere (λ before act behind. Unless (is_done act) (IsSaid broken before act behind)) run

-- 3. THE LAW OF BUS AND LINKS. Behind a move stand the messages whose last byte it moves, in order, and no others: so
-- what an end took of its link is what lies whole within the bytes moved, however they were cut. A move of an end that
-- is dropped ends there.
abbrev pub got_of : Party → Party × Envelope → Entry
got_of taker m = got taker m.0 m.1.serial

abbrev pub gots_due : List Act → Act → List Entry
gots_due before (moves_bytes who true count) = map (got_of The_bus) (completed before who true count)
gots_due before (moves_bytes who false count) = map (got_of who) (completed before who false count)
gots_due before act = []

abbrev pub is_drop_of : Party → Entry → Bool
is_drop_of who (dropped other queued len) = is_same other who
is_drop_of who entry = false

abbrev pub ends_early : Act → List Entry → Bool
ends_early (moves_bytes who up count) entries = list_any (is_drop_of who) entries
ends_early act entries = false

abbrev pub GotsBehind : Bool → List Act → Act → List Act → Type 0
GotsBehind broken before act behind =
    let entries = next_of (λ entry. true) behind in
    Unless (is_entry act)
    (IsFrontIf (ends_early act entries || (broken && is_last entries behind)) (filter (is_a getting) entries)
    (gots_due before act))

-- what the bus says of its own stands directly behind what it takes: a message, an end, one whom it drops
abbrev pub said_in : Move → Option Envelope
said_in (says e) = Some e
said_in move = None

abbrev pub bus_words_due : List Act → Act → List Entry
bus_words_due before act = map (sent The_bus) (filter_map said_in (moves_at before act))

pub record LawOfLinks (broken : Bool) (run : List Act) : Type 0 where
  pub gots : Everywhere (GotsBehind broken) run
  pub words : AreDue broken of_bus bus_words_due run

-- 4. THE LAW OF REGISTRY, HEARING AND READERS. Behind a message that the registry takes stands what it sends, from the
-- state behind its start on.
abbrev pub first_registry : RegistryState
first_registry = record no_pairs { hello = Some 1; own = Some (codes ":1.0"); next = 4 }

abbrev pub registry_took : RegistryState → List Envelope → RegistryStep
registry_took s [] = record { state = s; sent = [] }
registry_took s (e ∷ es) = registry_takes s e

abbrev pub registry_does : List Act → RegistryState → Act → RegistryStep
registry_does before s (writes (got Registry sender serial)) = registry_took s (handed before sender serial)
registry_does before s act = record { state = s; sent = [] }

abbrev pub registry_after : List Act → RegistryState → Act → RegistryState
registry_after before s act = (registry_does before s act).state

abbrev pub registry_words_due : List Act → Act → List Entry
registry_words_due before act =
    map (sent Registry) (registry_does before (gathered registry_after first_registry [] before) act).sent

-- What an application hears of changes directly behind the registry's signal, or the return to its third call, which
-- lists all pairs; and nowhere else.
abbrev pub hearing_as : ℕ → Happening → Option Entry
hearing_as app (hears listener pattern) = Some (heard app listener pattern)
hearing_as app (deaf listener pattern) = Some (unheard app listener pattern)
hearing_as app happening = None

abbrev pub listed : List (List ℕ × List ℕ) → Option (List (List ℕ × List ℕ)) → Change
listed pairs None = unchanged pairs
listed pairs (Some told) = exchanged pairs told

abbrev pub change_by : List Act → ℕ → Envelope → Change
change_by before app e =
    let pairs = heard_pairs before app in
    if answers_last (calls_of before app) e && (length (calls_of before app) == 3) then listed pairs (pairs_in e.body)
    else if e.kind == 4 && is_returned before (App app) 1 then heard_after pairs e
    else unchanged pairs

abbrev pub hearing_of : List Act → ℕ → Envelope → List Entry
hearing_of before app e = filter_map (hearing_as app) (change_by before app e).told

abbrev pub hearing_due : List Act → Act → List Entry
hearing_due before (writes (got (App app) sender serial)) =
    flat_map (hearing_of before app) (handed before sender serial)
hearing_due before act = []

abbrev pub is_asked_ever : Question → Bool
is_asked_ever (AddMatch rule) = list_any (bytes_eq rule) (flat_map rule_of start_calls)
is_asked_ever (RegisterEvent pattern) = list_any (bytes_eq pattern) (flat_map pattern_of start_calls)
is_asked_ever question = true

-- a pattern was registered: the call for it was returned
abbrev pub asks_for : List ℕ → Envelope → Bool
asks_for pattern e = list_any (bytes_eq pattern) (flat_map pattern_of (questions_in e))

abbrev pub is_registered : List Act → ℕ → List ℕ → Bool
is_registered before reader pattern =
    list_any (λ (e : Envelope). asks_for pattern e && is_returned before (Reader reader) e.serial)
    (messages before (Reader reader))

abbrev pub wants_registered : List Act → ℕ → Question → Bool
wants_registered before reader (GetItems name) =
    list_all (is_registered before reader) (flat_map pattern_of start_calls)
wants_registered before reader question = true

abbrev pub is_empty : List Question → Bool
is_empty [] = true
is_empty (question ∷ questions) = false

-- It may ask where each own call before was answered; for all items of an application, where its five patterns were
-- registered. The call is spelled so, with its next serial.
pub record IsFree (before : List Act) (reader : ℕ) (e : Envelope) (question : Question) : Type 0 where
  pub spelled : e ≡ asking (next_serial before (Reader reader)) question
  pub asked_ever : is_asked_ever question ≡ true
  pub all_answered
      : list_all
      (λ (c : Envelope). is_empty (questions_in c) || is_answered before (Reader reader) c.serial)
      (messages before (Reader reader))
      ≡ true
  pub all_registered : wants_registered before reader question ≡ true

abbrev pub MayAsk : List Act → ℕ → Envelope → List Question → Type 0
MayAsk before reader e [] = ⊥
MayAsk before reader e (question ∷ questions) = IsFree before reader e question

-- at most one such call stands behind a message that it took, behind what it tells and speaks of it
abbrev pub AtMostOne : List Act → ℕ → List Entry → Type 0
AtMostOne before reader [] = Unit {0}
AtMostOne before reader (sent (Reader r) e ∷ []) = (r ≡ reader) × MayAsk before reader e (questions_in e)
AtMostOne before reader entries = ⊥

-- Behind its start stands its Hello, behind its line its user's call, and a reader sends nothing else
abbrev pub call_due : List Act → Act → List Entry
call_due before (writes (started (Reader reader) name)) = sent (Reader reader) (asking 1 Hello) ∷ []
call_due before (begins_line (Call reader app node deed)) =
    sent (Reader reader)
    (user_call (next_serial before (Reader reader)) (or_empty (name_of before (App app))) node deed)
    ∷ []
call_due before act = []

abbrev pub CallsAre : Bool → List Act → Act → List Act → Type 0
CallsAre broken before (writes (got (Reader reader) sender serial)) behind =
    AtMostOne (before ++ writes (got (Reader reader) sender serial) ∷ []) reader (next_of (is_a of_reader) behind)
CallsAre broken before (writes (gone reader app)) behind = AtMostOne before reader (next_of (is_a of_reader) behind)
CallsAre broken before (writes (spoke reader app text)) behind =
    AtMostOne before reader (next_of (is_a of_reader) behind)
CallsAre broken before act behind = IsDueBehind broken of_reader behind (call_due before act)

pub record LawOfReaders (broken : Bool) (run : List Act) : Type 0 where
  pub registry_sends : AreDue broken of_registry registry_words_due run
  pub apps_hear : AreDue broken hearing hearing_due run
  pub readers_call
      : Everywhere (λ before act behind. Unless (writes_a of_reader act) (CallsAre broken before act behind)) run

-- 5. THE LAW OF SHOWN ROWS. Behind a line `show`, and nowhere else, stand the rows of the view of the application's
--    tree
-- as of the last message taken, with the parts that were told; nothing of one that is not held.
abbrev pub index_below : Option (List ℕ) → ℕ → ℤ
index_below None i = negsuc 0
index_below (Some parent) i = pos i

abbrev pub shown_row : Option (List ℕ) × ℕ × Row → ShownRow
shown_row seat = record { parent = seat.0; index = index_below seat.0 seat.1; row = seat.2 }

abbrev pub shown_rows : Forest Row → List ShownRow
shown_rows v = map shown_row (seats (λ (row : Row). Some row.path) None 0 v)

abbrev pub rows_of : List Act → ℕ → Held → List ShownRow
rows_of before app k = shown_rows (view (told_in k.told) (as_of before app k.last))

abbrev pub rows_due : List Act → Act → List Entry
rows_due before (begins_line (Show reader app)) =
    showed reader app (option_map (rows_of before app) (held_of before reader app)) ∷ []
rows_due before act = []

abbrev pub LawOfShownRows : Bool → List Act → Type 0
LawOfShownRows broken run = AreDue broken showing rows_due run

-- 6. THE LAW OF SPOKEN LINES. Behind a message of an application that it holds, which announces a step, a reader speaks
-- the lines of the step, read from the tree as of the message; behind the news of its end one line, with the root's
-- name as of the last message taken. It speaks nothing else.
abbrev pub is_first_covered : List (List ℕ × List ℕ) → List Signal → Bool
is_first_covered pairs [] = false
is_first_covered pairs (announcement ∷ echoes) = is_covered pairs announcement.event announcement.minor

-- a message announces the step directly before it, where the step's announcement is covered by a heard pattern
abbrev pub step_told : List Act → ℕ → Option Act → Option Step
step_told early app (Some (writes (changed a step))) =
    if a == app && is_first_covered (heard_pairs early app) (signals_of early app step) then Some step else None
step_told early app act = None

abbrev pub step_of : List Act → ℕ → ℕ → Option Step
step_of run app serial =
    let front = before_sent (App app) serial run in step_told (without_last front) app (last_of front)

abbrev pub lines_of : List Act → ℕ → ℕ → Option Step → List (List ℕ)
lines_of before app serial None = []
lines_of before app serial (Some step) = says_after (as_of before app serial) step

abbrev pub closing_lines : List Act → ℕ → Option Held → List (List ℕ)
closing_lines before app None = []
closing_lines before app (Some k) = closing_says (as_of before app k.last)

abbrev pub spoken_due : List Act → Act → List Entry
spoken_due before (writes (got (Reader reader) (App app) serial)) =
    if is_some (held_of before reader app)
    then map (spoke reader app) (lines_of before app serial (step_of before app serial)) else []
spoken_due before (writes (gone reader app)) =
    map (spoke reader app) (closing_lines before app (held_of before reader app))
spoken_due before act = []

abbrev pub LawOfSpokenLines : Bool → List Act → Type 0
LawOfSpokenLines broken run = AreDue broken speaking spoken_due run

-- 7. THE LAW OF EXITS. An end exits behind its line, and nowhere else; behind that nothing of it stands. Directly
--    behind
-- each message by which a reader learns that an application's name is nobody's stands that it is gone, and nowhere
-- else; behind that the reader takes nothing of it.
abbrev pub exit_due : List Act → Act → List Entry
exit_due before (begins_line (Exit app)) = exited (App app) ∷ []
exit_due before (begins_line (Leave reader)) = exited (Reader reader) ∷ []
exit_due before act = []

abbrev pub is_by : Party → Entry → Bool
is_by who (changed app step) = is_same (App app) who
is_by who (sent other e) = is_same other who
is_by who (got The_bus sender serial) = is_same sender who
is_by who (got taker sender serial) = is_same taker who
is_by who entry = false

abbrev pub IsOver : Party → List Act → Type 0
IsOver who behind = list_any (is_by who) (entries_in behind) ≡ false

abbrev pub is_got_of : ℕ → ℕ → Entry → Bool
is_got_of reader app (got (Reader r) (App a) serial) = r == reader && a == app
is_got_of reader app entry = false

abbrev pub NothingOf : List Act → Act → List Act → Type 0
NothingOf before (writes (exited who)) behind = IsOver who behind
NothingOf before (writes (gone reader app)) behind = list_any (is_got_of reader app) (entries_in behind) ≡ false
NothingOf before act behind = Unit {0}

abbrev pub is_named : List ℕ → Option (List ℕ) → Bool
is_named name None = false
is_named name (Some other) = bytes_eq other name

abbrev pub gone_of : List Act → ℕ → List ℕ → Party → Option Entry
gone_of before reader name (App app) = if is_named name (name_of before (App app)) then Some (gone reader app) else None
gone_of before reader name who = None

abbrev pub gone_with : List Act → ℕ → Option (List ℕ) → List Entry
gone_with before reader None = []
gone_with before reader (Some name) = filter_map (gone_of before reader name) (ends before)

abbrev pub gone_due : List Act → Act → List Entry
gone_due before (writes (got (Reader reader) sender serial)) =
    flat_map (λ e. gone_with before reader (name_gone e)) (handed before sender serial)
gone_due before act = []

pub record LawOfExits (broken : Bool) (run : List Act) : Type 0 where
  pub exits : AreDue broken exiting exit_due run
  pub told : AreDue broken ending gone_due run
  pub over : Everywhere NothingOf run

-- 8. THE LAW OF BUSY AND QUIET. `turns` makes so many turns, or fewer where then nothing waits; where something waits
-- still, that ends the line's acts. `drain` makes turns until nothing waits, and ends with that. Nothing else tells it.
abbrev pub word_due : Line → Bool → List Act
word_due (Turns count) waits = if waits then writes (busy count) ∷ [] else []
word_due Drain waits = writes quiet ∷ []
word_due line waits = []

abbrev pub TurnsAreMade : Line → ℕ → Bool → Type 0
TurnsAreMade (Turns count) made waits = (nat_le made count ≡ true) × (waits ≡ true → made ≡ count)
TurnsAreMade Drain made waits = waits ≡ false
TurnsAreMade line made waits = Unit {0}

-- Wherever a line ends with nothing waiting, each live reader holds each live application as it is now, with every part
-- known: the view as of the last message taken, with the parts that were told, is the whole view of the live tree
abbrev pub all_told : List ℕ → Told
all_told path = record { text = true; caret = true; columns = true }

abbrev pub IsNow : List Act → ℕ → Option Held → Type 0
IsNow run app None = ⊥
IsNow run app (Some k) = view (told_in k.told) (as_of run app k.last) ≡ view all_told (live_tree run app)

abbrev pub Follows : List Act → Party → Party → Type 0
Follows run (Reader reader) (App app) =
    Unless (not (is_live run (Reader reader) && is_live run (App app))) (IsNow run app (held_of run reader app))
Follows run who other = Unit {0}

abbrev pub AllFollow : List Act → Type 0
AllFollow run = AllByRecursion (λ reader. AllByRecursion (λ app. Follows run reader app) (ends run)) (ends run)

pub record EndsWell (before : List Act) (line : Line) (acts : List Act) : Type 0 where
  pub told
      : acts
      ≡ filter (λ act. not (writes_a wording act)) acts ++ word_due line (is_some (next_turn (before ++ acts)))
  pub made : TurnsAreMade line (length (filter is_move acts)) (is_some (next_turn (before ++ acts)))
  pub settled : Unless (is_some (next_turn (before ++ acts))) (AllFollow (before ++ acts))

-- each line does but one that is broken off
abbrev pub LineEndsWell : Bool → List Act → Act → List Act → Type 0
LineEndsWell broken before (begins_line line) behind =
    let acts = segment behind in
    Unless (broken && (length acts == length behind)) (EndsWell (before ++ begins_line line ∷ []) line acts)
LineEndsWell broken before act behind = Unit {0}

abbrev pub LawOfQuiet : Bool → List Act → Type 0
LawOfQuiet broken run = Everywhere (LineEndsWell broken) run

-- 9. THE LAW OF DROPPED ENDS. Who is dropped, in which order and with which two numbers is told by the deliveries: the
-- first to each end that its quota does not let in. It is told before anything else is done; of one that is dropped
-- nothing stands behind that, and behind the registry nothing at all.
abbrev pub is_lost : List Entry → Bool
is_lost entries = list_any (is_drop_of Registry) entries

-- where the registry was dropped, those that were due behind it are not told
abbrev pub AreDropped : Bool → List Act → Type 0
AreDropped broken run =
    IsFrontIf (broken || is_lost (entries_in run)) (filter (is_a dropping) (entries_in run)) (drops_due run)

abbrev pub DropsBefore : List Act → Act → List Act → Type 0
DropsBefore before act behind = Unless (is_done act) (AreDropped false before)

abbrev pub NothingBehind : List Act → Act → List Act → Type 0
NothingBehind before (writes (dropped Registry queued len)) behind = behind ≡ []
NothingBehind before (writes (dropped who queued len)) behind = IsOver who behind
NothingBehind before act behind = Unit {0}

pub record LawOfDroppedEnds (broken : Bool) (run : List Act) : Type 0 where
  pub so_far : Everywhere DropsBefore run
  pub at_end : AreDropped broken run
  pub over : Everywhere NothingBehind run

-- ALL OF THEM
pub record LawfulRun (broken : Bool) (run : List Act) : Type 0 where
  pub segments : LawOfSegments broken run
  pub steps : LawOfSteps broken run
  pub applications : LawOfApplications broken run
  pub links : LawOfLinks broken run
  pub readers : LawOfReaders broken run
  pub shown : LawOfShownRows broken run
  pub spoken : LawOfSpokenLines broken run
  pub exits : LawOfExits broken run
  pub at_quiet : LawOfQuiet broken run
  pub drops : LawOfDroppedEnds broken run

-- THE HEADLINE: these lines have this trace in a run that keeps all laws; or a trace is broken off while the last line
-- is done, and keeps all laws up to there
pub record IsTrace (broken : Bool) (lines : List Line) (trace : List Entry) : Type 0 where
  pub run : List Act
  pub of_lines : lines_in run ≡ lines
  pub of_trace : entries_in run ≡ trace
  pub lawful : LawfulRun broken run

abbrev pub Headline : List Line → List Entry → Type 0
Headline lines trace = IsTrace false lines trace

abbrev pub HeadlineUpToBreak : List Line → List Entry → Type 0
HeadlineUpToBreak lines trace = IsTrace true lines trace
