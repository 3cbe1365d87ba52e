-- The nine laws of a lawful trace, each said of the entries that stand in it.
use Rattle.std.specs.Prelude.{◌≡◌, ℕ, suc, ◌+◌, ◌<◌, Bool, true, false, List, [], ◌∷◌, ◌++◌, length, map, Option, None}
use Rattle.std.specs.Prelude.{Some, is_some}
use Rattle.std.specs.List.{AllByRecursion}
use Rattle.atspi_tree_model.specs.declared.step.Step.{Step}
use Rattle.atspi_tree_model.specs.Forest.{labels}
use Rattle.atspi_tree_model.specs.RowRules.{rows}
use Rattle.atspi_tree_model.specs.Tree.{Applies}
use Rattle.atspi_tree_model.specs.View.{view}
use Rattle.atspi_script_lines.specs.declared.line.Party.{Party}
use Rattle.atspi_script_lines.specs.declared.line.Party.TheVariants.{Bus as The_bus, Registry, App, Reader}
use Rattle.atspi_message.specs.Envelope.{Envelope}
use Rattle.atspi_trace_events.specs.declared.shown.ShownRow.{ShownRow}
use Rattle.atspi_protocol.specs.announcing.Signals.{Signal}
use Rattle.atspi_protocol.specs.announcing.Announced.{announced}
use Rattle.atspi_protocol.specs.exporting.Starting.{name_or_empty}
use Rattle.atspi_protocol.specs.exporting.Hearing.{is_covered}
use Rattle.atspi_protocol.specs.exporting.Telling.{asked_for}
use Rattle.atspi_protocol.specs.ends.Messages.{numbered}
use Rattle.atspi_speech.specs.Speech.{says_after, closing_says}
use Rattle.atspi_protocol.specs.declared.following.question.Question.{Question}
use Rattle.atspi_protocol.specs.declared.following.question.Question.TheVariants.{RegisterEvent, GetItems}
use Rattle.atspi_protocol.specs.following.ReaderState.{start_calls}
use Rattle.atspi_protocol.specs.following.Known.{told_end}
use Rattle.atspi_protocol.specs.following.Wishes.{unknown_parts}
use Rattle.atspi_trace.specs.Entry.{Entry, changed, sent, got, spoke, showed, exited, gone, dropped, quiet}
use Rattle.atspi_trace.specs.Ends.{same_party}
use Rattle.atspi_trace.specs.Hearing.{patterns_in, question_in}
use Rattle.atspi_trace.specs.Causes.{told_in, shown_rows}
use Rattle.atspi_trace_laws.specs.laws.Words.{live_tree, added, messages, message, before_sent, as_of, heard_pairs}
use Rattle.atspi_trace_laws.specs.laws.Words.{name_in, own_call, is_answered, is_returned, Kept, held, is_live}

-- it holds of each entry, with those before it and those behind it
abbrev pub Everywhere : (List Entry → Entry → List Entry → Type 0) → List Entry → Type 0
Everywhere Law trace = (before : List Entry) (entry : Entry) (behind : List Entry) → trace ≡ before ++ entry ∷ behind
    → Law before entry behind

-- these entries stand next
abbrev pub Follow : List Entry → List Entry → Type 0
Follow entries behind = (rest : List Entry) × (behind ≡ entries ++ rest)

-- STEPS. Each is a step of a live application, and applies to its tree.
abbrev pub StepIsOne : List Entry → Entry → List Entry → Type 0
StepIsOne before (changed app step) behind = (is_live before (App app) ≡ true)
    × Applies rows (live_tree before app) (added before app) step
StepIsOne before entry behind = Unit {0}

abbrev pub LawOfSteps : List Entry → Type 0
LawOfSteps trace = Everywhere StepIsOne trace

-- APPLICATIONS. Directly behind a step stand its announcement and its echoes, those that some heard pattern covers,
-- with the next numbers.
abbrev pub signals_due : List Entry → ℕ → Step → List Entry
signals_due before app step =
    map (sent (App app))
    (numbered (suc (length (messages before (App app))))
    (map (λ (s : Signal). s.message)
    (asked_for (heard_pairs before app)
    (announced (name_or_empty (name_in before (App app))) (live_tree before app) step))))

abbrev pub IsTold : List Entry → Entry → List Entry → Type 0
IsTold before (changed app step) behind = Follow (signals_due before app step) behind
IsTold before entry behind = Unit {0}

-- No other signal of an application stands anywhere: each stands in such a list
pub record IsOfStep (before : List Entry) (app : ℕ) (e : Envelope) (behind : List Entry) : Type 0 where
  pub early : List Entry
  pub step : Step
  pub front : List Entry
  pub back : List Entry
  pub stands : before ≡ early ++ changed app step ∷ front
  pub listed : signals_due early app step ≡ front ++ sent (App app) e ∷ back

abbrev pub IsSignalOfStep : List Entry → Entry → List Entry → Type 0
IsSignalOfStep before (sent (App app) e) behind = e.kind ≡ 4 → IsOfStep before app e behind
IsSignalOfStep before entry behind = Unit {0}

-- serials rise by one from 1; the registry sent three messages before, the bus seven
abbrev pub sent_before : Party → ℕ
sent_before The_bus = 7
sent_before Registry = 3
sent_before who = 0

abbrev pub HasNextSerial : List Entry → Entry → List Entry → Type 0
HasNextSerial before (sent who e) behind = e.serial ≡ suc (sent_before who + length (messages before who))
HasNextSerial before entry behind = Unit {0}

pub record LawOfApplications (trace : List Entry) : Type 0 where
  pub told : Everywhere IsTold trace
  pub no_others : Everywhere IsSignalOfStep trace
  pub serials : Everywhere HasNextSerial trace

-- BUS AND LINKS. What is taken was sent before, by who is named, and each message of an end is taken by the bus once,
-- in the order of sending.
abbrev pub is_got_by_bus : Party → Entry → Bool
is_got_by_bus who (got The_bus other serial) = same_party other who
is_got_by_bus who entry = false

abbrev pub count_got_by_bus : List Entry → Party → ℕ
count_got_by_bus [] who = 0
count_got_by_bus (entry ∷ entries) who = add_if (is_got_by_bus who entry) (count_got_by_bus entries who)
  where
    add_if : Bool → ℕ → ℕ
    add_if true n = suc n
    add_if false n = n

abbrev pub WasSent : List Entry → Entry → List Entry → Type 0
WasSent before (got The_bus who serial) behind =
    (is_some (message before who serial) ≡ true) × (serial ≡ suc (sent_before who + count_got_by_bus before who))
WasSent before (got taker sender serial) behind = (is_live before taker ≡ true)
    × (is_some (message before sender serial) ≡ true)
WasSent before entry behind = Unit {0}

abbrev pub LawOfLinks : List Entry → Type 0
LawOfLinks trace = Everywhere WasSent trace

-- REGISTRY, HEARING, READERS. A reader's own call, but for its Hello, stands directly behind a message that it took,
-- with its closing lines and spoken lines between; each earlier own call was answered; items are asked for once all
-- five patterns are registered.
abbrev pub IsBetween : ℕ → Entry → Type 0
IsBetween reader (gone r app) = r ≡ reader
IsBetween reader (spoke r app text) = r ≡ reader
IsBetween reader entry = ⊥

pub record StandsBehindGot (before : List Entry) (reader : ℕ) : Type 0 where
  pub early : List Entry
  pub sender : Party
  pub serial : ℕ
  pub between : List Entry
  pub stands : before ≡ early ++ got (Reader reader) sender serial ∷ between
  pub only : AllByRecursion (IsBetween reader) between

abbrev pub IsRegistered : List Entry → ℕ → List ℕ → Type 0
IsRegistered before reader pattern =
    (serial : ℕ) × (own_call before reader serial ≡ Some (RegisterEvent pattern))
    × (is_returned before reader serial ≡ true)

abbrev pub WantsRegistrations : List Entry → ℕ → Question → Type 0
WantsRegistrations before reader (GetItems name) = AllByRecursion (IsRegistered before reader) (patterns_in start_calls)
WantsRegistrations before reader question = Unit {0}

pub record IsFreeCall (before : List Entry) (reader : ℕ) (e : Envelope) (question : Question) : Type 0 where
  pub behind_got : (0 < length (messages before (Reader reader))) → StandsBehindGot before reader
  pub answered : (serial : ℕ) → is_some (own_call before reader serial) ≡ true → is_answered before reader serial ≡ true
  pub registered : WantsRegistrations before reader question

abbrev pub IsAllowedCall : List Entry → Entry → List Entry → Type 0
IsAllowedCall before (sent (Reader reader) e) behind = (question : Question) → question_in e ≡ Some question
    → IsFreeCall before reader e question
IsAllowedCall before entry behind = Unit {0}

abbrev pub LawOfReaders : List Entry → Type 0
LawOfReaders trace = Everywhere IsAllowedCall trace

-- SHOWN ROWS. What a reader shows of an application that it holds is the view of its tree as of the last message taken,
-- with the parts that it was told; of another nothing.
abbrev pub rows_due : List Entry → ℕ → Option Kept → Option (List ShownRow)
rows_due before app None = None
rows_due before app (Some k) = Some (shown_rows (view (told_in k.told) (as_of before app k.last)))

abbrev pub ShowsTree : List Entry → Entry → List Entry → Type 0
ShowsTree before (showed reader app rows) behind = rows ≡ rows_due before app (held before reader app)
ShowsTree before entry behind = Unit {0}

abbrev pub LawOfShownRows : List Entry → Type 0
LawOfShownRows trace = Everywhere ShowsTree trace

-- SPOKEN LINES. Behind a message of an application that it held before stand, where that is the announcement of a step,
-- the lines of the step, read from the tree as of the message.

-- the announcement of a step is the first of its signals; some heard pattern covers it
abbrev pub IsAskedFor : List (List ℕ × List ℕ) → List Signal → Type 0
IsAskedFor pairs [] = ⊥
IsAskedFor pairs (signal ∷ echoes) = is_covered pairs signal.event signal.minor ≡ true

-- A message is the announcement of a step where it was sent directly behind the step and the step's announcement was
-- asked for: what stands there is then the announcement, by the law of applications. An echo of a step whose
-- announcement nobody asked for announces nothing.
pub record Announces (before : List Entry) (app serial : ℕ) (step : Step) : Type 0 where
  pub early : List Entry
  pub is_sent : is_some (message before (App app) serial) ≡ true
  pub stands : before_sent (App app) serial before ≡ early ++ changed app step ∷ []
  pub asked
      : IsAskedFor (heard_pairs early app)
      (announced (name_or_empty (name_in early (App app))) (live_tree early app) step)

abbrev pub IsSpoken : List Entry → Entry → List Entry → Type 0
IsSpoken before (got (Reader reader) (App app) serial) behind =
    is_some (held before reader app) ≡ true → (step : Step) → Announces before app serial step
    → Follow (map (spoke reader app) (says_after (as_of before app serial) step)) behind
IsSpoken before entry behind = Unit {0}

abbrev pub LawOfSpokenLines : List Entry → Type 0
LawOfSpokenLines trace = Everywhere IsSpoken trace

-- EXITS. Behind an end's exit stands no step of it, and it sends and takes nothing. A reader tells the end of an
-- application exactly where it takes the bus's news that its unique name is nobody's, with the closing line of one that
-- it held.
abbrev pub IsNotOf : Party → Entry → Type 0
IsNotOf who (changed app step) = same_party (App app) who ≡ false
IsNotOf who (sent other e) = same_party other who ≡ false
IsNotOf who (got taker sender serial) = same_party taker who ≡ false
IsNotOf who entry = Unit {0}

abbrev pub IsLast : List Entry → Entry → List Entry → Type 0
IsLast before (exited who) behind = AllByRecursion (IsNotOf who) behind
IsLast before entry behind = Unit {0}

abbrev pub closing_due : List Entry → ℕ → ℕ → Option Kept → List Entry
closing_due before reader app None = []
closing_due before reader app (Some k) = map (spoke reader app) (closing_says (as_of before app k.last))

abbrev pub TellsEnd : List Entry → Entry → List Entry → Type 0
TellsEnd before (got (Reader reader) The_bus serial) behind =
    (app : ℕ) (name : List ℕ) (e : Envelope) → message before The_bus serial ≡ Some e → told_end e ≡ Some name
    → name_in before (App app) ≡ Some name
    → Follow (gone reader app ∷ closing_due before reader app (held before reader app)) behind
TellsEnd before entry behind = Unit {0}

pub record LawOfExits (trace : List Entry) : Type 0 where
  pub last : Everywhere IsLast trace
  pub told : Everywhere TellsEnd trace

-- BUSY AND QUIET. Where it is told that nothing waits, each live reader holds each live application as it is now, with
-- every part known.
pub record IsAsNow (before : List Entry) (app : ℕ) (k : Kept) : Type 0 where
  pub same : view (told_in k.told) (as_of before app k.last) ≡ view (told_in k.told) (live_tree before app)
  pub known : AllByRecursion (λ row. unknown_parts row ≡ []) (labels (view (told_in k.told) (live_tree before app)))

abbrev pub KnowsAll : List Entry → Entry → List Entry → Type 0
KnowsAll before quiet behind =
    (reader app : ℕ) → is_live before (Reader reader) ≡ true → is_live before (App app) ≡ true
    → (k : Kept) × (held before reader app ≡ Some k) × IsAsNow before app k
KnowsAll before entry behind = Unit {0}

abbrev pub LawOfQuiet : List Entry → Type 0
LawOfQuiet trace = Everywhere KnowsAll trace

-- DROPPED ENDS. A dropped end is told once, behind it stands nothing of it, and nothing at all behind that of the
-- registry.
abbrev pub IsOver : List Entry → Entry → List Entry → Type 0
IsOver before (dropped Registry queued len) behind = behind ≡ []
IsOver before (dropped who queued len) behind = AllByRecursion (IsNotOf who) behind
IsOver before entry behind = Unit {0}

abbrev pub LawOfDroppedEnds : List Entry → Type 0
LawOfDroppedEnds trace = Everywhere IsOver trace

-- all nine
pub record NineLaws (trace : List Entry) : Type 0 where
  pub steps : LawOfSteps trace
  pub applications : LawOfApplications trace
  pub links : LawOfLinks trace
  pub readers : LawOfReaders trace
  pub shown : LawOfShownRows trace
  pub spoken : LawOfSpokenLines trace
  pub exits : LawOfExits trace
  pub at_quiet : LawOfQuiet trace
  pub drops : LawOfDroppedEnds trace
