-- What readers do not miss.
use Rattle.std.specs.Prelude.{◌≡◌, ◌==◌, if◌then◌else◌, ◌⊎◌, encode_utf8_all, ℕ, true, false, List, [], ◌∷◌, ◌++◌}
use Rattle.std.specs.Prelude.{Option, None, Some, codes}
use Rattle.std.specs.List.{AllByRecursion}
use Rattle.atspi_base.specs.valid_names.Names.{is_bus_name}
use Rattle.atspi_tree_model.specs.declared.step.Step.{Step}
use Rattle.atspi_tree_model.specs.Forest.{Forest}
use Rattle.atspi_tree_model.specs.Row.{TreeRow}
use Rattle.atspi_script_lines.specs.declared.line.Party.TheVariants.{Registry, App, Reader}
use Rattle.atspi_message.specs.Envelope.{Envelope}
use Rattle.atspi_match.specs.routing.Members.{is_text}
use Rattle.atspi_protocol.specs.declared.following.question.Question.{Question}
use Rattle.atspi_protocol.specs.declared.following.question.Question.TheVariants.{RegisterEvent, GetItems}
use Rattle.atspi_protocol.specs.announcing.Announced.{announced}
use Rattle.atspi_protocol.specs.registering.RegistryState.{RegistryState}
use Rattle.atspi_protocol.specs.registering.Answers.{pairs_data}
use Rattle.atspi_protocol.specs.registering.Steps.{name_gone, registry_takes}
use Rattle.atspi_protocol.specs.exporting.Exporter.{Phase, awaits, over, embed, get_registered_events, Exporter}
use Rattle.atspi_protocol.specs.exporting.Taking.{app_takes}
use Rattle.atspi_protocol.specs.exporting.Hearing.{is_heard, exchanged, heard_after, pairs_in}
use Rattle.atspi_protocol.specs.following.Calls.{asking}
use Rattle.atspi_protocol.specs.following.ReaderState.{start_calls}
use Rattle.atspi_trace.specs.Entry.{Entry, sent, got}
use Rattle.atspi_trace.specs.Hearing.{patterns_in}
use Rattle.atspi_trace_laws.specs.laws.Words.{messages, message, before_sent, answers_question, Kept, held}
use Rattle.atspi_trace_laws.specs.laws.NineLaws.{Everywhere}
use Rattle.atspi_trace_laws.specs.order.Laws.{OfEachTrace}
use Rattle.atspi_trace_laws.specs.folds.Laws.{AreAllCovered}

-- an entry is no signal of the application
abbrev pub IsNoSignal : ℕ → Entry → Type 0
IsNoSignal app (sent (App a) e) = a ≡ app → e.kind ≡ 4 → ⊥
IsNoSignal app entry = Unit {0}

-- between two messages of it, the first with this serial and the other with that, it sent no signal
pub record NoSignalBetween (before : List Entry) (app last serial : ℕ) : Type 0 where
  pub first : Envelope
  pub has_serial : first.serial ≡ last
  pub between : List Entry
  pub stands : before_sent (App app) serial before
      ≡ (before_sent (App app) last before ++ sent (App app) first ∷ []) ++ between
  pub no_signal : AllByRecursion (IsNoSignal app) between

-- a load begins anew
abbrev pub IsLoad : Option Question → Type 0
IsLoad (Some (GetItems name)) = Unit {0}
IsLoad question = ⊥

-- WHERE A READER TAKES A MESSAGE OF AN APPLICATION THAT IT HOLDS, but for a return that loads it, the application sent
-- no signal between the last message that the reader took of it and this one: each signal since then was taken.
abbrev pub TookAll : List Entry → Entry → List Entry → Type 0
TookAll before (got (Reader r) (App a) serial) behind =
    (IsLoad (answers_question before r (message before (App a) serial)) → ⊥) → (k : Kept) → held before r a ≡ Some k
    → NoSignalBetween before a k.last serial
TookAll before entry behind = Unit {0}

abbrev pub NoSignalIsMissed : Type 0
NoSignalIsMissed = OfEachTrace (Everywhere TookAll)

-- WHAT IS ASKED FOR. A pattern that an application has heard of, of some listener; and all five of a reader's start
abbrev pub IsHeardOf : List (List ℕ × List ℕ) → List ℕ → Type 0
IsHeardOf pairs pattern = (listener : List ℕ) × (is_heard pairs (listener, pattern) ≡ true)

abbrev pub AreHeardOf : List (List ℕ × List ℕ) → Type 0
AreHeardOf pairs = AllByRecursion (IsHeardOf pairs) (patterns_in start_calls)

-- where it has, each of its steps is asked for whole, in whatever tree and under whatever name
abbrev pub PatternsCoverAll : Type 0
PatternsCoverAll = (pairs : List (List ℕ × List ℕ)) (name : List ℕ) (tree : Forest TreeRow) (step : Step)
    → AreHeardOf pairs → AreAllCovered pairs (announced name tree step)

-- NOTHING IS TAKEN BACK. What a reader sends is a call, and none by which it would take back a match rule or a pattern.
pub record AsksOnly (e : Envelope) : Type 0 where
  pub is_call : e.kind ≡ 1
  pub no_rule_back : is_text e.member (codes "RemoveMatch") ≡ false
  pub no_pattern_back : is_text e.member (codes "DeregisterEvent") ≡ false

abbrev pub TakesNothingBack : List Entry → Entry → List Entry → Type 0
TakesNothingBack before (sent (Reader r) e) behind = AsksOnly e
TakesNothingBack before entry behind = Unit {0}

abbrev pub NothingIsTakenBack : Type 0
NothingIsTakenBack = OfEachTrace (Everywhere TakesNothingBack)

-- WHAT THE REGISTRY TELLS. The pairs that one has who had these, and hears so many messages
abbrev pub hearing : List Envelope → List (List ℕ × List ℕ) → List (List ℕ × List ℕ)
hearing [] pairs = pairs
hearing (e ∷ es) pairs = hearing es (heard_after pairs e).heard

-- listeners have bus names, and so has the sender of a message, if it names one
abbrev pub HasBusName : List ℕ × List ℕ → Type 0
HasBusName pair = is_bus_name pair.0 ≡ true

abbrev pub AreNamed : List (List ℕ × List ℕ) → Type 0
AreNamed pairs = AllByRecursion HasBusName pairs

abbrev pub IsNamed : Option (List ℕ) → Type 0
IsNamed None = Unit {0}
IsNamed (Some name) = is_bus_name name ≡ true

-- Whatever the registry takes: who had its pairs before, and hears what it then sends, has its pairs after, of
-- listeners with bus names. Its list of them is read as just them, and who takes it has heard of those, whatever was
-- heard before.
pub record PairsAreTold : Type 0 where
  pub news : (s : RegistryState) (e : Envelope) → AreNamed s.pairs → IsNamed e.sender
      → hearing (registry_takes s e).sent s.pairs ≡ (registry_takes s e).state.pairs
  pub names : (s : RegistryState) (e : Envelope) → AreNamed s.pairs → IsNamed e.sender
      → AreNamed (registry_takes s e).state.pairs
  pub list : (pairs : List (List ℕ × List ℕ)) → AreNamed pairs → pairs_in (pairs_data pairs ∷ []) ≡ Some pairs
  pub listed : (heard pairs : List (List ℕ × List ℕ)) (p : List ℕ × List ℕ)
      → is_heard (exchanged heard pairs).heard p ≡ is_heard pairs p

-- WHERE THE REGISTRY SENDS A LIST OF PAIRS, it is of those that one has who heard all that it sent before.
abbrev pub ListIsAsTold : List Entry → Entry → List Entry → Type 0
ListIsAsTold before (sent Registry e) behind = (pairs : List (List ℕ × List ℕ)) → e.kind ≡ 2
    → pairs_in e.body ≡ Some pairs → hearing (messages before Registry) [] ≡ pairs
ListIsAsTold before entry behind = Unit {0}

abbrev pub ListsAreAsTold : Type 0
ListsAreAsTold = OfEachTrace (Everywhere ListIsAsTold)

-- HOW PAIRS COME AND GO. What takes a pair away: a call of the listener's own to take it back, or the bus's news that
-- its name is nobody's
abbrev pub TakesAway : Envelope → List ℕ × List ℕ → Type 0
TakesAway e pair = ((e.kind ≡ 1) × (e.member ≡ Some (codes "DeregisterEvent")) × (e.sender ≡ Some pair.0))
    ⊎ ((name : List ℕ) × (name_gone e ≡ Some name) × (pair.0 ≡ encode_utf8_all name))

-- Once the registry has its name, a reader's call for a pattern enters it, under the name of its sender; and a pair
-- that the registry has no longer was taken away.
pub record PairsComeAndGo : Type 0 where
  pub comes : (s : RegistryState) (own listener pattern : List ℕ) (serial : ℕ) → s.own ≡ Some own
      → is_heard
      (registry_takes s (record (asking serial (RegisterEvent pattern)) { sender = Some listener })).state.pairs
      (listener, pattern) ≡ true
  pub goes : (s : RegistryState) (e : Envelope) (pair : List ℕ × List ℕ) → is_heard s.pairs pair ≡ true
      → is_heard (registry_takes s e).state.pairs pair ≡ false → TakesAway e pair

-- HOW APPLICATIONS LISTEN. Its start is past the list of listeners, which it asks for once
abbrev pub IsPastList : Phase → Type 0
IsPastList over = Unit {0}
IsPastList (awaits embed serial) = Unit {0}
IsPastList phase = ⊥

-- what a message makes of the pairs, where it is no list
abbrev pub heard_on : List (List ℕ × List ℕ) → Envelope → List (List ℕ × List ℕ)
heard_on heard e = if e.kind == 4 then (heard_after heard e).heard else heard

-- An application that takes the list has heard of just its pairs; from there on it hears the signals that it takes, and
-- no other message changes what it has heard.
pub record ApplicationsListen : Type 0 where
  pub lists : (s : Exporter) (e : Envelope) (serial : ℕ) (pairs : List (List ℕ × List ℕ))
      → s.phase ≡ awaits get_registered_events serial → e.kind ≡ 2 → e.reply ≡ Some serial
      → pairs_in e.body ≡ Some pairs
      → IsPastList (app_takes s e).phase × ((p : List ℕ × List ℕ) → is_heard (app_takes s e).heard p ≡ is_heard pairs p)
  pub signals : (s : Exporter) (e : Envelope) (name : List ℕ) → s.name ≡ Some name → IsPastList s.phase
      → IsPastList (app_takes s e).phase × ((app_takes s e).heard ≡ heard_on s.heard e)
