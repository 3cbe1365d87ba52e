-- The signals of applications are of the two interfaces that readers ask for, so the bus hands each to every reader whose rules it has.
use Rattle.std.proofs.Common.{◌≡◌, ◌⊎◌, inl, inr, ℕ, suc, Bool, true, false, List, [], ◌∷◌, ◌++◌, length, map, Option, None, Some, refl, sym, ap, ◌∙◌, subst}
use Rattle.std.specs.Prelude.{◌==◌, ◌&&◌, ◌||◌, filter, bytes_eq, if◌then◌else◌}
use Rattle.std.specs.List.{AllByRecursion, list_any}
use Rattle.std.proofs.lemmas.Bool.{eq-eqb}
use Rattle.std.proofs.lemmas.Slice.Eq.{bytes_eq-Decides}
use Rattle.atspi_tree_model.specs.declared.step.Step.{Step}
use Rattle.atspi_tree_model.specs.declared.step.Step.TheVariants.{Add, Remove, Move, SetName, SetDescription, SetRole, SetState, Insert, Delete, Caret, TextSelect, Relate}
use Rattle.atspi_tree_model.specs.Forest.{Forest, labels, width, pick, find, children_at}
use Rattle.atspi_tree_model.specs.Row.{TreeRow}
use Rattle.atspi_tree_model.specs.RowRules.{rows}
use Rattle.atspi_tree_model.specs.Tree.{is_node, after, seat_of}
use Rattle.atspi_script_lines.specs.declared.line.Party.TheVariants.{App}
use Rattle.atspi_message.specs.Envelope.{Envelope}
use Rattle.atspi_names.specs.Owners.{Owners}
use Rattle.atspi_match.specs.declared.condition.Condition.{Condition}
use Rattle.atspi_protocol.specs.members.Interfaces.{cache}
use Rattle.atspi_protocol.specs.news.NewsOf.{event_interface}
use Rattle.atspi_protocol.specs.announcing.Signals.{Signal, removed}
use Rattle.atspi_protocol.specs.announcing.Announced.{told_node, left, announced}
use Rattle.atspi_match.specs.routing.BusState.{BusState, unique_of}
use Rattle.atspi_match.specs.routing.Routing.{matches, asks_for, receivers}
use Rattle.atspi_match.specs.routing.Steps.{handed, called, speaks, passes_on, takes_from_named, bus_takes}
use Rattle.atspi_trace.specs.Entry.{Entry, sent}
use Rattle.atspi_trace.specs.Rules.{cache_rule, event_rule}
use Rattle.atspi_trace_laws.specs.laws.Words.{message, messages, live_tree, heard_pairs, before_sent}
use Rattle.atspi_trace_laws.specs.heard.Laws.{signals_under, IsAmong}
use Rattle.atspi_trace_laws.proofs.OfOrder.Parties.{false_true, all_append, all_back}
use Rattle.atspi_trace_laws.proofs.OfOrder.Each.{Each, everywhere}
use Rattle.atspi_trace_laws.proofs.OfHeard.Telling as telling
use Rattle.atspi_trace_laws.proofs.OfTaken.Found.{sent_split}
use Rattle.atspi_trace_laws.proofs.OfSigned.Between.{asked_all, OfMessage, sent_each}
use Rattle.atspi_trace_laws.proofs.OfSigned.Unique.{IsIn}
use Rattle.atspi_trace_laws.proofs.OfMissed.Ruling.{Has}

-- A SIGNAL FOR READERS: to all that ask, of one of the two interfaces
pub record ForReaders (m : Envelope) : Type 0 where
  pub kind : m.kind ≡ 4
  pub to_all : m.destination ≡ None
  pub interface : (m.interface ≡ Some cache) ⊎ (m.interface ≡ Some event_interface)

abbrev IsFor : Signal → Type 0
IsFor s = ForReaders s.message

of_cache : (m : Envelope) → m.kind ≡ 4 → m.destination ≡ None → m.interface ≡ Some cache → ForReaders m
of_cache m k d i = record { kind = k; to_all = d; interface = inl i }

of_event : (m : Envelope) → m.kind ≡ 4 → m.destination ≡ None → m.interface ≡ Some event_interface → ForReaders m
of_event m k d i = record { kind = k; to_all = d; interface = inr i }

node_for : (b : List ℕ) (p i n : ℕ) (o : Option TreeRow) → AllByRecursion IsFor (told_node b p i n o)
node_for b p i n None = tt
node_for b p i n (Some row) = (of_cache _ refl refl refl, tt)

left_for : (b : List ℕ) (n : ℕ) (o : Option (Option ℕ × ℕ)) → AllByRecursion IsFor (left b n o)
left_for b n None = tt
left_for b n (Some (None, index)) = tt
left_for b n (Some (Some parent, index)) = (of_event _ refl refl refl, tt)

removed_for : (b : List ℕ) (rs : List TreeRow) → AllByRecursion IsFor (map (λ (row : TreeRow). removed b row.shape.node) rs)
removed_for b [] = tt
removed_for b (r ∷ rs) = (of_cache _ refl refl refl, removed_for b rs)

all_for : (b : List ℕ) (f : Forest TreeRow) (step : Step) → AllByRecursion IsFor (announced b f step)
all_for b f (Add n p i seed) = (of_cache _ refl refl refl, (of_event _ refl refl refl, tt))
all_for b f (Remove n) =
    all_append IsFor (left b n (seat_of rows n f)) (map (λ (row : TreeRow). removed b row.shape.node) (labels (pick (is_node n) f))) (left_for b n (seat_of rows n f)) (removed_for b (labels (pick (is_node n) f)))
all_for b f (Move n p i) =
    let g : Forest TreeRow = after rows f (Move n p i) in
    all_append IsFor (told_node b p i (width (children_at (is_node n) g)) (find (is_node n) g) ++ left b n (seat_of rows n f)) _
    (all_append IsFor (told_node b p i (width (children_at (is_node n) g)) (find (is_node n) g)) (left b n (seat_of rows n f)) (node_for b p i (width (children_at (is_node n) g)) (find (is_node n) g))
    (left_for b n (seat_of rows n f)))
    (of_event _ refl refl refl, (of_event _ refl refl refl, tt))
all_for b f (SetName n x) = (of_event _ refl refl refl, tt)
all_for b f (SetDescription n x) = (of_event _ refl refl refl, tt)
all_for b f (SetRole n role) = (of_event _ refl refl refl, tt)
all_for b f (SetState n state on) = (of_event _ refl refl refl, tt)
all_for b f (Insert n at x) = (of_event _ refl refl refl, tt)
all_for b f (Delete n at x) = (of_event _ refl refl refl, tt)
all_for b f (Caret n at) = (of_event _ refl refl refl, tt)
all_for b f (TextSelect n marks) = tt
all_for b f (Relate n kind targets) = tt

with_number : (s : Signal) (n : ℕ) → IsFor s → ForReaders (record s.message { serial = n })
with_number s n h = record { kind = h.kind; to_all = h.to_all; interface = h.interface }

-- so each of a step is, and there are no others
step_for : (early : List Entry) (app : ℕ) (name : List ℕ) (step : Step) → AllByRecursion (OfMessage ForReaders app) (signals_under name early app step)
step_for early app name step =
    sent_each ForReaders app (suc (length (messages early (App app)))) _
    (asked_all (λ (s : Signal). (m : ℕ) → ForReaders (record s.message { serial = m })) (heard_pairs early app) (announced name (live_tree early app) step) (each (announced name (live_tree early app) step) (all_for name (live_tree early app) step)))
  where
    each : (xs : List Signal) → AllByRecursion IsFor xs → AllByRecursion (λ (s : Signal). (m : ℕ) → ForReaders (record s.message { serial = m })) xs
    each [] a = tt
    each (x ∷ xs) a = ((λ m. with_number x m a.0), each xs a.1)

pub signal_for : (es : List Entry) → Each telling.Both [] es → (app s : ℕ) (m : Envelope) → message es (App app) s ≡ Some m → m.kind ≡ 4 → ForReaders m
signal_for es law app s m found four =
    let r = sent_split es (App app) s m found in
    let a : IsAmong (before_sent (App app) s es) app m = (everywhere telling.Both es law (before_sent (App app) s es) (sent (App app) m) r.0 r.1).1 four in
    (all_back (OfMessage ForReaders app) a.front (sent (App app) m ∷ a.back) (subst (AllByRecursion (OfMessage ForReaders app)) a.listed (step_for a.early app a.name a.step))).0.1

-- WHO HAS BOTH RULES GETS IT
and_both : (a b : Bool) → a ≡ true → b ≡ true → (a && b) ≡ true
and_both true b h g = g
and_both false b h g = absurd (false_true h)

bytes_same : (x : List ℕ) → bytes_eq x x ≡ true
bytes_same x = (bytes_eq-Decides x x).1 refl

or_true : (a b : Bool) → b ≡ true → (a || b) ≡ true
or_true true b h = refl
or_true false b h = h

asks_by : (k : ℕ) (rule : List Condition) (m : Envelope) (owners : Owners) (rules : List (ℕ × List Condition)) → matches m owners rule ≡ true → Has k rule rules
    → list_any (λ (p : ℕ × List Condition). p.0 == k && matches m owners p.1) rules ≡ true
asks_by k rule m owners [] h g = absurd g
asks_by k rule m owners (p ∷ ps) h (inl g) =
    ap (λ b. b || list_any (λ (q : ℕ × List Condition). q.0 == k && matches m owners q.1) ps)
    (and_both (p.0 == k) (matches m owners p.1) (eq-eqb p.0 k g.0) (ap (matches m owners) g.1 ∙ h))
asks_by k rule m owners (p ∷ ps) h (inr g) = or_true (p.0 == k && matches m owners p.1) (list_any (λ (q : ℕ × List Condition). q.0 == k && matches m owners q.1) ps) (asks_by k rule m owners ps h g)

-- what a rule of the two looks at is the kind and the interface
cache_matches : (m : Envelope) (owners : Owners) → m.kind ≡ 4 → m.interface ≡ Some cache → matches m owners cache_rule ≡ true
cache_matches m owners kind interface = subst (λ i. matches (record m { interface = i }) owners cache_rule ≡ true) (sym interface) (subst (λ n. matches (record m { kind = n; interface = Some cache }) owners cache_rule ≡ true) (sym kind) (and_both (bytes_eq cache cache) true (bytes_same cache) refl))

event_matches : (m : Envelope) (owners : Owners) → m.kind ≡ 4 → m.interface ≡ Some event_interface → matches m owners event_rule ≡ true
event_matches m owners kind interface =
    subst (λ i. matches (record m { interface = i }) owners event_rule ≡ true) (sym interface) (subst (λ n. matches (record m { kind = n; interface = Some event_interface }) owners event_rule ≡ true) (sym kind) (and_both (bytes_eq event_interface event_interface) true (bytes_same event_interface) refl))

asks_both : (s : BusState) (k : ℕ) (m : Envelope) → ForReaders m → Has k cache_rule s.rules → Has k event_rule s.rules → asks_for s m k ≡ true
asks_both s k m f c e = by f.interface
  where
    by : (m.interface ≡ Some cache) ⊎ (m.interface ≡ Some event_interface) → asks_for s m k ≡ true
    by (inl i) = asks_by k cache_rule m s.owners s.rules (cache_matches m s.owners f.kind i) c
    by (inr i) = asks_by k event_rule m s.owners s.rules (event_matches m s.owners f.kind i) e

in_filter : (p : ℕ → Bool) (k : ℕ) (xs : List ℕ) → p k ≡ true → IsIn k xs → IsIn k (filter p xs)
in_filter p k [] h i = i
in_filter p k (x ∷ xs) h i = by (p x) refl i (λ j. in_filter p k xs h j)
  where
    by : (b : Bool) → p x ≡ b → (k ≡ x) ⊎ IsIn k xs → (IsIn k xs → IsIn k (filter p xs)) → IsIn k (if b then x ∷ filter p xs else filter p xs)
    by true g (inl same) f = inl same
    by true g (inr j) f = inr (f j)
    by false g (inl same) f = absurd (false_true (sym g ∙ ap p (sym same) ∙ h))
    by false g (inr j) f = f j

-- a message to all
pub received : (s : BusState) (k : ℕ) (m : Envelope) → ForReaders m → Has k cache_rule s.rules → Has k event_rule s.rules → IsIn k s.joined → IsIn k (receivers s m)
received s k m f c e joined = subst (λ d. asks_for s (record m { destination = d }) k ≡ true → IsIn k (receivers s (record m { destination = d }))) (sym f.to_all) (λ asks. by (m.kind == 4) (ap (λ n. n == 4) f.kind) asks) (asks_both s k m f c e)
  where
    all : Envelope
    all = record m { destination = None }

    by : (b : Bool) → b ≡ true → asks_for s all k ≡ true → IsIn k (if b then filter (asks_for s all) s.joined else [])
    by true h asks = in_filter (asks_for s all) k s.joined asks joined
    by false h asks = absurd (false_true h)

pub handed_on : (s : BusState) (conn : ℕ) (e : Envelope) (rule : Option (List Condition)) (own : List ℕ) → ForReaders e → unique_of s.owners conn ≡ Some own → (bus_takes s conn e rule).moves ≡ handed s (record e { sender = Some own })
handed_on s conn e rule own f named_ = rw named_ (subst (λ d. (takes_from_named s conn (record (record e { sender = Some own }) { destination = d }) rule).moves ≡ handed s (record (record e { sender = Some own }) { destination = d })) (sym f.to_all)
    (by (e.kind == 1) (ap (λ n. n == 1) f.kind)))
  where
    m : Envelope
    m = record (record e { sender = Some own }) { destination = None }

    by : (b : Bool) → b ≡ false → (if b then (if b then called s conn m rule else speaks s []) else passes_on s conn m).moves ≡ handed s m
    by true h = absurd (false_true (sym h))
    by false h = refl
