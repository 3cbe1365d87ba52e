-- Whom the bus hands something to is of those who have joined or stand in the list of a name: what is said of all of these is said of it, as that it has an end.
use Rattle.std.proofs.Common.{◌≡◌, ℕ, zero, suc, ◌+◌, Bool, true, false, List, [], ◌∷◌, ◌++◌, map, Option, None, Some, refl, sym, subst, cond}
use Rattle.std.specs.Prelude.{◌==◌, ◌&&◌, ◌-◌, nat_lt, not, filter, flat_map, length, codes, if◌then◌else◌, Result, Ok, Err}
use Rattle.std.specs.List.{AllByRecursion, fold, list_any}
use Rattle.std.specs.FinMap as finmap
use Rattle.atspi_types.specs.Data.{Data}
use Rattle.atspi_script_lines.specs.declared.line.Party.{Party}
use Rattle.atspi_message.specs.Envelope.{Envelope}
use Rattle.atspi_message.specs.Bytes.{written}
use Rattle.atspi_match.specs.declared.condition.Condition.{Condition}
use Rattle.atspi_match.specs.RuleIndex.{is_pair, rules_of, without_first, without_rules}
use Rattle.atspi_names.specs.Queue.{allows_replacement, replaces_existing, forbids_queueing, stands, without, with_flags, taken_over, requested, released, owner_in}
use Rattle.atspi_names.specs.Owners.{Lists, list_of, with_list, lists_without, unique_name, after_hello, after_gone}
use Rattle.atspi_names.proofs.BookLemmas.{list_of-with_list, list_of-lists_without}
use Rattle.atspi_match.specs.declared.routing.closing.Why.{Why}
use Rattle.atspi_match.specs.declared.routing.closing.Why.TheVariants.{NotHello, Quota}
use Rattle.atspi_match.specs.declared.routing.closing.Closing.{Closing}
use Rattle.atspi_match.specs.declared.routing.member.BusMember.{BusMember}
use Rattle.atspi_match.specs.declared.routing.member.BusMember.TheVariants.{Hello, RequestName, ReleaseName, NameHasOwner, GetNameOwner, ListNames, ListQueuedOwners, AddMatch, RemoveMatch, GetId, Ping}
use Rattle.atspi_match.specs.routing.BusState.{OpenCall, BusState, unique_of, calls_without}
use Rattle.atspi_match.specs.routing.OwnMessages.{numbered}
use Rattle.atspi_match.specs.routing.Members.{member_of}
use Rattle.atspi_match.specs.routing.Answers.{fails, returns, Answer, only, answers, may_be_asked_for, first_text, second_number, requests, releases, adds_rule, removes_rule}
use Rattle.atspi_match.specs.routing.Routing.{one_or_none, receivers, is_for_bus}
use Rattle.atspi_match.specs.routing.Steps.{Move, says, delivers, closes, BusStep, handed, speaks, called, undeliverable, is_unowned, calls_after_all, is_hello, greets, farewell, bus_takes, bus_leaves}
use Rattle.atspi_match.specs.routing.Queues as queues
use Rattle.atspi_match.specs.routing.Queues.{Waiting, Bus, is_due, doomed, queue_of, without_queue, told_length}
use Rattle.atspi_trace.specs.Rules.{rule_in}
use Rattle.atspi_trace.specs.World.{Said}
use Rattle.atspi_trace.specs.Ends.{with_end, taken_up}
use Rattle.atspi_trace.specs.Carrying.{Carried, letter_of, stepped, left, one_closed, settled, with_name, takes, takes_end}
use Rattle.atspi_trace_laws.proofs.OfOrder.Parties.{all_append}

-- LISTS OF NAMES, of connections of which this is said
module _ (P : ℕ → Type 0) where
  abbrev pub IsIn : ℕ × ℕ → Type 0
  IsIn p = P p.0

  abbrev pub AreIn : Lists → Type 0
  AreIn lists = (q : List ℕ) → AllByRecursion IsIn (list_of lists q)

  without_in : (conn : ℕ) (list : List (ℕ × ℕ)) → AllByRecursion IsIn list → AllByRecursion IsIn (without conn list)
  without_in conn [] a = tt
  without_in conn (p ∷ ps) a = by (not (p.0 == conn)) (without_in conn ps a.1)
    where
      by : (b : Bool) → AllByRecursion IsIn (without conn ps) → AllByRecursion IsIn (if b then p ∷ without conn ps else without conn ps)
      by true h = (a.0, h)
      by false h = h

  flags_in : (conn flags : ℕ) (list : List (ℕ × ℕ)) → P conn → AllByRecursion IsIn list → AllByRecursion IsIn (with_flags conn flags list)
  flags_in conn flags [] h a = tt
  flags_in conn flags (p ∷ ps) h a = (by (p.0 == conn), flags_in conn flags ps h a.1)
    where
      by : (b : Bool) → IsIn (if b then (conn, flags) else p)
      by true = h
      by false = a.0

  over_in : (conn flags : ℕ) (list : List (ℕ × ℕ)) → P conn → AllByRecursion IsIn list → AllByRecursion IsIn (taken_over conn flags list)
  over_in conn flags [] h a = (h, tt)
  over_in conn flags (p ∷ ps) h a = (h, by (forbids_queueing p.1))
    where
      by : (b : Bool) → AllByRecursion IsIn (if b then without conn ps else p ∷ without conn ps)
      by true = without_in conn ps a.1
      by false = (a.0, without_in conn ps a.1)

  if_in : (b : Bool) (x y : List (ℕ × ℕ) × ℕ) → AllByRecursion IsIn x.0 → AllByRecursion IsIn y.0 → AllByRecursion IsIn (if b then x else y).0
  if_in true x y a c = a
  if_in false x y a c = c

  requested_in : (list : List (ℕ × ℕ)) (conn flags : ℕ) → P conn → AllByRecursion IsIn list → AllByRecursion IsIn (requested list conn flags).0
  requested_in [] conn flags h a = (h, tt)
  requested_in (p ∷ ps) conn flags h a =
      if_in (p.0 == conn) ((conn, flags) ∷ ps, 4) _ (h, a.1)
      (if_in (allows_replacement p.1 && replaces_existing flags) (taken_over conn flags (p ∷ ps), 1) _ (over_in conn flags (p ∷ ps) h a)
      (if_in (forbids_queueing flags) (without conn (p ∷ ps), 3) _ (without_in conn (p ∷ ps) a)
      (if_in (stands conn ps) (with_flags conn flags (p ∷ ps), 2) ((p ∷ ps) ++ (conn, flags) ∷ [], 2) (flags_in conn flags (p ∷ ps) h a) (all_append IsIn (p ∷ ps) ((conn, flags) ∷ []) a (h, tt)))))

  released_in : (list : List (ℕ × ℕ)) (conn : ℕ) → AllByRecursion IsIn list → AllByRecursion IsIn (released list conn).0
  released_in [] conn a = tt
  released_in (p ∷ ps) conn a = without_in conn (p ∷ ps) a

  pick_in : (b : Bool) (x y : List (ℕ × ℕ)) → AllByRecursion IsIn x → AllByRecursion IsIn y → AllByRecursion IsIn (cond b x y)
  pick_in true x y a c = a
  pick_in false x y a c = c

  pub with_in : (lists : Lists) (name : List ℕ) (list : List (ℕ × ℕ)) → AreIn lists → AllByRecursion IsIn list → AreIn (with_list lists name list)
  with_in lists name list h a q = subst (AllByRecursion IsIn) (sym (list_of-with_list lists name list q)) (pick_in _ list (list_of lists q) a (h q))

  gone_in : (lists : Lists) (conn : ℕ) → AreIn lists → AreIn (lists_without conn lists)
  gone_in lists conn h q = subst (AllByRecursion IsIn) (sym (list_of-lists_without conn lists q)) (without_in conn (list_of lists q) (h q))

  -- what an answer makes of them
  if_lists : (b : Bool) (x y : Answer) → AreIn x.owners.lists → AreIn y.owners.lists → AreIn (if b then x else y).owners.lists
  if_lists true x y a c = a
  if_lists false x y a c = c

  adds_in : (s : BusState) (conn : ℕ) (o : Option (List Condition)) → AreIn s.owners.lists → AreIn (adds_rule s conn o).owners.lists
  adds_in s conn None h = h
  adds_in s conn (Some rule) h = if_lists (rules_of conn s.rules == 512) (only s (fails (codes "LimitsExceeded"))) (record (only s (returns [])) { rules = s.rules ++ (conn, rule) ∷ [] }) h h

  removes_in : (s : BusState) (conn : ℕ) (o : Option (List Condition)) → AreIn s.owners.lists → AreIn (removes_rule s conn o).owners.lists
  removes_in s conn None h = h
  removes_in s conn (Some rule) h =
      if_lists (list_any (is_pair conn rule) s.rules) (record (only s (returns [])) { rules = without_first s.rules conn rule }) (only s (fails (codes "MatchRuleNotFound"))) h h

  pub answers_in : (member : BusMember) (s : BusState) (conn : ℕ) (args : List Data) (rule : Option (List Condition)) → P conn → AreIn s.owners.lists → AreIn (answers member s conn args rule).owners.lists
  answers_in Hello s conn args rule h a = a
  answers_in RequestName s conn args rule h a =
      if_lists (may_be_asked_for (first_text args)) (requests s conn (first_text args) (second_number args)) (only s (fails (codes "InvalidArgs")))
      (with_in s.owners.lists (first_text args) _ a (requested_in (list_of s.owners.lists (first_text args)) conn (second_number args) h (a (first_text args)))) a
  answers_in ReleaseName s conn args rule h a =
      if_lists (may_be_asked_for (first_text args)) (releases s conn (first_text args)) (only s (fails (codes "InvalidArgs")))
      (with_in s.owners.lists (first_text args) _ a (released_in (list_of s.owners.lists (first_text args)) conn (a (first_text args)))) a
  answers_in NameHasOwner s conn args rule h a = a
  answers_in GetNameOwner s conn args rule h a = a
  answers_in ListNames s conn args rule h a = a
  answers_in ListQueuedOwners s conn args rule h a = a
  answers_in AddMatch s conn args rule h a = adds_in s conn rule a
  answers_in RemoveMatch s conn args rule h a = removes_in s conn rule a
  answers_in GetId s conn args rule h a = a
  answers_in Ping s conn args rule h a = a

  -- WHO IS REACHED
  abbrev pub Below : ℕ → Type 0
  Below c = P c

  pub record Reach (s : BusState) : Type 0 where
    pub joined : AllByRecursion Below s.joined
    pub lists : AreIn s.owners.lists

  abbrev pub MoveBelow : Move → Type 0
  MoveBelow (says e) = Unit {0}
  MoveBelow (delivers conn e) = P conn
  MoveBelow (closes conn) = P conn

  filter_below : (p : ℕ → Bool) (cs : List ℕ) → AllByRecursion Below cs → AllByRecursion Below (filter p cs)
  filter_below p [] a = tt
  filter_below p (c ∷ cs) a = by (p c) (filter_below p cs a.1)
    where
      by : (b : Bool) → AllByRecursion Below (filter p cs) → AllByRecursion Below (if b then c ∷ filter p cs else filter p cs)
      by true h = (a.0, h)
      by false h = h

  owner_below : (list : List (ℕ × ℕ)) → AllByRecursion IsIn list → AllByRecursion Below (one_or_none (owner_in list))
  owner_below [] a = tt
  owner_below (p ∷ ps) a = (a.0, tt)

  receivers_below : (s : BusState) (e : Envelope) → Reach s → AllByRecursion Below (receivers s e)
  receivers_below s e r = by e.destination refl
    where
      if_below : (p : ℕ → Bool) (b : Bool) → AllByRecursion Below (if b then filter p s.joined else [])
      if_below p true = filter_below p s.joined r.joined
      if_below p false = tt

      by : (o : Option (List ℕ)) → e.destination ≡ o → AllByRecursion Below (receivers s e)
      by (Some name) h = rw h (owner_below (list_of s.owners.lists name) (r.lists name))
      by None h = rw h (if_below _ (e.kind == 4))

  handed_all : (e : Envelope) (conns : List ℕ) → AllByRecursion Below conns → AllByRecursion MoveBelow (map (λ c. delivers c e) conns)
  handed_all e [] a = tt
  handed_all e (c ∷ cs) a = (a.0, handed_all e cs a.1)

  said_all : (s : BusState) (es : List Envelope) → Reach s → AllByRecursion MoveBelow (flat_map (λ e. says e ∷ handed s e) es)
  said_all s [] r = tt
  said_all s (e ∷ es) r = (tt, all_append MoveBelow (handed s e) (flat_map (λ m. says m ∷ handed s m) es) (handed_all e (receivers s e) (receivers_below s e r)) (said_all s es r))

  pub record Steps_in (step : BusStep) : Type 0 where
    pub state : Reach step.state
    pub moves : AllByRecursion MoveBelow step.moves

  pub speaks_in : (s : BusState) (es : List Envelope) → Reach s → Steps_in (speaks s es)
  speaks_in s es r = record { state = record { joined = r.joined; lists = r.lists }; moves = said_all s (numbered s.next es) r }

  called_in : (s : BusState) (conn : ℕ) (e : Envelope) (rule : Option (List Condition)) → P conn → Reach s → Steps_in (called s conn e rule)
  called_in s conn e rule h r = by (member_of e) refl
    where
      by : (m : Result BusMember (List ℕ)) → member_of e ≡ m → Steps_in (called s conn e rule)
      by (Ok member) g =
          let a : Answer = answers member s conn e.body rule in
          rw g (speaks_in (record s { owners = a.owners; rules = a.rules }) _ (record { joined = r.joined; lists = answers_in member s conn e.body rule h r.lists }))
      by (Err name) g = rw g (speaks_in (record s { owners = s.owners; rules = s.rules }) _ (record { joined = r.joined; lists = r.lists }))

  named_in : (a b c : Bool) (s : BusState) (conn : ℕ) (e : Envelope) (rule : Option (List Condition)) (calls : List OpenCall) → P conn → Reach s
      → Steps_in (if a then (if b then called s conn e rule else speaks s []) else (if c then undeliverable s conn e else record { state = record s { calls = calls }; moves = handed s e }))
  named_in true true c s conn e rule calls h r = called_in s conn e rule h r
  named_in true false c s conn e rule calls h r = speaks_in s [] r
  named_in false b true s conn e rule calls h r = speaks_in s _ r
  named_in false b false s conn e rule calls h r = record { state = record { joined = r.joined; lists = r.lists }; moves = handed_all e (receivers s e) (receivers_below s e r) }

  pub takes_in : (s : BusState) (conn : ℕ) (e : Envelope) (rule : Option (List Condition)) → P conn → Reach s → Steps_in (bus_takes s conn e rule)
  takes_in s conn e rule h r = by (unique_of s.owners conn) refl
    where
      hello_by : (b : Bool) → Steps_in (if b then greets s conn e else record { state = s; moves = closes conn ∷ [] })
      hello_by true =
          speaks_in (record s { owners = after_hello s.owners conn }) _ (record { joined = r.joined; lists = with_in s.owners.lists (unique_name s.owners.given) ((conn, 0) ∷ []) r.lists (h, tt) })
      hello_by false = record { state = r; moves = (h, tt) }

      by : (o : Option (List ℕ)) → unique_of s.owners conn ≡ o → Steps_in (bus_takes s conn e rule)
      by (Some own) g =
          let m : Envelope = record e { sender = Some own } in
          rw g (named_in (is_for_bus m) (e.kind == 1) (is_unowned e.destination (receivers s m)) s conn m rule (calls_after_all s.calls conn m (receivers s m)) h r)
      by None g = rw g (hello_by (is_hello e))

  leaves_in : (s : BusState) (conn : ℕ) → Reach s → Steps_in (bus_leaves s conn)
  leaves_in s conn r =
      let t : BusState = record s {
        joined = filter (λ k. not (k == conn)) s.joined;
        owners = after_gone s.owners conn;
        rules = without_rules conn s.rules;
        calls = calls_without conn s.calls;
      } in
      let x : Steps_in (speaks t (farewell s (after_gone s.owners conn) conn (unique_of s.owners conn))) =
      speaks_in t (farewell s (after_gone s.owners conn) conn (unique_of s.owners conn))
      (record { joined = filter_below (λ k. not (k == conn)) s.joined r.joined; lists = gone_in s.owners.lists conn r.lists }) in
      record { state = record { joined = x.state.joined; lists = x.state.lists }; moves = x.moves }

  -- WHO IS TO BE CLOSED
  abbrev pub DueBelow : ℕ × Why → Type 0
  DueBelow d = P d.0

  abbrev pub ClosedBelow : Closing → Type 0
  ClosedBelow c = P c.conn

  doomed_below : (w : Waiting) (conn : ℕ) (why : Why) → P conn → AllByRecursion DueBelow w.due → AllByRecursion DueBelow (doomed w conn why).due
  doomed_below w conn why h a = by (is_due conn w.due)
    where
      by : (b : Bool) → AllByRecursion DueBelow (if b then w else record w { due = w.due ++ (conn, why) ∷ [] }).due
      by true = a
      by false = all_append DueBelow w.due ((conn, why) ∷ []) a (h, tt)

  queued_below : (quota : ℕ) (w : Waiting) (conn : ℕ) (bytes : List ℕ) → P conn → AllByRecursion DueBelow w.due → AllByRecursion DueBelow (queues.queued quota w conn bytes).due
  queued_below quota w conn bytes h a = by (is_due conn w.due) (nat_lt quota (length (queue_of w.queues conn) + length bytes))
    where
      by : (b c : Bool) → AllByRecursion DueBelow (if b then w else if c then doomed w conn (Quota (length (queue_of w.queues conn)) (told_length bytes)) else record w { queues = finmap.insert w.queues conn (queue_of w.queues conn ++ bytes) }).due
      by true c = a
      by false true = doomed_below w conn (Quota (length (queue_of w.queues conn)) (told_length bytes)) h a
      by false false = a

  moved_below : (quota : ℕ) (w : Waiting) (move : Move) → MoveBelow move → AllByRecursion DueBelow w.due → AllByRecursion DueBelow (queues.moved quota w move).due
  moved_below quota w (says e) f a = a
  moved_below quota w (delivers conn e) f a = queued_below quota w conn (written e) f a
  moved_below quota w (closes conn) f a = doomed_below w conn NotHello f a

  pub all_moved_below : (quota : ℕ) (w : Waiting) (moves : List Move) → AllByRecursion MoveBelow moves → AllByRecursion DueBelow w.due → AllByRecursion DueBelow (fold (queues.moved quota) w moves).due
  all_moved_below quota w [] f a = a
  all_moved_below quota w (move ∷ moves) f a = all_moved_below quota (queues.moved quota w move) moves f.1 (moved_below quota w move f.0 a)

  filter_due : (f : ℕ × Why → Bool) (ds : List (ℕ × Why)) → AllByRecursion DueBelow ds → AllByRecursion DueBelow (filter f ds)
  filter_due f [] a = tt
  filter_due f (d ∷ ds) a = by (f d) (filter_due f ds a.1)
    where
      by : (b : Bool) → AllByRecursion DueBelow (filter f ds) → AllByRecursion DueBelow (if b then d ∷ filter f ds else filter f ds)
      by true h = (a.0, h)
      by false h = h

  pub record Within (c : Carried) : Type 0 where
    pub state : Reach c.bus.state
    pub due : AllByRecursion DueBelow c.bus.waiting.due
    pub told : AllByRecursion ClosedBelow c.bus.closings

  left_within : (c : Carried) (conn : ℕ) → Within c → Within (left c conn)
  left_within c conn r =
      let x : Steps_in (bus_leaves c.bus.state conn) = leaves_in c.bus.state conn r.state in
      record {
        state = x.state;
        due = all_moved_below c.bus.quota (without_queue c.bus.waiting conn) (bus_leaves c.bus.state conn).moves x.moves (filter_due (λ (d : ℕ × Why). not (d.0 == conn)) c.bus.waiting.due r.due);
        told = r.told;
      }

  one_within : (c : Carried) (due : List (ℕ × Why)) → AllByRecursion DueBelow due → Within c → Within (one_closed c due)
  one_within c [] f r = r
  one_within c (first ∷ rest) f r =
      let x : Within (left c first.0) = left_within c first.0 r in
      let closing : Closing = record { conn = first.0; why = first.1; after = c.bus.state.next - 1 } in
      record { state = x.state; due = x.due; told = all_append ClosedBelow c.bus.closings (closing ∷ []) r.told (f.0, tt) }

  settled_within : (rounds : ℕ) (c : Carried) → Within c → Within (settled rounds c)
  settled_within zero c r = r
  settled_within (suc rounds) c r = settled_within rounds (one_closed c c.bus.waiting.due) (one_within c c.bus.waiting.due r.due r)

  pub takes_within : (c : Carried) (conn : ℕ) (who : Party) (m : Said) → P conn → Within c → Within (takes c conn who m)
  takes_within c conn who m h r =
      let step : BusStep = bus_takes c.bus.state conn m.message (rule_in m.message) in
      let x : Steps_in step = takes_in c.bus.state conn m.message (rule_in m.message) h r.state in
      let b : Carried = stepped (letter_of who m) (record c { ends = with_end conn taken_up c.ends }) step in
      settled_within (length c.bus.state.joined) (with_name conn b) (record { state = x.state; due = all_moved_below c.bus.quota c.bus.waiting step.moves x.moves r.due; told = r.told })

  pub ends_within : (c : Carried) (conn : ℕ) → Within c → Within (takes_end c conn)
  ends_within c conn r = settled_within (length c.bus.state.joined) (left c conn) (left_within c conn r)
