-- What the bus hands on when it takes a message: that message with its sender's name, or a message of its own.
use Rattle.std.proofs.Common.{◌≡◌, ℕ, ◌+◌, Bool, true, false, List, [], ◌∷◌, ◌++◌, map, Option, None, Some, refl, sym, ap, subst}
use Rattle.std.specs.Prelude.{◌==◌, flat_map, bytes_eq, length, if◌then◌else◌, Result, Ok, Err, codes}
use Rattle.std.specs.List.{AllByRecursion, fold, list_any}
use Rattle.std.proofs.lemmas.Slice.Eq.{bytes_eq-Decides}
use Rattle.atspi_types.specs.Data.{Data, text_data}
use Rattle.atspi_script_lines.specs.declared.line.Party.{Party}
use Rattle.atspi_message.specs.Envelope.{Envelope}
use Rattle.atspi_names.specs.Owners.{Owners, own_name, list_of, after_hello}
use Rattle.atspi_names.specs.Queue.{request_change, release_change}
use Rattle.atspi_match.specs.declared.condition.Condition.{Condition}
use Rattle.atspi_match.specs.RuleIndex.{is_pair, rules_of, without_first}
use Rattle.atspi_match.specs.declared.routing.member.BusMember.{BusMember}
use Rattle.atspi_match.specs.declared.routing.member.BusMember.TheVariants.{Hello, RequestName, ReleaseName, NameHasOwner, GetNameOwner, ListNames, ListQueuedOwners, AddMatch, RemoveMatch, GetId, Ping}
use Rattle.atspi_match.specs.routing.BusState.{BusState, unique_of, text_or_empty, name_or_empty}
use Rattle.atspi_match.specs.routing.Members.{is_text, member_of}
use Rattle.atspi_match.specs.routing.OwnMessages.{return_to, error_to, name_lost, name_acquired, owner_changed, same_owner, told_of_change, numbered}
use Rattle.atspi_match.specs.routing.Answers.{Reply, returns, fails, Answer, only, answers, may_be_asked_for, first_text, second_number, requests, releases, adds_rule, removes_rule}
use Rattle.atspi_match.specs.routing.Routing.{receivers, is_for_bus, expects_reply}
use Rattle.atspi_match.specs.routing.Steps.{Move, says, delivers, closes, BusStep, handed, said, speaks, replies, answered, called, undeliverable, is_unowned, passes_on, is_hello, greets, bus_takes}
use Rattle.atspi_match.specs.routing.Queues as queues
use Rattle.atspi_match.specs.routing.Queues.{Waiting, Bus}
use Rattle.atspi_trace.specs.Rules.{rule_in}
use Rattle.atspi_trace.specs.World.{Said, Letter, End}
use Rattle.atspi_trace.specs.Ends.{with_end, put_down, taken_up, leaves}
use Rattle.atspi_trace.specs.Carrying.{Carried, Filled, own_letter, letter_of, grew, with_letter, moved, stepped, named, with_name, takes}
use Rattle.atspi_trace_laws.proofs.OfOrder.Parties.{all_append}
use Rattle.atspi_trace_laws.proofs.OfOrder.Frame.{Over, IsOrder, over_same, over_both, over_with, settled_over}

-- THE BUS'S OWN MESSAGES BEAR ITS NAME
abbrev pub IsOwn : Envelope → Type 0
IsOwn e = is_text e.sender own_name ≡ true

own_itself : bytes_eq own_name own_name ≡ true
own_itself = (bytes_eq-Decides own_name own_name).1 refl

lost_own : (owners : Owners) (name : List ℕ) (o : Option ℕ) → AllByRecursion IsOwn (name_lost owners name o)
lost_own owners name None = tt
lost_own owners name (Some conn) = (own_itself, tt)

acquired_own : (owners : Owners) (name : List ℕ) (o : Option ℕ) → AllByRecursion IsOwn (name_acquired owners name o)
acquired_own owners name None = tt
acquired_own owners name (Some conn) = (own_itself, tt)

changed_own : (name before after : List ℕ) → IsOwn (owner_changed name before after)
changed_own name before after = own_itself

if_own : (b : Bool) (e : Envelope) → IsOwn e → AllByRecursion IsOwn (if b then e ∷ [] else [])
if_own true e h = (h, tt)
if_own false e h = tt

pub replies_own : (s : BusState) (conn : ℕ) (e : Envelope) (reply : Reply) → AllByRecursion IsOwn (replies s conn e reply)
replies_own s conn e (returns values) = if_own (expects_reply e) (return_to (unique_of s.owners conn) e.serial values) own_itself
replies_own s conn e (fails name) = if_own (expects_reply e) (error_to (unique_of s.owners conn) e.serial name) own_itself

change_own : (owners : Owners) (name : List ℕ) (before after : Option ℕ) → AllByRecursion IsOwn (told_of_change owners name before after)
change_own owners name before after = by (same_owner before after)
  where
    news : List Envelope
    news = name_acquired owners name after ++ owner_changed name (name_or_empty owners before) (name_or_empty owners after) ∷ []

    by : (b : Bool) → AllByRecursion IsOwn (if b then [] else name_lost owners name before ++ news)
    by true = tt
    by false =
        all_append IsOwn (name_lost owners name before) news (lost_own owners name before)
        (all_append IsOwn (name_acquired owners name after) (owner_changed name (name_or_empty owners before) (name_or_empty owners after) ∷ []) (acquired_own owners name after) (own_itself, tt))

pub own_numbered : (n : ℕ) (es : List Envelope) → AllByRecursion IsOwn es → AllByRecursion IsOwn (numbered n es)
own_numbered n [] a = tt
own_numbered n (e ∷ es) a = (a.0, own_numbered (n + 1) es a.1)

-- what an answer tells
if_told : (b : Bool) (x y : Answer) → AllByRecursion IsOwn x.told → AllByRecursion IsOwn y.told → AllByRecursion IsOwn (if b then x else y).told
if_told true x y a c = a
if_told false x y a c = c

adds_told : (s : BusState) (conn : ℕ) (o : Option (List Condition)) → AllByRecursion IsOwn (adds_rule s conn o).told
adds_told s conn None = tt
adds_told s conn (Some rule) = if_told (rules_of conn s.rules == 512) (only s (fails (codes "LimitsExceeded"))) (record (only s (returns [])) { rules = s.rules ++ (conn, rule) ∷ [] }) tt tt

removes_told : (s : BusState) (conn : ℕ) (o : Option (List Condition)) → AllByRecursion IsOwn (removes_rule s conn o).told
removes_told s conn None = tt
removes_told s conn (Some rule) =
    if_told (list_any (is_pair conn rule) s.rules) (record (only s (returns [])) { rules = without_first s.rules conn rule }) (only s (fails (codes "MatchRuleNotFound"))) tt tt

told_own : (member : BusMember) (s : BusState) (conn : ℕ) (args : List Data) (rule : Option (List Condition)) → AllByRecursion IsOwn (answers member s conn args rule).told
told_own Hello s conn args rule = tt
told_own RequestName s conn args rule =
    let change = request_change (list_of s.owners.lists (first_text args)) conn (second_number args) in
    if_told (may_be_asked_for (first_text args)) (requests s conn (first_text args) (second_number args)) (only s (fails (codes "InvalidArgs"))) (change_own s.owners (first_text args) change.before change.after) tt
told_own ReleaseName s conn args rule =
    let change = release_change (list_of s.owners.lists (first_text args)) conn in
    if_told (may_be_asked_for (first_text args)) (releases s conn (first_text args)) (only s (fails (codes "InvalidArgs"))) (change_own s.owners (first_text args) change.before change.after) tt
told_own NameHasOwner s conn args rule = tt
told_own GetNameOwner s conn args rule = tt
told_own ListNames s conn args rule = tt
told_own ListQueuedOwners s conn args rule = tt
told_own AddMatch s conn args rule = adds_told s conn rule
told_own RemoveMatch s conn args rule = removes_told s conn rule
told_own GetId s conn args rule = tt
told_own Ping s conn args rule = tt

-- WHAT IS HANDED ON
-- what the bus does with a message, as of each thing that it hands on: a message of its own, or the message with a sender's name
abbrev pub HandsOn : (Envelope → Type 0) → Move → Type 0
HandsOn P (delivers conn e) = P e
HandsOn P (says e) = Unit {0}
HandsOn P (closes conn) = Unit {0}

module _ (P : Envelope → Type 0) where
  each_handed : (e : Envelope) (conns : List ℕ) → P e → AllByRecursion (HandsOn P) (map (λ c. delivers c e) conns)
  each_handed e [] p = tt
  each_handed e (c ∷ cs) p = (p, each_handed e cs p)

  own_said : (s : BusState) (es : List Envelope) → ((e : Envelope) → IsOwn e → P e) → AllByRecursion IsOwn es → AllByRecursion (HandsOn P) (flat_map (λ e. says e ∷ handed s e) es)
  own_said s [] f a = tt
  own_said s (e ∷ es) f a = (tt, all_append (HandsOn P) (handed s e) (flat_map (λ m. says m ∷ handed s m) es) (each_handed e (receivers s e) (f e a.0)) (own_said s es f a.1))

  pub speaks_on : (s : BusState) (es : List Envelope) → ((e : Envelope) → IsOwn e → P e) → AllByRecursion IsOwn es → AllByRecursion (HandsOn P) (speaks s es).moves
  speaks_on s es f a = own_said s (numbered s.next es) f (own_numbered s.next es a)

  answered_on : (s : BusState) (conn : ℕ) (e : Envelope) (a : Answer) → ((m : Envelope) → IsOwn m → P m) → AllByRecursion IsOwn a.told → AllByRecursion (HandsOn P) (answered s conn e a).moves
  answered_on s conn e a f t =
      let after : BusState = record s { owners = a.owners; rules = a.rules } in
      speaks_on after (a.told ++ replies after conn e a.reply) f (all_append IsOwn a.told (replies after conn e a.reply) t (replies_own after conn e a.reply))

  pub called_on : (s : BusState) (conn : ℕ) (e : Envelope) (rule : Option (List Condition)) → ((m : Envelope) → IsOwn m → P m) → AllByRecursion (HandsOn P) (called s conn e rule).moves
  called_on s conn e rule f = by (member_of e) refl
    where
      by : (r : Result BusMember (List ℕ)) → member_of e ≡ r → AllByRecursion (HandsOn P) (called s conn e rule).moves
      by (Ok member) h = rw h (answered_on s conn e (answers member s conn e.body rule) f (told_own member s conn e.body rule))
      by (Err name) h = rw h (answered_on s conn e (only s (fails name)) f tt)

  passes_by : (b : Bool) (s : BusState) (conn : ℕ) (e : Envelope) (t : BusStep) → t.moves ≡ handed s e → ((m : Envelope) → IsOwn m → P m) → P e
      → AllByRecursion (HandsOn P) (if b then undeliverable s conn e else t).moves
  passes_by true s conn e t h f p = speaks_on s (replies s conn e (fails (codes "ServiceUnknown"))) f (replies_own s conn e (fails (codes "ServiceUnknown")))
  passes_by false s conn e t h f p = subst (AllByRecursion (HandsOn P)) (sym h) (each_handed e (receivers s e) p)

  named_by : (a b : Bool) (s : BusState) (conn : ℕ) (e : Envelope) (rule : Option (List Condition)) → ((m : Envelope) → IsOwn m → P m) → P e
      → AllByRecursion (HandsOn P) (if a then (if b then called s conn e rule else speaks s []) else passes_on s conn e).moves
  named_by true true s conn e rule f p = called_on s conn e rule f
  named_by true false s conn e rule f p = tt
  named_by false b s conn e rule f p = passes_by (is_unowned e.destination (receivers s e)) s conn e _ refl f p

  -- the answer to Hello
  pub greets_on : (s : BusState) (conn : ℕ) (e : Envelope) → ((m : Envelope) → IsOwn m → P m) → AllByRecursion (HandsOn P) (greets s conn e).moves
  greets_on s conn e f =
      let after : BusState = record s { owners = after_hello s.owners conn } in
      let name : List ℕ = text_or_empty (unique_of after.owners conn) in
      let news : List Envelope = name_acquired after.owners name (Some conn) ++ owner_changed name [] name ∷ [] in
      speaks_on after (replies after conn e (returns (text_data name ∷ [])) ++ news) f
      (all_append IsOwn (replies after conn e (returns (text_data name ∷ []))) news (replies_own after conn e (returns (text_data name ∷ [])))
      (all_append IsOwn (name_acquired after.owners name (Some conn)) (owner_changed name [] name ∷ []) (acquired_own after.owners name (Some conn)) (own_itself, tt)))

  -- the bus takes a message: it hands on that message with a sender's name, or messages of its own
  pub takes_on : (s : BusState) (conn : ℕ) (e : Envelope) (rule : Option (List Condition)) → ((m : Envelope) → IsOwn m → P m) → ((name : List ℕ) → P (record e { sender = Some name }))
      → AllByRecursion (HandsOn P) (bus_takes s conn e rule).moves
  takes_on s conn e rule f p = by (unique_of s.owners conn) refl
    where
      hello_by : (b : Bool) → AllByRecursion (HandsOn P) (if b then greets s conn e else record { state = s; moves = closes conn ∷ [] }).moves
      hello_by true = greets_on s conn e f
      hello_by false = (tt, tt)

      by : (o : Option (List ℕ)) → unique_of s.owners conn ≡ o → AllByRecursion (HandsOn P) (bus_takes s conn e rule).moves
      by (Some own) h = rw h (named_by (is_for_bus (record e { sender = Some own })) (e.kind == 1) s conn (record e { sender = Some own }) rule f (p own))
      by None h = rw h (hello_by (is_hello e))

-- ENDS, WHERE THE BUS TAKES A MESSAGE: by what it hands on
module _ (R : End → End → Type 0) (o : IsOrder R) (letter : Envelope → Letter) where
  abbrev Puts : Envelope → Type 0
  Puts m = (e : End) → R e (put_down (letter m) e)

  one_put : (before after : Waiting) (move : Move) (ends : List End) → HandsOn Puts move → Over R ends (with_letter letter before after move ends)
  one_put before after (delivers conn m) ends h = by (grew conn before after)
    where
      by : (t : Bool) → Over R ends (if t then with_end conn (put_down (letter m)) ends else ends)
      by true = over_with R o (put_down (letter m)) h conn ends
      by false = over_same R o ends
  one_put before after (says m) ends h = over_same R o ends
  one_put before after (closes conn) ends h = over_same R o ends

  all_put : (quota : ℕ) (f : Filled) (moves : List Move) → AllByRecursion (HandsOn Puts) moves → Over R f.ends (fold (moved letter quota) f moves).ends
  all_put quota f [] h = over_same R o f.ends
  all_put quota f (move ∷ moves) h =
      over_both R o f.ends (moved letter quota f move).ends _ (one_put f.waiting (queues.moved quota f.waiting move) move f.ends h.0) (all_put quota (moved letter quota f move) moves h.1)

  pub stepped_put : (c : Carried) (step : BusStep) → AllByRecursion (HandsOn Puts) step.moves → Over R c.ends (stepped letter c step).ends
  stepped_put c step h = all_put c.bus.quota (record { waiting = c.bus.waiting; ends = c.ends }) step.moves h

-- a message of the bus's own comes of the bus, another of its sender
if_own_letter : (who : Party) (said : Said) (m : Envelope) → IsOwn m → letter_of who said m ≡ own_letter m
if_own_letter who said m h = ap (λ b. if b then own_letter m else record { from = who; said = record said { message = m } }) h

module _ (R : End → End → Type 0) (o : IsOrder R) (own : (m : Envelope) (e : End) → R e (put_down (own_letter m) e)) (leaving : (e : End) → R e (leaves e))
    (naming : (b : Bus) (conn : ℕ) (e : End) → R e (named b conn e)) where
  other_letter : (who : Party) (said : Said) (m : Envelope) → ((e : End) → R e (put_down (record { from = who; said = record said { message = m } }) e)) → (e : End) → R e (put_down (letter_of who said m) e)
  other_letter who said m h e = by (is_text m.sender own_name)
    where
      by : (b : Bool) → R e (put_down (if b then own_letter m else record { from = who; said = record said { message = m } }) e)
      by true = own m e
      by false = h e

  -- behind the message that goes from its up link
  pub takes_put : (c : Carried) (conn : ℕ) (who : Party) (said : Said)
      → ((name : List ℕ) (e : End) → R e (put_down (record { from = who; said = record said { message = record said.message { sender = Some name } } }) e))
      → Over R (with_end conn taken_up c.ends) (takes c conn who said).ends
  takes_put c conn who said h =
      let a : Carried = record c { ends = with_end conn taken_up c.ends } in
      let step : BusStep = bus_takes c.bus.state conn said.message (rule_in said.message) in
      let b : Carried = stepped (letter_of who said) a step in
      over_both R o a.ends b.ends (takes c conn who said).ends
      (stepped_put R o (letter_of who said) a step
      (takes_on (λ m. (e : End) → R e (put_down (letter_of who said m) e)) c.bus.state conn said.message (rule_in said.message)
      (λ m is e. subst (λ l. R e (put_down l e)) (sym (if_own_letter who said m is)) (own m e))
      (λ name e. other_letter who said (record said.message { sender = Some name }) (h name) e)))
      (over_both R o b.ends (with_name conn b).ends (takes c conn who said).ends (over_with R o (named b.bus conn) (naming b.bus conn) conn b.ends)
      (settled_over R o own leaving (length c.bus.state.joined) (with_name conn b)))
