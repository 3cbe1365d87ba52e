-- The beginning of a world: the bus takes the three calls of the registry's start, and the registry takes what waits for it.
use Rattle.std.proofs.Common.{◌≡◌, ℕ, zero, suc, ◌+◌, ◌≤◌, Bool, true, false, List, [], ◌∷◌, ◌++◌, length, map, drop, Option, None, Some, refl, sym, ap, ◌∙◌, subst, append_assoc, append-nil, length-append, arith}
use Rattle.std.specs.Prelude.{cond, is_some, codes, Result, Ok, nat_lt, if◌then◌else◌}
use Rattle.std.specs.Fmt.{digits}
use Rattle.std.specs.List.{fold, AllByRecursion}
use Rattle.std.specs.FinMap as finmap
use Rattle.std.specs.FinMap.{FinMap}
use Rattle.std.specs.Ordering.{nat_cmp}
use Rattle.std.proofs.lemmas.Bool.{ltb-true, leb-true, lt-ltb}
use Rattle.std.proofs.lemmas.List.{map-append}
use Rattle.std.proofs.lemmas.Option.{same_Some}
use Rattle.atspi_types.specs.Data.{text_data, number_data}
use Rattle.atspi_types.specs.Kinds.{u32}
use Rattle.atspi_base.specs.valid_names.Names.{is_bus_name}
use Rattle.atspi_base.specs.valid_names.Elements.{are_two_or_more, are_elements, parts_of}
use Rattle.atspi_match.specs.declared.condition.Condition.{Condition}
use Rattle.atspi_message.specs.Envelope.{Envelope}
use Rattle.atspi_message.specs.Bytes.{IsMessage, written, spelled_with, header_bytes, body_bytes, body_place, rising_fields}
use Rattle.atspi_tree_model.specs.Forest.{first_of}
use Rattle.atspi_bus_queues.specs.Change.{with_queue}
use Rattle.atspi_bus_queues.proofs.Chains.{at_key, at_other, by_keys}
use Rattle.atspi_script_lines.specs.declared.line.Party.TheVariants.{Bus as The_bus, Registry}
use Rattle.atspi_protocol.specs.ends.Places.{registry}
use Rattle.atspi_protocol.specs.registering.Told.{hello_call, request_call, match_call}
use Rattle.atspi_match.specs.declared.routing.closing.Why.TheVariants.{Quota}
use Rattle.atspi_match.specs.declared.routing.member.BusMember.{BusMember}
use Rattle.atspi_match.specs.declared.routing.member.BusMember.TheVariants.{Hello, RequestName, AddMatch}
use Rattle.atspi_match.specs.routing.BusState.{BusState, begins, unique_of}
use Rattle.atspi_match.specs.routing.Members.{member_of}
use Rattle.atspi_match.specs.routing.OwnMessages.{signal, return_to, owner_changed}
use Rattle.atspi_match.specs.routing.Steps.{Move, says, delivers, closes, BusStep, bus_takes, bus_joins}
use Rattle.atspi_match.specs.routing.Queues as queues
use Rattle.atspi_match.specs.routing.Queues.{Waiting, Bus, or_nothing, queue_of, queued, doomed, empty_bus, told_length}
use Rattle.atspi_bus_answers.specs.Answered.{IsSpokenOf}
use Rattle.atspi_bus_steps.specs.Spoken.{IsRuleNamed}
use Rattle.atspi_world_links.specs.declared.post.Post.{Post}
use Rattle.atspi_world_links.specs.declared.post.Standing.TheVariants.{Here}
use Rattle.atspi_trace_events.specs.declared.event.Event.{Event}
use Rattle.atspi_trace.specs.Entry.{Entry, entries_of, got}
use Rattle.atspi_trace.specs.Rules.{owner_rule, rule_in}
use Rattle.atspi_trace.specs.World.{here, Role, Said, Letter, End, World, first_unique, first_owners, first_registry, first_world, newcomer}
use Rattle.atspi_trace.specs.Ends.{end_at, with_end, plain, put_up, put_down, rest_of, taken_up}
use Rattle.atspi_trace.specs.Carrying.{Carried, Filled, letter_of, grew, with_letter, moved, stepped, one_closed, settled, named, with_name, all_told}
use Rattle.atspi_trace.specs.Causes.{Done, does, routed, routes, bus_did}
use Rattle.atspi_trace.proofs.Maps.{maps, numbers_get, numbers_insert, numbers_first}
use Rattle.atspi_trace.proofs.RulesRead.{rules_read}
use Rattle.atspi_world_moves.specs.Beginning.{HasUp, with_one_taken, IsGreeting, IsGreeted}
use Rattle.atspi_world_moves.specs.inner.Beginning.{IsHeard}
use Rattle.atspi_world_moves.specs.Carried.{standing_at, bytes_up, post_of, IsCarried, IsDone}
use Rattle.atspi_world_moves.specs.Downs.{bytes_down, IsBegun, IsWaiting, Wait}
use Rattle.atspi_world_moves.specs.inner.Downs.{messages_of}
use Rattle.atspi_world_moves.specs.Filled.{waits_for, gave}
use Rattle.atspi_world_moves.proofs.Downs.{letter_message}
use Rattle.atspi_world_moves.proofs.Filling.{both_gone}
use Rattle.atspi_world_moves.proofs.Views.{written_some}

-- THE QUEUE OF THE FIRST CONNECTION: moves that hand to it alone put their bytes behind one another, as long as they are within the quota
abbrev OnlyFirst : List Move → Type 0
OnlyFirst [] = Unit {0}
OnlyFirst (says e ∷ ms) = OnlyFirst ms
OnlyFirst (delivers conn e ∷ ms) = (conn ≡ 0) × OnlyFirst ms
OnlyFirst (closes conn ∷ ms) = ⊥

abbrev handed : List Move → List ℕ
handed [] = []
handed (says e ∷ ms) = handed ms
handed (delivers conn e ∷ ms) = written e ++ handed ms
handed (closes conn ∷ ms) = handed ms

-- the messages of these moves that are handed to somebody
abbrev delivered : List Move → List Envelope
delivered [] = []
delivered (says e ∷ ms) = delivered ms
delivered (delivers conn e ∷ ms) = e ∷ delivered ms
delivered (closes conn ∷ ms) = delivered ms

abbrev one_queue : List ℕ → Waiting
one_queue bytes = record { queues = finmap.from_sorted ((0, bytes) ∷ []); due = [] }

within_quota : (quota n : ℕ) → n ≤ quota → nat_lt quota n ≡ false
within_quota quota n h = by (nat_lt quota n) refl
  where
    by : (b : Bool) → nat_lt quota n ≡ b → b ≡ false
    by true e = (let more = ltb-true quota n e in absurd (omega (arith, h, more)))
    by false e = refl

one_more : (quota : ℕ) (bytes more : List ℕ) → length bytes + length more ≤ quota → queued quota (one_queue bytes) 0 more ≡ one_queue (bytes ++ more)
one_more quota bytes more fits =
    let m : FinMap nat_cmp (List ℕ) = finmap.from_sorted ((0, bytes) ∷ []) in
    let there : queue_of m 0 ≡ bytes = ap or_nothing (numbers_get ((0, bytes) ∷ []) 0 refl) in
    ap (λ q. if nat_lt quota (length q + length more) then doomed (one_queue bytes) 0 (Quota (length q) (told_length more)) else record (one_queue bytes) { queues = finmap.insert m 0 (q ++ more) }) there
    ∙ ap (λ b. if b then doomed (one_queue bytes) 0 (Quota (length bytes) (told_length more)) else record (one_queue bytes) { queues = finmap.insert m 0 (bytes ++ more) }) (within_quota quota (length bytes + length more) fits)
    ∙ ap (λ q. record (one_queue bytes) { queues = q }) (numbers_insert ((0, bytes) ∷ []) 0 (bytes ++ more) refl)

all_queued : (quota : ℕ) (bytes : List ℕ) (ms : List Move) → OnlyFirst ms → length bytes + length (handed ms) ≤ quota → fold (queues.moved quota) (one_queue bytes) ms ≡ one_queue (bytes ++ handed ms)
all_queued quota bytes [] o fits = ap one_queue (sym (append-nil bytes))
all_queued quota bytes (says e ∷ ms) o fits = all_queued quota bytes ms o fits
all_queued quota bytes (delivers conn e ∷ ms) o fits =
    let more = length-append (written e) (handed ms) in
    let all = length-append bytes (written e) in
    ap (λ w. fold (queues.moved quota) w ms) (ap (λ c. queued quota (one_queue bytes) c (written e)) o.0 ∙ one_more quota bytes (written e) (omega (arith, fits, more)))
    ∙ all_queued quota (bytes ++ written e) ms o.1 (omega (arith, fits, more, all)) ∙ ap one_queue (append_assoc bytes (written e) (handed ms))
all_queued quota bytes (closes conn ∷ ms) o fits = absurd o

-- where nobody is to be closed nobody is
nobody_closed : (n : ℕ) (c : Carried) → c.bus.waiting.due ≡ [] → settled n c ≡ c
nobody_closed zero c h = refl
nobody_closed (suc n) c h = ap (λ d. settled n (one_closed c d)) h ∙ nobody_closed n c h

-- nothing waits for one end alone, and nobody waits where nobody is
pub one_waits : (q : FinMap nat_cmp (List ℕ)) (x : End) → x.down ≡ [] → x.down_moved ≡ 0 → queue_of q 0 ≡ [] → Wait q (x ∷ [])
one_waits q x link mark none = λ conn e at. by conn e at
  where
    by : (conn : ℕ) (e : End) → end_at (x ∷ []) conn ≡ Some e → IsWaiting q conn e
    by zero e at = subst (IsWaiting q 0) (same_Some x e at) (record {
      begun = subst (IsBegun x.down_moved) (sym link) mark;
      bytes = none ∙ ap (λ l. drop 0 (bytes_down l)) (sym link) ∙ ap (λ k. drop k (bytes_down x.down)) (sym mark);
    })
    by (suc zero) e at = absurd cc
    by (suc (suc conn)) e at = absurd cc

pub nobody_waits : (q : FinMap nat_cmp (List ℕ)) → Wait q []
nobody_waits q = λ conn e at. by conn e at
  where
    by : (conn : ℕ) (e : End) → end_at [] conn ≡ Some e → IsWaiting q conn e
    by zero e at = absurd cc
    by (suc conn) e at = absurd cc

-- ONE END, with these messages on its links
record OneEnd (ends : List End) (unique : Option (List ℕ)) (up : List Said) (down : List Envelope) : Type 0 where
  pub the_end : End
  pub ends_are : ends ≡ the_end ∷ []
  pub who : the_end.who ≡ Registry
  pub stands : the_end.standing ≡ here
  pub unique_is : the_end.unique ≡ unique
  pub up_is : the_end.up ≡ up
  pub begun : the_end.up_moved ≡ 0
  pub down_is : messages_of the_end.down ≡ down

module _ (letter : Envelope → Letter) (says_it : (m : Envelope) → (letter m).said.message ≡ m) (unique : Option (List ℕ)) (up : List Said) where
  one_put : (m : Envelope) (ends : List End) (down : List Envelope) → OneEnd ends unique up down → OneEnd (with_end 0 (put_down (letter m)) ends) unique up (down ++ m ∷ [])
  one_put m ends down o = record {
    the_end = put_down (letter m) o.the_end;
    ends_are = ap (with_end 0 (put_down (letter m))) o.ends_are;
    who = o.who;
    stands = o.stands;
    unique_is = o.unique_is;
    up_is = o.up_is;
    begun = o.begun;
    down_is = map-append (λ (l : Letter). l.said.message) o.the_end.down (letter m ∷ []) ∙ ap (λ l. l ++ messages_of (letter m ∷ [])) o.down_is ∙ ap (λ e. down ++ e ∷ []) (says_it m);
  }

  grows : (bytes : List ℕ) (m : Envelope) → grew 0 (one_queue bytes) (one_queue (bytes ++ written m)) ≡ true
  grows bytes m =
      let before : queue_of (one_queue bytes).queues 0 ≡ bytes = ap or_nothing (numbers_get ((0, bytes) ∷ []) 0 refl) in
      let after : queue_of (one_queue (bytes ++ written m)).queues 0 ≡ bytes ++ written m = ap or_nothing (numbers_get ((0, bytes ++ written m) ∷ []) 0 refl) in
      let longer = length-append bytes (written m) in
      let some = written_some m in
      ap (λ l. nat_lt (length l) (length (queue_of (one_queue (bytes ++ written m)).queues 0))) before ∙ ap (λ l. nat_lt (length bytes) (length l)) after
      ∙ lt-ltb (length bytes) (length (bytes ++ written m)) (omega (arith, longer, some))

  one_folded : (quota : ℕ) (bytes : List ℕ) (ms : List Move) (ends : List End) (down : List Envelope) → OnlyFirst ms → length bytes + length (handed ms) ≤ quota → OneEnd ends unique up down
      → OneEnd (fold (moved letter quota) (record { waiting = one_queue bytes; ends = ends }) ms).ends unique up (down ++ delivered ms)
  one_folded quota bytes [] ends down only fits o = subst (OneEnd ends unique up) (sym (append-nil down)) o
  one_folded quota bytes (says e ∷ ms) ends down only fits o = one_folded quota bytes ms ends down only fits o
  one_folded quota bytes (closes conn ∷ ms) ends down only fits o = absurd only
  one_folded quota bytes (delivers conn e ∷ ms) ends down only fits o =
      let more = length-append (written e) (handed ms) in
      let all = length-append bytes (written e) in
      let f : Filled = record { waiting = one_queue bytes; ends = ends } in
      let after : queues.moved quota (one_queue bytes) (delivers 0 e) ≡ one_queue (bytes ++ written e) = one_more quota bytes (written e) (omega (arith, fits, more)) in
      let it : moved letter quota f (delivers conn e) ≡ record { waiting = one_queue (bytes ++ written e); ends = with_end 0 (put_down (letter e)) ends } =
      ap (λ c. moved letter quota f (delivers c e)) only.0
      ∙ ap (λ w. record { waiting = w; ends = with_letter letter (one_queue bytes) w (delivers 0 e) ends }) after
      ∙ ap (λ t. record { waiting = one_queue (bytes ++ written e); ends = if t then with_end 0 (put_down (letter e)) ends else ends }) (grows bytes e) in
      subst (λ (g : Filled). OneEnd (fold (moved letter quota) g ms).ends unique up (down ++ e ∷ delivered ms)) (sym it)
      (subst (OneEnd (fold (moved letter quota) (record { waiting = one_queue (bytes ++ written e); ends = with_end 0 (put_down (letter e)) ends }) ms).ends unique up) (append_assoc down (e ∷ []) (delivered ms))
      (one_folded quota (bytes ++ written e) ms (with_end 0 (put_down (letter e)) ends) (down ++ e ∷ []) only.1 (omega (arith, fits, more, all)) (one_put e ends down o)))

-- WHAT IS REACHED AFTER EACH CALL: the bus is in a state, so many bytes wait for the registry, and these messages are on its links
record IsStarting (quota : ℕ) (w : World) (s : BusState) (bytes : List ℕ) (unique : Option (List ℕ)) (up : List Said) (down : List Envelope) : Type 0 where
  pub bus : w.bus ≡ record { quota = quota; state = s; waiting = one_queue bytes; own = []; closings = [] }
  pub one : OneEnd w.ends unique up down

module _ (quota : ℕ) (s t : BusState) (bytes : List ℕ) (e : End) (said : Said) (rest : List Said) (ms : List Move) (swaps : ℕ) (unique : Option (List ℕ)) (down : List Envelope) where
  abbrev begun_bus : Bus
  begun_bus = record { quota = quota; state = s; waiting = one_queue bytes; own = []; closings = [] }

  abbrev the_world : World
  the_world = record { bus = begun_bus; ends = e ∷ []; swaps = swaps }

  abbrev step : BusStep
  step = bus_takes s 0 said.message (rule_in said.message)

  abbrev passed : Carried
  passed = stepped (letter_of e.who said) (record { bus = begun_bus; ends = taken_up e ∷ [] }) step

  abbrev called : Carried
  called = with_name 0 passed

  waits_then : step ≡ record { state = t; moves = ms } → OnlyFirst ms → length bytes + length (handed ms) ≤ quota → passed.bus.waiting ≡ one_queue (bytes ++ handed ms)
  waits_then is only fits = ap (λ (x : BusStep). fold (queues.moved quota) (one_queue bytes) x.moves) is ∙ all_queued quota bytes ms only fits

  called_one : OneEnd (taken_up e ∷ []) unique rest down → step ≡ record { state = t; moves = ms } → OnlyFirst ms → length bytes + length (handed ms) ≤ quota
      → OneEnd called.ends (first_of unique (unique_of t.owners 0)) rest (down ++ delivered ms)
  called_one first is only fits =
      let f : Filled = record { waiting = one_queue bytes; ends = taken_up e ∷ [] } in
      let o : OneEnd passed.ends unique rest (down ++ delivered ms) =
      subst (λ (x : BusStep). OneEnd (fold (moved (letter_of e.who said) quota) f x.moves).ends unique rest (down ++ delivered ms)) (sym is)
      (one_folded (letter_of e.who said) (letter_message e.who said) unique rest quota bytes ms (taken_up e ∷ []) down only fits first) in
      record {
        the_end = named passed.bus 0 o.the_end;
        ends_are = ap (with_end 0 (named passed.bus 0)) o.ends_are;
        who = o.who;
        stands = o.stands;
        unique_is = ap (λ u. first_of u (unique_of step.state.owners 0)) o.unique_is ∙ ap (λ (x : BusStep). first_of unique (unique_of x.state.owners 0)) is;
        up_is = o.up_is;
        begun = o.begun;
        down_is = o.down_is;
      }

  does_one : e.up ≡ said ∷ rest → called.bus.waiting.due ≡ [] → does the_world (routes 0) ≡ bus_did the_world (got The_bus e.who said.message.serial ∷ []) called
  does_one up due = ap (routed the_world 0 e.who) up ∙ ap (bus_did the_world (got The_bus e.who said.message.serial ∷ [])) (nobody_closed (length s.joined) called due)

  one_called : OneEnd (taken_up e ∷ []) unique rest down → e.up ≡ said ∷ rest → step ≡ record { state = t; moves = ms } → OnlyFirst ms → length bytes + length (handed ms) ≤ quota
      → IsStarting quota (does the_world (routes 0)).world t (bytes ++ handed ms) (first_of unique (unique_of t.owners 0)) rest (down ++ delivered ms)
  one_called first up is only fits =
      let waiting = waits_then is only fits in
      let d = does_one up (ap (λ (v : Waiting). v.due) waiting) in
      record {
        bus = ap (λ (x : Done). x.world.bus) d ∙ ap (λ (x : BusStep). all_told (queues.stepped begun_bus x)) is
            ∙ ap (λ v. record { quota = quota; state = t; waiting = v; own = []; closings = [] }) (all_queued quota bytes ms only fits);
        one = subst (λ es. OneEnd es (first_of unique (unique_of t.owners 0)) rest (down ++ delivered ms)) (sym (ap (λ (x : Done). x.world.ends) d)) (called_one first is only fits);
      }

-- the bus takes one of the calls
route_one : (quota : ℕ) (w : World) (s t : BusState) (bytes : List ℕ) (unique : Option (List ℕ)) (said : Said) (rest : List Said) (down : List Envelope) (ms : List Move) → IsStarting quota w s bytes unique (said ∷ rest) down
    → bus_takes s 0 said.message (rule_in said.message) ≡ record { state = t; moves = ms } → OnlyFirst ms → length bytes + length (handed ms) ≤ quota
    → IsStarting quota (does w (routes 0)).world t (bytes ++ handed ms) (first_of unique (unique_of t.owners 0)) rest (down ++ delivered ms)
route_one quota w s t bytes unique said rest down ms at is only fits =
    let o = at.one in
    let e = o.the_end in
    let bus : Bus = record { quota = quota; state = s; waiting = one_queue bytes; own = []; closings = [] } in
    let same : w ≡ record { bus = bus; ends = e ∷ []; swaps = w.swaps } =
    ap (λ b. record w { bus = b }) at.bus ∙ ap (λ es. record { bus = bus; ends = es; swaps = w.swaps }) o.ends_are in
    let first : OneEnd (taken_up e ∷ []) unique rest down =
    record { the_end = taken_up e; ends_are = refl; who = o.who; stands = o.stands; unique_is = o.unique_is; up_is = ap rest_of o.up_is; begun = refl; down_is = o.down_is } in
    subst (λ v. IsStarting quota (does v (routes 0)).world t (bytes ++ handed ms) (first_of unique (unique_of t.owners 0)) rest (down ++ delivered ms)) (sym same)
    (one_called quota s t bytes e said rest ms w.swaps unique down first o.up_is is only fits)

-- THE THREE CALLS, what the bus knows behind each, and what it says to it
abbrev pub name : List ℕ
name = codes ":1.0"

abbrev pub hello : Envelope
hello = record hello_call { serial = 1 }

abbrev pub request : Envelope
request = record request_call { serial = 2 }

abbrev pub ask : Envelope
ask = record match_call { serial = 3 }

abbrev pub calls : List Envelope
calls = hello ∷ request ∷ ask ∷ []

abbrev joined : BusState
joined = bus_joins begins 0

abbrev greeted : BusState
greeted = record {
  joined = 0 ∷ [];
  owners = record { given = 1; unique = finmap.from_sorted first_unique; lists = finmap.from_sorted ((name, (0, 0) ∷ []) ∷ []) };
  rules = [];
  calls = [];
  next = 4;
}

abbrev owning : BusState
owning = record greeted { owners = first_owners; next = 7 }

abbrev listening : BusState
listening = record owning { rules = (0, owner_rule) ∷ []; next = 8 }

abbrev pub name_returned : Envelope
name_returned = record (return_to (Some name) 1 (text_data name ∷ [])) { serial = 1 }

abbrev pub name_told : Envelope
name_told = record (signal (codes "NameAcquired") (Some name) (text_data name ∷ [])) { serial = 2 }

abbrev greeting : List Move
greeting = says name_returned ∷ delivers 0 name_returned ∷ says name_told ∷ delivers 0 name_told ∷ says (record (owner_changed name [] name) { serial = 3 }) ∷ []

abbrev pub place_told : Envelope
place_told = record (signal (codes "NameAcquired") (Some name) (text_data registry ∷ [])) { serial = 4 }

abbrev pub place_returned : Envelope
place_returned = record (return_to (Some name) 2 (number_data u32 1 ∷ [])) { serial = 6 }

abbrev granting : List Move
granting = says place_told ∷ delivers 0 place_told ∷ says (record (owner_changed registry [] name) { serial = 5 }) ∷ says place_returned ∷ delivers 0 place_returned ∷ []

abbrev pub rule_returned : Envelope
rule_returned = record (return_to (Some name) 3 []) { serial = 7 }

abbrev agreeing : List Move
agreeing = says rule_returned ∷ delivers 0 rule_returned ∷ []

numbers_none : {X : Type 0} (q : ℕ) → finmap.get (finmap.empty {X = X} {R = nat_cmp}) q ≡ None
numbers_none q = finmap.get-empty nat_cmp q

takes_hello : bus_takes joined 0 hello (rule_in hello) ≡ record { state = greeted; moves = greeting }
unfolding lib.Utf8.encode digits
takes_hello = simp (numbers_none, maps) refl

takes_request : bus_takes greeted 0 request (rule_in request) ≡ record { state = owning; moves = granting }
unfolding lib.Utf8.encode digits is_bus_name are_two_or_more are_elements parts_of
takes_request = simp maps refl

takes_ask : bus_takes owning 0 ask (rule_in ask) ≡ record { state = listening; moves = agreeing }
unfolding lib.Utf8.encode digits
takes_ask = simp maps refl

greeting_small : length (handed greeting) ≤ 340
unfolding lib.Utf8.encode digits spelled_with header_bytes body_bytes body_place rising_fields
greeting_small = leb-true (length (handed greeting)) 340 refl

granting_small : length (handed granting) ≤ 340
unfolding lib.Utf8.encode digits spelled_with header_bytes body_bytes body_place rising_fields
granting_small = leb-true (length (handed granting)) 340 refl

agreeing_small : length (handed agreeing) ≤ 340
unfolding lib.Utf8.encode digits spelled_with header_bytes body_bytes body_place rising_fields
agreeing_small = leb-true (length (handed agreeing)) 340 refl

-- the registry called the bus three times, and the bus took none of the calls yet
abbrev pub called_world : ℕ → Role → World
called_world quota role = record { bus = queues.joins (empty_bus quota) 0; ends = put_up (map plain calls) (newcomer Registry role) ∷ []; swaps = 0 }

starts_so : (quota : ℕ) (role : Role) → IsStarting quota (called_world quota role) joined [] None (map plain calls) []
starts_so quota role = record {
  bus = ap (λ q. record { quota = quota; state = joined; waiting = record { queues = q; due = [] }; own = []; closings = [] }) (numbers_first 0 []);
  one = record { the_end = put_up (map plain calls) (newcomer Registry role); ends_are = refl; who = refl; stands = refl; unique_is = refl; up_is = refl; begun = refl; down_is = refl };
}

abbrev pub first_taken : ℕ → Role → World
first_taken quota role = (does (called_world quota role) (routes 0)).world

abbrev pub second_taken : ℕ → Role → World
second_taken quota role = (does (first_taken quota role) (routes 0)).world

abbrev pub third_taken : ℕ → Role → World
third_taken quota role = (does (second_taken quota role) (routes 0)).world

module _ (quota : ℕ) (role : Role) (room : 1024 ≤ quota) where
  behind_hello : IsStarting quota (first_taken quota role) greeted (handed greeting) (Some name) (plain request ∷ plain ask ∷ []) (delivered greeting)
  behind_hello =
      let small = greeting_small in
      subst (λ u. IsStarting quota (first_taken quota role) greeted (handed greeting) u (plain request ∷ plain ask ∷ []) (delivered greeting)) (numbers_get first_unique 0 refl)
      (route_one quota (called_world quota role) joined greeted [] None (plain hello) (plain request ∷ plain ask ∷ []) [] greeting (starts_so quota role) takes_hello (refl, (refl, tt)) (omega (arith, small, room)))

  behind_request : IsStarting quota (second_taken quota role) owning (handed greeting ++ handed granting) (Some name) (plain ask ∷ []) (delivered greeting ++ delivered granting)
  behind_request =
      let small = greeting_small in
      let more = granting_small in
      route_one quota (first_taken quota role) greeted owning (handed greeting) (Some name) (plain request) (plain ask ∷ []) (delivered greeting) granting behind_hello takes_request (refl, (refl, tt)) (omega (arith, small, more, room))

  behind_ask : IsStarting quota (third_taken quota role) listening ((handed greeting ++ handed granting) ++ handed agreeing) (Some name) [] ((delivered greeting ++ delivered granting) ++ delivered agreeing)
  behind_ask =
      let small = greeting_small in
      let more = granting_small in
      let last = agreeing_small in
      let all = length-append (handed greeting) (handed granting) in
      route_one quota (second_taken quota role) owning listening (handed greeting ++ handed granting) (Some name) (plain ask) [] (delivered greeting ++ delivered granting) agreeing behind_request takes_ask (refl, tt) (omega (arith, small, more, last, all, room))

has_up : (quota : ℕ) (w : World) (s : BusState) (bytes : List ℕ) (unique : Option (List ℕ)) (said : Said) (rest : List Said) (down : List Envelope) → IsStarting quota w s bytes unique (said ∷ rest) down → HasUp w 0
has_up quota w s bytes unique said rest down at = record { the_end = at.one.the_end; first = said; rest = rest; at = ap (λ es. end_at es 0) at.one.ends_are; stands = at.one.stands; up = at.one.up_is }

-- three messages, each with what was written of it
pub greeted_by : (w : World) (conn : ℕ) (b1 b2 b3 : Bus) (posts1 posts2 posts3 : List Post) (old mid late new : List Event) → (up : IsGreeting w conn) → IsDone (does w (routes conn)) b1 posts1 old mid
    → (IsCarried (with_one_taken w conn) b1 posts1 → end_at (with_one_taken w conn).ends conn ≡ Some up.second.the_end → up.second.the_end.up ≡ up.second.first ∷ up.second.rest
    → IsDone (does (with_one_taken w conn) (routes conn)) b2 posts2 mid late)
    → (IsCarried (with_one_taken (with_one_taken w conn) conn) b2 posts2 → end_at (with_one_taken (with_one_taken w conn) conn).ends conn ≡ Some up.third.the_end
    → up.third.the_end.up ≡ up.third.first ∷ up.third.rest → IsDone (does (with_one_taken (with_one_taken w conn) conn) (routes conn)) b3 posts3 late new)
    → IsGreeted w conn b3 posts3 old new
greeted_by w conn b1 b2 b3 posts1 posts2 posts3 old mid late new up first second third =
    let two = second first.tied up.second.at up.second.up in
    let three = third two.tied up.third.at up.third.up in
    let v : World = with_one_taken w conn in
    let one_written : List Entry = (does w (routes conn)).entries in
    let two_written : List Entry = (does v (routes conn)).entries in
    let three_written : List Entry = (does (with_one_taken v conn) (routes conn)).entries in
    record {
      carried = three.tied;
      extends = record {
        more = one_written ++ (two_written ++ three_written);
        wrote = three.wrote ∙ ap (λ l. l ++ three_written) two.wrote ∙ ap (λ l. (l ++ two_written) ++ three_written) first.wrote
            ∙ append_assoc (entries_of old ++ one_written) two_written three_written ∙ append_assoc (entries_of old) one_written (two_written ++ three_written);
      };
    }

-- THE FIRST WORLD, once the registry took what waits for it
pub gave_none : (b : Bus) (conn : ℕ) → gave b conn 0 ≡ b
gave_none b conn = ap (λ q. record b { waiting = record b.waiting { queues = q } }) (same_queues (finmap.get b.waiting.queues conn) refl)
  where
    same_queues : (o : Option (List ℕ)) → finmap.get b.waiting.queues conn ≡ o → with_queue b.waiting.queues conn (drop 0 (waits_for b conn)) ≡ b.waiting.queues
    same_queues None at = ap (λ o. cond (is_some o) (finmap.insert b.waiting.queues conn (drop 0 (waits_for b conn))) b.waiting.queues) at
    same_queues (Some bytes) at =
        ap (λ o. cond (is_some o) (finmap.insert b.waiting.queues conn (drop 0 (waits_for b conn))) b.waiting.queues) at
        ∙ ap (λ o. finmap.insert b.waiting.queues conn (or_nothing o)) at
        ∙ by_keys (finmap.insert b.waiting.queues conn bytes) b.waiting.queues conn (at_key b.waiting.queues conn bytes ∙ sym at) (λ q ne. at_other b.waiting.queues conn bytes q ne)

pub gave_more : (a b c : Bus) (conn m n : ℕ) → b ≡ gave a conn m → c ≡ gave b conn n → c ≡ gave a conn (m + n)
gave_more a b c conn m n first rest =
    let both = both_gone a.waiting.queues conn m n (finmap.get a.waiting.queues conn) refl b.waiting.queues (ap (λ (x : Bus). x.waiting.queues) first) in
    rest ∙ ap (λ (x : Bus). record x { waiting = record x.waiting { queues = with_queue b.waiting.queues conn (drop n (waits_for b conn)) } }) first
    ∙ ap (λ q. record a { waiting = record a.waiting { queues = q } }) both.1

emptied_queue : (bytes : List ℕ) (count : ℕ) → with_queue (finmap.from_sorted ((0, bytes) ∷ [])) 0 (drop count (queue_of (finmap.from_sorted ((0, bytes) ∷ [])) 0)) ≡ finmap.from_sorted ((0, drop count bytes) ∷ [])
emptied_queue bytes count =
    let m : FinMap nat_cmp (List ℕ) = finmap.from_sorted ((0, bytes) ∷ []) in
    let there : finmap.get m 0 ≡ Some bytes = numbers_get ((0, bytes) ∷ []) 0 refl in
    ap (λ o. cond (is_some o) (finmap.insert m 0 (drop count (or_nothing o))) m) there ∙ numbers_insert ((0, bytes) ∷ []) 0 (drop count bytes) refl

first_again : (quota : ℕ) (w : World) (bytes : List ℕ) (down : List Envelope) (a b : Bus) (posts : List Post) → IsStarting quota w listening bytes (Some name) [] down → IsCarried w a posts → IsHeard a b 0 → IsCarried (first_world quota) b posts
first_again quota w bytes down a b posts at is heard =
    let o = at.one in
    let c : Bus = record { quota = quota; state = listening; waiting = one_queue bytes; own = []; closings = [] } in
    let left : List ℕ = drop heard.count bytes in
    let now : b ≡ record c { waiting = one_queue left } =
    heard.gone ∙ ap (λ (x : Bus). gave x 0 heard.count) (is.bus_is ∙ at.bus) ∙ ap (λ q. record c { waiting = record { queues = q; due = [] } }) (emptied_queue bytes heard.count) in
    let none : left ≡ [] = sym (ap or_nothing (numbers_get ((0, left) ∷ []) 0 refl)) ∙ ap (λ (x : Bus). waits_for x 0) (sym now) ∙ heard.none in
    record {
      bus_is = now ∙ ap (λ l. record c { waiting = one_queue l }) none;
      own_told = refl;
      closings_told = refl;
      posts_are = is.posts_are ∙ ap (map post_of) o.ends_are ∙ ap (λ p. p ∷ []) (same_post o);
      few = is.few;
      sendable = (tt, tt);
      marked = (refl, tt);
      waits = one_waits (first_world quota).bus.waiting.queues first_registry refl refl (ap or_nothing (numbers_get ((0, []) ∷ []) 0 refl));
    }
  where
    same_post : (o : OneEnd w.ends (Some name) [] down) → post_of o.the_end ≡ post_of first_registry
    same_post o =
        ap (λ x. record (post_of o.the_end) { who = x }) o.who ∙ ap (λ x. record (post_of o.the_end) { who = Registry; standing = standing_at x }) o.stands
        ∙ ap (λ x. record (post_of o.the_end) { who = Registry; standing = Here; name = x }) o.unique_is
        ∙ ap (λ x. record (post_of o.the_end) { who = Registry; standing = Here; name = Some name; up = bytes_up x }) o.up_is
        ∙ ap (λ x. record { who = Registry; standing = Here; name = Some name; up = []; begun = x }) o.begun

pub first_carried : (quota : ℕ) (role : Role) (a b : Bus) (posts : List Post) → 1024 ≤ quota → IsCarried (third_taken quota role) a posts → IsHeard a b 0 → IsCarried (first_world quota) b posts
first_carried quota role a b posts room is heard = first_again quota (third_taken quota role) ((handed greeting ++ handed granting) ++ handed agreeing) _ a b posts (behind_ask quota role room) is heard

-- WHAT WAITS FOR THE REGISTRY THEN: its name, that it has it, that it owns the registry's, and the two other returns
abbrev pub heard : List Envelope
heard = name_returned ∷ name_told ∷ place_told ∷ place_returned ∷ rule_returned ∷ []

pub record HasHeard (w : World) (messages : List Envelope) : Type 0 where
  pub the_end : End
  pub at : end_at w.ends 0 ≡ Some the_end
  pub down : messages_of the_end.down ≡ messages

pub greeting_heard : (quota : ℕ) (role : Role) → 1024 ≤ quota → HasHeard (third_taken quota role) heard
greeting_heard quota role room =
    let o = (behind_ask quota role room).one in
    record { the_end = o.the_end; at = ap (λ es. end_at es 0) o.ends_are; down = o.down_is }

pub greeting_up : (quota : ℕ) (role : Role) → 1024 ≤ quota → IsGreeting (called_world quota role) 0
greeting_up quota role room = record {
  first = has_up quota (called_world quota role) joined [] None (plain hello) (plain request ∷ plain ask ∷ []) [] (starts_so quota role);
  second = has_up quota (first_taken quota role) greeted (handed greeting) (Some name) (plain request) (plain ask ∷ []) (delivered greeting) (behind_hello quota role room);
  third = has_up quota (second_taken quota role) owning (handed greeting ++ handed granting) (Some name) (plain ask) [] (delivered greeting ++ delivered granting) (behind_request quota role room);
}

-- EACH CALL IS SENDABLE: two speak of no rule, and the third of the one that its text spells
spoken : (e : Envelope) (member : BusMember) (rule : Option (List Condition)) → member_of e ≡ Ok member → IsSpokenOf member e.body rule → IsRuleNamed e rule
spoken e member rule is speaks = λ asked one other h. subst (λ m. IsSpokenOf m e.body rule) (same_member member other (sym is ∙ h)) speaks
  where
    same_member : (m n : BusMember) → ◌≡◌ {A = Result BusMember (List ℕ)} (Ok m) (Ok n) → m ≡ n
    same_member m n h = cc

pub hello_reads : IsRuleNamed hello (rule_in hello)
hello_reads = spoken hello Hello (rule_in hello) refl tt

pub request_reads : IsRuleNamed request (rule_in request)
request_reads = spoken request RequestName (rule_in request) refl tt

pub ask_reads : IsRuleNamed ask (rule_in ask)
unfolding lib.Utf8.encode
ask_reads = spoken ask AddMatch (rule_in ask) refl rules_read.1.0

pub called_carried : (quota : ℕ) (role : Role) (posts : List Post) → posts ≡ post_of (put_up (map plain calls) (newcomer Registry role)) ∷ [] → AllByRecursion (λ e. IsMessage e (written e)) calls
    → (b : Bus) → b ≡ queues.joins (empty_bus quota) 0 → IsCarried (called_world quota role) b posts
called_carried quota role posts posts_are can b bus_is = record {
  bus_is = bus_is;
  own_told = refl;
  closings_told = refl;
  posts_are = posts_are;
  few = subst (λ n. n ≤ 4294967296) (sym (ap length posts_are)) (leb-true 1 4294967296 refl);
  sendable = ((record { is = can.0; reads = hello_reads }, (record { is = can.1.0; reads = request_reads }, (record { is = can.1.1.0; reads = ask_reads }, tt))), tt);
  marked = (written_some hello, tt);
  waits = one_waits (queues.joins (empty_bus quota) 0).waiting.queues (put_up (map plain calls) (newcomer Registry role)) refl refl (ap or_nothing (at_key finmap.empty 0 []));
}
