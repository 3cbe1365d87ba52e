-- The bus's own messages have serials that rise by one.
use Rattle.std.proofs.Common.{◌≡◌, ℕ, zero, suc, ◌+◌, ◌≤◌, Bool, true, false, List, [], ◌∷◌, ◌++◌, length, map, Option, None, Some, refl, sym, ap, ◌∙◌, subst, arith}
use Rattle.std.specs.Prelude.{Result, Ok, Err, ◌-◌, ◌==◌, codes, filter, flat_map, not, if◌then◌else◌}
use Rattle.std.proofs.lemmas.List.{length-append}
use Rattle.atspi_message.specs.Envelope.{Envelope}
use Rattle.atspi_match.specs.declared.condition.Condition.{Condition}
use Rattle.atspi_types.specs.Data.{text_data}
use Rattle.atspi_names.specs.Owners.{after_gone, after_hello}
use Rattle.atspi_match.specs.RuleIndex.{without_rules}
use Rattle.atspi_match.specs.declared.routing.closing.Why.{Why}
use Rattle.atspi_match.specs.declared.routing.member.BusMember.{BusMember}
use Rattle.atspi_match.specs.routing.BusState.{BusState, unique_of, text_or_empty, calls_without}
use Rattle.atspi_match.specs.routing.OwnMessages.{numbered, name_acquired, owner_changed}
use Rattle.atspi_match.specs.routing.Members.{member_of}
use Rattle.atspi_match.specs.routing.Answers.{Answer, answers, only, returns, fails}
use Rattle.atspi_match.specs.routing.Routing.{receivers, is_for_bus}
use Rattle.atspi_match.specs.routing.Steps.{Move, says, delivers, closes, BusStep, handed, said, speaks, replies, answered, called, undeliverable, is_unowned, calls_after_all, passes_on, takes_from_named, is_hello, greets, farewell, bus_takes, bus_leaves}
use Rattle.atspi_match.specs.routing.Queues as queues
use Rattle.atspi_match.specs.routing.Queues.{Bus, own_of, without_queue}

abbrev pub Numbered : ℕ → List Envelope → Type 0
Numbered n [] = Unit {0}
Numbered n (e ∷ es) = (e.serial ≡ n) × Numbered (n + 1) es

numbered-append : (n m : ℕ) (xs ys : List Envelope) → m ≡ n + length xs → Numbered n xs → Numbered m ys → Numbered n (xs ++ ys)
numbered-append n m [] ys h a b = let same : m ≡ n = omega (arith, h) in subst (λ k. Numbered k ys) same b
numbered-append n m (x ∷ xs) ys h a b = (a.0, numbered-append (n + 1) m xs ys (omega (arith, h)) a.1 b)

numbers : (n : ℕ) (es : List Envelope) → Numbered n (numbered n es) × (length (numbered n es) ≡ length es)
numbers n [] = (tt, refl)
numbers n (e ∷ es) = let rest = numbers (n + 1) es in ((refl, rest.0), ap suc rest.1)

-- what a step says

own-append : (xs ys : List Move) → own_of (xs ++ ys) ≡ own_of xs ++ own_of ys
own-append [] ys = refl
own-append (says e ∷ xs) ys = ap (λ l. e ∷ l) (own-append xs ys)
own-append (delivers conn e ∷ xs) ys = own-append xs ys
own-append (closes conn ∷ xs) ys = own-append xs ys

own-handed : (e : Envelope) (cs : List ℕ) → own_of (map (λ c. delivers c e) cs) ≡ []
own-handed e [] = refl
own-handed e (c ∷ cs) = own-handed e cs

own-said : (s : BusState) (es : List Envelope) → own_of (flat_map (λ e. says e ∷ handed s e) es) ≡ es
own-said s [] = refl
own-said s (e ∷ es) =
    ap (λ l. e ∷ l)
    (own-append (handed s e) (flat_map (λ m. says m ∷ handed s m) es) ∙ ap (λ l. l ++ own_of (flat_map (λ m. says m ∷ handed s m) es)) (own-handed e (receivers s e)) ∙ own-said s es)

pub record Says (next : ℕ) (step : BusStep) : Type 0 where
  pub own : Numbered next (own_of step.moves)
  pub after : step.state.next ≡ next + length (own_of step.moves)

speaks_says : (s : BusState) (es : List Envelope) → Says s.next (speaks s es)
speaks_says s es =
    let is : own_of (said s es) ≡ numbered s.next es = own-said s (numbered s.next es) in
    let n = numbers s.next es in
    record { own = subst (Numbered s.next) (sym is) n.0; after = ap (λ k. s.next + k) (sym (ap length is ∙ n.1)) }

silent : (next : ℕ) (step : BusStep) → own_of step.moves ≡ [] → step.state.next ≡ next → Says next step
silent next step none same = record {
  own = subst (Numbered next) (sym none) tt;
  after = let zero_ : length (own_of step.moves) ≡ 0 = ap length none in omega (arith, same, zero_);
}

passes_says : (s : BusState) (conn : ℕ) (e : Envelope) → Says s.next (passes_on s conn e)
passes_says s conn e = by (is_unowned e.destination (receivers s e))
  where
    by : (b : Bool) → Says s.next (if b then undeliverable s conn e else record { state = record s { calls = calls_after_all s.calls conn e (receivers s e) }; moves = handed s e })
    by true = speaks_says s (replies s conn e (fails (codes "ServiceUnknown")))
    by false = silent s.next (record { state = record s { calls = calls_after_all s.calls conn e (receivers s e) }; moves = handed s e }) (own-handed e (receivers s e)) refl

answered_says : (s : BusState) (conn : ℕ) (e : Envelope) (a : Answer) → Says s.next (answered s conn e a)
answered_says s conn e a =
    let after : BusState = record s { owners = a.owners; rules = a.rules } in
    speaks_says after (a.told ++ replies after conn e a.reply)

abbrev called_by : BusState → ℕ → Envelope → Option (List Condition) → Result BusMember (List ℕ) → BusStep
called_by s conn e rule (Ok member) = answered s conn e (answers member s conn e.body rule)
called_by s conn e rule (Err name) = answered s conn e (only s (fails name))

called_says : (s : BusState) (conn : ℕ) (e : Envelope) (rule : Option (List Condition)) → Says s.next (called s conn e rule)
called_says s conn e rule = by (member_of e)
  where
    by : (r : Result BusMember (List ℕ)) → Says s.next (called_by s conn e rule r)
    by (Ok member) = answered_says s conn e (answers member s conn e.body rule)
    by (Err name) = answered_says s conn e (only s (fails name))

named_says : (s : BusState) (conn : ℕ) (e : Envelope) (rule : Option (List Condition)) → Says s.next (takes_from_named s conn e rule)
named_says s conn e rule = by (is_for_bus e) (e.kind == 1)
  where
    by : (b k : Bool) → Says s.next (if b then (if k then called s conn e rule else speaks s []) else passes_on s conn e)
    by true true = called_says s conn e rule
    by true false = speaks_says s []
    by false k = passes_says s conn e

first_says : (s : BusState) (conn : ℕ) (e : Envelope) → Says s.next (if is_hello e then greets s conn e else record { state = s; moves = closes conn ∷ [] })
first_says s conn e = by (is_hello e)
  where
    by : (b : Bool) → Says s.next (if b then greets s conn e else record { state = s; moves = closes conn ∷ [] })
    by true =
        let after : BusState = record s { owners = after_hello s.owners conn } in
        let name = text_or_empty (unique_of after.owners conn) in
        speaks_says after (replies after conn e (returns (text_data name ∷ [])) ++ (name_acquired after.owners name (Some conn) ++ owner_changed name [] name ∷ []))
    by false = silent s.next (record { state = s; moves = closes conn ∷ [] }) refl refl

abbrev taken_by : BusState → ℕ → Envelope → Option (List Condition) → Option (List ℕ) → BusStep
taken_by s conn e rule (Some name) = takes_from_named s conn (record e { sender = Some name }) rule
taken_by s conn e rule None = if is_hello e then greets s conn e else record { state = s; moves = closes conn ∷ [] }

pub takes_says : (s : BusState) (conn : ℕ) (e : Envelope) (rule : Option (List Condition)) → Says s.next (bus_takes s conn e rule)
takes_says s conn e rule = by (unique_of s.owners conn)
  where
    by : (o : Option (List ℕ)) → Says s.next (taken_by s conn e rule o)
    by (Some name) = named_says s conn (record e { sender = Some name }) rule
    by None = first_says s conn e

pub leaves_says : (s : BusState) (conn : ℕ) → Says s.next (bus_leaves s conn)
leaves_says s conn =
    let after = after_gone s.owners conn in
    speaks_says (record s {
      joined = filter (λ c. not (c == conn)) s.joined;
      owners = after;
      rules = without_rules conn s.rules;
      calls = calls_without conn s.calls;
    }) (farewell s after conn (unique_of s.owners conn))

-- the own messages of a bus, from a serial on
pub record IsTelling (n : ℕ) (b : Bus) : Type 0 where
  pub own : Numbered n b.own
  pub next : b.state.next ≡ n + length b.own

pub stepped_tells : (n : ℕ) (b : Bus) (step : BusStep) → Says b.state.next step → IsTelling n b → IsTelling n (queues.stepped b step)
stepped_tells n b step s t = record {
  own = numbered-append n b.state.next b.own (own_of step.moves) t.next t.own s.own;
  next = let sum : length (b.own ++ own_of step.moves) ≡ length b.own + length (own_of step.moves) = length-append b.own (own_of step.moves) in omega (arith, s.after, t.next, sum);
}

pub left_tells : (n : ℕ) (b : Bus) (conn : ℕ) → IsTelling n b → IsTelling n (queues.left b conn)
left_tells n b conn t = stepped_tells n (record b { waiting = without_queue b.waiting conn }) (bus_leaves b.state conn) (leaves_says b.state conn) (record { own = t.own; next = t.next })

one_tells : (n : ℕ) (b : Bus) (due : List (ℕ × Why)) → IsTelling n b → IsTelling n (queues.one_closed b due)
one_tells n b [] t = t
one_tells n b (first ∷ rest) t = left_tells n (record b { closings = b.closings ++ record { conn = first.0; why = first.1; after = b.state.next - 1 } ∷ [] }) first.0 (record { own = t.own; next = t.next })

pub settled_tells : (n : ℕ) (rounds : ℕ) (b : Bus) → IsTelling n b → IsTelling n (queues.settled rounds b)
settled_tells n zero b t = t
settled_tells n (suc rounds) b t = settled_tells n rounds (queues.one_closed b b.waiting.due) (one_tells n b b.waiting.due t)

-- a bus that has told all
pub told_all : (b : Bus) → b.own ≡ [] → IsTelling b.state.next b
told_all b none = record {
  own = subst (Numbered b.state.next) (sym none) tt;
  next = let zero_ : length b.own ≡ 0 = ap length none in omega (arith, zero_);
}

pub takes_tells : (b : Bus) (conn : ℕ) (e : Envelope) (rule : Option (List Condition)) → b.own ≡ [] → IsTelling b.state.next (queues.takes b conn e rule)
takes_tells b conn e rule none =
    settled_tells b.state.next (length b.state.joined) (queues.stepped b (bus_takes b.state conn e rule)) (stepped_tells b.state.next b (bus_takes b.state conn e rule) (takes_says b.state conn e rule) (told_all b none))

pub leaves_tells : (b : Bus) (conn : ℕ) → b.own ≡ [] → IsTelling b.state.next (queues.leaves b conn)
leaves_tells b conn none = settled_tells b.state.next (length b.state.joined) (queues.left b conn) (left_tells b.state.next b conn (told_all b none))

-- THE NEXT SERIAL NEVER FALLS, whoever is closed
grown : (a b k : ℕ) → b ≡ a + k → a ≤ b
grown a b k h = omega (arith, h)

no_less : (a b c : ℕ) → a ≤ b → b ≤ c → a ≤ c
no_less a b c h i = omega (arith, h, i)

same_high : (a : ℕ) → a ≤ a
same_high a = omega arith

one_higher : (b : Bus) (due : List (ℕ × Why)) → b.state.next ≤ (queues.one_closed b due).state.next
one_higher b [] = same_high b.state.next
one_higher b (first ∷ rest) =
    grown b.state.next (queues.one_closed b (first ∷ rest)).state.next (length (own_of (bus_leaves b.state first.0).moves)) (leaves_says b.state first.0).after

pub settled_higher : (rounds : ℕ) (b : Bus) → b.state.next ≤ (queues.settled rounds b).state.next
settled_higher zero b = same_high b.state.next
settled_higher (suc rounds) b =
    let next : Bus = queues.one_closed b b.waiting.due in
    no_less b.state.next next.state.next (queues.settled rounds next).state.next (one_higher b b.waiting.due) (settled_higher rounds next)
