-- In each step of a bus unique names stay their connections' alone.
use Rattle.std.proofs.Common.{◌≡◌, ℕ, length, zero, suc, not, Bool, true, false, cond, List, [], ◌∷◌, Option, None, Some, refl, sym, subst, arith}
use Rattle.std.specs.Prelude.{◌==◌, Result, Ok, Err, bytes_eq}
use Rattle.std.proofs.lemmas.Bool.{and_parts}
use Rattle.atspi_types.specs.Data.{Data}
use Rattle.atspi_base.specs.valid_names.Names.{is_bus_name, is_unique_name}
use Rattle.atspi_message.specs.Envelope.{Envelope}
use Rattle.atspi_match.specs.declared.condition.Condition.{Condition}
use Rattle.atspi_names.specs.Owners.{own_name}
use Rattle.atspi_match.specs.declared.routing.member.BusMember.{BusMember}
use Rattle.atspi_match.specs.declared.routing.member.BusMember.TheVariants.{Hello, RequestName, ReleaseName, NameHasOwner, GetNameOwner, ListNames, ListQueuedOwners, AddMatch, RemoveMatch, GetId, Ping}
use Rattle.atspi_match.specs.declared.routing.closing.Why.{Why}
use Rattle.atspi_match.specs.routing.BusState.{BusState, unique_of}
use Rattle.atspi_match.specs.routing.Answers.{Answer, answers, may_be_asked_for, first_text, second_number}
use Rattle.atspi_match.specs.routing.Members.{member_of}
use Rattle.atspi_match.specs.routing.Routing.{is_for_bus, receivers}
use Rattle.atspi_match.specs.routing.Steps.{BusStep, closes, handed, calls_after_all, speaks, called, is_unowned, undeliverable, passes_on, takes_from_named, is_hello, bus_takes, greets}
use Rattle.atspi_match.specs.routing.Queues.{Bus, stepped, left, one_closed, settled, takes, leaves}
use Rattle.atspi_bus_steps.specs.Spoken.{IsRuleTaken}
use Rattle.atspi_bus_steps.specs.Sound.{IsSound}
use Rattle.atspi_bus.specs.Exclusive.{IsExclusive}
use Rattle.atspi_bus.proofs.Exclusives.{exclusive-request, exclusive-release, exclusive-hello, exclusive-gone}
use Rattle.atspi_bus.proofs.Replying.{rule_owners}

-- a name that may be asked for is no unique name
not_unique : (name : List ℕ) → may_be_asked_for name ≡ true → is_unique_name name ≡ false
not_unique name is = turned (is_unique_name name) (and_parts (not (is_unique_name name)) (not (bytes_eq name own_name)) (and_parts (is_bus_name name) _ is).1).0
  where
    turned : (b : Bool) → not b ≡ true → b ≡ false
    turned true e = absurd cc
    turned false e = refl

asked : (b : Bool) (x y : Answer) → (b ≡ true → IsExclusive x.owners) → IsExclusive y.owners → IsExclusive (cond b x y).owners
asked true x y h k = h refl
asked false x y h k = k

exclusive-answers : (member : BusMember) (s : BusState) (conn : ℕ) (args : List Data) (rule : Option (List Condition)) → IsExclusive s.owners → IsExclusive (answers member s conn args rule).owners
exclusive-answers Hello s conn args rule h = h
exclusive-answers RequestName s conn args rule h =
    asked (may_be_asked_for (first_text args)) _ _ (λ is. exclusive-request s.owners conn (first_text args) (second_number args) h (not_unique (first_text args) is)) h
exclusive-answers ReleaseName s conn args rule h =
    asked (may_be_asked_for (first_text args)) _ _ (λ is. exclusive-release s.owners conn (first_text args) h (not_unique (first_text args) is)) h
exclusive-answers NameHasOwner s conn args rule h = h
exclusive-answers GetNameOwner s conn args rule h = h
exclusive-answers ListNames s conn args rule h = h
exclusive-answers ListQueuedOwners s conn args rule h = h
exclusive-answers AddMatch s conn args rule h = subst IsExclusive (sym (rule_owners AddMatch s conn args rule refl)) h
exclusive-answers RemoveMatch s conn args rule h = subst IsExclusive (sym (rule_owners RemoveMatch s conn args rule refl)) h
exclusive-answers GetId s conn args rule h = h
exclusive-answers Ping s conn args rule h = h

-- after a step they are
abbrev Keeps : BusStep → Type 0
Keeps step = IsExclusive step.state.owners

either : (b : Bool) (x y : BusStep) → Keeps x → Keeps y → Keeps (cond b x y)
either true x y p q = p
either false x y p q = q

keeps-called : (s : BusState) (conn : ℕ) (e : Envelope) (rule : Option (List Condition)) → IsExclusive s.owners → Keeps (called s conn e rule)
keeps-called s conn e rule h = by (member_of e) refl
  where
    by : (r : Result BusMember (List ℕ)) → member_of e ≡ r → Keeps (called s conn e rule)
    by (Ok member) is = rw is (exclusive-answers member s conn e.body rule h)
    by (Err name) is = rw is h

keeps-named : (s : BusState) (conn : ℕ) (e : Envelope) (rule : Option (List Condition)) → IsExclusive s.owners → Keeps (takes_from_named s conn e rule)
keeps-named s conn e rule h =
    either (is_for_bus e) (cond (e.kind == 1) (called s conn e rule) (speaks s [])) (passes_on s conn e)
    (either (e.kind == 1) (called s conn e rule) (speaks s []) (keeps-called s conn e rule h) h)
    (either (is_unowned e.destination (receivers s e)) (undeliverable s conn e)
    (record { state = record s { calls = calls_after_all s.calls conn e (receivers s e) }; moves = handed s e }) h h)

keeps-greeted : (s : BusState) (conn : ℕ) (e : Envelope) → IsSound s → IsExclusive s.owners → Keeps (greets s conn e)
keeps-greeted s conn e sound h = let given = sound.given in let last = sound.ready.last in exclusive-hello s.owners conn h (omega arith)

keeps-taken : (s : BusState) (conn : ℕ) (e : Envelope) (rule : Option (List Condition)) → IsSound s → IsExclusive s.owners → Keeps (bus_takes s conn e rule)
keeps-taken s conn e rule sound h = by (unique_of s.owners conn) refl
  where
    by : (o : Option (List ℕ)) → unique_of s.owners conn ≡ o → Keeps (bus_takes s conn e rule)
    by (Some name) is = rw is (keeps-named s conn (record e { sender = Some name }) rule h)
    by None is = subst Keeps (sym (unnamed is))
        (either (is_hello e) (greets s conn e) (record { state = s; moves = closes conn ∷ [] }) (keeps-greeted s conn e sound h) h)
      where
        unnamed : unique_of s.owners conn ≡ None → bus_takes s conn e rule ≡ cond (is_hello e) (greets s conn e) (record { state = s; moves = closes conn ∷ [] })
        unnamed none = rw none refl

closed-exclusive : (b : Bus) (due : List (ℕ × Why)) → IsExclusive b.state.owners → IsExclusive (one_closed b due).state.owners
closed-exclusive b [] h = h
closed-exclusive b (first ∷ rest) h = exclusive-gone b.state.owners first.0 h

settled-exclusive : (k : ℕ) (b : Bus) → IsExclusive b.state.owners → IsExclusive (settled k b).state.owners
settled-exclusive zero b h = h
settled-exclusive (suc k) b h = settled-exclusive k (one_closed b b.waiting.due) (closed-exclusive b b.waiting.due h)

takes-exclusive : (b : Bus) (conn : ℕ) (e : Envelope) (rule : Option (List Condition)) → IsSound b.state → IsExclusive b.state.owners → IsExclusive (takes b conn e rule).state.owners
takes-exclusive b conn e rule sound h = settled-exclusive (length b.state.joined) (stepped b (bus_takes b.state conn e rule)) (keeps-taken b.state conn e rule sound h)

-- after a message of a connection, and after one has left
pub taken-exclusive : (b next : Bus) (conn : ℕ) (e : Envelope) → IsSound b.state → IsExclusive b.state.owners
    → (rule : Option (List Condition)) × IsRuleTaken b.state conn e rule × (next ≡ takes b conn e rule) → IsExclusive next.state.owners
taken-exclusive b next conn e sound h taken = subst (λ (x : Bus). IsExclusive x.state.owners) (sym taken.2) (takes-exclusive b conn e taken.0 sound h)

pub left-exclusive : (b next : Bus) (conn : ℕ) → IsExclusive b.state.owners → next ≡ leaves b conn → IsExclusive next.state.owners
left-exclusive b next conn h is =
    subst (λ (x : Bus). IsExclusive x.state.owners) (sym is) (settled-exclusive (length b.state.joined) (left b conn) (exclusive-gone b.state.owners conn h))
