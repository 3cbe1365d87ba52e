-- A bus stays sound.
use Rattle.std.proofs.Common.{◌≡◌, ◌≢◌, ℕ, ◌+◌, ◌≤◌, Bool, true, false, cond, ◌&&◌, List, [], ◌∷◌, Option, None, Some, refl, arith}
use Rattle.std.specs.Prelude.{◌==◌}
use Rattle.std.specs.List.{All}
use Rattle.std.proofs.lemmas.List.Elements.{All-nil, All-cons, All-head, All-tail, All-append}
use Rattle.atspi_types.specs.Data.{Data}
use Rattle.atspi_base.specs.valid_names.Names.{is_bus_name}
use Rattle.atspi_message.specs.Envelope.{Envelope}
use Rattle.atspi_match.specs.declared.condition.Condition.{Condition}
use Rattle.atspi_match.specs.RuleIndex.{rules_of, is_pair}
use Rattle.std.specs.List.{list_any}
use Rattle.atspi_names.specs.Owners.{after_hello, unique_name}
use Rattle.atspi_match.specs.declared.routing.member.BusMember.{BusMember}
use Rattle.atspi_match.specs.declared.routing.member.BusMember.TheVariants.{Hello, RequestName, ReleaseName, NameHasOwner, GetNameOwner, ListNames, ListQueuedOwners, AddMatch, RemoveMatch, GetId, Ping}
use Rattle.atspi_match.specs.routing.BusState.{OpenCall, BusState}
use Rattle.atspi_match.specs.routing.Answers.{Answer, answers, may_be_asked_for, first_text}
use Rattle.atspi_match.specs.routing.Routing.{without_answered, calls_after, expects_reply, is_reply, with_call}
use Rattle.atspi_match.specs.routing.Steps.{calls_after_all}
use Rattle.atspi_bus_answers.specs.Answered.{AreNamed, with_parts}
use Rattle.atspi_bus_answers.proofs.MemberAnswers.{named-with_list}
use Rattle.atspi_bus_steps.specs.Sound.{IsSound}

abbrev pub HasSerial : OpenCall → Type 0
HasSerial c = c.serial ≢ 0

-- no answer gives a unique name, and each reads owners and rules alone
given_either : (b : Bool) (x y : Answer) (n : ℕ) → x.owners.given ≡ n → y.owners.given ≡ n → (cond b x y).owners.given ≡ n
given_either true x y n p q = p
given_either false x y n p q = q

given_added : (s : BusState) (conn : ℕ) (args : List Data) (rule : Option (List Condition)) → (answers AddMatch s conn args rule).owners.given ≡ s.owners.given
given_added s conn args None = refl
given_added s conn args (Some rule) = given_either (rules_of conn s.rules == 512) _ _ s.owners.given refl refl

given_removed : (s : BusState) (conn : ℕ) (args : List Data) (rule : Option (List Condition)) → (answers RemoveMatch s conn args rule).owners.given ≡ s.owners.given
given_removed s conn args None = refl
given_removed s conn args (Some rule) = given_either (list_any (is_pair conn rule) s.rules) _ _ s.owners.given refl refl

pub given_answered : (member : BusMember) (s : BusState) (conn : ℕ) (args : List Data) (rule : Option (List Condition)) → (answers member s conn args rule).owners.given ≡ s.owners.given
given_answered Hello s conn args rule = refl
given_answered RequestName s conn args rule = given_either (may_be_asked_for (first_text args)) _ _ s.owners.given refl refl
given_answered ReleaseName s conn args rule = given_either (may_be_asked_for (first_text args)) _ _ s.owners.given refl refl
given_answered NameHasOwner s conn args rule = refl
given_answered GetNameOwner s conn args rule = refl
given_answered ListNames s conn args rule = refl
given_answered ListQueuedOwners s conn args rule = refl
given_answered AddMatch s conn args rule = given_added s conn args rule
given_answered RemoveMatch s conn args rule = given_removed s conn args rule
given_answered GetId s conn args rule = refl
given_answered Ping s conn args rule = refl

pub answers-parts : (member : BusMember) (s : BusState) (conn : ℕ) (args : List Data) (rule : Option (List Condition))
    → answers member (with_parts s.owners s.rules) conn args rule ≡ answers member s conn args rule
answers-parts Hello s conn args rule = refl
answers-parts RequestName s conn args rule = refl
answers-parts ReleaseName s conn args rule = refl
answers-parts NameHasOwner s conn args rule = refl
answers-parts GetNameOwner s conn args rule = refl
answers-parts ListNames s conn args rule = refl
answers-parts ListQueuedOwners s conn args rule = refl
answers-parts AddMatch s conn args None = refl
answers-parts AddMatch s conn args (Some rule) = refl
answers-parts RemoveMatch s conn args None = refl
answers-parts RemoveMatch s conn args (Some rule) = refl
answers-parts GetId s conn args rule = refl
answers-parts Ping s conn args rule = refl

-- open calls keep their serials
all_either : (b : Bool) (x y : List OpenCall) → All HasSerial x → All HasSerial y → All HasSerial (cond b x y)
all_either true x y p q = p
all_either false x y p q = q

without-numbered : (calls : List OpenCall) (caller serial callee : ℕ) → All HasSerial calls → All HasSerial (without_answered calls caller serial callee)
without-numbered [] caller serial callee h = h
without-numbered (c ∷ calls) caller serial callee h =
    all_either (c.caller == caller && (c.serial == serial && c.callee == callee)) calls (c ∷ without_answered calls caller serial callee)
    (All-tail HasSerial c calls h)
    (All-cons HasSerial c _ (All-head HasSerial c calls h) (without-numbered calls caller serial callee (All-tail HasSerial c calls h)))

after-numbered : (calls : List OpenCall) (conn : ℕ) (e : Envelope) (receiver : ℕ) → e.serial ≢ 0 → All HasSerial calls → All HasSerial (calls_after calls conn e receiver)
after-numbered calls conn e receiver some h = by e.reply
  where
    more : All HasSerial (with_call calls conn e.serial receiver)
    more = All-append HasSerial calls _ h (All-cons HasSerial _ [] some (All-nil HasSerial))

    by : (o : Option ℕ) → All HasSerial (calls_after calls conn (record e { reply = o }) receiver)
    by None = all_either (expects_reply e) (with_call calls conn e.serial receiver) _ more (all_either (is_reply e) calls calls h h)
    by (Some serial) =
        all_either (expects_reply e) (with_call calls conn e.serial receiver) _ more
        (all_either (is_reply e) (without_answered calls receiver serial conn) calls (without-numbered calls receiver serial conn h) h)

pub all-numbered : (calls : List OpenCall) (conn : ℕ) (e : Envelope) (receivers : List ℕ) → e.serial ≢ 0 → All HasSerial calls → All HasSerial (calls_after_all calls conn e receivers)
all-numbered calls conn e [] some h = h
all-numbered calls conn e (c ∷ cs) some h = all-numbered (calls_after calls conn e c) conn e cs some (after-numbered calls conn e c some h)

-- after an answer
pub sound-answered : (s : BusState) (a : Answer) (n : ℕ) → IsSound s → a.owners.given ≡ s.owners.given → AreNamed a.owners.lists → s.next ≤ n → n ≤ 4294967296
    → IsSound (record s { owners = a.owners; rules = a.rules; next = n })
sound-answered s a n was given named le last = record {
  ready = record { rising = was.ready.rising; first = let f = was.ready.first in omega arith; last = last };
  given = let g = was.given in omega arith;
  named = named;
  numbered = was.numbered;
}

-- after a Hello
pub sound-greeted : (s : BusState) (conn n : ℕ) → IsSound s → is_bus_name (unique_name s.owners.given) ≡ true → s.next + 2 ≤ n → n ≤ 4294967296
    → IsSound (record s { owners = after_hello s.owners conn; next = n })
sound-greeted s conn n was name le last = record {
  ready = record { rising = was.ready.rising; first = let f = was.ready.first in omega arith; last = last };
  given = let g = was.given in omega arith;
  named = named-with_list s.owners.lists was.named (unique_name s.owners.given) name ((conn, 0) ∷ []);
  numbered = was.numbered;
}

-- after a message was passed on
pub sound-passed : (s : BusState) (conn : ℕ) (e : Envelope) (receivers : List ℕ) → IsSound s → e.serial ≢ 0 → IsSound (record s { calls = calls_after_all s.calls conn e receivers })
sound-passed s conn e receivers was some = record {
  ready = record { rising = was.ready.rising; first = was.ready.first; last = was.ready.last };
  given = was.given;
  named = was.named;
  numbered = all-numbered s.calls conn e receivers some was.numbered;
}
