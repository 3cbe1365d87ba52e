-- What the bus answers in place, as the definitions have it.
use Rattle.std.proofs.Common.{◌≡◌, ◌≢◌, ℕ, ◌+◌, ◌≤◌, Bool, true, false, cond, List, [], ◌∷◌, ◌++◌, length, map, Option, None, Some, refl, sym, ap, ◌∙◌, subst, append-nil}
use Rattle.std.specs.Prelude.{◌==◌, Result, Ok, Err, IfOk, OnErr, MatchBool, IsSome, codes}
use Rattle.std.specs.FinMap as finmap
use Rattle.std.specs.FinMap.{FinMap}
use Rattle.std.specs.List.{list_any}
use Rattle.std.specs.Ordering.{nat_cmp}
use Rattle.std.proofs.lemmas.Bool.Decides.{Decides-eqb}
use Rattle.atspi_types.specs.Data.{Data}
use Rattle.atspi_message.specs.Envelope.{Envelope, envelope_of}
use Rattle.atspi_message.specs.declared.message.Message.{Message}
use Rattle.atspi_match.specs.declared.condition.Condition.{Condition}
use Rattle.atspi_match.specs.RuleIndex.{is_pair, rules_of}
use Rattle.atspi_names.specs.Hello.{IsAfterHello}
use Rattle.atspi_names.specs.Owners.{Owners}
use Rattle.atspi_match.specs.declared.routing.member.BusMember.{BusMember}
use Rattle.atspi_match.specs.declared.routing.member.BusMember.TheVariants.{Hello, RequestName, ReleaseName, NameHasOwner, GetNameOwner, ListNames, ListQueuedOwners, AddMatch, RemoveMatch, GetId, Ping}
use Rattle.atspi_match.specs.routing.BusState.{BusState, unique_of}
use Rattle.atspi_match.specs.routing.Answers.{Reply, returns, fails, Answer, answers, may_be_asked_for, first_text}
use Rattle.atspi_match.specs.routing.Members.{member_of}
use Rattle.atspi_match.specs.routing.OwnMessages.{return_to, error_to}
use Rattle.atspi_match.specs.routing.Queues.{Bus, stepped, takes}
use Rattle.atspi_match.specs.routing.Routing.{receivers, expects_reply, is_for_bus}
use Rattle.atspi_match.specs.routing.Steps.{BusStep, handed, calls_after_all, speaks, replies, answered, called, undeliverable, is_unowned, passes_on, takes_from_named, bus_takes}
use Rattle.atspi_bus_answers.specs.Answered.{IsSpokenOf, IsAnswer, AreNamed, with_parts, reply_of}
use Rattle.atspi_bus_answers.specs.declared.answering.Reply.{Reply as Given}
use Rattle.atspi_bus_steps.specs.Sayable.{reply_message}
use Rattle.atspi_bus_steps.specs.Sound.{IsReady, IsSound}
use Rattle.atspi_bus_steps.specs.Spoken.{IsRuleOf, IsRuleTaken, answered_by}
use Rattle.atspi_bus_steps.proofs.Asking.{receivers-to}
use Rattle.atspi_bus_steps.proofs.Ends.{sound-parts}
use Rattle.atspi_bus_steps.proofs.Replies.{replied, unreplied}
use Rattle.atspi_bus_steps.proofs.Said.{none_said}
use Rattle.atspi_bus_steps.proofs.Settling.{settled_none}
use Rattle.atspi_bus_steps.proofs.Sounds.{answers-parts, given_answered}
use Rattle.atspi_bus.specs.inner.Changed.{changes_rules, changes_names}
use Rattle.atspi_bus.specs.inner.Said.{IsSaid}
use Rattle.atspi_bus.proofs.Saying.{said-step, said-state}

-- nothing more is said
pub quiet-step : (b : Bus) (s : BusState) → record b { state = s } ≡ stepped b (speaks s [])
quiet-step b s = sym (none_said (record b { state = s }))

-- an answer that tells nothing before its reply
pub answered-is : (b : Bus) (conn : ℕ) (e : Envelope) (a : Answer) (owners : Owners) (rules : List (ℕ × List Condition)) (reply : Reply) → a.owners ≡ owners → a.rules ≡ rules → a.told ≡ [] → a.reply ≡ reply
    → stepped b (speaks (record b.state { owners = owners; rules = rules }) (replies (record b.state { owners = owners; rules = rules }) conn e reply)) ≡ stepped b (answered b.state conn e a)
answered-is b conn e a owners rules reply o r told is =
    let step : Answer → Bus = λ x. stepped b (answered b.state conn e x) in
    sym (ap (λ (x : Owners). step (record a { owners = x })) o
    ∙ ap (λ (x : List (ℕ × List Condition)). step (record a { owners = owners; rules = x })) r
    ∙ ap (λ (x : List Envelope). step (record a { owners = owners; rules = rules; told = x })) told
    ∙ ap (λ (x : Reply). step (record { owners = owners; rules = rules; told = []; reply = x })) is)

either_rules : (b : Bool) (x y : Answer) (r : List (ℕ × List Condition)) → x.rules ≡ r → y.rules ≡ r → (cond b x y).rules ≡ r
either_rules true x y r p q = p
either_rules false x y r p q = q

either_unique : (b : Bool) (x y : Answer) (u : FinMap nat_cmp (List ℕ)) → x.owners.unique ≡ u → y.owners.unique ≡ u → (cond b x y).owners.unique ≡ u
either_unique true x y u p q = p
either_unique false x y u p q = q

-- a call of AddMatch or RemoveMatch changes no name
either_owners : (b : Bool) (x y : Answer) (o : Owners) → x.owners ≡ o → y.owners ≡ o → (cond b x y).owners ≡ o
either_owners true x y o p q = p
either_owners false x y o p q = q

either_told : (b : Bool) (x y : Answer) → x.told ≡ [] → y.told ≡ [] → (cond b x y).told ≡ []
either_told true x y p q = p
either_told false x y p q = q

pub rule_owners : (member : BusMember) (s : BusState) (conn : ℕ) (args : List Data) (rule : Option (List Condition)) → changes_rules member ≡ true → (answers member s conn args rule).owners ≡ s.owners
rule_owners Hello s conn args rule is = absurd cc
rule_owners RequestName s conn args rule is = absurd cc
rule_owners ReleaseName s conn args rule is = absurd cc
rule_owners NameHasOwner s conn args rule is = absurd cc
rule_owners GetNameOwner s conn args rule is = absurd cc
rule_owners ListNames s conn args rule is = absurd cc
rule_owners ListQueuedOwners s conn args rule is = absurd cc
rule_owners AddMatch s conn args None is = refl
rule_owners AddMatch s conn args (Some rule) is = either_owners (rules_of conn s.rules == 512) _ _ s.owners refl refl
rule_owners RemoveMatch s conn args None is = refl
rule_owners RemoveMatch s conn args (Some rule) is = either_owners (list_any (is_pair conn rule) s.rules) _ _ s.owners refl refl
rule_owners GetId s conn args rule is = absurd cc
rule_owners Ping s conn args rule is = absurd cc

pub rule_told : (member : BusMember) (s : BusState) (conn : ℕ) (args : List Data) (rule : Option (List Condition)) → changes_rules member ≡ true → (answers member s conn args rule).told ≡ []
rule_told Hello s conn args rule is = absurd cc
rule_told RequestName s conn args rule is = absurd cc
rule_told ReleaseName s conn args rule is = absurd cc
rule_told NameHasOwner s conn args rule is = absurd cc
rule_told GetNameOwner s conn args rule is = absurd cc
rule_told ListNames s conn args rule is = absurd cc
rule_told ListQueuedOwners s conn args rule is = absurd cc
rule_told AddMatch s conn args None is = refl
rule_told AddMatch s conn args (Some rule) is = either_told (rules_of conn s.rules == 512) _ _ refl refl
rule_told RemoveMatch s conn args None is = refl
rule_told RemoveMatch s conn args (Some rule) is = either_told (list_any (is_pair conn rule) s.rules) _ _ refl refl
rule_told GetId s conn args rule is = absurd cc
rule_told Ping s conn args rule is = absurd cc

-- it returns nothing, or it fails and changes nothing
pub data IsRuleAnswer (s : BusState) (a : Answer) : Type 0 where
  done : a.reply ≡ returns [] → IsRuleAnswer s a
  refused : (name : List ℕ) → a.reply ≡ fails name → a.rules ≡ s.rules → IsRuleAnswer s a

either_answer : (s : BusState) (b : Bool) (x y : Answer) → IsRuleAnswer s x → IsRuleAnswer s y → IsRuleAnswer s (cond b x y)
either_answer s true x y p q = p
either_answer s false x y p q = q

pub rule_answer : (member : BusMember) (s : BusState) (conn : ℕ) (args : List Data) (rule : Option (List Condition)) → changes_rules member ≡ true → IsRuleAnswer s (answers member s conn args rule)
rule_answer Hello s conn args rule is = absurd cc
rule_answer RequestName s conn args rule is = absurd cc
rule_answer ReleaseName s conn args rule is = absurd cc
rule_answer NameHasOwner s conn args rule is = absurd cc
rule_answer GetNameOwner s conn args rule is = absurd cc
rule_answer ListNames s conn args rule is = absurd cc
rule_answer ListQueuedOwners s conn args rule is = absurd cc
rule_answer AddMatch s conn args None is = refused (codes "MatchRuleInvalid") refl refl
rule_answer AddMatch s conn args (Some rule) is =
    either_answer s (rules_of conn s.rules == 512) _ _ (refused (codes "LimitsExceeded") refl refl) (done refl)
rule_answer RemoveMatch s conn args None is = refused (codes "MatchRuleInvalid") refl refl
rule_answer RemoveMatch s conn args (Some rule) is =
    either_answer s (list_any (is_pair conn rule) s.rules) _ _ (done refl) (refused (codes "MatchRuleNotFound") refl refl)
rule_answer GetId s conn args rule is = absurd cc
rule_answer Ping s conn args rule is = absurd cc

pub rule_refused : (s : BusState) (a : Answer) (name : List ℕ) → IsRuleAnswer s a → a.reply ≡ fails name → a.rules ≡ s.rules
rule_refused s a name (done is) it = absurd (let e = sym is ∙ it in cc)
rule_refused s a name (refused other is same) it = same

-- who receives a reply does not depend on the rules
sent_to : (s : BusState) (conn serial : ℕ) (reply : Reply) → (reply_message s conn serial reply).destination ≡ unique_of s.owners conn
sent_to s conn serial (returns values) = refl
sent_to s conn serial (fails name) = refl

pub reply_routed : (s : BusState) (rules : List (ℕ × List Condition)) (conn serial n : ℕ) (reply : Reply) → IsSome (unique_of s.owners conn)
    → receivers s (record (reply_message s conn serial reply) { serial = n }) ≡ receivers (record s { rules = rules }) (record (reply_message s conn serial reply) { serial = n })
reply_routed s rules conn serial n reply some = by (unique_of s.owners conn) refl some
  where
    by : (o : Option (List ℕ)) → unique_of s.owners conn ≡ o → IsSome o
        → receivers s (record (reply_message s conn serial reply) { serial = n }) ≡ receivers (record s { rules = rules }) (record (reply_message s conn serial reply) { serial = n })
    by None is h = absurd cc
    by (Some name) is h =
        let d : Envelope = record (reply_message s conn serial reply) { serial = n } in
        let to : d.destination ≡ Some name = sent_to s conn serial reply ∙ is in
        receivers-to s d name to ∙ sym (receivers-to (record s { rules = rules }) d name to)

-- the answer of a bus that has another number for its next message is the same
answers-next : (member : BusMember) (s : BusState) (n conn : ℕ) (args : List Data) (rule : Option (List Condition)) → answers member (record s { next = n }) conn args rule ≡ answers member s conn args rule
answers-next member s n conn args rule = sym (answers-parts member (record s { next = n }) conn args rule) ∙ answers-parts member s conn args rule

pub answers-said : (b after : Bus) (e : Envelope) (bytes conns : List ℕ) (member : BusMember) (conn : ℕ) (args : List Data) (rule : Option (List Condition)) → IsSaid b after e bytes conns
    → answers member after.state conn args rule ≡ answers member b.state conn args rule
answers-said b after e bytes conns member conn args rule said =
    ap (λ (s : BusState). answers member s conn args rule) (said-state b after e bytes conns said) ∙ answers-next member b.state (b.state.next + 1) conn args rule

-- a rule was added or taken out, where no reply is expected
pub rule-quiet : (b next : Bus) (member : BusMember) (conn : ℕ) (e : Envelope) (rule : Option (List Condition)) → changes_rules member ≡ true → expects_reply e ≡ false
    → next ≡ record b { state = record b.state { rules = (answers member b.state conn e.body rule).rules } } → next ≡ stepped b (answered_by member b.state conn e rule)
rule-quiet b next member conn e rule changes silent is =
    let a : Answer = answers member b.state conn e.body rule in
    let t : BusState = record b.state { rules = a.rules } in
    is ∙ quiet-step b t ∙ ap (λ (l : List Envelope). stepped b (speaks t l)) (sym (unreplied t conn e a.reply silent))
    ∙ answered-is b conn e a b.state.owners a.rules a.reply (rule_owners member b.state conn e.body rule changes) refl (rule_told member b.state conn e.body rule changes) refl

-- where one is, which was said before
pub rule-said : (b after next : Bus) (member : BusMember) (conn : ℕ) (e d : Envelope) (rule : Option (List Condition)) (bytes conns : List ℕ) → changes_rules member ≡ true → expects_reply e ≡ true
    → IsSome (unique_of b.state.owners conn) → d ≡ reply_message b.state conn e.serial (returns []) → IsSaid b after d bytes conns
    → next ≡ record after { state = record after.state { rules = (answers member after.state conn e.body rule).rules } } → (answers member after.state conn e.body rule).reply ≡ returns []
    → next ≡ stepped b (answered_by member b.state conn e rule)
rule-said b after next member conn e d rule bytes conns changes asked some message said is reply =
    let a : Answer = answers member b.state conn e.body rule in
    let same = answers-said b after d bytes conns member conn e.body rule said in
    let t : BusState = record b.state { rules = a.rules } in
    let routed = said.handed.routed
    ∙ ap (λ (x : Envelope). receivers b.state (record x { serial = b.state.next })) message
    ∙ reply_routed b.state a.rules conn e.serial b.state.next (returns []) some
    ∙ ap (λ (x : Envelope). receivers t (record x { serial = b.state.next })) (sym message) in
    is ∙ ap (λ (x : Answer). record after { state = record after.state { rules = x.rules } }) same
    ∙ ap (λ (s : BusState). record after { state = record s { rules = a.rules } }) (said-state b after d bytes conns said)
    ∙ said-step b after d bytes conns b.state.owners a.rules said routed
    ∙ ap (λ (l : List Envelope). stepped b (speaks t l)) (ap (λ (x : Envelope). x ∷ []) message ∙ sym (replied t conn e (returns []) asked))
    ∙ answered-is b conn e a b.state.owners a.rules (returns []) (rule_owners member b.state conn e.body rule changes) refl (rule_told member b.state conn e.body rule changes)
    (sym (ap (λ (x : Answer). x.reply) same) ∙ reply)

-- and where it was refused
pub rule-failed : (b after : Bus) (member : BusMember) (conn : ℕ) (e d : Envelope) (rule : Option (List Condition)) (bytes conns name : List ℕ) (next : Bus) → changes_rules member ≡ true
    → IsSaid b after d bytes conns → (answers member after.state conn e.body rule).reply ≡ fails name → next ≡ stepped b (speaks b.state (replies b.state conn e (fails name)))
    → next ≡ stepped b (answered_by member b.state conn e rule)
rule-failed b after member conn e d rule bytes conns name next changes said reply is =
    let a : Answer = answers member b.state conn e.body rule in
    let it : a.reply ≡ fails name = sym (ap (λ (x : Answer). x.reply) (answers-said b after d bytes conns member conn e.body rule said)) ∙ reply in
    is ∙ answered-is b conn e a b.state.owners b.state.rules (fails name) (rule_owners member b.state conn e.body rule changes)
    (rule_refused b.state a name (rule_answer member b.state conn e.body rule changes) it) (rule_told member b.state conn e.body rule changes) it

-- a call to the bus, by what it asks for
pub called-member : (s : BusState) (conn : ℕ) (e : Envelope) (rule : Option (List Condition)) (member : BusMember) → member_of e ≡ Ok member → called s conn e rule ≡ answered_by member s conn e rule
called-member s conn e rule member is = rw is refl

pub called-error : (s : BusState) (conn : ℕ) (e : Envelope) (rule : Option (List Condition)) (name : List ℕ) → member_of e ≡ Err name → called s conn e rule ≡ speaks s (replies s conn e (fails name))
called-error s conn e rule name is = rw is refl

pub rule_of : (e : Envelope) (rule : Option (List Condition)) (member : BusMember) → member_of e ≡ Ok member → IsSpokenOf member e.body rule → IsRuleOf e rule
rule_of e rule member is spoken other it = subst (λ (m : BusMember). IsSpokenOf m e.body rule) (same (member_of e) is it) spoken
  where
    same : {x y : BusMember} (r : Result BusMember (List ℕ)) → r ≡ Ok x → r ≡ Ok y → x ≡ y
    same r p q = let h = sym p ∙ q in cc

pub rule_none : (e : Envelope) (name : List ℕ) → member_of e ≡ Err name → IsRuleOf e None
rule_none e name is other it = absurd (let h = sym is ∙ it in cc)

-- a message of a connection with its name, whatever sender it had
replies-signed : (s : BusState) (conn : ℕ) (e : Envelope) (name : List ℕ) (reply : Reply) → replies s conn (record e { sender = Some name }) reply ≡ replies s conn e reply
replies-signed s conn e name (returns values) = refl
replies-signed s conn e name (fails error) = refl

answered-signed : (s : BusState) (conn : ℕ) (e : Envelope) (name : List ℕ) (a : Answer) → answered s conn (record e { sender = Some name }) a ≡ answered s conn e a
answered-signed s conn e name a =
    let t : BusState = record s { owners = a.owners; rules = a.rules } in
    ap (λ (l : List Envelope). speaks t (a.told ++ l)) (replies-signed t conn e name a.reply)

called-signed : (s : BusState) (conn : ℕ) (e : Envelope) (name : List ℕ) (rule : Option (List Condition)) → called s conn (record e { sender = Some name }) rule ≡ called s conn e rule
called-signed s conn e name rule = by (member_of e) refl
  where
    by : (r : Result BusMember (List ℕ)) → member_of e ≡ r → called s conn (record e { sender = Some name }) rule ≡ called s conn e rule
    by (Ok member) is =
        called-member s conn (record e { sender = Some name }) rule member is
        ∙ answered-signed s conn e name (answers member s conn e.body rule) ∙ sym (called-member s conn e rule member is)
    by (Err error) is =
        called-error s conn (record e { sender = Some name }) rule error is
        ∙ ap (speaks s) (replies-signed s conn e name (fails error)) ∙ sym (called-error s conn e rule error is)

by_name : (s : BusState) (conn : ℕ) (e : Envelope) (rule : Option (List Condition)) (step : BusStep) → IsSome (unique_of s.owners conn)
    → ((name : List ℕ) → takes_from_named s conn (record e { sender = Some name }) rule ≡ step) → bus_takes s conn e rule ≡ step
by_name s conn e rule step some h = by (unique_of s.owners conn) refl some
  where
    by : (o : Option (List ℕ)) → unique_of s.owners conn ≡ o → IsSome o → bus_takes s conn e rule ≡ step
    by None is k = absurd cc
    by (Some name) is k = rw is (h name)

from_named : (s : BusState) (conn : ℕ) (e : Envelope) (rule : Option (List Condition)) (a b : Bool) → is_for_bus e ≡ a → (e.kind == 1) ≡ b
    → takes_from_named s conn e rule ≡ cond a (cond b (called s conn e rule) (speaks s [])) (passes_on s conn e)
from_named s conn e rule a b is kind =
    ap (λ x. cond x (cond (e.kind == 1) (called s conn e rule) (speaks s [])) (passes_on s conn e)) is
    ∙ ap (λ x. cond a (cond x (called s conn e rule) (speaks s [])) (passes_on s conn e)) kind

pub named-called : (s : BusState) (conn : ℕ) (e : Envelope) (rule : Option (List Condition)) → IsSome (unique_of s.owners conn) → is_for_bus e ≡ true → e.kind ≡ 1
    → bus_takes s conn e rule ≡ called s conn e rule
named-called s conn e rule some for_bus kind =
    by_name s conn e rule (called s conn e rule) some
    (λ name. from_named s conn (record e { sender = Some name }) rule true true for_bus ((Decides-eqb e.kind 1).1 kind) ∙ called-signed s conn e name rule)

pub named-quiet : (s : BusState) (conn : ℕ) (e : Envelope) (rule : Option (List Condition)) → IsSome (unique_of s.owners conn) → is_for_bus e ≡ true → e.kind ≢ 1
    → bus_takes s conn e rule ≡ speaks s []
named-quiet s conn e rule some for_bus other =
    by_name s conn e rule (speaks s []) some
    (λ name. from_named s conn (record e { sender = Some name }) rule true false for_bus (differ (e.kind == 1) (λ is. other ((Decides-eqb e.kind 1).0 is))))
  where
    differ : (b : Bool) → (b ≡ true → ⊥) → b ≡ false
    differ true other_than = absurd (other_than refl)
    differ false other_than = refl

-- to a name that nobody owns
unowned-signed : (s : BusState) (e : Envelope) (name : List ℕ) → is_unowned e.destination (receivers s e) ≡ true → is_unowned e.destination (receivers s (record e { sender = Some name })) ≡ true
unowned-signed s e name is = by e.destination refl is
  where
    by : (o : Option (List ℕ)) → e.destination ≡ o → is_unowned o (receivers s e) ≡ true → is_unowned e.destination (receivers s (record e { sender = Some name })) ≡ true
    by None to h = absurd cc
    by (Some text) to h =
        ap (λ o. is_unowned o (receivers s (record e { sender = Some name }))) to
        ∙ ap (is_unowned (Some text)) (receivers-to s (record e { sender = Some name }) text to ∙ sym (receivers-to s e text to)) ∙ h

pub named-unowned : (s : BusState) (conn : ℕ) (e : Envelope) (rule : Option (List Condition)) → IsSome (unique_of s.owners conn) → is_for_bus e ≡ false → is_unowned e.destination (receivers s e) ≡ true
    → bus_takes s conn e rule ≡ undeliverable s conn e
named-unowned s conn e rule some other is =
    by_name s conn e rule (undeliverable s conn e) some
    (λ name.
    let d : Envelope = record e { sender = Some name } in
    from_named s conn d rule false (e.kind == 1) other refl
    ∙ ap (λ b. cond b (undeliverable s conn d) (record { state = record s { calls = calls_after_all s.calls conn d (receivers s d) }; moves = handed s d })) (unowned-signed s e name is)
    ∙ ap (speaks s) (replies-signed s conn e name (fails (codes "ServiceUnknown"))))

-- a step that brings no closing is all
pub step-taken : (b next : Bus) (conn : ℕ) (e : Envelope) (rule : Option (List Condition)) → b.waiting.due ≡ [] → next.waiting.due ≡ b.waiting.due
    → next ≡ stepped b (bus_takes b.state conn e rule) → next ≡ takes b conn e rule
step-taken b next conn e rule nobody due step =
    step ∙ sym (settled_none (length b.state.joined) _ (ap (λ (x : Bus). x.waiting.due) (sym step) ∙ due ∙ nobody))

-- a call of RequestName or ReleaseName changes no rule, and no unique name
pub name_rules : (member : BusMember) (s : BusState) (conn : ℕ) (args : List Data) (rule : Option (List Condition)) → changes_names member ≡ true → (answers member s conn args rule).rules ≡ s.rules
name_rules Hello s conn args rule is = absurd cc
name_rules RequestName s conn args rule is = either_rules (may_be_asked_for (first_text args)) _ _ s.rules refl refl
name_rules ReleaseName s conn args rule is = either_rules (may_be_asked_for (first_text args)) _ _ s.rules refl refl
name_rules NameHasOwner s conn args rule is = absurd cc
name_rules GetNameOwner s conn args rule is = absurd cc
name_rules ListNames s conn args rule is = absurd cc
name_rules ListQueuedOwners s conn args rule is = absurd cc
name_rules AddMatch s conn args rule is = absurd cc
name_rules RemoveMatch s conn args rule is = absurd cc
name_rules GetId s conn args rule is = absurd cc
name_rules Ping s conn args rule is = absurd cc

pub name_unique : (member : BusMember) (s : BusState) (conn : ℕ) (args : List Data) (rule : Option (List Condition)) → changes_names member ≡ true
    → (answers member s conn args rule).owners.unique ≡ s.owners.unique
name_unique Hello s conn args rule is = absurd cc
name_unique RequestName s conn args rule is = either_unique (may_be_asked_for (first_text args)) _ _ s.owners.unique refl refl
name_unique ReleaseName s conn args rule is = either_unique (may_be_asked_for (first_text args)) _ _ s.owners.unique refl refl
name_unique NameHasOwner s conn args rule is = absurd cc
name_unique GetNameOwner s conn args rule is = absurd cc
name_unique ListNames s conn args rule is = absurd cc
name_unique ListQueuedOwners s conn args rule is = absurd cc
name_unique AddMatch s conn args rule is = absurd cc
name_unique RemoveMatch s conn args rule is = absurd cc
name_unique GetId s conn args rule is = absurd cc
name_unique Ping s conn args rule is = absurd cc

-- the reply to a call is the same where unique names are
message-renamed : (s : BusState) (owners : Owners) (rules : List (ℕ × List Condition)) (conn serial : ℕ) (reply : Reply) → owners.unique ≡ s.owners.unique
    → reply_message s conn serial reply ≡ reply_message (record s { owners = owners; rules = rules }) conn serial reply
message-renamed s owners rules conn serial (returns values) is = ap (λ u. return_to (finmap.get u conn) serial values) (sym is)
message-renamed s owners rules conn serial (fails name) is = ap (λ u. error_to (finmap.get u conn) serial name) (sym is)

-- what is told, and the reply behind it, is what an answer says
pub renamed-told : (s : BusState) (conn : ℕ) (e : Envelope) (a : Answer) (told : List Envelope) (d : Envelope) → expects_reply e ≡ true → a.owners.unique ≡ s.owners.unique
    → d ≡ reply_message s conn e.serial a.reply → told ≡ a.told ++ d ∷ []
    → told ≡ a.told ++ replies (record s { owners = a.owners; rules = a.rules }) conn e a.reply
renamed-told s conn e a told d asked same message is =
    let t : BusState = record s { owners = a.owners; rules = a.rules } in
    is ∙ ap (λ (x : Envelope). a.told ++ x ∷ []) (message ∙ message-renamed s a.owners a.rules conn e.serial a.reply same)
    ∙ ap (λ (l : List Envelope). a.told ++ l) (sym (replied t conn e a.reply asked))

pub renamed-quiet : (s : BusState) (conn : ℕ) (e : Envelope) (a : Answer) (told : List Envelope) → expects_reply e ≡ false → told ≡ a.told
    → told ≡ a.told ++ replies (record s { owners = a.owners; rules = a.rules }) conn e a.reply
renamed-quiet s conn e a told silent is =
    is ∙ sym (append-nil a.told) ∙ ap (λ (l : List Envelope). a.told ++ l) (sym (unreplied (record s { owners = a.owners; rules = a.rules }) conn e a.reply silent))

-- other names put back
pub renamed-back : (b next : Bus) (owners before : Owners) → next ≡ record b { state = record b.state { owners = owners } } → before ≡ b.state.owners
    → record next { state = record next.state { owners = before } } ≡ b
renamed-back b next owners before is same =
    ap (λ (x : Bus). record x { state = record x.state { owners = before } }) is ∙ ap (λ (o : Owners). record b { state = record b.state { owners = o } }) same

-- names right after a Hello, of which nothing was told in the end
pub hello-kept : (b next : Bus) (owners : Owners) (conn : ℕ) → IsAfterHello b.state.owners owners conn → next ≡ record b { state = record b.state { owners = owners } }
    → IsAfterHello b.state.owners next.state.owners conn
hello-kept b next owners conn after is = subst (λ (x : Bus). IsAfterHello b.state.owners x.state.owners conn) (sym is) after

-- what is said with the names of an answer is the answer
pub renamed-step : (b next : Bus) (conn : ℕ) (e : Envelope) (a : Answer) (owners : Owners) (told : List Envelope) → owners ≡ a.owners → a.rules ≡ b.state.rules
    → told ≡ a.told ++ replies (record b.state { owners = a.owners; rules = a.rules }) conn e a.reply → next ≡ stepped b (speaks (record b.state { owners = owners }) told)
    → next ≡ stepped b (answered b.state conn e a)
renamed-step b next conn e a owners told same rules said is =
    is ∙ ap (λ (o : Owners). stepped b (speaks (record b.state { owners = o }) told)) same
    ∙ ap (λ (r : List (ℕ × List Condition)). stepped b (speaks (record b.state { owners = a.owners; rules = r }) told)) (sym rules)
    ∙ ap (λ (t : List Envelope). stepped b (speaks (record b.state { owners = a.owners; rules = a.rules }) t)) said

-- what a call came to, with more known of what it did, and of where it did nothing
pub both-more : {E : Type 0} (A B C D : Type 0) (r : Result Bool E) → (A → B) → (C → D) → IfOk r (λ went. MatchBool went A C) → IfOk r (λ went. MatchBool went B D)
both-more A B C D (Ok true) f g h = f h
both-more A B C D (Ok false) f g h = g h
both-more A B C D (Err e) f g h = h

pub err-more : {T E : Type 0} (A B : Type 0) (r : Result T E) → (A → B) → OnErr r A → OnErr r B
err-more A B (Ok x) f h = h
err-more A B (Err e) f h = f h

-- of a message that the bus answered, what rule it spoke of
pub rule_taken : (s : BusState) (conn : ℕ) (e : Envelope) (rule : Option (List Condition)) → IsRuleOf e rule → IsRuleTaken s conn e rule
rule_taken s conn e rule h name unique for_bus kind = h

pub rule_not_taken : (s : BusState) (conn : ℕ) (e : Envelope) → ((name : List ℕ) → unique_of s.owners conn ≡ Some name → is_for_bus e ≡ true → e.kind ≡ 1 → ⊥) → IsRuleTaken s conn e None
rule_not_taken s conn e h name unique for_bus kind = absurd (h name unique for_bus kind)

-- a bus that is as it was is sound as it was
pub sound-same : (b next : Bus) → next ≡ b → IsSound b.state → IsSound next.state
sound-same b next is sound = subst (λ (x : Bus). IsSound x.state) (sym is) sound

-- an answer that the code gave, as the definition has it
pub answer-is : (b : Bus) (member : BusMember) (conn : ℕ) (args : List Data) (rule : Option (List Condition)) (owners : Owners) (rules : List (ℕ × List Condition)) (old new : List Message) (given : Given)
    → IsAnswer (answers member (with_parts b.state.owners b.state.rules) conn args rule) owners rules old new given → IsAnswer (answers member b.state conn args rule) owners rules old new given
answer-is b member conn args rule owners rules old new given h = subst (λ (x : Answer). IsAnswer x owners rules old new given) (answers-parts member b.state conn args rule) h

-- where the reply that was said was taken back, another is said
pub replied-anew : (b u next : Bus) (conn : ℕ) (e : Envelope) (reply : Reply) → u ≡ b → next ≡ stepped u (speaks u.state (replies u.state conn e reply))
    → next ≡ stepped b (speaks b.state (replies b.state conn e reply))
replied-anew b u next conn e reply same is = is ∙ ap (λ (x : Bus). stepped x (speaks x.state (replies x.state conn e reply))) same

-- other names leave a bus ready
pub renamed-ready : (s : BusState) (owners : Owners) → IsReady s → IsReady (record s { owners = owners })
renamed-ready s owners was = record { rising = was.rising; first = was.first; last = was.last }

-- a call that changes names, whose answer was worked out on a copy of them
pub name-answer : (b : Bus) (copied : Owners) (member : BusMember) (conn : ℕ) (args : List Data) (rule : Option (List Condition)) (owners : Owners) (rules : List (ℕ × List Condition)) (old new : List Message) (given : Given)
    → copied ≡ b.state.owners → old ≡ [] → IsAnswer (answers member (with_parts copied b.state.rules) conn args rule) owners rules old new given
    → IsAnswer (answers member b.state conn args rule) owners rules [] new given
name-answer b copied member conn args rule owners rules old new given same none h =
    answer-is b member conn args rule owners rules [] new given
    (subst (λ (o : Owners). IsAnswer (answers member (with_parts o b.state.rules) conn args rule) owners rules [] new given) same
    (subst (λ (l : List Message). IsAnswer (answers member (with_parts copied b.state.rules) conn args rule) owners rules l new given) none h))

-- leaves rules as they are
pub name-bus : (b : Bus) (member : BusMember) (conn : ℕ) (args : List Data) (rule : Option (List Condition)) (owners : Owners) (rules : List (ℕ × List Condition)) (old new : List Message) (given : Given)
    → changes_names member ≡ true → IsAnswer (answers member b.state conn args rule) owners rules old new given → record b { state = record b.state { rules = rules } } ≡ b
name-bus b member conn args rule owners rules old new given changes h =
    ap (λ (r : List (ℕ × List Condition)). record b { state = record b.state { rules = r } }) (h.rules ∙ name_rules member b.state conn args rule changes)

-- and is done once all is said with the names of the answer
pub name-done : (b next : Bus) (member : BusMember) (conn : ℕ) (e : Envelope) (rule : Option (List Condition)) (owners : Owners) (rules : List (ℕ × List Condition)) (old new : List Message) (given : Given) (told : List Envelope)
    → changes_names member ≡ true → IsAnswer (answers member b.state conn e.body rule) owners rules old new given
    → told ≡ (answers member b.state conn e.body rule).told
    ++ replies (record b.state { owners = (answers member b.state conn e.body rule).owners; rules = (answers member b.state conn e.body rule).rules }) conn e (answers member b.state conn e.body rule).reply
    → next ≡ stepped b (speaks (record b.state { owners = owners; rules = rules }) told) → next ≡ stepped b (answered_by member b.state conn e rule)
name-done b next member conn e rule owners rules old new given told changes h said is =
    let a : Answer = answers member b.state conn e.body rule in
    let same : a.rules ≡ b.state.rules = name_rules member b.state conn e.body rule changes in
    renamed-step b next conn e a owners told h.owners same said
    (is ∙ ap (λ (r : List (ℕ × List Condition)). stepped b (speaks (record b.state { owners = owners; rules = r }) told)) (h.rules ∙ same))

pub name-sound : (b next : Bus) (member : BusMember) (conn : ℕ) (e : Envelope) (rule : Option (List Condition)) (owners : Owners) (rules : List (ℕ × List Condition)) (old new : List Message) (given : Given)
    → IsSound b.state → IsAnswer (answers member b.state conn e.body rule) owners rules old new given → AreNamed owners.lists → next.state.next ≤ 4294967296
    → next ≡ stepped b (answered_by member b.state conn e rule) → IsSound next.state
name-sound b next member conn e rule owners rules old new given sound h named last is =
    let a : Answer = answers member b.state conn e.body rule in
    let same = ap (λ (x : Bus). x.state) is in
    subst IsSound (sym same)
    (sound-parts b.state a.owners a.rules _ _ sound (given_answered member b.state conn e.body rule) (subst (λ (o : Owners). AreNamed o.lists) h.owners named) refl
    (subst (λ (x : BusState). x.next ≤ 4294967296) same last))

-- what is told where a reply is expected, and where none is
pub name-told : (b : Bus) (member : BusMember) (conn : ℕ) (e : Envelope) (rule : Option (List Condition)) (owners : Owners) (rules : List (ℕ × List Condition)) (new : List Message) (given : Given) (d : Envelope)
    → changes_names member ≡ true → IsAnswer (answers member b.state conn e.body rule) owners rules [] new given → expects_reply e ≡ true
    → d ≡ reply_message (record b.state { rules = rules }) conn e.serial (reply_of given)
    → map envelope_of new ++ d ∷ [] ≡ (answers member b.state conn e.body rule).told
    ++ replies (record b.state { owners = (answers member b.state conn e.body rule).owners; rules = (answers member b.state conn e.body rule).rules }) conn e (answers member b.state conn e.body rule).reply
name-told b member conn e rule owners rules new given d changes h asked message =
    let a : Answer = answers member b.state conn e.body rule in
    renamed-told b.state conn e a (map envelope_of new ++ d ∷ []) d asked (name_unique member b.state conn e.body rule changes)
    (message ∙ ap (λ (r : List (ℕ × List Condition)). reply_message (record b.state { rules = r }) conn e.serial (reply_of given)) (h.rules ∙ name_rules member b.state conn e.body rule changes)
    ∙ ap (reply_message b.state conn e.serial) h.reply)
    (ap (λ (l : List Envelope). l ++ d ∷ []) h.told)

pub name-quiet : (b : Bus) (member : BusMember) (conn : ℕ) (e : Envelope) (rule : Option (List Condition)) (owners : Owners) (rules : List (ℕ × List Condition)) (new : List Message) (given : Given)
    → IsAnswer (answers member b.state conn e.body rule) owners rules [] new given → expects_reply e ≡ false
    → map envelope_of new ≡ (answers member b.state conn e.body rule).told
    ++ replies (record b.state { owners = (answers member b.state conn e.body rule).owners; rules = (answers member b.state conn e.body rule).rules }) conn e (answers member b.state conn e.body rule).reply
name-quiet b member conn e rule owners rules new given h silent =
    renamed-quiet b.state conn e (answers member b.state conn e.body rule) (map envelope_of new) silent h.told

pub always_err : {T E S : Type 0} (r : Result T E) → S → OnErr r S
always_err (Ok x) s = tt
always_err (Err e) s = s
