-- In a step of a bus nobody joins: whoever is there behind it was there before.
use Rattle.std.proofs.Common.{◌≡◌, ℕ, ◌<◌, length, zero, suc, not, Bool, true, false, cond, List, [], ◌∷◌, Option, None, Some, refl, sym, ap, subst, arith, rules, lit<, lit≤}
use Rattle.std.specs.Prelude.{◌==◌, Result, Ok, Err, OnOk, OnErr, unwrap_or}
use Rattle.std.specs.FinMap.{get-empty}
use Rattle.std.specs.Ordering.{nat_cmp}
use Rattle.std.specs.Cmp.Lexicographic.{slice_cmp}
use Rattle.std.specs.List.{All}
use Rattle.std.proofs.lemmas.List.Elements.{All-filter}
use Rattle.atspi_message.specs.Envelope.{Envelope}
use Rattle.atspi_match.specs.declared.condition.Condition.{Condition}
use Rattle.atspi_match.specs.declared.routing.member.BusMember.{BusMember}
use Rattle.atspi_match.specs.declared.routing.closing.Why.{Why}
use Rattle.atspi_match.specs.routing.BusState.{BusState, begins, unique_of}
use Rattle.atspi_match.specs.routing.Members.{member_of}
use Rattle.atspi_match.specs.routing.Routing.{is_for_bus, receivers}
use Rattle.atspi_match.specs.routing.Steps.{BusStep, closes, handed, calls_after_all, speaks, called, is_unowned, undeliverable, passes_on, takes_from_named, is_hello, bus_takes, greets}
use Rattle.atspi_match.specs.routing.Queues.{Bus, stepped, left, one_closed, settled, takes, leaves}
use Rattle.atspi_bus_steps.specs.Spoken.{IsRuleTaken}
use Rattle.atspi_bus_steps.specs.Sound.{IsSound}

-- a bus to which nobody has joined
pub sound-begins : IsSound begins
sound-begins = record {
  ready = record { rising = λ k h. omega (arith, h); first = lit≤ tt; last = lit≤ tt };
  given = lit< tt;
  named = λ name no. ap (λ o. unwrap_or o []) (get-empty (slice_cmp nat_cmp) name);
  numbered = search rules;
}

either : (b : Bool) (x y : BusStep) (joined : List ℕ) → x.state.joined ≡ joined → y.state.joined ≡ joined → (cond b x y).state.joined ≡ joined
either true x y joined p q = p
either false x y joined p q = q

called-joined : (s : BusState) (conn : ℕ) (e : Envelope) (rule : Option (List Condition)) → (called s conn e rule).state.joined ≡ s.joined
called-joined s conn e rule = by (member_of e) refl
  where
    by : (r : Result BusMember (List ℕ)) → member_of e ≡ r → (called s conn e rule).state.joined ≡ s.joined
    by (Ok member) is = rw is refl
    by (Err name) is = rw is refl

passed-joined : (s : BusState) (conn : ℕ) (e : Envelope) → (passes_on s conn e).state.joined ≡ s.joined
passed-joined s conn e =
    either (is_unowned e.destination (receivers s e)) (undeliverable s conn e)
    (record { state = record s { calls = calls_after_all s.calls conn e (receivers s e) }; moves = handed s e }) s.joined refl refl

named-joined : (s : BusState) (conn : ℕ) (e : Envelope) (rule : Option (List Condition)) → (takes_from_named s conn e rule).state.joined ≡ s.joined
named-joined s conn e rule =
    either (is_for_bus e) (cond (e.kind == 1) (called s conn e rule) (speaks s [])) (passes_on s conn e) s.joined
    (either (e.kind == 1) (called s conn e rule) (speaks s []) s.joined (called-joined s conn e rule) refl)
    (passed-joined s conn e)

taken-joined : (s : BusState) (conn : ℕ) (e : Envelope) (rule : Option (List Condition)) → (bus_takes s conn e rule).state.joined ≡ s.joined
taken-joined s conn e rule = by (unique_of s.owners conn) refl
  where
    by : (o : Option (List ℕ)) → unique_of s.owners conn ≡ o → (bus_takes s conn e rule).state.joined ≡ s.joined
    by (Some name) is = rw is (named-joined s conn (record e { sender = Some name }) rule)
    by None is = rw is (either (is_hello e) (greets s conn e) (record { state = s; moves = closes conn ∷ [] }) s.joined refl refl)

module _ (P : ℕ → Type 0) where
  left-joined : (b : Bus) (conn : ℕ) → All P b.state.joined → All P (left b conn).state.joined
  left-joined b conn h = All-filter (λ c. not (c == conn)) P b.state.joined h

  one-joined : (b : Bus) (due : List (ℕ × Why)) → All P b.state.joined → All P (one_closed b due).state.joined
  one-joined b [] h = h
  one-joined b (first ∷ rest) h = left-joined b first.0 h

  settled-joined : (k : ℕ) (b : Bus) → All P b.state.joined → All P (settled k b).state.joined
  settled-joined zero b h = h
  settled-joined (suc k) b h = settled-joined k (one_closed b b.waiting.due) (one-joined b b.waiting.due h)

  pub takes-joined : (k : ℕ) (b : Bus) (conn : ℕ) (e : Envelope) (rule : Option (List Condition)) → All P b.state.joined
      → All P (settled k (stepped b (bus_takes b.state conn e rule))).state.joined
  takes-joined k b conn e rule h = settled-joined k (stepped b (bus_takes b.state conn e rule)) (subst (All P) (sym (taken-joined b.state conn e rule)) h)

  pub leaves-joined : (k : ℕ) (b : Bus) (conn : ℕ) → All P b.state.joined → All P (settled k (left b conn)).state.joined
  leaves-joined k b conn h = settled-joined k (left b conn) (left-joined b conn h)

-- what is known of a bus is known of an equal one
pub taken-like : (a b : Bus) (next : Bus) (conn : ℕ) (e : Envelope) → a ≡ b
    → (rule : Option (List Condition)) × IsRuleTaken a.state conn e rule × (next ≡ takes a conn e rule)
    → (rule : Option (List Condition)) × IsRuleTaken b.state conn e rule × (next ≡ takes b conn e rule)
taken-like a b next conn e same h =
    subst (λ (x : Bus). (rule : Option (List Condition)) × IsRuleTaken x.state conn e rule × (next ≡ takes x conn e rule)) same h

pub taken-joined_below : (b next : Bus) (conn given : ℕ) (e : Envelope) → All (λ (c : ℕ). c < given) b.state.joined
    → (rule : Option (List Condition)) × IsRuleTaken b.state conn e rule × (next ≡ takes b conn e rule) → All (λ (c : ℕ). c < given) next.state.joined
taken-joined_below b next conn given e below h =
    subst (λ (x : Bus). All (λ (c : ℕ). c < given) x.state.joined) (sym h.2) (takes-joined (λ (c : ℕ). c < given) (length b.state.joined) b conn e h.0 below)

pub left-joined_below : (b next : Bus) (conn given : ℕ) → All (λ (c : ℕ). c < given) b.state.joined → next ≡ leaves b conn → All (λ (c : ℕ). c < given) next.state.joined
left-joined_below b next conn given below is =
    subst (λ (x : Bus). All (λ (c : ℕ). c < given) x.state.joined) (sym is) (leaves-joined (λ (c : ℕ). c < given) (length b.state.joined) b conn below)

-- by what a call answers
pub in_both : {T E A B S : Type 0} (r : Result T E) → OnOk r A → OnErr r B → (A → S) → (B → S) → S
in_both (Ok x) a b f g = f a
in_both (Err e) a b f g = g b

pub always_ok : {T E S : Type 0} (r : Result T E) → S → OnOk r S
always_ok (Ok x) s = s
always_ok (Err e) s = tt
