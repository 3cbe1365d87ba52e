-- A registry that takes messages and hands out its own stands where the definitions say, and what it hands out meets the rules.
use Rattle.std.proofs.Common.{◌≡◌, ◌<◌, ◌≤◌, ℕ, false, List, [], ◌∷◌, ◌++◌, length, fold, Option, None, Some, refl, sym, ap, subst, ◌∙◌, append_assoc, arith}
use Rattle.std.specs.Prelude.{IfSome, IfNone, MatchOption, Result, Ok, Err, OnErr, OnOk, is_err}
use Rattle.atspi_message.specs.declared.message.Message.{Message}
use Rattle.atspi_message.specs.Envelope.{Envelope, envelope_of}
use Rattle.atspi_message.specs.Rules.{MeetsRules}
use Rattle.atspi_protocol.specs.registering.RegistryState.{RegistryState, begins}
use Rattle.atspi_protocol.specs.registering.Steps.{Registry, registry_starts, registry_takes, starts, takes}
use Rattle.atspi_protocol.specs.registry_laws.Sends as sends
use Rattle.atspi_protocol.specs.registry_laws.Sends.{AreNumbered, started}
use Rattle.atspi_protocol.proofs.OfRegistryLaws.Sending.{all_meet}
use Rattle.atspi_live_conversation.specs.Sent.{AllMeet}
use Rattle.atspi_live_conversation.specs.Talking.{Takes, HandsOut, Rests, MaySend}
use Rattle.atspi_live_registry.specs.Standing.{IsAfter}
use Rattle.atspi_live_registry.specs.declared.live_registry.LiveRegistry.{LiveRegistry}

-- a registry by its parts
abbrev registry_of : RegistryState → List Envelope → Registry
registry_of s out = record { state = s; out = out }

abbrev pub Stands' : LiveRegistry → List Envelope → List Envelope → Type 0
Stands' l took said = IsAfter l.registry took said

fold-one : (r : Registry) (es : List Envelope) (e : Envelope) → fold takes r (es ++ e ∷ []) ≡ takes (fold takes r es) e
fold-one r [] e = refl
fold-one r (x ∷ xs) e = fold-one (takes r x) xs e

-- one message more was taken
took_one : (old new : LiveRegistry) (e : Envelope) → new.registry ≡ takes old.registry e → (registry_takes old.registry.state e).state.next ≤ 4294967296 → Takes Stands' old new e
took_one old new e is room took said stands =
    let step = registry_takes old.registry.state e in
    record {
      whole = ap (λ (r : Registry). registry_of r.state (said ++ r.out)) is
          ∙ ap (λ (w : List Envelope). registry_of step.state w) (sym (append_assoc said old.registry.out step.sent))
          ∙ ap (λ (r : Registry). takes r e) stands.whole
          ∙ sym (fold-one started took e);
      numbered = subst (λ (r : Registry). r.state.next ≤ 4294967296) (sym is) room;
    }

pub take_took : {T X : Type 0} (r : Result T X) (old new : LiveRegistry) (e : Envelope) → OnOk r (new.registry ≡ takes old.registry e) → OnOk r ((registry_takes old.registry.state e).state.next ≤ 4294967296)
    → OnOk r ((aside : List ℕ) → Takes Stands' old new e)
take_took (Ok x) old new e is room = λ aside. took_one old new e is room
take_took (Err x) old new e is room = tt

-- it has started
pub begun : {T X : Type 0} (r : Result T X) (old new : Registry) → old ≡ registry_of begins [] → OnOk r (new ≡ starts old) → OnOk r ((registry_starts old.state).state.next ≤ 4294967296) → is_err r ≡ false → IsAfter new [] []
begun (Ok x) old new first is room ok =
    let all : new ≡ started = is ∙ ap starts first in
    record { whole = all; numbered = subst (λ (r : Registry). r.state.next ≤ 4294967296) (sym is) room }
begun (Err x) old new first is room ok = absurd cc

handed_one : (old new : LiveRegistry) (e : Envelope) → old.registry.out ≡ e ∷ new.registry.out → new.registry.state ≡ old.registry.state → HandsOut Stands' old new e
handed_one old new e out state took said stands =
    record {
      whole = ap (λ (s : RegistryState). registry_of s ((said ++ e ∷ []) ++ new.registry.out)) state
          ∙ ap (λ (w : List Envelope). registry_of old.registry.state w) (append_assoc said (e ∷ []) new.registry.out ∙ ap (λ (w : List Envelope). said ++ w) (sym out))
          ∙ stands.whole;
      numbered = subst (λ (s : RegistryState). s.next ≤ 4294967296) (sym state) stands.numbered;
    }

numbered_of : (es : List Envelope) → AllMeet es → AreNumbered es
numbered_of [] m = tt
numbered_of (e ∷ es) m = (m.0.numbered, numbered_of es m.1)

meets_at : (said : List Envelope) (e : Envelope) (rest : List Envelope) → sends.AllMeet (said ++ e ∷ rest) → MeetsRules e
meets_at [] e rest m = m.0
meets_at (x ∷ said) e rest m = meets_at said e rest m.1

may_send : (old new : LiveRegistry) (e : Envelope) → old.registry.out ≡ e ∷ new.registry.out → MaySend Stands' old e
may_send old new e out took said stands meet =
    let all : (fold takes started took).out ≡ said ++ e ∷ new.registry.out = sym (ap (λ (r : Registry). r.out) stands.whole) ∙ ap (λ (w : List Envelope). said ++ w) out in
    meets_at said e new.registry.out (subst (λ (w : List Envelope). sends.AllMeet w) all (all_meet took (numbered_of took meet)))

-- what handing out the oldest message answers
pub next_hands_out : (r : Option Message) (old new : LiveRegistry) → MatchOption r (old.registry.out ≡ []) (λ m. old.registry.out ≡ envelope_of m ∷ new.registry.out)
    → MatchOption r (new.registry ≡ old.registry) (λ m. new.registry.state ≡ old.registry.state) → IfSome r (λ m. (aside : List ℕ) → HandsOut Stands' old new (envelope_of m))
next_hands_out None old new front state = tt
next_hands_out (Some m) old new front state = λ aside. handed_one old new (envelope_of m) front state

pub next_may_send : (r : Option Message) (old new : LiveRegistry) → MatchOption r (old.registry.out ≡ []) (λ m. old.registry.out ≡ envelope_of m ∷ new.registry.out)
    → IfSome r (λ m. (aside : List ℕ) → MaySend Stands' old (envelope_of m))
next_may_send None old new front = tt
next_may_send (Some m) old new front = λ aside. may_send old new (envelope_of m) front

pub next_fewer : (r : Option Message) (old new : LiveRegistry) → MatchOption r (old.registry.out ≡ []) (λ m. old.registry.out ≡ envelope_of m ∷ new.registry.out)
    → IfSome r (λ m. length new.registry.out < length old.registry.out)
next_fewer None old new front = tt
next_fewer (Some m) old new front = omega (arith, ap (λ (w : List Envelope). length w) front)

pub next_none : (r : Option Message) (old new : LiveRegistry) → MatchOption r (new.registry ≡ old.registry) (λ m. new.registry.state ≡ old.registry.state)
    → IfNone r ((aside : List ℕ) → Rests Stands' old new)
next_none None old new state = λ aside took said s. subst (λ (w : Registry). IsAfter w took said) (sym state) s
next_none (Some m) old new state = tt

pub next_empty : (r : Option Message) (old new : LiveRegistry) → MatchOption r (old.registry.out ≡ []) (λ m. old.registry.out ≡ envelope_of m ∷ new.registry.out)
    → MatchOption r (new.registry ≡ old.registry) (λ m. new.registry.state ≡ old.registry.state) → IfNone r (length new.registry.out ≡ 0)
next_empty None old new front state = ap (λ (r : Registry). length r.out) state ∙ ap (λ (w : List Envelope). length w) front
next_empty (Some m) old new front state = tt

pub take_rests : {T X : Type 0} (r : Result T X) (old new : LiveRegistry) → OnErr r (new.registry ≡ old.registry) → OnErr r ((aside : List ℕ) → Rests Stands' old new)
take_rests (Ok x) old new e = tt
take_rests (Err x) old new e = λ aside took said s. subst (λ (w : Registry). IsAfter w took said) (sym e) s
