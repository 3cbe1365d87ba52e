-- A message that is passed on in place.
use Rattle.std.proofs.Common.{◌≡◌, ℕ, Bool, true, false, cond, List, [], length, map, Option, None, Some, refl, sym, ap, ◌∙◌}
use Rattle.std.specs.Prelude.{◌==◌, Result, Ok, Err, IfOk, OnErr, MatchBool, MatchOption, is_some}
use Rattle.atspi_message.specs.Envelope.{Envelope}
use Rattle.atspi_message.specs.Bytes.{written}
use Rattle.atspi_match.specs.declared.condition.Condition.{Condition}
use Rattle.atspi_bus_queues.specs.Held.{Held}
use Rattle.atspi_match.specs.routing.BusState.{OpenCall, BusState, unique_of}
use Rattle.atspi_match.specs.routing.Routing.{is_for_bus, receivers}
use Rattle.atspi_match.specs.routing.Steps.{BusStep, called, speaks, undeliverable, is_unowned, passes_on, takes_from_named, bus_takes}
use Rattle.atspi_match.specs.routing.Queues.{Bus, stepped, takes}
use Rattle.atspi_bus_steps.specs.inner.Handing.{forwards, WentToAll}
use Rattle.atspi_bus_steps.specs.InnerBus.{call_of, parts}
use Rattle.atspi_bus_steps.specs.declared.open_call.OpenCall as declared
use Rattle.atspi_bus_steps.specs.Spoken.{IsRuleTaken}
use Rattle.atspi_bus_steps.proofs.Asking.{receivers-parts}
use Rattle.atspi_bus_steps.proofs.Ends.{forwarded-is}
use Rattle.atspi_bus_steps.proofs.Settling.{settled_none}

passed-named : (s : BusState) (conn : ℕ) (e : Envelope) (rule : Option (List Condition)) → is_for_bus e ≡ false → takes_from_named s conn e rule ≡ passes_on s conn e
passed-named s conn e rule other = ap (λ b. cond b (cond (e.kind == 1) (called s conn e rule) (speaks s [])) (passes_on s conn e)) other

named-step : (s : BusState) (conn : ℕ) (e : Envelope) (name : List ℕ) (step : BusStep) → unique_of s.owners conn ≡ Some name
    → takes_from_named s conn (record e { sender = Some name }) None ≡ step → bus_takes s conn e None ≡ step
named-step s conn e name step is h = rw is h

passed-step : (s : BusState) (conn : ℕ) (e : Envelope) (name : List ℕ) → unique_of s.owners conn ≡ Some name → is_for_bus e ≡ false
    → bus_takes s conn e None ≡ passes_on s conn (record e { sender = Some name })
passed-step s conn e name is other =
    named-step s conn e name (passes_on s conn (record e { sender = Some name })) is (passed-named s conn (record e { sender = Some name }) None other)

pub passed-taken : (b next : Bus) (conn : ℕ) (e : Envelope) (name : List ℕ) → unique_of b.state.owners conn ≡ Some name → is_for_bus e ≡ false → b.waiting.due ≡ []
    → next.waiting.due ≡ b.waiting.due → next ≡ stepped b (passes_on b.state conn (record e { sender = Some name }))
    → (rule : Option (List Condition)) × IsRuleTaken b.state conn e rule × (next ≡ takes b conn e rule)
passed-taken b next conn e name is other nobody due new =
    let step : next ≡ stepped b (bus_takes b.state conn e None) =
    new ∙ ap (stepped b) (sym (passed-step b.state conn e name is other)) in (
      None,
      (λ named unique for_bus. absurd (clash (sym for_bus ∙ other))),
      step ∙ sym (settled_none (length b.state.joined) _ (ap (λ (x : Bus). x.waiting.due) (sym step) ∙ due ∙ nobody)),
    )
  where
    clash : true ≡ false → ⊥
    clash x = cc

-- what a call answers that may do nothing, in other words of either
pub told-as : {E : Type 0} (A B C D : Type 0) (r : Result Bool E) → (A → C) → (B → D) → IfOk r (λ went. MatchBool went A B) → IfOk r (λ went. MatchBool went C D)
told-as A B C D (Ok true) f g h = f h
told-as A B C D (Ok false) f g h = g h
told-as A B C D (Err e) f g h = h

-- with more known of what it did
pub told-more : {E : Type 0} (A B C : Type 0) (r : Result Bool E) → (A → B) → IfOk r (λ went. MatchBool went A C) → IfOk r (λ went. MatchBool went B C)
told-more A B C r f h = told-as A C B C r f (λ x. x) h

-- a property of what is left, whatever was answered
pub either-way : {E P Q R : Type 0} (r : Result Bool E) → IfOk r (λ went. MatchBool went P Q) → OnErr r R → {S : Type 0} → (P → S) → (Q → S) → (R → S) → S
either-way (Ok true) h k f g i = f h
either-way (Ok false) h k f g i = g h
either-way (Err e) h k f g i = i k

-- nobody, where none was found
pub none_found : {A : Type 0} (P : Type 0) (Q : A → Type 0) (o : Option A) → is_some o ≡ false → MatchOption o P Q → P
none_found P Q None e h = h
none_found P Q (Some x) e h = absurd cc

-- a bus where a message went to all its receivers
pub went-passed : (b : Bus) (conn : ℕ) (e : Envelope) (noted : List OpenCall) (h : Held)
    → WentToAll (parts b.state.joined b.state.owners b.state.rules) conn e b.state.calls noted (record { quota = b.quota; waiting = b.waiting }) h
    → record b { quota = h.quota; state = record b.state { calls = noted }; waiting = h.waiting } ≡ stepped b (passes_on b.state conn e)
went-passed b conn e noted h w =
    let s = parts b.state.joined b.state.owners b.state.rules in
    let to : receivers s e ≡ receivers b.state e = receivers-parts b.state e in
    let owned : is_unowned e.destination (receivers b.state e) ≡ false = ap (is_unowned e.destination) (sym to) ∙ w.owned in
    forwarded-is b conn h e (written e) (receivers s e) noted w.after_is refl to w.noted_is
    ∙ ap (stepped b) (sym (ap (λ t. cond t (undeliverable b.state conn e) (forwards b.state conn e)) owned))

-- and one where nothing changed
pub unchanged : (b : Bus) (calls after : List declared.OpenCall) (g : Held) → b.state.calls ≡ map call_of calls → after ≡ calls → g ≡ record { quota = b.quota; waiting = b.waiting }
    → record b { quota = g.quota; state = record b.state { calls = map call_of after }; waiting = g.waiting } ≡ b
unchanged b calls after g are same is =
    ap (λ (k : List OpenCall). record b { quota = g.quota; state = record b.state { calls = k }; waiting = g.waiting }) (ap (map call_of) same ∙ sym are)
    ∙ ap (λ (h : Held). record b { quota = h.quota; waiting = h.waiting }) is

pub err_weaker : {T E P Q : Type 0} (r : Result T E) → (P → Q) → OnErr r P → OnErr r Q
err_weaker (Ok x) f h = h
err_weaker (Err e) f h = f h
