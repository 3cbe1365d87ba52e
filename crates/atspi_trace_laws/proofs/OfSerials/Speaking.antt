-- Who speaks in a cause, and the number of its next message.
use Rattle.std.proofs.Common.{◌≡◌, ◌⊎◌, inl, inr, ℕ, ◌+◌, Bool, true, false, List, [], length, None, Some, refl, sym, ap, ◌∙◌, subst}
use Rattle.std.specs.Prelude.{Option, ◌==◌, if◌then◌else◌}
use Rattle.atspi_message.specs.Envelope.{Envelope}
use Rattle.atspi_protocol.specs.ends.Messages.{numbered}
use Rattle.atspi_protocol.specs.registering.RegistryState.{RegistryState}
use Rattle.atspi_protocol.specs.registering.Steps.{RegistryStep, speaks, named, called_by, hears, name_told, name_gone, takes_as, registry_takes}
use Rattle.atspi_trace.specs.World.{Role, the_registry, an_application, a_reader, End}
use Rattle.atspi_trace.specs.Ends.{end_at, with_end}
use Rattle.atspi_trace_laws.proofs.OfOrder.Parties.{same_some}
use Rattle.atspi_trace_laws.proofs.OfOrder.Frame.{Over, IsOrder, with_cases}

-- the number of the next message of an end
abbrev pub next_of : Role → ℕ
next_of (the_registry s) = s.next
next_of (an_application s) = s.next
next_of (a_reader h) = h.next

-- the same party, with the same number
pub record SameNext (e d : End) : Type 0 where
  pub whose : d.who ≡ e.who
  pub next : next_of d.role ≡ next_of e.role

pub same_next : IsOrder SameNext
same_next = record {
  same = λ e. record { whose = refl; next = refl };
  both = λ e d c f g. record { whose = g.whose ∙ f.whose; next = g.next ∙ f.next };
}

-- one end changed, and the others have their numbers
pub changed_next : (f : End → End) (conn : ℕ) (e : End) (a b : List End) → Over SameNext a b → end_at b conn ≡ Some e → (k : ℕ) (x : End) → end_at (with_end conn f b) k ≡ Some x
    → ((k ≡ conn) × (x ≡ f e)) ⊎ ((k ≡ conn → ⊥) × (y : End) × (end_at a k ≡ Some y) × SameNext y x)
changed_next f conn e a b o there k x h = by (with_cases f b conn k x h)
  where
    by : ((y : End) × (end_at b k ≡ Some y) × (((k ≡ conn) × (x ≡ f y)) ⊎ ((k ≡ conn → ⊥) × (x ≡ y))))
        → ((k ≡ conn) × (x ≡ f e)) ⊎ ((k ≡ conn → ⊥) × (y : End) × (end_at a k ≡ Some y) × SameNext y x)
    by g = at g.2
      where
        at : (((k ≡ conn) × (x ≡ f g.0)) ⊎ ((k ≡ conn → ⊥) × (x ≡ g.0))) → ((k ≡ conn) × (x ≡ f e)) ⊎ ((k ≡ conn → ⊥) × (y : End) × (end_at a k ≡ Some y) × SameNext y x)
        at (inl c) = let same : g.0 ≡ e = same_some g.0 e (sym g.1 ∙ ap (end_at b) c.0 ∙ there) in inl (c.0, c.1 ∙ ap f same)
        at (inr c) = let y = o.back k g.0 g.1 in inr (c.0, y.0, y.1, subst (SameNext y.0) (sym c.1) y.2)

-- what the registry sends takes its next numbers
pub record IsNumbered (s : RegistryState) (step : RegistryStep) : Type 0 where
  pub said : List Envelope
  pub sent : step.sent ≡ numbered s.next said
  pub next : step.state.next ≡ s.next + length said

nothing_said : (s : RegistryState) → IsNumbered s (speaks s [])
nothing_said s = record { said = []; sent = refl; next = refl }

named_numbered : (s : RegistryState) (o : Option (List ℕ)) → IsNumbered s (named s o)
named_numbered s None = nothing_said s
named_numbered s (Some name) = record { said = []; sent = refl; next = refl }

call_numbered : (s : RegistryState) (own : List ℕ) (e : Envelope) (o : Option (List ℕ)) → IsNumbered s (called_by s own e o)
call_numbered s own e None = nothing_said s
call_numbered s own e (Some caller) = record { said = _; sent = refl; next = refl }

news_numbered : (s : RegistryState) (o : Option (List ℕ)) → IsNumbered s (hears s o)
news_numbered s None = nothing_said s
news_numbered s (Some name) = record { said = _; sent = refl; next = refl }

takes_numbered : (s : RegistryState) (e : Envelope) (o : Option (List ℕ)) → IsNumbered s (takes_as s e o)
takes_numbered s e None = named_numbered s (name_told s.hello e)
takes_numbered s e (Some own) = by (e.kind == 1)
  where
    by : (b : Bool) → IsNumbered s (if b then called_by s own e e.sender else hears s (name_gone e))
    by true = call_numbered s own e e.sender
    by false = news_numbered s (name_gone e)

pub registry_numbered : (s : RegistryState) (e : Envelope) → IsNumbered s (registry_takes s e)
registry_numbered s e = takes_numbered s e s.own
