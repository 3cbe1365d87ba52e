use Rattle.std.proofs.Common.{◌≡◌, ◌<◌, ◌⊎◌, inl, inr, ℕ, zero, suc, List, [], ◌∷◌, Some, None, refl, arith, subst, sym}
use Rattle.std.specs.Prelude.{slice_get}
use Rattle.std.proofs.lemmas.Option.{same_Some}
use Rattle.atspi_match.specs.routing.Queues.{Bus}
use Rattle.atspi_trace.specs.World.{End, first_registry}
use Rattle.atspi_trace.specs.Ends.{end_at}
use Rattle.atspi_protocol.specs.following.ReaderState.{ReaderState, begins}
use Rattle.atspi_trace.specs.play.Breaking.{HasSpent, IsPast, IsSpent}
use Rattle.atspi_examples.specs.Players.{at_rest, busy_reader, five_ends, hearer, holder, idle_reader, named_app, nameless_app}
use Rattle.atspi_examples.proofs.broken.spent.Goals as goal

pub returns-clause-bus : goal.returns-clause-bus
returns-clause-bus c = λ b h. inl h

pub returns-clause-reader : goal.returns-clause-reader
returns-clause-reader c = λ b. inr (inr (1, record holder { next = 4294967297 }, refl, omega arith))

-- no end has, and no reader
no_end : (conn : ℕ) (e : End) → end_at (five_ends (busy_reader (hearer [] 21) [])) conn ≡ Some e → HasSpent e.role → ⊥
no_end zero e at h = few (subst (λ (x : End). HasSpent x.role) (sym (same_Some first_registry e at)) h)
  where
    few : 4294967296 < 4 → ⊥
    few k = omega (arith, k)
no_end (suc zero) e at h = few (subst (λ (x : End). HasSpent x.role) (sym (same_Some nameless_app e at)) h)
  where
    few : 4294967296 < 1 → ⊥
    few k = omega (arith, k)
no_end (suc (suc zero)) e at h = few (subst (λ (x : End). HasSpent x.role) (sym (same_Some named_app e at)) h)
  where
    few : 4294967296 < 1 → ⊥
    few k = omega (arith, k)
no_end (suc (suc (suc zero))) e at h = subst (λ (x : End). HasSpent x.role) (sym (same_Some idle_reader e at)) h
no_end (suc (suc (suc (suc zero)))) e at h = subst (λ (x : End). HasSpent x.role) (sym (same_Some (busy_reader (hearer [] 21) []) e at)) h
no_end (suc (suc (suc (suc (suc conn))))) e at h = absurd cc

no_reader : (r : ℕ) (s : ReaderState) → slice_get (begins ∷ holder ∷ []) r ≡ Some s → IsPast s.next → ⊥
no_reader zero s at h = few (subst (λ (x : ReaderState). IsPast x.next) (sym (same_Some begins s at)) h)
  where
    few : 4294967296 < begins.next → ⊥
    few k = omega (arith, k)
no_reader (suc zero) s at h = few (subst (λ (x : ReaderState). IsPast x.next) (sym (same_Some holder s at)) h)
  where
    few : 4294967296 < 21 → ⊥
    few k = omega (arith, k)
no_reader (suc (suc r)) s at h = absurd cc

nobody : (b : Bus) → (IsPast b.state.next → ⊥) → IsSpent (at_rest b) → ⊥
nobody b not (inl h) = not h
nobody b not (inr (inl x)) = no_end x.0 x.1 x.2 x.3
nobody b not (inr (inr x)) = no_reader x.0 x.1 x.2 x.3

pub returns-clause-nobody : goal.returns-clause-nobody
returns-clause-nobody c = nobody
