-- What is said where a bus stops, and where a listen failed.
use Rattle.std.proofs.Common.{◌≡◌, ℕ, List, [], ◌∷◌, ◌++◌, Option, None, Some, refl, sym, ap, subst, ◌∙◌}
use Rattle.atspi_match.specs.routing.Queues as queues
use Rattle.atspi_live_host.specs.declared.call.Did.{Did}
use Rattle.atspi_live_host.specs.declared.call.Call.{Call}
use Rattle.atspi_live_host.specs.declared.call.Call.TheVariants.{Listen}
use Rattle.atspi_live_host.specs.Calls.{Adds}
use Rattle.atspi_live_bus.specs.Service.{HasNoCall, HasSpent, IsService, IsStopped, OfTold}
use Rattle.atspi_live_bus.specs.declared.stop.Stop.{Stop}
use Rattle.atspi_live_bus.specs.declared.stop.Stop.TheVariants as stops
use Rattle.atspi_live_bus.proofs.Calling.{told_map}

-- at each stop
pub service_stopped : (stop : Stop) (calls : Option (List Call)) → OfTold (IsStopped stop) calls → OfTold IsService calls
service_stopped stops.HostFailed calls s = s
service_stopped stops.Spent calls s = told_map HasSpent IsService calls (λ cs h. h.service) s
service_stopped stops.NoMemory calls s = s

-- a listen that failed
pub nothing_served : (path : List ℕ) (did : Did) (calls calls' : Option (List Call)) → OfTold HasNoCall calls → Adds calls calls' (Listen path did) → OfTold IsService calls'
nothing_served path did calls None n a = tt
nothing_served path did None (Some ds) n a = absurd a
nothing_served path did (Some cs) (Some ds) n a =
    subst (λ (w : List Call). IsService w) (sym (a ∙ ap (λ (w : List Call). w ++ Listen path did ∷ []) n))
    (record { asked = []; bus = queues.empty_bus 16777216; run = refl; conn = λ k. None; apart = λ j k c e f. absurd (no c e); said = λ k. (refl, refl) })
  where
    no : (c : ℕ) → None ≡ Some c → ⊥
    no c e = cc
