-- What a fault of the bus, or want of memory, comes to behind a `?`.
use Rattle.std.proofs.Common.{◌≡◌, Err, refl, sym, ◌∙◌}
use Rattle.std.specs.Prelude.{Result, Ok}
use Rattle.std.specs.Result.{IsErrAnd}
use Rattle.atspi_bus_steps.specs.declared.fault.BusFault.{BusFault}
use Rattle.atspi_bus_steps.specs.declared.fault.BusFault.TheVariants as bus
use Rattle.atspi_world_moves.specs.declared.fault.CarryFault.{CarryFault}
use Rattle.atspi_world_moves.specs.declared.fault.CarryFault.TheVariants.{Spent, RegistryLost}
use Rattle.atspi_world_moves.specs.Faults.{of_bus}

pub spent_is : (f : BusFault) → of_bus f ≡ Spent → f ≡ bus.Spent
spent_is bus.Spent h = refl
spent_is bus.NoMemory h = absurd cc

pub never_lost : (f : BusFault) → of_bus f ≡ RegistryLost → ⊥
never_lost bus.Spent h = absurd cc
never_lost bus.NoMemory h = absurd cc

module _ {T : Type 0} where
  pub same_fault : (r : Result T CarryFault) (f e : CarryFault) → IsErrAnd r (λ x. x ≡ f) → r ≡ Err e → f ≡ e
  same_fault (Ok x) f e is h = absurd is
  same_fault (Err x) f e is h = let same : x ≡ e = cc in sym is ∙ same

  pub bus_spent : (r : Result T CarryFault) (f : BusFault) → IsErrAnd r (λ x. x ≡ of_bus f) → r ≡ Err Spent → f ≡ bus.Spent
  bus_spent r f is h = spent_is f (same_fault r (of_bus f) Spent is h)

  pub bus_lost : (r : Result T CarryFault) (f : BusFault) → IsErrAnd r (λ x. x ≡ of_bus f) → r ≡ Err RegistryLost → ⊥
  bus_lost r f is h = never_lost f (same_fault r (of_bus f) RegistryLost is h)
