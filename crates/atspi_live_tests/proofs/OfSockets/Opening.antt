-- A link that was given is open.
use Rattle.std.proofs.Common.{◌≡◌, ℕ, List, [], ◌∷◌, ◌++◌, refl, sym, subst, inl, inr}
use Rattle.atspi_live_host.specs.Calls.{IsOpen, Opens}
use Rattle.atspi_live_host.specs.declared.call.Did.TheVariants.{Done}

last : (ks : List ℕ) (k : ℕ) → IsOpen k (ks ++ k ∷ [])
last [] k = inl refl
last (j ∷ js) k = inr (last js k)

pub opened : (old new : List ℕ) (k : ℕ) → Opens old new (Done k) → IsOpen k new
opened old new k o = subst (λ (ks : List ℕ). IsOpen k ks) (sym o.0) (last old k)
