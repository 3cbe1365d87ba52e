-- The numbers of links that are open.
use Rattle.std.proofs.Common.{◌≡◌, ◌≢◌, ℕ, ◌<◌, ◌==◌, not, List, [], ◌∷◌, ◌++◌, map, refl, ap, inl, inr, suc, arith, zero, ◌∙◌, slice_index_or, slice_set}
use Rattle.std.specs.List.{All}
use Rattle.std.proofs.lemmas.List.{map-append}
use Rattle.atspi_live_host.specs.declared.call.Did.TheVariants.{Done}
use Rattle.atspi_live_host.specs.Calls.{IsNew, Opens, without}
use Rattle.std.specs.List.{filter}
use Rattle.std.proofs.lemmas.Bool.Decides.{eqb_tells}
use Rattle.atspi_live_sockets.specs.Numbers.{numbers}
use Rattle.atspi_live_sockets.specs.declared.open_link.Open.{Open}

below_new : (os : List Open) (n : ℕ) → All (λ o. o.number < n) os → IsNew n (map (λ o. o.number) os)
below_new [] n p = tt
below_new (o ∷ os) n p = (differs, below_new os n (λ k d h. p (suc k) d (omega arith)))
  where
    below : o.number < n
    below = p 0 o (omega arith)

    differs : o.number ≢ n
    differs e = omega (arith, below)

pub pushed_opens : (os : List Open) (o : Open) → All (λ p. p.number < o.number) os → Opens (map (λ o. o.number) os) (map (λ o. o.number) (os ++ o ∷ [])) (Done o.number)
pushed_opens os o p = (map-append (λ o. o.number) os (o ∷ []), below_new os o.number p)

pub without_filter : (os : List Open) (k : ℕ) → numbers (filter (λ o. not (o.number == k)) os) ≡ without k (numbers os)
without_filter [] k = refl
without_filter (o ∷ os) k = elim (eqb_tells o.number k) [ inl e ↦ rw e.0 (without_filter os k) | inr e ↦ rw e.0 (ap (λ w. o.number ∷ w) (without_filter os k)) ]

-- a link that keeps its number is put into its place
pub numbers_set : (os : List Open) (i : ℕ) (o p : Open) → o ≡ slice_index_or os i o → p.number ≡ o.number → numbers (slice_set os i p) ≡ numbers os
numbers_set [] zero o p is same = refl
numbers_set [] (suc i) o p is same = refl
numbers_set (x ∷ os) zero o p is same = ap (λ n. n ∷ numbers os) (same ∙ ap (λ (w : Open). w.number) is)
numbers_set (x ∷ os) (suc i) o p is same = ap (λ ns. x.number ∷ ns) (numbers_set os i o p is same)
