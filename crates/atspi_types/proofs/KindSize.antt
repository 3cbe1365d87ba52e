-- The size of a type, which falls from a container to the types in it.
use Rattle.std.proofs.Common.{◌≡◌, ℕ, zero, suc, ◌+◌, ◌<◌, List, [], ◌∷◌, Some, ap, arith}
use Rattle.std.specs.List.{slice_get}
use Rattle.atspi_types.specs.Kinds.{Kind, Kinds, no_kinds, kind, number, boolean, text, path, signature, array, structure, variant, dictionary, kinds_of}

abbrev mutual
  -- how many types stand in a type, in all
  pub kind_size : Kind → ℕ
  kind_size (number n) = 0
  kind_size boolean = 0
  kind_size text = 0
  kind_size path = 0
  kind_size signature = 0
  kind_size (array k) = suc (kind_size k)
  kind_size (structure ks) = suc (kind_sizes ks)
  kind_size variant = 0
  kind_size (dictionary k v) = suc (kind_size k + kind_size v)

  pub kind_sizes : Kinds → ℕ
  kind_sizes no_kinds = 0
  kind_sizes (kind k ks) = suc (kind_size k + kind_sizes ks)

pub kind_size_at : (ks : List Kind) (i : ℕ) (k : Kind) → slice_get ks i ≡ Some k → kind_size k < kind_sizes (kinds_of ks)
kind_size_at [] i k e = absurd cc
kind_size_at (x ∷ ks) zero k e = let same : x ≡ k = cc in omega (arith, ap kind_size same)
kind_size_at (x ∷ ks) (suc i) k e = let below = kind_size_at ks i k e in omega (arith, below)
