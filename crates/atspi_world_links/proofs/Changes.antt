-- One entry of a list changes.
use Rattle.std.proofs.Common.{◌≡◌, ℕ, zero, suc, ◌<◌, ◌≤◌, List, [], ◌∷◌, length, map, set, get_or, Some, refl, sym, ap, arith}
use Rattle.std.specs.Prelude.{slice_get}
use Rattle.std.specs.Option.{option_map}
use Rattle.atspi_world_links.specs.Changes.{changed_at}

module _ {X : Type 0} where
  pub changed_past : (f : X → X) (xs : List X) (i : ℕ) → length xs ≤ i → changed_at i f xs ≡ xs
  changed_past f [] i h = refl
  changed_past f (x ∷ xs) zero h = absurd (omega (arith, h))
  changed_past f (x ∷ xs) (suc i) h = ap (λ l. x ∷ l) (changed_past f xs i (omega (arith, h)))

  pub changed_set : (f : X → X) (xs : List X) (i : ℕ) (d : X) → i < length xs → set xs i (f (get_or xs i d)) ≡ changed_at i f xs
  changed_set f [] i d h = absurd (omega (arith, h))
  changed_set f (x ∷ xs) zero d h = refl
  changed_set f (x ∷ xs) (suc i) d h = ap (λ l. x ∷ l) (changed_set f xs i d (omega (arith, h)))

  -- an entry that was just set
  pub changed-set : (f : X → X) (xs : List X) (i : ℕ) (y : X) → changed_at i f (set xs i y) ≡ set xs i (f y)
  changed-set f [] zero y = refl
  changed-set f [] (suc i) y = refl
  changed-set f (x ∷ xs) zero y = refl
  changed-set f (x ∷ xs) (suc i) y = ap (λ l. x ∷ l) (changed-set f xs i y)

  -- an entry is set to what it is
  pub set_same : (xs : List X) (i : ℕ) (x : X) → slice_get xs i ≡ Some x → set xs i x ≡ xs
  set_same [] zero x h = refl
  set_same [] (suc i) x h = refl
  set_same (y ∷ ys) zero x h = let same : y ≡ x = cc in ap (λ z. z ∷ ys) (sym same)
  set_same (y ∷ ys) (suc i) x h = ap (λ l. y ∷ l) (set_same ys i x h)

  pub length-changed : (f : X → X) (xs : List X) (i : ℕ) → length (changed_at i f xs) ≡ length xs
  length-changed f [] i = refl
  length-changed f (x ∷ xs) zero = refl
  length-changed f (x ∷ xs) (suc i) = ap suc (length-changed f xs i)

module _ {X Y : Type 0} (g : X → Y) where
  pub map-changed : (f : X → X) (h : Y → Y) → ((x : X) → g (f x) ≡ h (g x)) → (xs : List X) (i : ℕ) → map g (changed_at i f xs) ≡ changed_at i h (map g xs)
  map-changed f h e [] i = refl
  map-changed f h e (x ∷ xs) zero = ap (λ y. y ∷ map g xs) (e x)
  map-changed f h e (x ∷ xs) (suc i) = ap (λ l. g x ∷ l) (map-changed f h e xs i)

  pub map-kept : (f : X → X) → ((x : X) → g (f x) ≡ g x) → (xs : List X) (i : ℕ) → map g (changed_at i f xs) ≡ map g xs
  map-kept f e [] i = refl
  map-kept f e (x ∷ xs) zero = ap (λ y. y ∷ map g xs) (e x)
  map-kept f e (x ∷ xs) (suc i) = ap (λ l. g x ∷ l) (map-kept f e xs i)

  -- the entry that changes is known
  pub map-changed_known : (f : X → X) (xs : List X) (i : ℕ) (x : X) → slice_get xs i ≡ Some x → map g (changed_at i f xs) ≡ set (map g xs) i (g (f x))
  map-changed_known f [] zero x h = refl
  map-changed_known f [] (suc i) x h = refl
  map-changed_known f (y ∷ ys) zero x h = let same : y ≡ x = cc in ap (λ z. g (f z) ∷ map g ys) same
  map-changed_known f (y ∷ ys) (suc i) x h = ap (λ l. g y ∷ l) (map-changed_known f ys i x h)

  pub get-map : (xs : List X) (i : ℕ) → slice_get (map g xs) i ≡ option_map g (slice_get xs i)
  get-map [] zero = refl
  get-map [] (suc i) = refl
  get-map (x ∷ xs) zero = refl
  get-map (x ∷ xs) (suc i) = get-map xs i
