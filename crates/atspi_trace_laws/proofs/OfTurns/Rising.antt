-- Connections in order of joining: their numbers rise, and so do those of the receivers of a message.
use Rattle.std.proofs.Common.{◌≡◌, ℕ, suc, ◌<◌, ◌≤◌, Bool, true, false, List, [], ◌∷◌, ◌++◌, Option, None, Some, refl, subst, arith}
use Rattle.std.specs.Prelude.{◌==◌, filter, if◌then◌else◌}
use Rattle.atspi_message.specs.Envelope.{Envelope}
use Rattle.atspi_names.specs.Queue.{owner_in}
use Rattle.atspi_names.specs.Owners.{list_of}
use Rattle.atspi_match.specs.routing.BusState.{BusState}
use Rattle.atspi_match.specs.routing.Routing.{asks_for, one_or_none, receivers}

-- numbers that rise, from this one on, and below another
abbrev pub Rises : ℕ → ℕ → List ℕ → Type 0
Rises low high [] = Unit {0}
Rises low high (x ∷ xs) = (low ≤ x) × (x < high) × Rises (suc x) high xs

pub lower : (low less high : ℕ) (xs : List ℕ) → less ≤ low → Rises low high xs → Rises less high xs
lower low less high [] h r = tt
lower low less high (x ∷ xs) h r = let first : low ≤ x = r.0 in (omega (arith, h, first), r.1, r.2)

pub higher : (low high more : ℕ) (xs : List ℕ) → high ≤ more → Rises low high xs → Rises low more xs
higher low high more [] h r = tt
higher low high more (x ∷ xs) h r = let below : x < high = r.1 in (r.0, omega (arith, h, below), higher (suc x) high more xs h r.2)

pub rises_filter : (f : ℕ → Bool) (low high : ℕ) (xs : List ℕ) → Rises low high xs → Rises low high (filter f xs)
rises_filter f low high [] r = tt
rises_filter f low high (x ∷ xs) r = by (f x) (rises_filter f (suc x) high xs r.2)
  where
    by : (b : Bool) → Rises (suc x) high (filter f xs) → Rises low high (if b then x ∷ filter f xs else filter f xs)
    by true h = (r.0, r.1, h)
    by false h = let first : low ≤ x = r.0 in lower (suc x) low high (filter f xs) (omega (arith, first)) h

-- one more at the end
pub rises_last : (low n : ℕ) (xs : List ℕ) → low ≤ n → Rises low n xs → Rises low (suc n) (xs ++ n ∷ [])
rises_last low n [] h r = (h, omega arith, tt)
rises_last low n (x ∷ xs) h r = let below : x < n = r.1 in (r.0, omega (arith, below), rises_last (suc x) n xs (omega (arith, below)) r.2)

-- the receivers of a message rise as the connections do
pub receivers_rise : (s : BusState) (e : Envelope) (high : ℕ) → Rises 0 high s.joined → (conns : List ℕ) → receivers s e ≡ conns → (high : ℕ) × Rises 0 high conns
receivers_rise s e high r conns is = subst (λ l. (h : ℕ) × Rises 0 h l) is (by e.destination refl)
  where
    one : (o : Option ℕ) → (h : ℕ) × Rises 0 h (one_or_none o)
    one None = (0, tt)
    one (Some c) = (suc c, (omega arith, omega arith, tt))

    all : (f : ℕ → Bool) (b : Bool) → (h : ℕ) × Rises 0 h (if b then filter f s.joined else [])
    all f true = (high, rises_filter f 0 high s.joined r)
    all f false = (0, tt)

    by : (o : Option (List ℕ)) → e.destination ≡ o → (h : ℕ) × Rises 0 h (receivers s e)
    by (Some name) h = rw h (one (owner_in (list_of s.owners.lists name)))
    by None h = rw h (all (asks_for s (record e { destination = None })) (e.kind == 4))
