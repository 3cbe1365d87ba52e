-- Runs of bytes that pass a test.
use Rattle.std.proofs.Common.{◌≡◌, ℕ, suc, ◌+◌, ◌≤◌, List, [], ◌∷◌, ◌++◌, length, take, drop, Bool, true, false, refl, sym, ap, subst, ◌∙◌, arith}
use Rattle.std.specs.List.{prefix_len}
use Rattle.std.proofs.lemmas.List.{take-append-drop}
use Rattle.std.proofs.lemmas.List.Sums.{prefix_len-le-length}
use Rattle.atspi_match.specs.Grammar.{Are, Begins}

pub one_suc : (n : ℕ) → 1 + n ≡ suc n
one_suc n = omega arith

-- the bytes before the first that fails pass
pub passes : (p : ℕ → Bool) (xs : List ℕ) → Are p (take (prefix_len p xs) xs)
passes p [] = tt
passes p (x ∷ xs) = by (p x) refl (passes p xs)
  where
    by : (t : Bool) → p x ≡ t → Are p (take (prefix_len p xs) xs) → Are p (take (prefix_len p (x ∷ xs)) (x ∷ xs))
    by true e h = rw (e, one_suc (prefix_len p xs)) (e, h)
    by false e h = rw e tt

-- and the next one fails
pub stops : (p : ℕ → Bool) (xs : List ℕ) → Begins p (drop (prefix_len p xs) xs) → ⊥
stops p [] = λ h. h
stops p (x ∷ xs) = by (p x) refl (stops p xs)
  where
    by : (t : Bool) → p x ≡ t → (Begins p (drop (prefix_len p xs) xs) → ⊥) → Begins p (drop (prefix_len p (x ∷ xs)) (x ∷ xs)) → ⊥
    by true e h = rw (e, one_suc (prefix_len p xs)) h
    by false e h = rw e (λ (b : p x ≡ true). let c : false ≡ true = sym e ∙ b in cc)

-- where the bytes end that pass is known by the bytes
pub run_unique : (p : ℕ → Bool) (xs zs ys ws : List ℕ) → Are p xs → Are p zs → (Begins p ys → ⊥) → (Begins p ws → ⊥) → xs ++ ys ≡ zs ++ ws → (xs ≡ zs) × (ys ≡ ws)
run_unique p [] [] ys ws a b m n e = (refl, e)
run_unique p [] (z ∷ zs) ys ws a b m n e = absurd (m (subst (λ l. Begins p l) (sym e) b.0))
run_unique p (x ∷ xs) [] ys ws a b m n e = absurd (n (subst (λ l. Begins p l) e a.0))
run_unique p (x ∷ xs) (z ∷ zs) ys ws a b m n e =
    let heads : x ≡ z = cc in
    let tails : xs ++ ys ≡ zs ++ ws = cc in
    let r = run_unique p xs zs ys ws a.1 b.1 m n tails in
    let rest : xs ≡ zs = r.0 in
    (cc, r.1)

-- what begins behind some bytes
pub begins-append : (p : ℕ → Bool) (xs t u : List ℕ) → (Begins p u → Begins p t) → Begins p (xs ++ u) → Begins p (xs ++ t)
begins-append p [] t u k b = k b
begins-append p (x ∷ xs) t u k b = b

pub not_begins-append : (p : ℕ → Bool) (xs t : List ℕ) → (Begins p xs → ⊥) → (Begins p t → ⊥) → Begins p (xs ++ t) → ⊥
not_begins-append p [] t k m b = m b
not_begins-append p (x ∷ xs) t k m b = k b

-- the first n bytes, in front of the others
pub front_back : (n : ℕ) (xs : List ℕ) → xs ≡ take n xs ++ drop n xs
front_back n xs = sym (take-append-drop n xs)
