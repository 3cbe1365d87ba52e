-- Why the next number of a host in memory is new.
use Rattle.std.proofs.Common.{◌≡◌, ◌≢◌, ℕ, ◌+◌, ◌<◌, ◌≤◌, ◌==◌, not, List, [], ◌∷◌, ◌++◌, Option, None, Some, refl, sym, ap, subst, ◌∙◌, inl, inr, zero, suc, arith}
use Rattle.std.proofs.lemmas.Bool.Decides.{eqb_tells}
use Rattle.std.specs.List.{filter}
use Rattle.atspi_live_host.specs.declared.call.Did.TheVariants.{Done}
use Rattle.atspi_live_host.specs.declared.call.Call.{Call}
use Rattle.atspi_live_host.specs.declared.call.Call.TheVariants.{Listen, Accept, Connect, Read, Write, Close}
use Rattle.atspi_live_host.specs.Calls.{takes, gives, taken, given, IsNew, Opens, IsUnused, Adds, IsOpen, without}
use Rattle.std.specs.List.{All}
use Rattle.std.proofs.lemmas.List.Elements.{All-head, All-tail, All-append}
use Rattle.atspi_live_host.specs.Numbers.{bound, ToldBelow}

differ : (a n : ℕ) → a < n → a ≢ n
differ a n h e = omega (arith, h)

pub below_new : (n : ℕ) (ls : List ℕ) → All (λ l. l < n) ls → IsNew n (ls)
below_new n [] p = tt
below_new n (l ∷ ls) p = (differ l n (All-head (λ l. l < n) l ls p), below_new n ls (All-tail (λ l. l < n) l ls p))

no_takes : (n : ℕ) (c : Call) → bound c ≤ n → takes n c ≡ []
no_takes n (Listen path did) p = refl
no_takes n (Accept did) p = refl
no_takes n (Connect path did) p = refl
no_takes n (Read link bytes did) p = elim (eqb_tells link n) [ inl e ↦ absurd (differ link n (omega (arith, p)) e.1) | inr e ↦ rw e.0 refl ]
no_takes n (Write link bytes did) p = refl
no_takes n (Close link) p = refl

no_gives : (n : ℕ) (c : Call) → bound c ≤ n → gives n c ≡ []
no_gives n (Listen path did) p = refl
no_gives n (Accept did) p = refl
no_gives n (Connect path did) p = refl
no_gives n (Read link bytes did) p = refl
no_gives n (Write link bytes did) p = elim (eqb_tells link n) [ inl e ↦ absurd (differ link n (omega (arith, p)) e.1) | inr e ↦ rw e.0 refl ]
no_gives n (Close link) p = refl

unused : (n : ℕ) (cs : List Call) → All (λ c. bound c ≤ n) cs → (taken n cs ≡ []) × (given n cs ≡ [])
unused n [] p = (refl, refl)
unused n (c ∷ cs) p =
    let q = unused n cs (All-tail (λ c. bound c ≤ n) c cs p) in
    let r : bound c ≤ n = All-head (λ c. bound c ≤ n) c cs p in
    (ap (λ w. w ++ taken n cs) (no_takes n c r) ∙ q.0, ap (λ w. w ++ given n cs) (no_gives n c r) ∙ q.1)

pub told_unused : (n : ℕ) (calls : Option (List Call)) → ToldBelow n calls → IsUnused calls (Done n)
told_unused n None p = tt
told_unused n (Some cs) p = unused n cs (p cs refl)

-- a call behind the others
All-one : {n : ℕ} (c : Call) → bound c ≤ n → All (λ c. bound c ≤ n) (c ∷ [])
All-one c q zero d h = q
All-one c q (suc k) d h = absurd (omega (arith, h))

all_more : (n : ℕ) (cs : List Call) (c : Call) → All (λ c. bound c ≤ n) cs → bound c ≤ n → All (λ c. bound c ≤ n) (cs ++ c ∷ [])
all_more n cs c p q = All-append (λ c. bound c ≤ n) cs (c ∷ []) p (All-one c q)

some : {X : Type 0} (x y : X) → Some x ≡ Some y → x ≡ y
some x y e = cc

pub told_more : (n m : ℕ) (a b : Option (List Call)) (c : Call) → n ≤ m → Adds a b c → bound c ≤ m → ToldBelow n a → ToldBelow m b
told_more n m a None c l h q p = λ cs e. absurd (no e)
  where
    no : {cs : List Call} → None ≡ Some cs → ⊥
    no e = cc
told_more n m None (Some b) c l h q p = absurd h
told_more n m (Some a) (Some b) c l h q p = λ cs e. subst (λ w. All (λ c. bound c ≤ m) w) (sym h ∙ some b cs e) (all_more m a c (λ k d i. omega (arith, p a refl k d i, l)) q)

pub joined : (ls : List ℕ) (n : ℕ) → All (λ l. l < n) ls → Opens ls (ls ++ n ∷ []) (Done n)
joined ls n p = (refl, below_new n ls p)

pub open_below : (n k : ℕ) (ls : List ℕ) → IsOpen k (ls) → All (λ l. l < n) ls → k + 1 ≤ n
open_below n k [] o p = absurd o
open_below n k (l ∷ ls) o p =
    let q : l < n = All-head (λ l. l < n) l ls p in
    elim o [ inl e ↦ omega (arith, e, q) | inr r ↦ open_below n k ls r (All-tail (λ l. l < n) l ls p) ]

pub without_filter : (ls : List ℕ) (k : ℕ) → filter (λ l. not (l == k)) ls ≡ without k ls
without_filter [] k = refl
without_filter (l ∷ ls) k = elim (eqb_tells l k) [ inl e ↦ rw e.0 (without_filter ls k) | inr e ↦ rw e.0 (ap (λ w. l ∷ w) (without_filter ls k)) ]

-- where nothing is told, nothing is above a number
pub told_nothing : (n : ℕ) (calls : Option (List Call)) → calls ≡ None → ToldBelow n calls
told_nothing n calls e = λ cs f. absurd (no cs (sym e ∙ f))
  where
    no : (cs : List Call) → None ≡ Some cs → ⊥
    no cs g = cc
