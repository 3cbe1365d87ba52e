-- A text at its first line feed.
use Rattle.std.proofs.Common.{◌≡◌, ◌≢◌, ℕ, suc, zero, ◌<◌, false, cond, eqb, List, [], ◌∷◌, length, get_or, take, drop, refl, ap, arith}
use Rattle.std.proofs.lemmas.Bool.{ne_eqb}
use Rattle.atspi_live_app.specs.Lines.{onto, lines_of}

-- no byte below i is a line feed
abbrev pub NoFeed : List ℕ → ℕ → Type 0
NoFeed xs i = (k : ℕ) → k < i → get_or xs k 0 ≢ 10

pub at_feed : (xs : List ℕ) (i : ℕ) → i < length xs → NoFeed xs i → get_or xs i 0 ≡ 10 → lines_of xs ≡ take i xs ∷ lines_of (drop (suc i) xs)
at_feed [] i h none at = absurd (omega arith)
at_feed (b ∷ bs) zero h none at = ap (λ x. cond (eqb x 10) ([] ∷ lines_of bs) (onto b (lines_of bs))) at
at_feed (b ∷ bs) (suc i) h none at =
    let r = at_feed bs i (omega arith) (λ k l. none (suc k) (omega arith)) at in
    let e : eqb b 10 ≡ false = ne_eqb b 10 (none 0 (omega arith)) in
    rw e (ap (onto b) r)

one_line : (b : ℕ) (bs : List ℕ) → NoFeed (b ∷ bs) (length (b ∷ bs)) → lines_of (b ∷ bs) ≡ (b ∷ bs) ∷ []
one_line b [] none =
    let e : eqb b 10 ≡ false = ne_eqb b 10 (none 0 (omega arith)) in
    rw e refl
one_line b (x ∷ xs) none =
    let e : eqb b 10 ≡ false = ne_eqb b 10 (none 0 (omega arith)) in
    rw e (ap (onto b) (one_line x xs (λ k l. none (suc k) (omega arith))))

pub last_line : (xs : List ℕ) → NoFeed xs (length xs) → 0 < length xs → lines_of xs ≡ xs ∷ []
last_line [] none h = absurd (omega arith)
last_line (b ∷ bs) none h = one_line b bs none
