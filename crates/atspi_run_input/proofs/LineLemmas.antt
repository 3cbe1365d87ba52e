-- A text at its first line feed.
use Rattle.std.proofs.Common.{◌≡◌, ◌≢◌, ℕ, suc, zero, ◌<◌, Bool, true, false, cond, eqb, List, [], ◌∷◌, length, get_or, take, drop, refl, ap, arith, length-drop}
use Rattle.std.proofs.lemmas.Bool.{ne_eqb}
use Rattle.atspi_run_input.specs.Lines.{onto, onto_whole, lines_of, whole_lines, FirstLine}

-- no byte below i is a line feed
abbrev pub NoFeed : List ℕ → ℕ → Type 0
NoFeed xs i = (k : ℕ) → k < i → get_or xs k 0 ≢ 10

record AtFeed (xs line rest : List ℕ) : Type 0 where
  all : lines_of xs ≡ line ∷ lines_of rest
  whole : whole_lines xs ≡ line ∷ whole_lines rest

at_feed : (xs : List ℕ) (i : ℕ) → i < length xs → NoFeed xs i → get_or xs i 0 ≡ 10 → AtFeed xs (take i xs) (drop (suc i) xs)
at_feed [] i h none at = absurd (omega arith)
at_feed (b ∷ bs) zero h none at =
    record {
      all = ap (λ x. cond (eqb x 10) ([] ∷ lines_of bs) (onto b (lines_of bs))) at;
      whole = ap (λ x. cond (eqb x 10) ([] ∷ whole_lines bs) (onto_whole b (whole_lines bs))) at;
    }
at_feed (b ∷ bs) (suc i) h none at =
    let r = at_feed bs i (omega arith) (λ k l. none (suc k) (omega arith)) at in
    let e : eqb b 10 ≡ false = ne_eqb b 10 (none 0 (omega arith)) in
    record { all = rw e (ap (onto b) r.all); whole = rw e (ap (onto_whole b) r.whole) }

pub first_line : (ended : Bool) (xs : List ℕ) (i : ℕ) → i < length xs → NoFeed xs i → get_or xs i 0 ≡ 10 → FirstLine ended xs (take i xs) (drop (suc i) xs)
first_line true xs i h none at = record { shorter = omega (arith, length-drop (suc i) xs); lines = (at_feed xs i h none at).all }
first_line false xs i h none at = record { shorter = omega (arith, length-drop (suc i) xs); lines = (at_feed xs i h none at).whole }

pub no_whole : (xs : List ℕ) → NoFeed xs (length xs) → whole_lines xs ≡ []
no_whole [] none = refl
no_whole (b ∷ bs) none =
    let e : eqb b 10 ≡ false = ne_eqb b 10 (none 0 (omega arith)) in
    rw e (ap (onto_whole b) (no_whole bs (λ k l. none (suc k) (omega arith))))

one_line : (b : ℕ) (bs : List ℕ) → NoFeed (b ∷ bs) (length (b ∷ bs)) → lines_of (b ∷ bs) ≡ (b ∷ bs) ∷ []
one_line b [] none =
    let e : eqb b 10 ≡ false = ne_eqb b 10 (none 0 (omega arith)) in
    rw e refl
one_line b (x ∷ xs) none =
    let e : eqb b 10 ≡ false = ne_eqb b 10 (none 0 (omega arith)) in
    rw e (ap (onto b) (one_line x xs (λ k l. none (suc k) (omega arith))))

pub last_line : (xs : List ℕ) → NoFeed xs (length xs) → 0 < length xs → lines_of xs ≡ xs ∷ []
last_line [] none h = absurd (omega arith)
last_line (b ∷ bs) none h = one_line b bs none
