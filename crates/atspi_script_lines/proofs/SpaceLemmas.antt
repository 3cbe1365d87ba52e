-- Words without a space.
use Rattle.std.proofs.Common.{◌≡◌, ◌≢◌, ℕ, zero, suc, ◌<◌, Bool, true, false, not, ◌&&◌, ◌==◌, List, [], ◌∷◌, ◌++◌, length, get_or, take, drop, Some, refl, sym, ap, subst, ◌∙◌, arith}
use Rattle.std.proofs.lemmas.Bool.{false≢true}
use Rattle.std.specs.Prelude.{slice_get}
use Rattle.std.specs.List.{list_all}
use Rattle.std.specs.Char.{is_ascii_digit}
use Rattle.std.specs.Str.{all_ascii_digits}
use Rattle.atspi_script_lines.specs.inner.Reading.{HasNoSpace}
use Rattle.atspi_script_lines.specs.Words.{IsBehind}

pub and_right : (a b : Bool) → a && b ≡ true → b ≡ true
and_right true b h = h
and_right false b h = absurd (false≢true h)

pub and_left : (a b : Bool) → a && b ≡ true → a ≡ true
and_left true b h = refl
and_left false b h = absurd (false≢true h)

-- no byte below i is a space
abbrev pub NoneBefore : List ℕ → ℕ → Type 0
NoneBefore bytes i = (k : ℕ) → k < i → get_or bytes k 0 ≢ 32

pub no_space_before : (bytes : List ℕ) (i : ℕ) → NoneBefore bytes i → HasNoSpace (take i bytes)
no_space_before bytes zero none = tt
no_space_before [] (suc i) none = tt
no_space_before (b ∷ bytes) (suc i) none = (none 0 (omega arith), no_space_before bytes i (λ k l. none (suc k) (omega arith)))

-- no byte at all is one
pub no_space_at_all : (bytes : List ℕ) → NoneBefore bytes (length bytes) → HasNoSpace bytes
no_space_at_all [] none = tt
no_space_at_all (b ∷ bytes) none = (none 0 (omega arith), no_space_at_all bytes (λ k l. none (suc k) (omega arith)))

-- what begins with the space at i
pub behind_at : (bytes : List ℕ) (i : ℕ) → i < length bytes → get_or bytes i 0 ≡ 32 → IsBehind (drop i bytes)
behind_at [] i l e = absurd (omega arith)
behind_at (b ∷ bytes) zero l e = e
behind_at (b ∷ bytes) (suc i) l e = behind_at bytes i (omega arith) e

-- a word and what may stand behind it: there is one way to cut them
pub one_cut : (u v x y : List ℕ) → HasNoSpace u → HasNoSpace v → IsBehind x → IsBehind y → u ++ x ≡ v ++ y → (u ≡ v) × (x ≡ y)
one_cut [] [] x y p q s t e = (refl, e)
one_cut [] (b ∷ v) [] y p q s t e = cc
one_cut [] (b ∷ v) (c ∷ x) y p q s t e = let h : c ≡ b = cc in absurd (q.0 (sym h ∙ s))
one_cut (a ∷ u) [] x [] p q s t e = cc
one_cut (a ∷ u) [] x (c ∷ y) p q s t e = let h : a ≡ c = cc in absurd (p.0 (h ∙ t))
one_cut (a ∷ u) (b ∷ v) x y p q s t e =
    let f : u ++ x ≡ v ++ y = cc in
    let h : a ≡ b = cc in
    let r = one_cut u v x y p.1 q.1 s t f in
    (ap (λ w. a ∷ w) r.0 ∙ ap (λ c. c ∷ v) h, r.1)

-- a test for words
abbrev pub has_no_space : List ℕ → Bool
has_no_space bytes = list_all (λ b. not (b == 32)) bytes

not_space : (b : ℕ) → not (b == 32) ≡ true → b ≡ 32 → ⊥
not_space b h e = let f : not (32 == 32) ≡ true = subst (λ n. not (n == 32) ≡ true) e h in false≢true f

pub tested_no_space : (bytes : List ℕ) → has_no_space bytes ≡ true → HasNoSpace bytes
tested_no_space [] h = tt
tested_no_space (b ∷ bs) h = (not_space b (and_left (not (b == 32)) (list_all (λ c. not (c == 32)) bs) h), tested_no_space bs (and_right (not (b == 32)) (list_all (λ c. not (c == 32)) bs) h))

pub all_true : {X : Type 0} (p : X → Bool) (xs : List X) (r : ℕ) (x : X) → list_all p xs ≡ true → slice_get xs r ≡ Some x → p x ≡ true
all_true p [] r x h e = cc
all_true p (y ∷ ys) zero x h e = let is : y ≡ x = cc in subst (λ z. p z ≡ true) is (and_left (p y) (list_all p ys) h)
all_true p (y ∷ ys) (suc r) x h e = all_true p ys r x (and_right (p y) (list_all p ys) h) e

digit_no_space : (b : ℕ) (more : Bool) → b ≡ 32 → is_ascii_digit b && more ≡ true → ⊥
digit_no_space b more e h = let f : is_ascii_digit 32 && more ≡ true = subst (λ n. is_ascii_digit n && more ≡ true) e h in false≢true f

pub digits_no_space : (ds : List ℕ) → all_ascii_digits ds ≡ true → HasNoSpace ds
digits_no_space [] h = tt
digits_no_space (b ∷ bs) h = (λ e. digit_no_space b (all_ascii_digits bs) e h, digits_no_space bs (and_right (is_ascii_digit b) (all_ascii_digits bs) h))
