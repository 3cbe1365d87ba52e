-- Walks along the links: their pieces, and what a new link leaves of them.
use Rattle.std.proofs.Common.{◌≡◌, ◌≢◌, ℕ, suc, zero, ◌+◌, ◌-◌, ◌<◌, ◌≤◌, List, [], ◌∷◌, ◌++◌, Bool, true, false, cond, eqb, length, get_or, set, take, drop, refl, sym, ap, ◌∙◌, subst, arith, zero-add, eq-eqb}
use Rattle.std.proofs.lemmas.List.{get_or-set_same, get_or-set_other, take_at, drop_at}
use Rattle.std.proofs.lemmas.List.Sums.{sum_by-cons, sum_by-append, sum_by-take-le, sum_by-take-drop}
use Rattle.atspi_pool.specs.Links.{times}
use Rattle.atspi_pool.specs.Walk.{walk}

-- the block so many links behind one
abbrev pub jump : List ℕ → ℕ → ℕ → ℕ
jump next b zero = b
jump next b (suc n) = jump next (get_or next b 0) n

pub times-cons : (x y : ℕ) (ys : List ℕ) → times x (y ∷ ys) ≡ cond (eqb y x) 1 0 + times x ys
times-cons x y ys = sum_by-cons _ y ys

pub times-append : (x : ℕ) (xs ys : List ℕ) → times x (xs ++ ys) ≡ times x xs + times x ys
times-append x xs ys = sum_by-append _ xs ys

rest_none : (b : Bool) (m : ℕ) → cond b 1 0 + m ≡ 0 → m ≡ 0
rest_none true m h = omega arith
rest_none false m h = omega arith

pub other_head : (x y : ℕ) (ys : List ℕ) → times x (y ∷ ys) ≡ 0 → y ≢ x
other_head x y ys h same =
    let e : 1 + times x ys ≡ 0 = subst (λ b. cond b 1 0 + times x ys ≡ 0) (eq-eqb y x same) (sym (times-cons x y ys) ∙ h) in
    absurd (omega arith)

pub none_behind : (x y : ℕ) (ys : List ℕ) → times x (y ∷ ys) ≡ 0 → times x ys ≡ 0
none_behind x y ys h = rest_none (eqb y x) (times x ys) (sym (times-cons x y ys) ∙ h)

pub times_here : (x : ℕ) (ys : List ℕ) → times x (x ∷ ys) ≡ 1 + times x ys
times_here x ys = times-cons x x ys ∙ ap (λ b. cond b 1 0 + times x ys) (eq-eqb x x refl)

pub length-walk : (next : List ℕ) (b n : ℕ) → length (walk next b n) ≡ n
length-walk next b zero = refl
length-walk next b (suc n) = ap suc (length-walk next (get_or next b 0) n)

pub walk_add : (next : List ℕ) (b m n : ℕ) → walk next b (m + n) ≡ walk next b m ++ walk next (jump next b m) n
walk_add next b zero n = ap (walk next b) (zero-add n)
walk_add next b (suc m) n =
    let e : suc m + n ≡ suc (m + n) = omega arith in
    ap (walk next b) e ∙ ap (λ w. b ∷ w) (walk_add next (get_or next b 0) m n)

pub get_or-walk : (next : List ℕ) (b i n : ℕ) → i < n → get_or (walk next b n) i 0 ≡ jump next b i
get_or-walk next b i zero h = absurd (omega arith)
get_or-walk next b zero (suc n) h = refl
get_or-walk next b (suc i) (suc n) h = let l : i < n = omega arith in get_or-walk next (get_or next b 0) i n l

pub jump_more : (next : List ℕ) (b n : ℕ) → jump next b (suc n) ≡ get_or next (jump next b n) 0
jump_more next b zero = refl
jump_more next b (suc n) = jump_more next (get_or next b 0) n

pub walk-set : (next : List ℕ) (t v b n : ℕ) → times t (walk next b n) ≡ 0 → walk (set next t v) b n ≡ walk next b n
walk-set next t v b zero h = refl
walk-set next t v b (suc n) h =
    let e = get_or-set_other next t b v 0 (other_head t b (walk next (get_or next b 0) n) h) in
    ap (λ w. b ∷ w)
    (ap (λ g. walk (set next t v) g n) e ∙ walk-set next t v (get_or next b 0) n (none_behind t b (walk next (get_or next b 0) n) h))

pub jump-set : (next : List ℕ) (t v b n : ℕ) → times t (walk next b n) ≡ 0 → jump (set next t v) b n ≡ jump next b n
jump-set next t v b zero h = refl
jump-set next t v b (suc n) h =
    let e = get_or-set_other next t b v 0 (other_head t b (walk next (get_or next b 0) n) h) in
    ap (λ g. jump (set next t v) g n) e ∙ jump-set next t v (get_or next b 0) n (none_behind t b (walk next (get_or next b 0) n) h)

pub take-walk : (next : List ℕ) (b k n : ℕ) → k ≤ n → take k (walk next b n) ≡ walk next b k
take-walk next b k n h =
    let e : n ≡ k + (n - k) = omega arith in
    ap (λ m. take k (walk next b m)) e ∙ ap (take k) (walk_add next b k (n - k)) ∙ take_at _ _ k (length-walk next b k)

pub drop-walk : (next : List ℕ) (b k n : ℕ) → k ≤ n → drop k (walk next b n) ≡ walk next (jump next b k) (n - k)
drop-walk next b k n h =
    let e : n ≡ k + (n - k) = omega arith in
    ap (λ m. drop k (walk next b m)) e ∙ ap (drop k) (walk_add next b k (n - k)) ∙ drop_at _ _ k (length-walk next b k)

-- a walk is what comes before a place, the block there, and what comes behind it
pub times-walk : (next : List ℕ) (b k n x : ℕ) → k < n
    → times x (walk next b n) ≡ times x (walk next b k) + (times x (jump next b k ∷ walk next (jump next b (suc k)) (n - suc k)))
times-walk next b k n x h =
    let e : n ≡ k + suc (n - suc k) = omega arith in
    ap (λ m. times x (walk next b m)) e ∙ ap (times x) (walk_add next b k (suc (n - suc k))) ∙ times-append x (walk next b k) _
    ∙ ap (λ j. times x (walk next b k) + times x (jump next b k ∷ walk next j (n - suc k))) (sym (jump_more next b k))

-- the block at a place stands in the walk
pub times-jump : (next : List ℕ) (b k n : ℕ) → k < n → 1 ≤ times (jump next b k) (walk next b n)
times-jump next b k n h =
    omega (arith, times-walk next b k n (jump next b k) h, times_here (jump next b k) (walk next (jump next b (suc k)) (n - suc k)))

-- where a block stands once, it stands neither before its place nor behind it
pub none_before : (next : List ℕ) (b k n : ℕ) → k < n → times (jump next b k) (walk next b n) ≤ 1 → times (jump next b k) (walk next b k) ≡ 0
none_before next b k n h once =
    omega (arith, times-walk next b k n (jump next b k) h, times_here (jump next b k) (walk next (jump next b (suc k)) (n - suc k)))

pub none_after : (next : List ℕ) (b k n : ℕ) → k < n → times (jump next b k) (walk next b n) ≤ 1
    → times (jump next b k) (walk next (jump next b (suc k)) (n - suc k)) ≡ 0
none_after next b k n h once =
    omega (arith, times-walk next b k n (jump next b k) h, times_here (jump next b k) (walk next (jump next b (suc k)) (n - suc k)))

-- a new link from the end of one walk to the beginning of another joins them
pub walk_joined : (next : List ℕ) (b n g m : ℕ) → jump next b n < length next → times (jump next b n) (walk next b n) ≡ 0
    → times (jump next b n) (walk next g m) ≡ 0
    → walk (set next (jump next b n) g) b (suc n + m) ≡ walk next b (suc n) ++ walk next g m
walk_joined next b n g m within front other =
    let t : ℕ = jump next b n in
    let now : List ℕ = set next (jump next b n) g in
    let lone : (ls : List ℕ) → walk ls b (suc n) ≡ walk ls b n ++ jump ls b n ∷ [] =
    λ ls. let e : suc n ≡ n + 1 = omega arith in ap (walk ls b) e ∙ walk_add ls b n 1 in
    let place = jump-set next t g b n front in
    let left : walk now b (suc n) ≡ walk next b (suc n) =
    lone now ∙ ap (λ w. w ++ jump now b n ∷ []) (walk-set next t g b n front)
    ∙ ap (λ j. walk next b n ++ j ∷ []) place ∙ sym (lone next) in
    let right : jump now b (suc n) ≡ g =
    jump_more now b n ∙ ap (λ j. get_or now j 0) place ∙ get_or-set_same next t g 0 within in
    walk_add now b (suc n) m ∙ ap (λ w. w ++ walk now (jump now b (suc n)) m) left
    ∙ ap (λ w. walk next b (suc n) ++ w) (ap (λ j. walk now j m) right ∙ walk-set next t g g m other)

pub jump_add : (next : List ℕ) (b m n : ℕ) → jump next (jump next b m) n ≡ jump next b (m + n)
jump_add next b zero n = ap (jump next b) (sym (zero-add n))
jump_add next b (suc m) n =
    let e : suc (m + n) ≡ suc m + n = omega arith in
    jump_add next (get_or next b 0) m n ∙ ap (jump next b) e

pub times-take : (x k : ℕ) (xs : List ℕ) → times x xs ≡ 0 → times x (take k xs) ≡ 0
times-take x k xs h = let le : times x (take k xs) ≤ times x xs = sum_by-take-le _ xs k in omega arith

pub times-drop : (x k : ℕ) (xs : List ℕ) → times x xs ≡ 0 → times x (drop k xs) ≡ 0
times-drop x k xs h =
    let e : times x (take k xs) + times x (drop k xs) ≡ times x xs = sum_by-take-drop _ xs k in omega arith

-- one link more, of a block that stands nowhere yet
same_before : (next : List ℕ) (v b : ℕ) → b ≢ length next → get_or (next ++ v ∷ []) b 0 ≡ get_or next b 0
same_before [] v zero ne = absurd (ne refl)
same_before [] v (suc b) ne = refl
same_before (x ∷ xs) v zero ne = refl
same_before (x ∷ xs) v (suc b) ne = same_before xs v b (λ e. ne (ap suc e))

pub walk-push : (next : List ℕ) (v b n : ℕ) → times (length next) (walk next b n) ≡ 0 → walk (next ++ v ∷ []) b n ≡ walk next b n
walk-push next v b zero h = refl
walk-push next v b (suc n) h =
    let e = same_before next v b (other_head (length next) b (walk next (get_or next b 0) n) h) in
    ap (λ w. b ∷ w)
    (ap (λ g. walk (next ++ v ∷ []) g n) e ∙ walk-push next v (get_or next b 0) n (none_behind (length next) b (walk next (get_or next b 0) n) h))
