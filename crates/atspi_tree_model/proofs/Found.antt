-- Counts, the first that passes, and the only one.
use Rattle.std.proofs.Common.{◌≡◌, ℕ, zero, suc, ◌+◌, ◌≤◌, Bool, true, false, cond, Option, Some, None, refl, ap, ◌∙◌, subst, arith}
use Rattle.atspi_tree_model.specs.Forest.{Forest, nil, tree, count, has, take_out, relabel, change, first_of, find, EachLabel}

-- a test at a node and below it
data Where (p : Bool) : Type 0 where
  here : p ≡ true → Where p
  not_here : p ≡ false → Where p

where_of : (b : Bool) → Where b
where_of true = here refl
where_of false = not_here refl

has_at : (b : Bool) (c r : Bool) (m n : ℕ) → (c ≡ true → 1 ≤ m) → (r ≡ true → 1 ≤ n)
    → cond b true (cond c true r) ≡ true → 1 ≤ cond b 1 0 + (m + n)
has_at true c r m n hc hr h = omega arith
has_at false true r m n hc hr h = let k : 1 ≤ m = hc refl in omega arith
has_at false false r m n hc hr h = let k : 1 ≤ n = hr h in omega arith

pub count-has : {A : Type 0} (p : A → Bool) (f : Forest A) → has p f ≡ true → 1 ≤ count p f
count-has p nil h = cc
count-has p (tree a c r) h = has_at (p a) (has p c) (has p r) (count p c) (count p r) (count-has p c) (count-has p r) h

has_from_at : (b c r : Bool) (m n : ℕ) → (1 ≤ m → c ≡ true) → (1 ≤ n → r ≡ true) → 1 ≤ cond b 1 0 + (m + n)
    → cond b true (cond c true r) ≡ true
has_from_at true c r m n hc hr h = refl
has_from_at false true r m n hc hr h = refl
has_from_at false false r zero n hc hr h = hr (omega arith)
has_from_at false false r (suc m) n hc hr h = let e : false ≡ true = hc (omega arith) in cc

pub has-count : {A : Type 0} (p : A → Bool) (f : Forest A) → 1 ≤ count p f → has p f ≡ true
has-count p nil h = absurd (omega arith)
has-count p (tree a c r) h = has_from_at (p a) (has p c) (has p r) (count p c) (count p r) (has-count p c) (has-count p r) h

pub not_there : {A : Type 0} (p : A → Bool) (f : Forest A) → count p f ≡ 0 → has p f ≡ false
not_there p f z = at (has p f) refl
  where
    at : (b : Bool) → has p f ≡ b → has p f ≡ false
    at true e = let k = count-has p f e in absurd (omega arith)
    at false e = e

-- none passes
pub none_passes : {A : Type 0} (p : A → Bool) (P : A → Type 0) (f : Forest A) → count p f ≡ 0
    → EachLabel (λ a. p a ≡ true → P a) f
none_passes p P nil h = tt
none_passes p P (tree a c r) h = (
  (λ e. let k : cond {A = ℕ} (p a) 1 0 ≡ 1 = ap (λ b. cond {A = ℕ} b 1 0) e in absurd (omega arith)),
  none_passes p P c (omega arith),
  none_passes p P r (omega arith),
)

pub find-none : {A : Type 0} (p : A → Bool) (f : Forest A) → find p f ≡ None → count p f ≡ 0
find-none p nil h = refl
find-none {A = A} p (tree a c r) h = at (p a) (find p c) (find p r) (count p c) (count p r) (find-none p c) (find-none p r) h
  where
    at : (b : Bool) (x y : Option A) (m n : ℕ) → (x ≡ None → m ≡ 0) → (y ≡ None → n ≡ 0)
        → cond b (Some a) (first_of x y) ≡ None → cond b 1 0 + (m + n) ≡ 0
    at true x y m n hc hr h = cc
    at false None y m n hc hr h = let k : m ≡ 0 = hc refl in let l : n ≡ 0 = hr h in omega arith
    at false (Some x) y m n hc hr h = cc

-- what is found passes
pub find-passes : {A : Type 0} (p : A → Bool) (f : Forest A) (x : A) → find p f ≡ Some x
    → (p x ≡ true) × (1 ≤ count p f)
find-passes p nil x h = cc
find-passes {A = A} p (tree a c r) x h = at (p a) refl (find p c) (find p r) (count p c) (count p r) (find-passes p c x) (find-passes p r x) h
  where
    at : (b : Bool) → p a ≡ b → (y z : Option A) (m n : ℕ) → (y ≡ Some x → (p x ≡ true) × (1 ≤ m))
        → (z ≡ Some x → (p x ≡ true) × (1 ≤ n)) → cond b (Some a) (first_of y z) ≡ Some x
        → (p x ≡ true) × (1 ≤ cond b 1 0 + (m + n))
    at true e y z m n hc hr h = (let k : a ≡ x = cc in subst (λ y. p y ≡ true) k e, omega arith)
    at false e None z m n hc hr h = ((hr h).0, let k : 1 ≤ n = (hr h).1 in omega arith)
    at false e (Some y) z m n hc hr h = ((hc h).0, let k : 1 ≤ m = (hc h).1 in omega arith)

pub find-has : {A : Type 0} (p : A → Bool) (f : Forest A) → 1 ≤ count p f → (x : A) × (find p f ≡ Some x)
find-has {A = A} p f h = at (find p f) refl
  where
    at : (o : Option A) → find p f ≡ o → (x : A) × (find p f ≡ Some x)
    at None e = let k : count p f ≡ 0 = find-none p f e in absurd (omega arith)
    at (Some x) e = (x, e)

-- what is found below the first node or beside it
only_at : {A : Type 0} (p : A → Bool) (a x : A) (c r : Forest A) (y z : Option A) (b : Bool) → p a ≡ b
    → cond b 1 0 + (count p c + count p r) ≤ 1
    → find p c ≡ y → find p r ≡ z
    → (find p c ≡ Some x → EachLabel (λ a. p a ≡ true → a ≡ x) c)
    → (find p r ≡ Some x → EachLabel (λ a. p a ≡ true → a ≡ x) r)
    → cond b (Some a) (first_of y z) ≡ Some x → EachLabel (λ a. p a ≡ true → a ≡ x) (tree a c r)
only_at p a x c r y z true e l ey ez hc hr h =
    let k : a ≡ x = cc in
    ((λ _. k), none_passes p (λ a. a ≡ x) c (omega arith), none_passes p (λ a. a ≡ x) r (omega arith))
only_at p a x c r None z false e l ey ez hc hr h =
    let k : count p c ≡ 0 = find-none p c ey in
    ((λ t. cc), none_passes p (λ a. a ≡ x) c k, hr (ez ∙ h))
only_at p a x c r (Some y) z false e l ey ez hc hr h =
    let k : 1 ≤ count p c = (find-passes p c y ey).1 in
    ((λ t. cc), hc (ey ∙ h), none_passes p (λ a. a ≡ x) r (omega arith))

-- the one that is found is the only one
pub find-only : {A : Type 0} (p : A → Bool) (f : Forest A) (x : A) → count p f ≤ 1 → find p f ≡ Some x
    → EachLabel (λ a. p a ≡ true → a ≡ x) f
find-only p nil x l h = tt
find-only p (tree a c r) x l h =
    only_at p a x c r (find p c) (find p r) (p a) refl l refl refl (find-only p c x (omega arith)) (find-only p r x (omega arith)) h

-- nothing is taken out where nothing passes
pub take_out-none : {A : Type 0} (p : A → Bool) (f : Forest A) → count p f ≡ 0 → take_out p f ≡ f
take_out-none p nil h = refl
take_out-none p (tree a c r) h = at (p a) (take_out-none p c (omega arith)) (take_out-none p r (omega arith)) h
  where
    at : (b : Bool) → take_out p c ≡ c → take_out p r ≡ r → cond b 1 0 + (count p c + count p r) ≡ 0
        → cond b (take_out p r) (tree a (take_out p c) (take_out p r)) ≡ tree a c r
    at true hc hr h = absurd (omega arith)
    at false hc hr h = rw (hc, hr) refl

-- a change that leaves alone each label that passes
pub change-same : {A B : Type 0} (h : A → B) (q : B → Bool) (p : A → Bool) (k : B → B) → ((a : A) → q (h a) ≡ p a)
    → (f : Forest A) → EachLabel (λ a. p a ≡ true → k (h a) ≡ h a) f → change q k (relabel h f) ≡ relabel h f
change-same h q p k s nil e = refl
change-same {B = B} h q p k s (tree a c r) e = rw (s a, change-same h q p k s c e.1, change-same h q p k s r e.2, at (p a) e.0) refl
  where
    at : (b : Bool) → (b ≡ true → k (h a) ≡ h a) → cond {A = B} b (k (h a)) (h a) ≡ h a
    at true e = e refl
    at false e = refl

-- each label is counted by its own test
pub each_counted : {A : Type 0} (test : A → A → Bool) → ((a : A) → test a a ≡ true) → (f whole : Forest A)
    → ((p : A → Bool) → count p f ≤ count p whole) → EachLabel (λ a. 1 ≤ count (test a) whole) f
each_counted test self nil whole le = tt
each_counted {A = A} test self (tree a c r) whole le = (
  at (test a a) (self a) (le (test a)),
  each_counted test self c whole (λ p. let k : count p (tree a c r) ≤ count p whole = le p in omega arith),
  each_counted test self r whole (λ p. let k : count p (tree a c r) ≤ count p whole = le p in omega arith),
)
  where
    at : (b : Bool) → b ≡ true → cond b 1 0 + (count (test a) c + count (test a) r) ≤ count (test a) whole
        → 1 ≤ count (test a) whole
    at true e l = omega arith
    at false e l = cc

pub EachLabel-weaker : {A : Type 0} (P Q : A → Type 0) → ((a : A) → P a → Q a) → (f : Forest A) → EachLabel P f
    → EachLabel Q f
EachLabel-weaker P Q w nil e = tt
EachLabel-weaker P Q w (tree a c r) e = (w a e.0, EachLabel-weaker P Q w c e.1, EachLabel-weaker P Q w r e.2)
