-- What is known of a row that was found.
use Rattle.std.proofs.Common.{◌≡◌, ℕ, zero, suc, ◌≤◌, Bool, true, false, cond, ◌&&◌, Option, Some, None, List, [], ◌∷◌, ◌++◌, refl, ap, ◌∙◌, subst}
use Rattle.std.specs.Prelude.{take, drop, filter}
use Rattle.std.specs.Option.{option_map}
use Rattle.atspi_tree_model.specs.Forest.{Forest, nil, tree, count, has, width, relabel, change, first_of, find, tops, children_at, EachLabel}
use Rattle.atspi_tree_model.specs.Row.{Each}
use Rattle.atspi_tree_model.proofs.Relabel.{Same, has-relabel}
use Rattle.atspi_tree_model.proofs.Found.{find-only}

-- what every label has, the one found has
pub each-find : {A : Type 0} (P : A → Type 0) (p : A → Bool) (f : Forest A) (x : A) → EachLabel P f
    → find p f ≡ Some x → P x
each-find P p nil x h e = cc
each-find {A = A} P p (tree a c r) x h e = at (p a) (find p c) (find p r) (each-find P p c x h.1) (each-find P p r x h.2) e
  where
    at : (b : Bool) (y z : Option A) → (y ≡ Some x → P x) → (z ≡ Some x → P x)
        → cond b (Some a) (first_of y z) ≡ Some x → P x
    at true y z hy hz e = let k : a ≡ x = cc in subst P k h.0
    at false None z hy hz e = hz e
    at false (Some y) z hy hz e = hy e

find_at : {A B : Type 0} (h : A → B) (b : Bool) (a : A) (x y : Option A)
    → cond b (Some (h a)) (first_of (option_map h x) (option_map h y)) ≡ option_map h (cond b (Some a) (first_of x y))
find_at h true a x y = refl
find_at h false a None y = refl
find_at h false a (Some x) y = refl

pub find-relabel : {A B : Type 0} (h : A → B) (q : B → Bool) (p : A → Bool) → Same h q p → (f : Forest A)
    → find q (relabel h f) ≡ option_map h (find p f)
find-relabel h q p e nil = refl
find-relabel h q p e (tree a c r) = rw (e a, find-relabel h q p e c, find-relabel h q p e r) (find_at h (p a) a (find p c) (find p r))

-- after a change of a row that passes before and after, the changed row is found
pub find-change : {A : Type 0} (p : A → Bool) (h : A → A) → ((a : A) → p (h a) ≡ p a) → (f : Forest A) (x : A)
    → find p f ≡ Some x → find p (change p h f) ≡ Some (h x)
find-change {A = A} p h same f x e =
    find-relabel (λ a. cond (p a) (h a) a) p p (λ a. at a (p a)) f ∙ (rw e (ap Some (here (p x) (passes))))
  where
    at : (a : A) (b : Bool) → p (cond b (h a) a) ≡ p a
    at a true = same a
    at a false = refl

    passes : p x ≡ true
    passes = each-find (λ a. p a ≡ true → p a ≡ true) p f x (each_id f) e (found f e)
      where
        each_id : (g : Forest A) → EachLabel (λ a. p a ≡ true → p a ≡ true) g
        each_id nil = tt
        each_id (tree a c r) = ((λ k. k), each_id c, each_id r)

        found : (g : Forest A) → find p g ≡ Some x → p x ≡ true
        found nil e = cc
        found (tree a c r) e = found_at (p a) refl (find p c) (find p r) (found c) (found r) e
          where
            found_at : (b : Bool) → p a ≡ b → (y z : Option A) → (y ≡ Some x → p x ≡ true)
                → (z ≡ Some x → p x ≡ true) → cond b (Some a) (first_of y z) ≡ Some x → p x ≡ true
            found_at true k y z hy hz e = let w : a ≡ x = cc in subst (λ v. p v ≡ true) w k
            found_at false k None z hy hz e = hz e
            found_at false k (Some y) z hy hz e = hy e

    here : (b : Bool) → b ≡ true → cond b (h x) x ≡ h x
    here true e = refl
    here false e = cc

-- a test of the one row that passes
has_only : {A : Type 0} (p test : A → Bool) (x : A) (f : Forest A) → EachLabel (λ a. p a ≡ true → a ≡ x) f
    → has (λ a. p a && test a) f ≡ has p f && test x
has_only p test x nil h = refl
has_only {A = A} p test x (tree a c r) h = at (p a) h.0 (has p c) (has p r) (has_only p test x c h.1) (has_only p test x r h.2)
  where
    at : (b : Bool) → (b ≡ true → a ≡ x) → (m n : Bool) → has (λ a. p a && test a) c ≡ m && test x
        → has (λ a. p a && test a) r ≡ n && test x
        → cond (b && test a) true (cond (has (λ a. p a && test a) c) true (has (λ a. p a && test a) r)) ≡ cond b true (cond m true n) && test x
    at true o m n hc hr = rw (o refl, hc, hr) (all (test x) m n)
      where
        all : (t m n : Bool) → cond t true (cond (m && t) true (n && t)) ≡ t
        all true m n = refl
        all false true n = none n
          where
            none : (n : Bool) → n && false ≡ false
            none true = refl
            none false = refl
        all false false true = refl
        all false false false = refl
    at false o true n hc hr = rw (hc, hr) (one (test x) n)
      where
        one : (t n : Bool) → cond t true (n && t) ≡ t
        one true n = refl
        one false true = refl
        one false false = refl
    at false o false n hc hr = rw (hc, hr) refl

pub test_found : {A : Type 0} (p test : A → Bool) (f : Forest A) (x : A) → count p f ≤ 1 → has p f ≡ true
    → find p f ≡ Some x → has (λ a. p a && test a) f ≡ test x
test_found p test f x l h e = has_only p test x f (find-only p f x l e) ∙ (rw h refl)

-- a test that is more than another
pub has-weaker : {A : Type 0} (p test : A → Bool) (f : Forest A) → has (λ a. p a && test a) f ≡ true → has p f ≡ true
has-weaker p test nil h = h
has-weaker {A = A} p test (tree a c r) h = at (p a) (test a) (has (λ a. p a && test a) c) (has-weaker p test c) (has-weaker p test r) h
  where
    at : (b t m : Bool) → (m ≡ true → has p c ≡ true) → (has (λ a. p a && test a) r ≡ true → has p r ≡ true)
        → cond (b && t) true (cond m true (has (λ a. p a && test a) r)) ≡ true
        → cond b true (cond (has p c) true (has p r)) ≡ true
    at true t m hc hr h = refl
    at false t true hc hr h = rw (hc refl) refl
    at false t false hc hr h = rw (hr h) (any (has p c))
      where
        any : (b : Bool) → cond b true true ≡ true
        any true = refl
        any false = refl

pub width-relabel : {A B : Type 0} (h : A → B) (f : Forest A) → width (relabel h f) ≡ width f
width-relabel h nil = refl
width-relabel h (tree a c r) = ap suc (width-relabel h r)

pub children-relabel : {A B : Type 0} (h : A → B) (q : B → Bool) (p : A → Bool) → Same h q p → (f : Forest A)
    → children_at q (relabel h f) ≡ relabel h (children_at p f)
children-relabel h q p e nil = refl
children-relabel {A = A} h q p e (tree a c r) = rw (e a, has-relabel h q p e c, children-relabel h q p e c, children-relabel h q p e r) (at (p a) (has p c))
  where
    at : (b d : Bool)
        → cond b (relabel h c) (cond d (relabel h (children_at p c)) (relabel h (children_at p r))) ≡ relabel h (cond b c (cond d (children_at p c) (children_at p r)))
    at true d = refl
    at false true = refl
    at false false = refl

-- what every label has, the children of a node have, and those at the top
pub each_children_at : {A : Type 0} (P : A → Type 0) (p : A → Bool) (f : Forest A) → EachLabel P f
    → EachLabel P (children_at p f)
each_children_at P p nil h = tt
each_children_at {A = A} P p (tree a c r) h = at (p a) (has p c) (each_children_at P p c h.1) (each_children_at P p r h.2)
  where
    at : (b d : Bool) → EachLabel P (children_at p c) → EachLabel P (children_at p r)
        → EachLabel P (cond b c (cond d (children_at p c) (children_at p r)))
    at true d hc hr = h.1
    at false true hc hr = hc
    at false false hc hr = hr

pub each_tops : {A : Type 0} (P : A → Type 0) (f : Forest A) → EachLabel P f → Each P (tops f)
each_tops P nil h = tt
each_tops P (tree a c r) h = (h.0, each_tops P r h.2)

pub each_take : {A : Type 0} (P : A → Type 0) (n : ℕ) (xs : List A) → Each P xs → Each P (take n xs)
each_take P zero xs h = tt
each_take P (suc n) [] h = tt
each_take P (suc n) (x ∷ xs) h = (h.0, each_take P n xs h.1)

pub each_drop : {A : Type 0} (P : A → Type 0) (n : ℕ) (xs : List A) → Each P xs → Each P (drop n xs)
each_drop P zero xs h = h
each_drop P (suc n) [] h = tt
each_drop P (suc n) (x ∷ xs) h = each_drop P n xs h.1

pub each_append : {A : Type 0} (P : A → Type 0) (xs ys : List A) → Each P xs → Each P ys → Each P (xs ++ ys)
each_append P [] ys h k = k
each_append P (x ∷ xs) ys h k = (h.0, each_append P xs ys h.1 k)

pub each_filter : {A : Type 0} (P : A → Type 0) (test : A → Bool) (xs : List A) → Each P xs → Each P (filter test xs)
each_filter P test [] h = tt
each_filter {A = A} P test (x ∷ xs) h = at (test x) (each_filter P test xs h.1)
  where
    at : (b : Bool) → Each P (filter test xs) → Each P (cond b (x ∷ filter test xs) (filter test xs))
    at true k = (h.0, k)
    at false k = k
