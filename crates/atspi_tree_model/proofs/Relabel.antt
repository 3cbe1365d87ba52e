-- Relabelling goes through each of the forest's functions.
use Rattle.std.proofs.Common.{◌≡◌, ℕ, zero, suc, Bool, true, false, cond, Option, Some, None, refl, ap}
use Rattle.atspi_tree_model.specs.Forest.{Forest, nil, tree, count, has, join, put_at, put_place, put_if, put_in, take_out, pick, relabel, change, first_of, place, EachLabel}

pub relabel-join : {A B : Type 0} (h : A → B) (f g : Forest A)
    → join (relabel h f) (relabel h g) ≡ relabel h (join f g)
relabel-join h nil g = refl
relabel-join h (tree a c r) g = ap (tree (h a) (relabel h c)) (relabel-join h r g)

pub relabel-put_at : {A B : Type 0} (h : A → B) (i : ℕ) (g f : Forest A)
    → put_at i (relabel h g) (relabel h f) ≡ relabel h (put_at i g f)
relabel-put_at h zero g nil = refl
relabel-put_at h (suc i) g nil = refl
relabel-put_at h zero g (tree a c r) = relabel-join h g (tree a c r)
relabel-put_at h (suc i) g (tree a c r) = ap (tree (h a) (relabel h c)) (relabel-put_at h i g r)

pub relabel-put_place : {A B : Type 0} (h : A → B) (i : Option ℕ) (g f : Forest A)
    → put_place i (relabel h g) (relabel h f) ≡ relabel h (put_place i g f)
relabel-put_place h None g f = relabel-join h f g
relabel-put_place h (Some i) g f = relabel-put_at h i g f

relabel-put_if : {A B : Type 0} (h : A → B) (b : Bool) (i : Option ℕ) (g f : Forest A)
    → put_if b i (relabel h g) (relabel h f) ≡ relabel h (put_if b i g f)
relabel-put_if h true i g f = relabel-put_place h i g f
relabel-put_if h false i g f = refl

-- the test after the new labels is the test before
abbrev pub Same : {A B : Type 0} → (A → B) → (B → Bool) → (A → Bool) → Type 0
Same {A} h q p = (a : A) → q (h a) ≡ p a

pub relabel-put_in : {A B : Type 0} (h : A → B) (q : B → Bool) (p : A → Bool) → Same h q p
    → (i : Option ℕ) (g f : Forest A) → put_in q i (relabel h g) (relabel h f) ≡ relabel h (put_in p i g f)
relabel-put_in h q p e i g nil = refl
relabel-put_in h q p e i g (tree a c r) =
    rw (e a, relabel-put_in h q p e i g c, relabel-put_in h q p e i g r, relabel-put_if h (p a) i g (put_in p i g c)) refl

take_out_at : {A B : Type 0} (h : A → B) (b : Bool) (a : A) (c r : Forest A)
    → cond b (relabel h r) (tree (h a) (relabel h c) (relabel h r)) ≡ relabel h (cond b r (tree a c r))
take_out_at h true a c r = refl
take_out_at h false a c r = refl

pub relabel-take_out : {A B : Type 0} (h : A → B) (q : B → Bool) (p : A → Bool) → Same h q p → (f : Forest A)
    → take_out q (relabel h f) ≡ relabel h (take_out p f)
relabel-take_out h q p e nil = refl
relabel-take_out h q p e (tree a c r) =
    rw (e a, relabel-take_out h q p e c, relabel-take_out h q p e r) (take_out_at h (p a) a (take_out p c) (take_out p r))

pick_at : {A B : Type 0} (h : A → B) (b : Bool) (a : A) (c pc pr : Forest A)
    → cond b (tree (h a) (relabel h c) (relabel h pr)) (join (relabel h pc) (relabel h pr)) ≡ relabel h (cond b (tree a c pr) (join pc pr))
pick_at h true a c pc pr = refl
pick_at h false a c pc pr = relabel-join h pc pr

pub relabel-pick : {A B : Type 0} (h : A → B) (q : B → Bool) (p : A → Bool) → Same h q p → (f : Forest A)
    → pick q (relabel h f) ≡ relabel h (pick p f)
relabel-pick h q p e nil = refl
relabel-pick h q p e (tree a c r) =
    rw (e a, relabel-pick h q p e c, relabel-pick h q p e r) (pick_at h (p a) a c (pick p c) (pick p r))

pub has-relabel : {A B : Type 0} (h : A → B) (q : B → Bool) (p : A → Bool) → Same h q p → (f : Forest A)
    → has q (relabel h f) ≡ has p f
has-relabel h q p e nil = refl
has-relabel h q p e (tree a c r) = rw (e a, has-relabel h q p e c, has-relabel h q p e r) refl

pub count-relabel : {A B : Type 0} (h : A → B) (q : B → Bool) (p : A → Bool) → Same h q p → (f : Forest A)
    → count q (relabel h f) ≡ count p f
count-relabel h q p e nil = refl
count-relabel h q p e (tree a c r) = rw (e a, count-relabel h q p e c, count-relabel h q p e r) refl

pub relabel-relabel : {A B C : Type 0} (h : A → B) (k : B → C) (f : Forest A)
    → relabel k (relabel h f) ≡ relabel (λ a. k (h a)) f
relabel-relabel h k nil = refl
relabel-relabel h k (tree a c r) = rw (relabel-relabel h k c, relabel-relabel h k r) refl

-- two ways to relabel that agree on each label
pub relabel-same : {A B : Type 0} (h k : A → B) → ((a : A) → h a ≡ k a) → (f : Forest A) → relabel h f ≡ relabel k f
relabel-same h k e nil = refl
relabel-same h k e (tree a c r) = rw (e a, relabel-same h k e c, relabel-same h k e r) refl

change_at : {A B : Type 0} (h : A → B) (k : B → B) (j : A → A) (b : Bool) (a : A) → k (h a) ≡ h (j a)
    → cond b (k (h a)) (h a) ≡ h (cond b (j a) a)
change_at h k j true a e = e
change_at h k j false a e = refl

-- a change of the new labels is a change of the old ones
pub relabel-change : {A B : Type 0} (h : A → B) (q : B → Bool) (p : A → Bool) → Same h q p → (k : B → B) (j : A → A)
    → ((a : A) → k (h a) ≡ h (j a)) → (f : Forest A) → change q k (relabel h f) ≡ relabel h (change p j f)
relabel-change h q p s k j e nil = refl
relabel-change h q p s k j e (tree a c r) =
    rw (s a, relabel-change h q p s k j e c, relabel-change h q p s k j e r, change_at h k j (p a) a (e a)) refl

-- a relabelling that undoes nothing that is seen
pub relabel-unseen : {A B : Type 0} (h : A → B) (j : A → A) → ((a : A) → h (j a) ≡ h a) → (f : Forest A)
    → relabel h (relabel j f) ≡ relabel h f
relabel-unseen h j e nil = refl
relabel-unseen h j e (tree a c r) = rw (e a, relabel-unseen h j e c, relabel-unseen h j e r) refl

-- a seat, its parent named anew
abbrev pub renamed : {B C : Type 0} → (B → C) → Option (B × ℕ) → Option (C × ℕ)
renamed g None = None
renamed g (Some s) = Some (g s.0, s.1)

renamed_first : {B C : Type 0} (g : B → C) (b : Bool) (up : B) (i : ℕ) (x y : Option (B × ℕ))
    → cond b (Some (g up, i)) (first_of (renamed g x) (renamed g y)) ≡ renamed g (cond b (Some (up, i)) (first_of x y))
renamed_first g true up i x y = refl
renamed_first g false up i None y = refl
renamed_first g false up i (Some x) y = refl

pub place-relabel : {A A' B C : Type 0} (h : A → A') (q : A' → Bool) (p : A → Bool) → Same h q p
    → (g : B → C) (name' : A' → C) (name : A → B) → ((a : A) → name' (h a) ≡ g (name a))
    → (up : B) (i : ℕ) (f : Forest A) → place name' q (g up) i (relabel h f) ≡ renamed g (place name p up i f)
place-relabel h q p s g name' name e up i nil = refl
place-relabel h q p s g name' name e up i (tree a c r) =
    rw (s a, e a, place-relabel h q p s g name' name e (name a) 0 c, place-relabel h q p s g name' name e up (suc i) r)
    (renamed_first g (p a) up i (place name p (name a) 0 c) (place name p up (suc i) r))

-- a change that the new labels do not show
pub unseen-change : {A B : Type 0} (h : A → B) (p : A → Bool) (j : A → A) → ((a : A) → h (j a) ≡ h a)
    → (f : Forest A) → relabel h (change p j f) ≡ relabel h f
unseen-change {A = A} h p j e f = relabel-unseen h (λ a. cond (p a) (j a) a) (λ a. at a (p a)) f
  where
    at : (a : A) (b : Bool) → h (cond b (j a) a) ≡ h a
    at a true = e a
    at a false = refl

learn_at : {A B : Type 0} (h h' : A → B) (k : B → B) (a : A) (b : Bool) → (b ≡ true → k (h a) ≡ h' a)
    → (b ≡ false → h a ≡ h' a) → cond b (k (h a)) (h a) ≡ h' a
learn_at h h' k a true e f = e refl
learn_at h h' k a false e f = f refl

-- a change of the new labels that makes other new labels
pub relabel-learn : {A B : Type 0} (h h' : A → B) (q : B → Bool) (p : A → Bool) → Same h q p
    → (k : B → B) (f : Forest A) → EachLabel (λ a. p a ≡ true → k (h a) ≡ h' a) f
    → ((a : A) → p a ≡ false → h a ≡ h' a) → change q k (relabel h f) ≡ relabel h' f
relabel-learn h h' q p s k nil e o = refl
relabel-learn h h' q p s k (tree a c r) e o =
    rw (s a, relabel-learn h h' q p s k c e.1 o, relabel-learn h h' q p s k r e.2 o, learn_at h h' k a (p a) e.0 (o a)) refl
