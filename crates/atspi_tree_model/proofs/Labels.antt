-- What every label has, it has after each of the forest's operations.
use Rattle.std.proofs.Common.{ℕ, zero, suc, Bool, true, false, cond, Option, Some, None, List, [], ◌∷◌}
use Rattle.atspi_tree_model.specs.Forest.{Forest, nil, tree, join, put_at, put_place, put_if, put_in, take_out, pick, relabel, EachLabel}
use Rattle.atspi_tree_model.specs.Row.{Each}

pub each_both : {A : Type 0} (P Q : A → Type 0) (f : Forest A) → EachLabel P f → EachLabel Q f
    → EachLabel (λ a. P a × Q a) f
each_both P Q nil h k = tt
each_both P Q (tree a c r) h k = ((h.0, k.0), each_both P Q c h.1 k.1, each_both P Q r h.2 k.2)

each_join : {A : Type 0} (P : A → Type 0) (f g : Forest A) → EachLabel P f → EachLabel P g → EachLabel P (join f g)
each_join P nil g h k = k
each_join P (tree a c r) g h k = (h.0, h.1, each_join P r g h.2 k)

each_put_at : {A : Type 0} (P : A → Type 0) (i : ℕ) (g f : Forest A) → EachLabel P g → EachLabel P f
    → EachLabel P (put_at i g f)
each_put_at P zero g nil k h = k
each_put_at P (suc i) g nil k h = k
each_put_at P zero g (tree a c r) k h = each_join P g (tree a c r) k h
each_put_at P (suc i) g (tree a c r) k h = (h.0, h.1, each_put_at P i g r k h.2)

each_put_place : {A : Type 0} (P : A → Type 0) (i : Option ℕ) (g f : Forest A) → EachLabel P g → EachLabel P f
    → EachLabel P (put_place i g f)
each_put_place P None g f k h = each_join P f g h k
each_put_place P (Some i) g f k h = each_put_at P i g f k h

each_put_if : {A : Type 0} (P : A → Type 0) (b : Bool) (i : Option ℕ) (g f : Forest A) → EachLabel P g
    → EachLabel P f → EachLabel P (put_if b i g f)
each_put_if P true i g f k h = each_put_place P i g f k h
each_put_if P false i g f k h = h

pub each_put_in : {A : Type 0} (P : A → Type 0) (q : A → Bool) (i : Option ℕ) (g f : Forest A) → EachLabel P g
    → EachLabel P f → EachLabel P (put_in q i g f)
each_put_in P q i g nil k h = tt
each_put_in P q i g (tree a c r) k h =
    (h.0, each_put_if P (q a) i g (put_in q i g c) k (each_put_in P q i g c k h.1), each_put_in P q i g r k h.2)

pub each_take_out : {A : Type 0} (P : A → Type 0) (p : A → Bool) (f : Forest A) → EachLabel P f
    → EachLabel P (take_out p f)
each_take_out P p nil h = tt
each_take_out P p (tree a c r) h = at (p a) (each_take_out P p c h.1) (each_take_out P p r h.2)
  where
    at : (b : Bool) → EachLabel P (take_out p c) → EachLabel P (take_out p r)
        → EachLabel P (cond b (take_out p r) (tree a (take_out p c) (take_out p r)))
    at true hc hr = hr
    at false hc hr = (h.0, hc, hr)

pub each_pick : {A : Type 0} (P : A → Type 0) (p : A → Bool) (f : Forest A) → EachLabel P f → EachLabel P (pick p f)
each_pick P p nil h = tt
each_pick P p (tree a c r) h = at (p a) (each_pick P p c h.1) (each_pick P p r h.2)
  where
    at : (b : Bool) → EachLabel P (pick p c) → EachLabel P (pick p r)
        → EachLabel P (cond b (tree a c (pick p r)) (join (pick p c) (pick p r)))
    at true hc hr = (h.0, h.1, hr)
    at false hc hr = each_join P (pick p c) (pick p r) hc hr

pub each_relabel : {A B : Type 0} (P : B → Type 0) (h : A → B) (f : Forest A) → EachLabel (λ a. P (h a)) f
    → EachLabel P (relabel h f)
each_relabel P h nil e = tt
each_relabel P h (tree a c r) e = (e.0, each_relabel P h c e.1, each_relabel P h r e.2)

pub each_of_relabel : {A B : Type 0} (P : B → Type 0) (h : A → B) (f : Forest A) → EachLabel P (relabel h f)
    → EachLabel (λ a. P (h a)) f
each_of_relabel P h nil e = tt
each_of_relabel P h (tree a c r) e = (e.0, each_of_relabel P h c e.1, each_of_relabel P h r e.2)

-- of lists: from one property to another
pub each_weaker : {A : Type 0} (P Q : A → Type 0) → ((a : A) → P a → Q a) → (xs : List A) → Each P xs → Each Q xs
each_weaker P Q w [] e = tt
each_weaker P Q w (x ∷ xs) e = (w x e.0, each_weaker P Q w xs e.1)
