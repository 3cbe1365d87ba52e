-- Counts in forests, and what relabelling leaves alone.
use Rattle.std.proofs.Common.{◌≡◌, ℕ, zero, suc, ◌+◌, ◌*◌, Bool, true, false, cond, Option, Some, None, refl, arith}
use Rattle.atspi_tree_model.specs.Forest.{Forest, nil, tree, count, join, put_at, put_place, put_if, put_in, take_out, pick}

pub count-join : {A : Type 0} (p : A → Bool) (f g : Forest A) → count p (join f g) ≡ count p f + count p g
count-join p nil g = omega arith
count-join p (tree a c r) g = omega (arith, count-join p r g)

pub count-put_at : {A : Type 0} (p : A → Bool) (i : ℕ) (g f : Forest A)
    → count p (put_at i g f) ≡ count p f + count p g
count-put_at p zero g nil = omega arith
count-put_at p (suc i) g nil = omega arith
count-put_at p zero g (tree a c r) = omega (arith, count-join p g (tree a c r))
count-put_at p (suc i) g (tree a c r) = omega (arith, count-put_at p i g r)

pub count-put_place : {A : Type 0} (p : A → Bool) (i : Option ℕ) (g f : Forest A)
    → count p (put_place i g f) ≡ count p f + count p g
count-put_place p None g f = count-join p f g
count-put_place p (Some i) g f = count-put_at p i g f

count-put_if : {A : Type 0} (p : A → Bool) (b : Bool) (i : Option ℕ) (g f : Forest A)
    → count p (put_if b i g f) ≡ count p f + cond b 1 0 * count p g
count-put_if p true i g f = omega (arith, count-put_place p i g f)
count-put_if p false i g f = omega arith

pub count-put_in : {A : Type 0} (p q : A → Bool) (i : Option ℕ) (g f : Forest A)
    → count p (put_in q i g f) ≡ count p f + count q f * count p g
count-put_in p q i g nil = omega arith
count-put_in p q i g (tree a c r) = omega (arith, count-put_if p (q a) i g (put_in q i g c), count-put_in p q i g c, count-put_in p q i g r)

parts_at : {A : Type 0} (p : A → Bool) (b : Bool) (a : A) (c r pc pr tc tr : Forest A)
    → count p pc + count p tc ≡ count p c → count p pr + count p tr ≡ count p r
    → count p (cond b (tree a c pr) (join pc pr)) + count p (cond b tr (tree a tc tr)) ≡ count p (tree a c r)
parts_at p true a c r pc pr tc tr hc hr = omega arith
parts_at p false a c r pc pr tc tr hc hr = omega (arith, count-join p pc pr)

pub count-parts : {A : Type 0} (p q : A → Bool) (f : Forest A)
    → count p (pick q f) + count p (take_out q f) ≡ count p f
count-parts p q nil = refl
count-parts p q (tree a c r) =
    parts_at p (q a) a c r (pick q c) (pick q r) (take_out q c) (take_out q r) (count-parts p q c) (count-parts p q r)
