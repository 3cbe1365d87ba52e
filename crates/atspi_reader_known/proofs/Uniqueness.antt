-- What each change of the list keeps: no two applications have one name.
use Rattle.std.proofs.Common.{◌≡◌, ℕ, zero, suc, ◌<◌, Bool, true, false, cond, List, [], ◌∷◌, ◌++◌, filter, length, take, get_or, set, Some, None, refl, sym, ap, ◌∙◌, arith}
use Rattle.std.specs.Prelude.{◌||◌, ◌≤◌, nat_lt, bytes_eq}
use Rattle.std.specs.List.{list_any, position, position_or_len}
use Rattle.std.proofs.lemmas.Bool.{ltb-false}
use Rattle.std.proofs.lemmas.List.Sums.{fails_before_first}
use Rattle.std.proofs.lemmas.Slice.Eq.{bytes_eq-Decides}
use Rattle.std.proofs.lemmas.List.Quantifiers.{position-Some}
use Rattle.atspi_protocol.specs.following.ReaderState.{Followed, is_named}
use Rattle.atspi_protocol.specs.following.Replied.{changed}
use Rattle.atspi_protocol.specs.following.Takes.{found_in}
use Rattle.atspi_reader_known.specs.Unique.{AreUnique}

pub or_right : (a b : Bool) → (a || b) ≡ false → b ≡ false
or_right true b e = absurd cc
or_right false b e = e

pub or_left : (a b : Bool) → (a || b) ≡ false → a ≡ false
or_left true b e = absurd cc
or_left false b e = refl

pub or_none : (a b : Bool) → a ≡ false → b ≡ false → (a || b) ≡ false
or_none a b p q = rw (p, q) refl

module _ {X : Type 0} (p : X → Bool) where
  none_filter : (q : X → Bool) (xs : List X) → list_any p xs ≡ false → list_any p (filter q xs) ≡ false
  none_filter q [] e = refl
  none_filter q (x ∷ xs) e = by (q x) (none_filter q xs (or_right (p x) (list_any p xs) e))
    where
      by : (b : Bool) → list_any p (filter q xs) ≡ false → list_any p (cond b (x ∷ filter q xs) (filter q xs)) ≡ false
      by true h = or_none (p x) (list_any p (filter q xs)) (or_left (p x) (list_any p xs) e) h
      by false h = h

  none_take : (n : ℕ) (xs : List X) → list_any p xs ≡ false → list_any p (take n xs) ≡ false
  none_take zero [] e = refl
  none_take zero (x ∷ xs) e = refl
  none_take (suc n) [] e = refl
  none_take (suc n) (x ∷ xs) e = or_none (p x) (list_any p (take n xs)) (or_left (p x) (list_any p xs) e) (none_take n xs (or_right (p x) (list_any p xs) e))

  none_push : (x : X) (xs : List X) → list_any p xs ≡ false → p x ≡ false → list_any p (xs ++ x ∷ []) ≡ false
  none_push x [] e f = or_none (p x) false f refl
  none_push x (y ∷ xs) e f = or_none (p y) (list_any p (xs ++ x ∷ [])) (or_left (p y) (list_any p xs) e) (none_push x xs (or_right (p y) (list_any p xs) e) f)

pub unique_filter : (q : Followed → Bool) (apps : List Followed) → AreUnique apps → AreUnique (filter q apps)
unique_filter q [] u = tt
unique_filter q (a ∷ apps) u = by (q a) (unique_filter q apps u.1)
  where
    by : (b : Bool) → AreUnique (filter q apps) → AreUnique (cond b (a ∷ filter q apps) (filter q apps))
    by true h = (none_filter (is_named a.name) q apps u.0, h)
    by false h = h

pub unique_take : (n : ℕ) (apps : List Followed) → AreUnique apps → AreUnique (take n apps)
unique_take zero [] u = tt
unique_take zero (a ∷ apps) u = tt
unique_take (suc n) [] u = tt
unique_take (suc n) (a ∷ apps) u = (none_take (is_named a.name) n apps u.0, unique_take n apps u.1)

pub other_way : (a b : List ℕ) → bytes_eq a b ≡ false → bytes_eq b a ≡ false
other_way a b e = by (bytes_eq b a) refl
  where
    by : (t : Bool) → bytes_eq b a ≡ t → t ≡ false
    by false f = refl
    by true f = let z : bytes_eq a b ≡ true = (bytes_eq-Decides a b).1 (sym ((bytes_eq-Decides b a).0 f)) in cc

pub unique_push : (app : Followed) (apps : List Followed) → AreUnique apps → list_any (is_named app.name) apps ≡ false → AreUnique (apps ++ app ∷ [])
unique_push app [] u e = (refl, tt)
unique_push app (a ∷ apps) u e = (
  none_push (is_named a.name) app apps u.0 (other_way a.name app.name (or_left (bytes_eq a.name app.name) (list_any (is_named app.name) apps) e)),
  unique_push app apps u.1 (or_right (bytes_eq a.name app.name) (list_any (is_named app.name) apps) e),
)

-- where nobody has the name, nothing changes
pub changed_none : (f : Followed → Followed) (name : List ℕ) (apps : List Followed) → list_any (is_named name) apps ≡ false → changed f name apps ≡ apps
changed_none f name [] e = refl
changed_none f name (a ∷ apps) e = rw (or_left (is_named name a) (list_any (is_named name) apps) e, changed_none f name apps (or_right (is_named name a) (list_any (is_named name) apps) e)) refl

set_named : (name n : List ℕ) (apps : List Followed) (i : ℕ) (d b : Followed) → i < length apps → b.name ≡ (get_or apps i d).name
    → list_any (is_named n) (set apps i b) ≡ list_any (is_named n) apps
set_named name n [] i d b l e = refl
set_named name n (a ∷ apps) zero d b l e = ap (λ (m : List ℕ). bytes_eq m n || list_any (is_named n) apps) e
set_named name n (a ∷ apps) (suc i) d b l e = ap (λ (t : Bool). is_named n a || t) (set_named name n apps i d b (omega (arith, l)) e)

-- another one of the same name
pub unique_set : (apps : List Followed) (i : ℕ) (d b : Followed) → i < length apps → b.name ≡ (get_or apps i d).name → AreUnique apps → AreUnique (set apps i b)
unique_set [] i d b l e u = tt
unique_set (a ∷ apps) zero d b l e u = (ap (λ (m : List ℕ). list_any (is_named m) apps) e ∙ u.0, u.1)
unique_set (a ∷ apps) (suc i) d b l e u = (set_named a.name a.name apps i d b (omega (arith, l)) e ∙ u.0, unique_set apps i d b (omega (arith, l)) e u.1)

-- where the first of the name stands at an index, that one changes
pub changed_at : (f : Followed → Followed) (name : List ℕ) (apps : List Followed) (i : ℕ) (d : Followed)
    → i < length apps → is_named name (get_or apps i d) ≡ true → ((k : ℕ) → k < i → is_named name (get_or apps k d) ≡ false) → AreUnique apps
    → set apps i (f (get_or apps i d)) ≡ changed f name apps
changed_at f name [] i d l is before u = absurd (omega (arith, l))
changed_at f name (a ∷ apps) zero d l is before u =
    let same : a.name ≡ name = (bytes_eq-Decides a.name name).0 is in
    let none : list_any (is_named name) apps ≡ false = ap (λ (m : List ℕ). list_any (is_named m) apps) (sym same) ∙ u.0 in
    rw (is, changed_none f name apps none) refl
changed_at f name (a ∷ apps) (suc i) d l is before u =
    let first : is_named name a ≡ false = before 0 (omega arith) in
    let rest = changed_at f name apps i d (omega (arith, l)) is (λ k h. before (suc k) (omega (arith, h))) u.1 in
    rw (first, sym rest) refl

pub found_at : (name : List ℕ) (apps : List Followed) (i : ℕ) (d : Followed)
    → i < length apps → is_named name (get_or apps i d) ≡ true → ((k : ℕ) → k < i → is_named name (get_or apps k d) ≡ false)
    → found_in name apps ≡ Some (get_or apps i d)
found_at name [] i d l is before = absurd (omega (arith, l))
found_at name (a ∷ apps) zero d l is before = rw is refl
found_at name (a ∷ apps) (suc i) d l is before =
    rw (before 0 (omega arith)) (found_at name apps i d (omega (arith, l)) is (λ k h. before (suc k) (omega (arith, h))))

pub found_none : (name : List ℕ) (apps : List Followed) → list_any (is_named name) apps ≡ false → found_in name apps ≡ None
found_none name [] e = refl
found_none name (a ∷ apps) e = rw (or_left (is_named name a) (list_any (is_named name) apps) e) (found_none name apps (or_right (is_named name a) (list_any (is_named name) apps) e))

all_fail : {X : Type 0} (p : X → Bool) (d : X) (xs : List X) → ((k : ℕ) → k < length xs → p (get_or xs k d) ≡ false) → list_any p xs ≡ false
all_fail p d [] h = refl
all_fail p d (x ∷ xs) h = or_none (p x) (list_any p xs) (h 0 (omega arith)) (all_fail p d xs (λ k l. h (suc k) (omega (arith, l))))

-- where the first of a name stands, that one changes
pub first_at : (name : List ℕ) (apps now : List Followed) (i : ℕ) (d : Followed) → apps ≡ now → position (is_named name) now ≡ Some i
    → (i < length apps) × (is_named name (get_or apps i d) ≡ true) × ((k : ℕ) → k < i → is_named name (get_or apps k d) ≡ false)
first_at name apps now i d same pos = position-Some (is_named name) apps i d (ap (position (is_named name)) same ∙ pos)

pub set_changed : (f : Followed → Followed) (name : List ℕ) (apps now : List Followed) (i : ℕ) (d : Followed)
    → apps ≡ now → position (is_named name) now ≡ Some i → d ≡ get_or apps i d → AreUnique apps → set apps i (f d) ≡ changed f name now
set_changed f name apps now i d same pos v u =
    let at = first_at name apps now i d same pos in
    ap (λ (x : Followed). set apps i (f x)) v ∙ changed_at f name apps i d at.0 at.1 at.2 u ∙ ap (changed f name) same

pub set_unique : (name : List ℕ) (apps now : List Followed) (i : ℕ) (d b : Followed)
    → apps ≡ now → position (is_named name) now ≡ Some i → d ≡ get_or apps i d → b.name ≡ d.name → AreUnique apps → AreUnique (set apps i b)
set_unique name apps now i d b same pos v n u =
    let at = first_at name apps now i d same pos in
    unique_set apps i d b at.0 (n ∙ ap (λ (x : Followed). x.name) v) u

-- one of the same name is put in its place
pub put_unique : (apps now : List Followed) (i : ℕ) (d b : Followed)
    → apps ≡ now → position (is_named b.name) now ≡ Some i → d ≡ get_or apps i d → AreUnique apps → AreUnique (set apps i b)
put_unique apps now i d b same pos v u =
    let at = first_at b.name apps now i d same pos in
    let named : (get_or apps i d).name ≡ b.name = (bytes_eq-Decides (get_or apps i d).name b.name).0 at.1 in
    unique_set apps i d b at.0 (sym named) u

pub found_is : (name : List ℕ) (apps now : List Followed) (i : ℕ) (d : Followed)
    → apps ≡ now → position (is_named name) now ≡ Some i → d ≡ get_or apps i d → Some d ≡ found_in name now
found_is name apps now i d same pos v =
    let at = first_at name apps now i d same pos in
    ap Some v ∙ sym (found_at name apps i d at.0 at.1 at.2) ∙ ap (found_in name) same

-- no first one is none at all
pub position_none : {X : Type 0} (p : X → Bool) (d : X) (xs : List X) → position p xs ≡ None → list_any p xs ≡ false
position_none p d xs e = by (nat_lt (position_or_len p xs) (length xs)) refl e
  where
    by : (b : Bool) → nat_lt (position_or_len p xs) (length xs) ≡ b → cond b (Some (position_or_len p xs)) None ≡ None → list_any p xs ≡ false
    by true f e = absurd cc
    by false f e =
        let all : length xs ≤ position_or_len p xs = ltb-false (position_or_len p xs) (length xs) f in
        all_fail p d xs (λ k l. fails_before_first p xs k d (omega (arith, l, all)))

pub nobody : (name : List ℕ) (apps : List Followed) → position (is_named name) apps ≡ None → list_any (is_named name) apps ≡ false
nobody name [] e = refl
nobody name (a ∷ apps) e = position_none (is_named name) a (a ∷ apps) e

pub nobody_changes : (f : Followed → Followed) (name : List ℕ) (apps : List Followed) → position (is_named name) apps ≡ None → apps ≡ changed f name apps
nobody_changes f name apps e = sym (changed_none f name apps (nobody name apps e))
