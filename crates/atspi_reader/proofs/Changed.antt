-- Changes of one application of a list: in which order they are done, what they keep, and what is wanted after them.
use Rattle.std.proofs.Common.{◌≡◌, ℕ, Bool, true, false, cond, not, List, [], ◌∷◌, ◌++◌, filter, Some, None, refl, sym, ap, ◌∙◌}
use Rattle.std.specs.Prelude.{◌||◌, ◌&&◌, bytes_eq, if◌then◌else◌}
use Rattle.std.specs.List.{list_any, list_all}
use Rattle.std.proofs.lemmas.List.{append-nil}
use Rattle.std.proofs.lemmas.Slice.Eq.{bytes_eq-Decides}
use Rattle.atspi_protocol.specs.declared.following.question.Question.{Question}
use Rattle.atspi_protocol.specs.following.ReaderState.{Followed, is_named}
use Rattle.atspi_protocol.specs.following.Wishes.{wishes, wishes_of}
use Rattle.atspi_protocol.specs.following.Replied.{changed}
use Rattle.atspi_protocol.specs.following.Takes.{found_in}
use Rattle.atspi_reader_known.specs.Unique.{AreUnique}
use Rattle.atspi_reader_known.proofs.Uniqueness.{changed_none}

-- one application of the list
abbrev pub step : (Followed → Followed) → List ℕ → Followed → Followed
step f name a = if is_named name a then f a else a

pub yes : (f : Followed → Followed) (name : List ℕ) (a : Followed) → is_named name a ≡ true → step f name a ≡ f a
yes f name a e = ap (λ (b : Bool). if b then f a else a) e

pub no : (f : Followed → Followed) (name : List ℕ) (a : Followed) → is_named name a ≡ false → step f name a ≡ a
no f name a e = ap (λ (b : Bool). if b then f a else a) e

cons : {A : Type 0} (x y : A) (xs ys : List A) → x ≡ y → xs ≡ ys → x ∷ xs ≡ y ∷ ys
cons x y xs ys e f = rw (e, f) refl

false_or : (a b : Bool) → (a || b) ≡ false → (a ≡ false) × (b ≡ false)
false_or true b e = absurd cc
false_or false b e = (refl, e)

-- changes that keep the name
abbrev pub Keeps : (Followed → Followed) → Type 0
Keeps f = (a : Followed) → (f a).name ≡ a.name

module _ (f : Followed → Followed) (keeps : Keeps f) where
  pub same_name : (n : List ℕ) (a : Followed) → is_named n (f a) ≡ is_named n a
  same_name n a = ap (λ (x : List ℕ). bytes_eq x n) (keeps a)

  pub step_name : (n : List ℕ) (a : Followed) → (step f n a).name ≡ a.name
  step_name n a = by (is_named n a) refl
    where
      by : (b : Bool) → is_named n a ≡ b → (step f n a).name ≡ a.name
      by true e = ap (λ (x : Followed). x.name) (yes f n a e) ∙ keeps a
      by false e = ap (λ (x : Followed). x.name) (no f n a e)

  pub any_changed : (m n : List ℕ) (apps : List Followed) → list_any (is_named m) (changed f n apps) ≡ list_any (is_named m) apps
  any_changed m n [] = refl
  any_changed m n (a ∷ apps) =
      ap (λ (x : List ℕ). bytes_eq x m || list_any (is_named m) (changed f n apps)) (step_name n a)
      ∙ ap (λ (b : Bool). is_named m a || b) (any_changed m n apps)

  pub unique_changed : (n : List ℕ) (apps : List Followed) → AreUnique apps → AreUnique (changed f n apps)
  unique_changed n [] u = tt
  unique_changed n (a ∷ apps) u =
      (ap (λ (x : List ℕ). list_any (is_named x) (changed f n apps)) (step_name n a) ∙ any_changed a.name n apps ∙ u.0, unique_changed n apps u.1)

  -- a test of the name alone
  pub filter_changed : (p : Followed → Bool) → ((a b : Followed) → a.name ≡ b.name → p a ≡ p b) → (n : List ℕ) (apps : List Followed)
      → filter p (changed f n apps) ≡ changed f n (filter p apps)
  filter_changed p tests n [] = refl
  filter_changed p tests n (a ∷ apps) =
      ap (λ (b : Bool). cond b (step f n a ∷ filter p (changed f n apps)) (filter p (changed f n apps))) (tests (step f n a) a (step_name n a))
      ∙ by (p a) (filter_changed p tests n apps)
    where
      by : (b : Bool) → filter p (changed f n apps) ≡ changed f n (filter p apps)
          → cond b (step f n a ∷ filter p (changed f n apps)) (filter p (changed f n apps)) ≡ changed f n (cond b (a ∷ filter p apps) (filter p apps))
      by true r = ap (λ (l : List Followed). step f n a ∷ l) r
      by false r = r

  pub all_changed : (p : Followed → Bool) → ((a b : Followed) → a.name ≡ b.name → p a ≡ p b) → (n : List ℕ) (apps : List Followed)
      → list_all p (changed f n apps) ≡ list_all p apps
  all_changed p tests n [] = refl
  all_changed p tests n (a ∷ apps) =
      ap (λ (b : Bool). b && list_all p (changed f n apps)) (tests (step f n a) a (step_name n a)) ∙ ap (λ (b : Bool). p a && b) (all_changed p tests n apps)

-- two changes in either order
module _ (f g : Followed → Followed) (kf : Keeps f) (kg : Keeps g) (either : (a : Followed) → f (g a) ≡ g (f a)) (n m : List ℕ) where
  step-step : (a : Followed) → step f n (step g m a) ≡ step g m (step f n a)
  step-step a = by (is_named n a) refl (is_named m a) refl
    where
      by : (s : Bool) → is_named n a ≡ s → (t : Bool) → is_named m a ≡ t → step f n (step g m a) ≡ step g m (step f n a)
      by true p true q =
          ap (step f n) (yes g m a q) ∙ yes f n (g a) (same_name g kg n a ∙ p) ∙ either a
          ∙ sym (yes g m (f a) (same_name f kf m a ∙ q)) ∙ sym (ap (step g m) (yes f n a p))
      by true p false q = ap (step f n) (no g m a q) ∙ yes f n a p ∙ sym (no g m (f a) (same_name f kf m a ∙ q)) ∙ sym (ap (step g m) (yes f n a p))
      by false p true q = ap (step f n) (yes g m a q) ∙ no f n (g a) (same_name g kg n a ∙ p) ∙ sym (yes g m a q) ∙ sym (ap (step g m) (no f n a p))
      by false p false q = ap (step f n) (no g m a q) ∙ no f n a p ∙ sym (no g m a q) ∙ sym (ap (step g m) (no f n a p))

  pub changed-changed : (apps : List Followed) → changed f n (changed g m apps) ≡ changed g m (changed f n apps)
  changed-changed [] = refl
  changed-changed (a ∷ apps) = cons _ _ _ _ (step-step a) (changed-changed apps)

-- changes that change nothing
pub changed_same : (f : Followed → Followed) → ((a : Followed) → f a ≡ a) → (n : List ℕ) (apps : List Followed) → changed f n apps ≡ apps
changed_same f same n [] = refl
changed_same f same n (a ∷ apps) = cons _ _ _ _ (by (is_named n a)) (changed_same f same n apps)
  where
    by : (b : Bool) → (if b then f a else a) ≡ a
    by true = same a
    by false = refl

-- two changes that do the same
pub changed_alike : (f g : Followed → Followed) → ((a : Followed) → f a ≡ g a) → (n : List ℕ) (apps : List Followed) → changed f n apps ≡ changed g n apps
changed_alike f g same n [] = refl
changed_alike f g same n (a ∷ apps) = cons _ _ _ _ (by (is_named n a)) (changed_alike f g same n apps)
  where
    by : (b : Bool) → (if b then f a else a) ≡ (if b then g a else a)
    by true = same a
    by false = refl

pub changed-append : (f : Followed → Followed) (n : List ℕ) (xs ys : List Followed) → changed f n (xs ++ ys) ≡ changed f n xs ++ changed f n ys
changed-append f n [] ys = refl
changed-append f n (x ∷ xs) ys = ap (λ (l : List Followed). step f n x ∷ l) (changed-append f n xs ys)

-- the same is wanted after a change that keeps what is wanted of each
pub wishes_changed : (f : Followed → Followed) → ((a : Followed) → wishes_of (f a) ≡ wishes_of a) → (n : List ℕ) (apps : List Followed)
    → wishes (changed f n apps) ≡ wishes apps
wishes_changed f same n [] = refl
wishes_changed f same n (a ∷ apps) =
    ap (λ (l : List Question). l ++ wishes (changed f n apps)) (by (is_named n a)) ∙ ap (λ (l : List Question). wishes_of a ++ l) (wishes_changed f same n apps)
  where
    by : (b : Bool) → wishes_of (if b then f a else a) ≡ wishes_of a
    by true = same a
    by false = refl

-- the one with a name
pub found_named : (n : List ℕ) (apps : List Followed) (a : Followed) → found_in n apps ≡ Some a → is_named n a ≡ true
found_named n [] a e = absurd cc
found_named n (x ∷ apps) a e = by (is_named n x) refl e (λ q. found_named n apps a q)
  where
    by : (b : Bool) → is_named n x ≡ b → (if b then Some x else found_in n apps) ≡ Some a → (found_in n apps ≡ Some a → is_named n a ≡ true) → is_named n a ≡ true
    by true p q r = let same : x ≡ a = cc in ap (is_named n) (sym same) ∙ p
    by false p q r = r q

pub found_name : (n : List ℕ) (apps : List Followed) (a : Followed) → found_in n apps ≡ Some a → a.name ≡ n
found_name n apps a e = (bytes_eq-Decides a.name n).0 (found_named n apps a e)

pub nobody_found : (n : List ℕ) (apps : List Followed) → found_in n apps ≡ None → list_any (is_named n) apps ≡ false
nobody_found n [] e = refl
nobody_found n (x ∷ apps) e = by (is_named n x) refl e (λ q. nobody_found n apps q)
  where
    by : (b : Bool) → is_named n x ≡ b → (if b then Some x else found_in n apps) ≡ None → (found_in n apps ≡ None → list_any (is_named n) apps ≡ false)
        → (is_named n x || list_any (is_named n) apps) ≡ false
    by true p q r = absurd cc
    by false p q r = ap (λ (b : Bool). b || list_any (is_named n) apps) p ∙ r q

-- behind the one of a name nobody has it
others : (n : List ℕ) (a : Followed) (apps : List Followed) → is_named n a ≡ true → list_any (is_named a.name) apps ≡ false → list_any (is_named n) apps ≡ false
others n a apps e u = ap (λ (m : List ℕ). list_any (is_named m) apps) (sym ((bytes_eq-Decides a.name n).0 e)) ∙ u

-- one that was made of the one that was found stands in its place
pub changed_found : (f : Followed → Followed) (n : List ℕ) (apps : List Followed) (a : Followed) → AreUnique apps → found_in n apps ≡ Some a
    → changed (λ _. f a) n apps ≡ changed f n apps
changed_found f n [] a u e = refl
changed_found f n (x ∷ apps) a u e = by (is_named n x) refl e (λ q. changed_found f n apps a u.1 q)
  where
    by : (b : Bool) → is_named n x ≡ b → (if b then Some x else found_in n apps) ≡ Some a → (found_in n apps ≡ Some a → changed (λ _. f a) n apps ≡ changed f n apps)
        → step (λ _. f a) n x ∷ changed (λ _. f a) n apps ≡ step f n x ∷ changed f n apps
    by true p q r =
        let same : a ≡ x = cc in
        let none = others n x apps p u.0 in
        cons _ _ _ _ (yes (λ _. f a) n x p ∙ ap f same ∙ sym (yes f n x p)) (changed_none (λ _. f a) n apps none ∙ sym (changed_none f n apps none))
    by false p q r = cons _ _ _ _ (no (λ _. f a) n x p ∙ sym (no f n x p)) (r q)

-- nobody of a name goes where nobody has it
pub filter_none : (n : List ℕ) (apps : List Followed) → list_any (is_named n) apps ≡ false → filter (λ app. not (is_named n app)) apps ≡ apps
filter_none n [] e = refl
filter_none n (x ∷ apps) e =
    let both = false_or (is_named n x) (list_any (is_named n) apps) e in
    ap (λ (b : Bool). cond (not b) (x ∷ filter (λ app. not (is_named n app)) apps) (filter (λ app. not (is_named n app)) apps)) both.0
    ∙ ap (λ (l : List Followed). x ∷ l) (filter_none n apps both.1)

pub only_none : (n : List ℕ) (apps : List Followed) → list_any (is_named n) apps ≡ false → filter (is_named n) apps ≡ []
only_none n [] e = refl
only_none n (x ∷ apps) e =
    let both = false_or (is_named n x) (list_any (is_named n) apps) e in
    ap (λ (b : Bool). cond b (x ∷ filter (is_named n) apps) (filter (is_named n) apps)) both.0 ∙ only_none n apps both.1

-- those of a name: the one that is found
pub only_found : (n : List ℕ) (apps : List Followed) (a : Followed) → AreUnique apps → found_in n apps ≡ Some a → filter (is_named n) apps ≡ a ∷ []
only_found n [] a u e = absurd cc
only_found n (x ∷ apps) a u e = by (is_named n x) refl e (λ q. only_found n apps a u.1 q)
  where
    by : (b : Bool) → is_named n x ≡ b → (if b then Some x else found_in n apps) ≡ Some a → (found_in n apps ≡ Some a → filter (is_named n) apps ≡ a ∷ [])
        → filter (is_named n) (x ∷ apps) ≡ a ∷ []
    by true p q r =
        let same : x ≡ a = cc in
        ap (λ (b : Bool). cond b (x ∷ filter (is_named n) apps) (filter (is_named n) apps)) p ∙ cons _ _ _ _ same (only_none n apps (others n x apps p u.0))
    by false p q r = ap (λ (b : Bool). cond b (x ∷ filter (is_named n) apps) (filter (is_named n) apps)) p ∙ r q

-- nothing is wanted of some where nothing is wanted of all
nil_left : {A : Type 0} (xs ys : List A) → xs ++ ys ≡ [] → xs ≡ []
nil_left [] ys e = refl
nil_left (x ∷ xs) ys e = absurd cc

nil_right : {A : Type 0} (xs ys : List A) → xs ++ ys ≡ [] → ys ≡ []
nil_right [] ys e = e
nil_right (x ∷ xs) ys e = absurd cc

pub wishes_filter : (p : Followed → Bool) (apps : List Followed) → wishes apps ≡ [] → wishes (filter p apps) ≡ []
wishes_filter p [] e = refl
wishes_filter p (a ∷ apps) e = by (p a) (wishes_filter p apps (nil_right (wishes_of a) (wishes apps) e))
  where
    by : (b : Bool) → wishes (filter p apps) ≡ [] → wishes (cond b (a ∷ filter p apps) (filter p apps)) ≡ []
    by true r = ap (λ (l : List Question). l ++ wishes (filter p apps)) (nil_left (wishes_of a) (wishes apps) e) ∙ r
    by false r = r

pub wishes_found : (n : List ℕ) (apps : List Followed) (a : Followed) → wishes apps ≡ [] → found_in n apps ≡ Some a → wishes_of a ≡ []
wishes_found n [] a w e = absurd cc
wishes_found n (x ∷ apps) a w e = by (is_named n x) e (λ q. wishes_found n apps a (nil_right (wishes_of x) (wishes apps) w) q)
  where
    by : (b : Bool) → (if b then Some x else found_in n apps) ≡ Some a → (found_in n apps ≡ Some a → wishes_of a ≡ []) → wishes_of a ≡ []
    by true q r = let same : x ≡ a = cc in ap wishes_of (sym same) ∙ nil_left (wishes_of x) (wishes apps) w
    by false q r = r q

-- where nothing else is wanted, what is wanted after a change is wanted of the one that changed
pub wishes_only : (f : Followed → Followed) (n : List ℕ) (apps : List Followed) (a : Followed) → AreUnique apps → wishes apps ≡ [] → found_in n apps ≡ Some a
    → wishes (changed f n apps) ≡ wishes_of (f a)
wishes_only f n [] a u w e = absurd cc
wishes_only f n (x ∷ apps) a u w e = by (is_named n x) refl e (λ q. wishes_only f n apps a u.1 (nil_right (wishes_of x) (wishes apps) w) q)
  where
    rest : wishes apps ≡ []
    rest = nil_right (wishes_of x) (wishes apps) w

    by : (b : Bool) → is_named n x ≡ b → (if b then Some x else found_in n apps) ≡ Some a → (found_in n apps ≡ Some a → wishes (changed f n apps) ≡ wishes_of (f a))
        → wishes (step f n x ∷ changed f n apps) ≡ wishes_of (f a)
    by true p q r =
        let same : x ≡ a = cc in
        ap (λ (y : Followed). wishes_of y ++ wishes (changed f n apps)) (yes f n x p ∙ ap f same)
        ∙ ap (λ (l : List Followed). wishes_of (f a) ++ wishes l) (changed_none f n apps (others n x apps p u.0))
        ∙ ap (λ (l : List Question). wishes_of (f a) ++ l) rest ∙ append-nil (wishes_of (f a))
    by false p q r =
        ap (λ (y : Followed). wishes_of y ++ wishes (changed f n apps)) (no f n x p)
        ∙ ap (λ (l : List Question). l ++ wishes (changed f n apps)) (nil_left (wishes_of x) (wishes apps) w)
        ∙ r q
