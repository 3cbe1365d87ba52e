-- Parties that are numbered in the order of joining: where there are some of a kind, one has the first number.
use Rattle.std.proofs.Common.{◌≡◌, ℕ, zero, suc, ◌+◌, ◌-◌, ◌<◌, ◌≤◌, ◌==◌, Bool, true, false, cond, List, [], ◌∷◌, length, map, Option, None, Some, refl, sym, ap, ◌∙◌, subst, arith}
use Rattle.std.specs.Prelude.{filter, not, ◌||◌, nat_lt}
use Rattle.std.specs.List.{AllByRecursion, IsDistinct, list_any, position_or_len}
use Rattle.std.proofs.lemmas.Bool.{ne_eqb, eq-eqb, eqb-true, ltb-false}
use Rattle.std.proofs.lemmas.List.{length-map}
use Rattle.std.proofs.lemmas.Map.Keys.{IsDistinct-cons}
use Rattle.std.proofs.lemmas.Map.Steps.{length-le_from_distinct_below}
use Rattle.atspi_script_lines.specs.declared.line.Party.{Party}
use Rattle.atspi_script_lines.specs.declared.line.Party.TheVariants.{Bus as The_bus, Registry, App, Reader}
use Rattle.atspi_trace.specs.World.{End}
use Rattle.atspi_trace.specs.Ends.{same_party, number_of, conn_of, is_app, is_reader, app_count, reader_count}
use Rattle.atspi_world.specs.Worlds.{AreApart, who_of}

-- a list in which no place passes
none_pass : {X : Type 0} (p : X → Bool) (xs : List X) → length xs ≤ position_or_len p xs → AllByRecursion (λ x. p x ≡ false) xs
none_pass p [] h = tt
none_pass p (x ∷ xs) h = by (p x) refl h (λ g. none_pass p xs g)
  where
    by : (b : Bool) → p x ≡ b → suc (length xs) ≤ cond (not b) (1 + position_or_len p xs) 0 → (length xs ≤ position_or_len p xs → AllByRecursion (λ y. p y ≡ false) xs) → (p x ≡ false) × AllByRecursion (λ y. p y ≡ false) xs
    by true e g rest = absurd (omega arith)
    by false e g rest = (e, rest (omega arith))

module _ (kind : ℕ → Party) (is_kind : Party → Bool) (fits : (p : Party) → is_kind p ≡ true → p ≡ kind (number_of p)) (same : (n : ℕ) → same_party (kind n) (kind n) ≡ true) where
  -- their numbers, each less by one
  abbrev lowered : List End → List ℕ
  lowered ends = map (λ (e : End). number_of e.who - 1) (filter (λ (e : End). is_kind e.who) ends)

  abbrev IsLater : End → Type 0
  IsLater e = is_kind e.who ≡ true → 0 < number_of e.who

  -- two of them have different numbers
  apart_numbers : (p q : Party) → is_kind p ≡ true → is_kind q ≡ true → same_party p q ≡ false → number_of p ≡ number_of q → ⊥
  apart_numbers p q h k other n =
      let e : p ≡ q = fits p h ∙ ap kind n ∙ sym (fits q k) in
      let yes : same_party p q ≡ true = subst (λ x. same_party p x ≡ true) e (subst (λ x. same_party x x ≡ true) (sym (fits p h)) (same (number_of p))) in
      cc

  differ : (e : End) (ends : List End) → is_kind e.who ≡ true → 0 < number_of e.who → AllByRecursion (λ q. same_party e.who q ≡ false) (map who_of ends) → AllByRecursion IsLater ends
      → AllByRecursion (λ n. ((number_of e.who - 1) == n) ≡ false) (lowered ends)
  differ e [] h l a later = tt
  differ e (x ∷ xs) h l a later = by (is_kind x.who) refl (differ e xs h l a.1 later.1)
    where
      by : (b : Bool) → is_kind x.who ≡ b → AllByRecursion (λ n. ((number_of e.who - 1) == n) ≡ false) (lowered xs)
          → AllByRecursion (λ n. ((number_of e.who - 1) == n) ≡ false) (map (λ (y : End). number_of y.who - 1) (cond b (x ∷ filter (λ (y : End). is_kind y.who) xs) (filter (λ (y : End). is_kind y.who) xs)))
      by true k rest = (ne_eqb (number_of e.who - 1) (number_of x.who - 1) (λ n. apart_numbers e.who x.who h k a.0 (let m = later.0 k in omega arith)), rest)
      by false k rest = rest

  distinct : (ends : List End) → AreApart (map who_of ends) → AllByRecursion IsLater ends → IsDistinct (λ (m n : ℕ). m == n) (lowered ends)
  unfolding IsDistinct
  distinct [] a later = tt
  distinct (x ∷ xs) a later = by (is_kind x.who) refl (distinct xs a.1 later.1)
    where
      by : (b : Bool) → is_kind x.who ≡ b → IsDistinct (λ (m n : ℕ). m == n) (lowered xs)
          → IsDistinct (λ (m n : ℕ). m == n) (map (λ (y : End). number_of y.who - 1) (cond b (x ∷ filter (λ (y : End). is_kind y.who) xs) (filter (λ (y : End). is_kind y.who) xs)))
      by true k rest = IsDistinct-cons (λ (m n : ℕ). m == n) (number_of x.who - 1) (lowered xs) (differ x xs k (later.0 k) a.0 later.1) rest
      by false k rest = rest

  low : (n : ℕ) (ends : List End) → AllByRecursion (λ (e : End). is_kind e.who ≡ true → number_of e.who < n) ends → AllByRecursion IsLater ends → (q : ℕ) → list_any (λ m. q == m) (lowered ends) ≡ true → q < n - 1
  low n [] below later q h = absurd cc
  low n (x ∷ xs) below later q h = by (is_kind x.who) refl h (λ g. low n xs below.1 later.1 q g)
    where
      by : (b : Bool) → is_kind x.who ≡ b → list_any (λ m. q == m) (map (λ (y : End). number_of y.who - 1) (cond b (x ∷ filter (λ (y : End). is_kind y.who) xs) (filter (λ (y : End). is_kind y.who) xs))) ≡ true
          → (list_any (λ m. q == m) (lowered xs) ≡ true → q < n - 1) → q < n - 1
      by false k h rest = rest h
      by true k h rest = at (q == (number_of x.who - 1)) refl h
        where
          at : (d : Bool) → (q == (number_of x.who - 1)) ≡ d → (d || list_any (λ m. q == m) (lowered xs)) ≡ true → q < n - 1
          at true e g = let same_ = eqb-true q (number_of x.who - 1) e in let l = below.0 k in let m = later.0 k in omega arith
          at false e g = rest g

  -- not all of them are later ones
  one_is_first : (n : ℕ) (ends : List End) → AreApart (map who_of ends) → AllByRecursion (λ (e : End). is_kind e.who ≡ true → number_of e.who < n) ends → n ≡ length (filter (λ (e : End). is_kind e.who) ends) → 0 < n → AllByRecursion IsLater ends → ⊥
  one_is_first n ends apart below is some later =
      let few = length-le_from_distinct_below (lowered ends) (n - 1) (distinct ends apart later) (low n ends below later) in
      let many = length-map (filter (λ (e : End). is_kind e.who) ends) (λ (e : End). number_of e.who - 1) in
      absurd (omega arith)

  -- those that are not the first are later ones
  all_later : (ends : List End) → AllByRecursion (λ (e : End). same_party e.who (kind 0) ≡ false) ends → AllByRecursion IsLater ends
  all_later [] none = tt
  all_later (x ∷ xs) none = (later x.who none.0, all_later xs none.1)
    where
      later : (p : Party) → same_party p (kind 0) ≡ false → is_kind p ≡ true → 0 < number_of p
      later p other k = at (number_of p) refl
        where
          at : (n : ℕ) → number_of p ≡ n → 0 < number_of p
          at zero e = let is : p ≡ kind 0 = fits p k ∙ ap kind e in let yes : same_party p (kind 0) ≡ true = subst (λ x. same_party x (kind 0) ≡ true) (sym is) (same 0) in absurd cc
          at (suc n) e = omega arith

  -- where none passes
  none_there : (ends : List End) → conn_of ends (kind 0) ≡ None → AllByRecursion (λ (e : End). same_party e.who (kind 0) ≡ false) ends
  none_there ends h = none_pass (λ (e : End). same_party e.who (kind 0)) ends (by (nat_lt (position_or_len (λ (e : End). same_party e.who (kind 0)) ends) (length ends)) refl h)
    where
      by : (b : Bool) → nat_lt (position_or_len (λ (e : End). same_party e.who (kind 0)) ends) (length ends) ≡ b → cond b (Some (position_or_len (λ (e : End). same_party e.who (kind 0)) ends)) None ≡ None
          → length ends ≤ position_or_len (λ (e : End). same_party e.who (kind 0)) ends
      by true e g = absurd cc
      by false e g = ltb-false (position_or_len (λ (e : End). same_party e.who (kind 0)) ends) (length ends) e

  pub first_there : (n : ℕ) (ends : List End) → AreApart (map who_of ends) → AllByRecursion (λ (e : End). is_kind e.who ≡ true → number_of e.who < n) ends → n ≡ length (filter (λ (e : End). is_kind e.who) ends) → 0 < n
      → (conn : ℕ) × (conn_of ends (kind 0) ≡ Some conn)
  first_there n ends apart below is some = at (conn_of ends (kind 0)) refl
    where
      at : (o : Option ℕ) → conn_of ends (kind 0) ≡ o → (conn : ℕ) × (conn_of ends (kind 0) ≡ Some conn)
      at (Some conn) h = (conn, h)
      at None h = absurd (one_is_first n ends apart below is some (all_later ends (none_there ends h)))

app_fits : (p : Party) → is_app p ≡ true → p ≡ App (number_of p)
app_fits (App a) h = refl
app_fits The_bus h = absurd cc
app_fits Registry h = absurd cc
app_fits (Reader r) h = absurd cc

reader_fits : (p : Party) → is_reader p ≡ true → p ≡ Reader (number_of p)
reader_fits (Reader r) h = refl
reader_fits The_bus h = absurd cc
reader_fits Registry h = absurd cc
reader_fits (App a) h = absurd cc

-- THE FIRST APPLICATION, AND THE FIRST READER
pub first_app : (ends : List End) → AreApart (map who_of ends) → AllByRecursion (λ (e : End). is_app e.who ≡ true → number_of e.who < app_count ends) ends → 0 < app_count ends → (conn : ℕ) × (conn_of ends (App 0) ≡ Some conn)
first_app ends apart below some = first_there App is_app app_fits (λ n. eq-eqb n n refl) (app_count ends) ends apart below refl some

pub first_reader : (ends : List End) → AreApart (map who_of ends) → AllByRecursion (λ (e : End). is_reader e.who ≡ true → number_of e.who < reader_count ends) ends → 0 < reader_count ends
    → (conn : ℕ) × (conn_of ends (Reader 0) ≡ Some conn)
first_reader ends apart below some = first_there Reader is_reader reader_fits (λ n. eq-eqb n n refl) (reader_count ends) ends apart below refl some
