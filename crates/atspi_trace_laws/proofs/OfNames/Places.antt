-- The unique name that a trace tells of a party, and lists in which each stands once.
use Rattle.std.proofs.Common.{◌≡◌, ℕ, zero, suc, ◌+◌, ◌<◌, ◌≤◌, Bool, true, false, List, [], ◌∷◌, ◌++◌, length, Option, None, Some, refl, sym, ap, ◌∙◌, subst, arith, cond}
use Rattle.std.specs.Prelude.{◌^◌, nat_lt, not, filter, filter_map, position, option_map, if◌then◌else◌}
use Rattle.std.specs.List.{AllByRecursion, cons_option}
use Rattle.std.specs.List.{position_or_len}
use Rattle.std.proofs.lemmas.Bool.{lt-ltb, le-ltb, ltb-true, ltb-false}
use Rattle.atspi_script_lines.specs.declared.line.Party.{Party}
use Rattle.atspi_script_lines.specs.declared.line.Party.TheVariants.{Bus as The_bus, Registry, App, Reader}
use Rattle.atspi_names.specs.Owners.{unique_name}
use Rattle.atspi_names.proofs.UniqueLemmas.{unique_name-injective}
use Rattle.atspi_trace.specs.Entry.{Entry, got}
use Rattle.atspi_trace.specs.World.{End}
use Rattle.atspi_trace.specs.Ends.{same_party, end_at}
use Rattle.atspi_trace_laws.specs.laws.Words.{hello_of, name_in}
use Rattle.atspi_trace_laws.proofs.OfOrder.Parties.{no_none, same_some, same-party}
use Rattle.atspi_trace_laws.proofs.OfLinks.LawLinks.{NotTaken}

-- THE FIRST PLACE
abbrev pub first_at : {X : Type 0} → (X → Bool) → List X → Option ℕ
first_at p [] = None
first_at p (x ∷ xs) = if p x then Some 0 else option_map suc (first_at p xs)

pub position_is : {X : Type 0} (p : X → Bool) (xs : List X) → position p xs ≡ first_at p xs
position_is p [] = refl
position_is p (x ∷ xs) = by (p x) (position_is p xs)
  where
    k : ℕ
    k = position_or_len p xs

    above : 0 < suc (length xs)
    above = omega arith

    both : (a b : ℕ) → nat_lt (1 + a) (suc b) ≡ nat_lt a b
    both a b = at (nat_lt a b) refl
      where
        at : (t : Bool) → nat_lt a b ≡ t → nat_lt (1 + a) (suc b) ≡ t
        at true g = let less : a < b = ltb-true a b g in lt-ltb (1 + a) (suc b) (omega (arith, less))
        at false g = let less : b ≤ a = ltb-false a b g in le-ltb (1 + a) (suc b) (omega (arith, less))

    by : (b : Bool) → position p xs ≡ first_at p xs
        → cond (nat_lt (cond (not b) (1 + k) 0) (suc (length xs))) (Some (cond (not b) (1 + k) 0)) None ≡ (if b then Some 0 else option_map suc (first_at p xs))
    by true h = ap (λ t. cond t (Some 0) None) (lt-ltb 0 (suc (length xs)) above)
    by false h = ap (λ t. cond t (Some (1 + k)) None) (both k (length xs)) ∙ turned (nat_lt k (length xs)) ∙ ap (option_map suc) h
      where
        up : 1 + k ≡ suc k
        up = omega arith

        turned : (t : Bool) → cond t (Some (1 + k)) None ≡ option_map suc (cond t (Some k) None)
        turned true = ap Some up
        turned false = refl

pub first_last : {X : Type 0} (p : X → Bool) (xs : List X) (x : X) → first_at p xs ≡ None → p x ≡ true → first_at p (xs ++ x ∷ []) ≡ Some (length xs)
first_last p [] x none h = ap (λ b. if b then Some 0 else None) h
first_last p (y ∷ ys) x none h = by (p y) none (λ g. first_last p ys x g h)
  where
    inner : (o : Option ℕ) → option_map suc o ≡ None → o ≡ None
    inner None g = refl
    inner (Some i) g = absurd (no_none (suc i) (sym g))

    by : (b : Bool) → (if b then Some 0 else option_map suc (first_at p ys)) ≡ None → (first_at p ys ≡ None → first_at p (ys ++ x ∷ []) ≡ Some (length ys))
        → (if b then Some 0 else option_map suc (first_at p (ys ++ x ∷ []))) ≡ Some (suc (length ys))
    by true g f = absurd (no_none 0 (sym g))
    by false g f = ap (option_map suc) (f (inner (first_at p ys) g))

pub first_same : {X : Type 0} (p : X → Bool) (xs : List X) (x : X) → p x ≡ false → first_at p (xs ++ x ∷ []) ≡ first_at p xs
first_same p [] x h = ap (λ b. if b then Some 0 else None) h
first_same p (y ∷ ys) x h = ap (λ o. if p y then Some 0 else option_map suc o) (first_same p ys x h)

pub first_below : {X : Type 0} (p : X → Bool) (xs : List X) (i : ℕ) → first_at p xs ≡ Some i → i < length xs
first_below p [] i h = absurd (no_none i h)
first_below p (y ∷ ys) i h = by (p y) h (first_at p ys) refl (λ j k. first_below p ys j k)
  where
    by : (b : Bool) → (if b then Some 0 else option_map suc (first_at p ys)) ≡ Some i → (o : Option ℕ) → first_at p ys ≡ o → ((j : ℕ) → first_at p ys ≡ Some j → j < length ys) → i < suc (length ys)
    by true g o k f = let is : 0 ≡ i = same_some 0 i g in omega (arith, is)
    by false g None k f = absurd (no_none i (sym (ap (option_map suc) k) ∙ g))
    by false g (Some j) k f =
        let is : suc j ≡ i = same_some (suc j) i (sym (ap (option_map suc) k) ∙ g) in
        let less : j < length ys = f j k in
        omega (arith, is, less)

-- two tests that pass at one place pass together
pub first_passes : {X : Type 0} (p q : X → Bool) (xs : List X) (i : ℕ) → first_at p xs ≡ Some i → first_at q xs ≡ Some i → (x : X) × (p x ≡ true) × (q x ≡ true)
first_passes p q [] i h g = absurd (no_none i h)
first_passes {X} p q (y ∷ ys) i h g = by (p y) refl (q y) refl h g (λ n a b. first_passes p q ys n a b)
  where
    down : (o : Option ℕ) (j : ℕ) → option_map suc o ≡ Some (suc j) → o ≡ Some j
    down None j k = absurd (no_none (suc j) k)
    down (Some n) j k = let is : suc n ≡ suc j = same_some (suc n) (suc j) k in let same : n ≡ j = omega (arith, is) in ap Some same

    never : (o : Option ℕ) → option_map suc o ≡ Some 0 → ⊥
    never None k = no_none 0 k
    never (Some n) k = let is : suc n ≡ 0 = same_some (suc n) 0 k in absurd (omega (arith, is))

    both : (j : ℕ) → option_map suc (first_at p ys) ≡ Some j → option_map suc (first_at q ys) ≡ Some j → ((n : ℕ) → first_at p ys ≡ Some n → first_at q ys ≡ Some n → (x : X) × (p x ≡ true) × (q x ≡ true)) → (x : X) × (p x ≡ true) × (q x ≡ true)
    both zero k l f = absurd (never (first_at p ys) k)
    both (suc j) k l f = f j (down (first_at p ys) j k) (down (first_at q ys) j l)

    by : (a : Bool) → p y ≡ a → (b : Bool) → q y ≡ b → (if a then Some 0 else option_map suc (first_at p ys)) ≡ Some i → (if b then Some 0 else option_map suc (first_at q ys)) ≡ Some i
        → ((n : ℕ) → first_at p ys ≡ Some n → first_at q ys ≡ Some n → (x : X) × (p x ≡ true) × (q x ≡ true)) → (x : X) × (p x ≡ true) × (q x ≡ true)
    by true e true f k l ih = (y, e, f)
    by true e false f k l ih = absurd (never (first_at q ys) (l ∙ sym k))
    by false e true f k l ih = absurd (never (first_at p ys) (k ∙ sym l))
    by false e false f k l ih = both i k l ih

-- WHO WAS GREETED
abbrev pub greeted : List Entry → List Party
greeted es = filter_map hello_of es

abbrev pub name_told : List Entry → Party → Option (List ℕ)
name_told es who = option_map (λ n. unique_name (suc n)) (first_at (same_party who) (greeted es))

pub told_is : (es : List Entry) (who : Party) → name_in es who ≡ name_told es who
told_is es who = ap (option_map (λ n. unique_name (suc n))) (position_is (same_party who) (greeted es))

pub greeted_more : (es ys : List Entry) → greeted (es ++ ys) ≡ greeted es ++ greeted ys
greeted_more [] ys = refl
greeted_more (x ∷ xs) ys = by (hello_of x) (greeted_more xs ys)
  where
    by : (o : Option Party) → greeted (xs ++ ys) ≡ greeted xs ++ greeted ys → cons_option o (greeted (xs ++ ys)) ≡ cons_option o (greeted xs) ++ greeted ys
    by None h = h
    by (Some p) h = ap (λ l. p ∷ l) h

pub none_greeted : (ys : List Entry) → AllByRecursion NotTaken ys → greeted ys ≡ []
none_greeted [] n = refl
none_greeted (got The_bus who serial ∷ ys) n = absurd n.0
none_greeted (got Registry who serial ∷ ys) n = none_greeted ys n.1
none_greeted (got (App a) who serial ∷ ys) n = none_greeted ys n.1
none_greeted (got (Reader r) who serial ∷ ys) n = none_greeted ys n.1
none_greeted (y ∷ ys) n = none_greeted ys n.1

-- two parties have two names
small : (i n : ℕ) → i < n → n ≤ 1000 → suc i < 2 ^ 32
small i n a b = omega (arith, a, b)

pub names_differ : (es : List Entry) (p q : Party) (name : List ℕ) → length (greeted es) ≤ 1000 → name_told es p ≡ Some name → name_told es q ≡ Some name → p ≡ q
names_differ es p q name few h g = by (first_at (same_party p) (greeted es)) refl (first_at (same_party q) (greeted es)) refl h g
  where
    by : (o : Option ℕ) → first_at (same_party p) (greeted es) ≡ o → (u : Option ℕ) → first_at (same_party q) (greeted es) ≡ u
        → option_map (λ n. unique_name (suc n)) o ≡ Some name → option_map (λ n. unique_name (suc n)) u ≡ Some name → p ≡ q
    by None a u b k l = absurd (no_none name k)
    by (Some i) a None b k l = absurd (no_none name l)
    by (Some i) a (Some j) b k l =
        let same : suc i ≡ suc j =
        unique_name-injective (suc i) (suc j) (small i (length (greeted es)) (first_below (same_party p) (greeted es) i a) few) (small j (length (greeted es)) (first_below (same_party q) (greeted es) j b) few)
        (same_some (unique_name (suc i)) name k ∙ sym (same_some (unique_name (suc j)) name l)) in
        let one : i ≡ j = omega (arith, same) in
        let x = first_passes (same_party p) (same_party q) (greeted es) i a (b ∙ ap Some (sym one)) in
        same-party p x.0 x.1 ∙ sym (same-party q x.0 x.2)

-- a party that was greeted is among them
pub told_among : (P : Party → Type 0) (who : Party) (xs : List Party) (i : ℕ) → AllByRecursion P xs → first_at (same_party who) xs ≡ Some i → P who
told_among P who [] i a h = absurd (no_none i h)
told_among P who (x ∷ xs) i a h = by (same_party who x) refl h (first_at (same_party who) xs) refl (λ j g. told_among P who xs j a.1 g)
  where
    by : (b : Bool) → same_party who x ≡ b → (if b then Some 0 else option_map suc (first_at (same_party who) xs)) ≡ Some i → (o : Option ℕ) → first_at (same_party who) xs ≡ o
        → ((j : ℕ) → first_at (same_party who) xs ≡ Some j → P who) → P who
    by true g k o l f = subst P (sym (same-party who x g)) a.0
    by false g k None l f = absurd (no_none i (sym (ap (option_map suc) l) ∙ k))
    by false g k (Some j) l f = f j l

-- COUNTS OF ENDS
abbrev pub count_ends : (End → Bool) → List End → ℕ
count_ends q ends = length (filter q ends)

pub count_same : (q : End → Bool) (xs ys : List End) → length ys ≡ length xs → ((k : ℕ) (d : End) → end_at ys k ≡ Some d → (e : End) × (end_at xs k ≡ Some e) × (q d ≡ q e)) → count_ends q ys ≡ count_ends q xs
count_same q [] [] s b = refl
count_same q [] (y ∷ ys) s b = absurd (omega (arith, s))
count_same q (x ∷ xs) [] s b = absurd (omega (arith, s))
count_same q (x ∷ xs) (y ∷ ys) s b =
    let first : (e : End) × (Some x ≡ Some e) × (q y ≡ q e) = b 0 y refl in
    let same : q y ≡ q x = first.2 ∙ ap q (sym (same_some x first.0 first.1)) in
    let rest : length ys ≡ length xs = omega (arith, s) in
    ap (λ t. length (if t then y ∷ filter q ys else filter q ys)) same ∙ by (q x) (count_same q xs ys rest (λ k d h. b (suc k) d h))
  where
    by : (t : Bool) → length (filter q ys) ≡ length (filter q xs) → length (if t then y ∷ filter q ys else filter q ys) ≡ length (if t then x ∷ filter q xs else filter q xs)
    by true h = ap suc h
    by false h = h

-- one more passes
pub count_one : (q : End → Bool) (xs ys : List End) (conn : ℕ) → length ys ≡ length xs → conn < length xs
    → ((k : ℕ) (d : End) → end_at ys k ≡ Some d → (e : End) × (end_at xs k ≡ Some e) × (k ≡ conn → (q d ≡ true) × (q e ≡ false)) × ((k ≡ conn → ⊥) → q d ≡ q e)) → count_ends q ys ≡ suc (count_ends q xs)
count_one q [] ys conn s less b = absurd (omega (arith, less))
count_one q (x ∷ xs) [] conn s less b = absurd (omega (arith, s))
count_one q (x ∷ xs) (y ∷ ys) zero s less b =
    let first = b 0 y refl in
    let one = first.2 refl in
    let was : q x ≡ false = ap q (same_some x first.0 first.1) ∙ one.1 in
    let rest : length ys ≡ length xs = omega (arith, s) in
    ap (λ t. length (if t then y ∷ filter q ys else filter q ys)) one.0
    ∙ ap suc (count_same q xs ys rest (λ k d h. let g = b (suc k) d h in (g.0, g.1, g.3 (no k))) ∙ sym (ap (λ t. length (if t then x ∷ filter q xs else filter q xs)) was))
  where
    no : (k : ℕ) → suc k ≡ zero → ⊥
    no k h = absurd (omega (arith, h))
count_one q (x ∷ xs) (y ∷ ys) (suc conn) s less b =
    let first = b 0 y refl in
    let same : q y ≡ q x = first.3 no ∙ ap q (sym (same_some x first.0 first.1)) in
    let rest : length ys ≡ length xs = omega (arith, s) in
    let smaller : conn < length xs = omega (arith, less) in
    ap (λ t. length (if t then y ∷ filter q ys else filter q ys)) same
    ∙ by (q x) (count_one q xs ys conn rest smaller (λ k d h. let g = b (suc k) d h in (g.0, g.1, (λ is. g.2 (ap suc is)), (λ differ. g.3 (λ is. differ (under k is))))))
  where
    no : zero ≡ suc conn → ⊥
    no h = absurd (omega (arith, h))

    under : (k : ℕ) → suc k ≡ suc conn → k ≡ conn
    under k h = omega (arith, h)

    by : (t : Bool) → length (filter q ys) ≡ suc (length (filter q xs)) → length (if t then y ∷ filter q ys else filter q ys) ≡ suc (length (if t then x ∷ filter q xs else filter q xs))
    by true h = ap suc h
    by false h = h

pub count_least : (q : End → Bool) (xs : List End) → count_ends q xs ≤ length xs
count_least q [] = omega arith
count_least q (x ∷ xs) = by (q x) (count_least q xs)
  where
    by : (t : Bool) → length (filter q xs) ≤ length xs → length (if t then x ∷ filter q xs else filter q xs) ≤ suc (length xs)
    by true h = omega (arith, h)
    by false h = omega (arith, h)

-- one that is joined last and does not pass
pub count_joined : (q : End → Bool) (xs : List End) (n : End) → q n ≡ false → count_ends q (xs ++ n ∷ []) ≡ count_ends q xs
count_joined q [] n h = ap (λ t. length (if t then n ∷ [] else [])) h
count_joined q (x ∷ xs) n h = by (q x) (count_joined q xs n h)
  where
    by : (t : Bool) → length (filter q (xs ++ n ∷ [])) ≡ length (filter q xs) → length (if t then x ∷ filter q (xs ++ n ∷ []) else filter q (xs ++ n ∷ [])) ≡ length (if t then x ∷ filter q xs else filter q xs)
    by true g = ap suc g
    by false g = g
