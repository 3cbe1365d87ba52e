-- The live nodes of a tree, from one look to the next.
use Rattle.std.proofs.Common.{◌≡◌, ℕ, zero, suc, ◌+◌, ◌-◌, ◌<◌, ◌≤◌, ◌==◌, Bool, true, false, cond, List, [], ◌∷◌, ◌++◌, Some, length, get_or, refl, sym, ap, ◌∙◌, subst, arith}
use Rattle.std.specs.Prelude.{◌%◌, ◌&&◌, filter, nat_le, nat_lt}
use Rattle.std.proofs.lemmas.Bool.{eq-eqb, eqb-true, leb-true, leb-false, ltb-true, ltb-false}
use Rattle.std.proofs.lemmas.List.{append_assoc, append-nil, length-append}
use Rattle.std.proofs.lemmas.List.Elements.{filter-append}
use Rattle.atspi_tree_model.specs.Edits.{numbers_to}
use Rattle.atspi_tree_model.specs.Forest.{Forest, nil, tree, count, has, children_at}
use Rattle.atspi_tree_model.specs.Row.{ShapeRow}
use Rattle.atspi_tree_model.specs.Tree.{is_shape}
use Rattle.atspi_tree_model.proofs.Found.{count-has, has-count, not_there}
use Rattle.atspi_tree.specs.NextNode.{IsNextNode}
use Rattle.atspi_tree.specs.TreeShape.{TreeShape, IsLawful, children_of, numbers}
use Rattle.atspi_run_make.specs.Draws.{drawn, drawn_of}
use Rattle.atspi_run_make.specs.Drawing.{live_nodes}
use Rattle.atspi_run_make.specs.Live.{below, there_of, live_from, CanFollow}

all_below : (k : ℕ) → numbers_to k ≡ below (suc k)
all_below zero = refl
all_below (suc k) = ap (λ (l : List ℕ). l ++ suc k ∷ []) (all_below k)

-- of numbers one behind the other
one_passes : (p : ℕ → Bool) (k : ℕ) → p k ≡ true → filter p (k ∷ []) ≡ k ∷ []
one_passes p k e = ap (λ (b : Bool). cond b (k ∷ []) []) e

one_fails : (p : ℕ → Bool) (k : ℕ) → p k ≡ false → filter p (k ∷ []) ≡ []
one_fails p k e = ap (λ (b : Bool). cond b (k ∷ []) []) e

-- numbers that do not pass add nothing
more_none : (p : ℕ → Bool) (a d : ℕ) → ((m : ℕ) → a ≤ m → m < a + d → p m ≡ false) → filter p (below (a + d)) ≡ filter p (below a)
more_none p a zero h =
    let same : a + 0 ≡ a = omega arith in
    ap (λ (j : ℕ). filter p (below j)) same
more_none p a (suc d) h =
    let up : a + suc d ≡ suc (a + d) = omega arith in
    ap (λ (j : ℕ). filter p (below j)) up
    ∙ filter-append p (below (a + d)) ((a + d) ∷ [])
    ∙ ap (λ (l : List ℕ). filter p (below (a + d)) ++ l) (one_fails p (a + d) (h (a + d) (omega arith) (omega arith)))
    ∙ append-nil (filter p (below (a + d)))
    ∙ more_none p a d (λ m l k. h m l (omega arith))

pub none_between : (p : ℕ → Bool) (a b : ℕ) → a ≤ b → ((m : ℕ) → a ≤ m → m < b → p m ≡ false) → filter p (below b) ≡ filter p (below a)
none_between p a b l h =
    let whole : a + (b - a) ≡ b = omega arith in
    subst (λ (j : ℕ). filter p (below j) ≡ filter p (below a)) whole (more_none p a (b - a) (λ m x y. h m x (omega arith)))

-- and none at all
pub none_below : (p : ℕ → Bool) (b : ℕ) → ((m : ℕ) → m < b → p m ≡ false) → filter p (below b) ≡ []
none_below p b h = none_between p 0 b (omega arith) (λ m x y. h m y)

-- wherever beyond the last that passes
pub none_above : (p : ℕ → Bool) (a b : ℕ) → ((m : ℕ) → a ≤ m → p m ≡ false) → ((m : ℕ) → b ≤ m → p m ≡ false) → filter p (below a) ≡ filter p (below b)
none_above p a b h k = at (nat_le a b) refl
  where
    at : (t : Bool) → nat_le a b ≡ t → filter p (below a) ≡ filter p (below b)
    at true e = sym (none_between p a b (leb-true a b e) (λ m x y. h m x))
    at false e = none_between p b a (let l = leb-false a b e in omega arith) (λ m x y. k m x)

-- the next number that passes
pub next_passes : (p : ℕ → Bool) (a k : ℕ) → a ≤ k → ((m : ℕ) → a ≤ m → m < k → p m ≡ false) → p k ≡ true → filter p (below (suc k)) ≡ filter p (below a) ++ k ∷ []
next_passes p a k l none passes =
    filter-append p (below k) (k ∷ [])
    ∙ ap (λ (ks : List ℕ). ks ++ filter p (k ∷ [])) (none_between p a k l none)
    ∙ ap (λ (ks : List ℕ). filter p (below a) ++ ks) (one_passes p k passes)

-- the numbers below one, and those from it on
split : (p : ℕ → Bool) (a d : ℕ) → filter p (below (a + d)) ≡ filter p (below a) ++ filter (λ n. nat_le a n && p n) (below (a + d))
split p a zero =
    let same : a + 0 ≡ a = omega arith in
    ap (λ (j : ℕ). filter p (below j)) same
    ∙ sym (append-nil (filter p (below a)))
    ∙ ap (λ (l : List ℕ). filter p (below a) ++ l)
    (sym (ap (λ (j : ℕ). filter (λ n. nat_le a n && p n) (below j)) same ∙ none_below (λ n. nat_le a n && p n) a (λ m l. small a m (p m) l)))
  where
    small : (a m : ℕ) (b : Bool) → m < a → (nat_le a m && b) ≡ false
    small a m b l = at (nat_le a m) refl
      where
        at : (t : Bool) → nat_le a m ≡ t → (t && b) ≡ false
        at true e = let k = leb-true a m e in absurd (omega arith)
        at false e = refl
split p a (suc d) =
    let up : a + suc d ≡ suc (a + d) = omega arith in
    let q = λ (n : ℕ). nat_le a n && p n in
    ap (λ (j : ℕ). filter p (below j)) up
    ∙ filter-append p (below (a + d)) ((a + d) ∷ [])
    ∙ ap (λ (l : List ℕ). l ++ filter p ((a + d) ∷ [])) (split p a d)
    ∙ append_assoc (filter p (below a)) (filter q (below (a + d))) (filter p ((a + d) ∷ []))
    ∙ ap (λ (l : List ℕ). filter p (below a) ++ (filter q (below (a + d)) ++ l)) (same_one (nat_le a (a + d)) (large a d))
    ∙ ap (λ (l : List ℕ). filter p (below a) ++ l) (sym (filter-append q (below (a + d)) ((a + d) ∷ [])))
    ∙ ap (λ (j : ℕ). filter p (below a) ++ filter q (below j)) (sym up)
  where
    large : (a d : ℕ) → nat_le a (a + d) ≡ true
    large a d = at (nat_le a (a + d)) refl
      where
        at : (t : Bool) → nat_le a (a + d) ≡ t → t ≡ true
        at true e = refl
        at false e = let k = leb-false a (a + d) e in absurd (omega arith)

    same_one : (t : Bool) → t ≡ true → cond (p (a + d)) ((a + d) ∷ []) [] ≡ cond (t && p (a + d)) ((a + d) ∷ []) []
    same_one true e = refl
    same_one false e = absurd cc

-- a number that no node has
pub beyond : (t : TreeShape) (m : ℕ) → IsLawful t → t.added < m → has (is_shape m) t.rows ≡ false
beyond t m lawful l = not_there (is_shape m) t.rows (lawful.numbered m l)

-- ALL LIVE NODES ARE THOSE BELOW A NUMBER AND THOSE FROM IT ON
pub live_parts : (t : TreeShape) (a : ℕ) → IsLawful t → there_of t (below a) ++ live_from a t ≡ live_nodes t
live_parts t a lawful = at (nat_le a (suc t.added)) refl
  where
    p : ℕ → Bool
    p n = has (is_shape n) t.rows

    q : ℕ → Bool
    q n = nat_le a n && has (is_shape n) t.rows

    at : (b : Bool) → nat_le a (suc t.added) ≡ b → filter p (below a) ++ filter q (below (suc t.added)) ≡ live_nodes t
    at true e =
        let l = leb-true a (suc t.added) e in
        let whole : a + (suc t.added - a) ≡ suc t.added = omega arith in
        subst (λ (j : ℕ). filter p (below a) ++ filter q (below j) ≡ filter p (below j)) whole (sym (split p a (suc t.added - a)))
        ∙ ap (filter p) (sym (all_below t.added))
    at false e =
        let l = leb-false a (suc t.added) e in
        ap (λ (ks : List ℕ). filter p (below a) ++ ks) (none_below q (suc t.added) (λ m k. small m (p m) (omega arith)))
        ∙ append-nil (filter p (below a))
        ∙ none_between p (suc t.added) a (omega arith) (λ m x y. beyond t m lawful (omega arith))
        ∙ ap (filter p) (sym (all_below t.added))
      where
        small : (m : ℕ) (b : Bool) → m < a → (nat_le a m && b) ≡ false
        small m b l = by (nat_le a m) refl
          where
            by : (t : Bool) → nat_le a m ≡ t → (t && b) ≡ false
            by true e = let k = leb-true a m e in absurd (omega arith)
            by false e = refl

-- THE NODES FROM A NUMBER ON, as they are found one after another

small : (a m : ℕ) (b : Bool) → m < a → (nat_le a m && b) ≡ false
small a m b l = at (nat_le a m) refl
  where
    at : (t : Bool) → nat_le a m ≡ t → (t && b) ≡ false
    at true e = let k = leb-true a m e in absurd (omega arith)
    at false e = refl

failing : (a : Bool) (b : Bool) → b ≡ false → (a && b) ≡ false
failing true b e = e
failing false b e = refl

passing : (a m : ℕ) (b : Bool) → a ≤ m → b ≡ true → (nat_le a m && b) ≡ true
passing a m b l e = at (nat_le a m) refl
  where
    at : (t : Bool) → nat_le a m ≡ t → (t && b) ≡ true
    at true k = e
    at false k = let n = leb-false a m k in absurd (omega arith)

-- those of them that are below another number
abbrev pub found_to : ℕ → TreeShape → ℕ → List ℕ
found_to first t from = filter (λ n. nat_le first n && has (is_shape n) t.rows) (below from)

pub found_none : (t : TreeShape) (first : ℕ) → found_to first t first ≡ []
found_none t first = none_below (λ n. nat_le first n && has (is_shape n) t.rows) first (λ m l. small first m (has (is_shape m) t.rows) l)

pub found_next : (t : TreeShape) (first from k : ℕ) → first ≤ from → from ≤ k → has (is_shape k) t.rows ≡ true → ((m : ℕ) → from ≤ m → m < k → has (is_shape m) t.rows ≡ false)
    → found_to first t (k + 1) ≡ found_to first t from ++ k ∷ []
found_next t first from k l m there none =
    let one : k + 1 ≡ suc k = omega arith in
    ap (found_to first t) one
    ∙ next_passes (λ n. nat_le first n && has (is_shape n) t.rows) from k m (λ n x y. failing (nat_le first n) (has (is_shape n) t.rows) (none n x y)) (passing first k (has (is_shape k) t.rows) (omega arith) there)

-- and behind others
pub found_more : (t : TreeShape) (first from k : ℕ) (before now more : List ℕ) → first ≤ from → IsNextNode t from (Some k) → now ≡ before ++ found_to first t from → more ≡ now ++ k ∷ []
    → more ≡ before ++ found_to first t (k + 1)
found_more t first from k before now more l next so is =
    is ∙ ap (λ (ks : List ℕ). ks ++ k ∷ []) so ∙ append_assoc before (found_to first t from) (k ∷ [])
    ∙ ap (λ (ks : List ℕ). before ++ ks) (sym (found_next t first from k l next.0 next.1 next.2))

pub found_all : (t : TreeShape) (first from : ℕ) → IsLawful t → ((m : ℕ) → from ≤ m → has (is_shape m) t.rows ≡ false) → found_to first t from ≡ live_from first t
found_all t first from lawful none =
    none_above (λ n. nat_le first n && has (is_shape n) t.rows) from (suc t.added) (λ n x. failing (nat_le first n) (has (is_shape n) t.rows) (none n x))
    (λ n x. failing (nat_le first n) (has (is_shape n) t.rows) (beyond t n lawful (omega arith)))

-- no number has more than 32 bits
pub none_so_high : (t : TreeShape) (k : ℕ) → IsLawful t → (k < 4294967296 → ⊥) → (m : ℕ) → k ≤ m → has (is_shape m) t.rows ≡ false
none_so_high t k lawful high m l = beyond t m lawful (at (nat_le 4294967296 k) refl)
  where
    at : (b : Bool) → nat_le 4294967296 k ≡ b → t.added < m
    at true e = let g = leb-true 4294967296 k e in let few = lawful.few_ever in omega arith
    at false e = absurd (high (leb-false 4294967296 k e))

-- all were looked at
pub none_from : (t : TreeShape) (next : ℕ) → (next ≤ t.added → ⊥) → live_from next t ≡ []
none_from t next past = none_below (λ n. nat_le next n && has (is_shape n) t.rows) (suc t.added) (λ m l. small next m (has (is_shape m) t.rows) (at (nat_le next t.added) refl m l))
  where
    at : (b : Bool) → nat_le next t.added ≡ b → (m : ℕ) → m < suc t.added → m < next
    at true e m l = absurd (past (leb-true next t.added e))
    at false e m l = let g = leb-false next t.added e in omega arith

-- HOW MANY THERE ARE

numbered_below : ℕ → ShapeRow → Bool
numbered_below k row = nat_lt row.node k

one_more : (n k : ℕ) → cond {A = ℕ} (nat_lt n (suc k)) 1 0 ≡ cond {A = ℕ} (nat_lt n k) 1 0 + cond {A = ℕ} (n == k) 1 0
one_more n k = at (nat_lt n (suc k)) refl (nat_lt n k) refl (n == k) refl
  where
    at : (a : Bool) → nat_lt n (suc k) ≡ a → (b : Bool) → nat_lt n k ≡ b → (d : Bool) → (n == k) ≡ d → cond {A = ℕ} a 1 0 ≡ cond {A = ℕ} b 1 0 + cond {A = ℕ} d 1 0
    at true x true y true z = let e = eqb-true n k z in let l = ltb-true n k y in absurd (omega arith)
    at true x true y false z = refl
    at true x false y true z = refl
    at true x false y false z = let l = ltb-true n (suc k) x in let m = ltb-false n k y in let same : n ≡ k = omega arith in let e = eq-eqb n k same in absurd cc
    at false x true y d z = let l = ltb-false n (suc k) x in let m = ltb-true n k y in absurd (omega arith)
    at false x false y true z = let l = ltb-false n (suc k) x in let e = eqb-true n k z in absurd (omega arith)
    at false x false y false z = refl

below_more : (k : ℕ) (f : Forest ShapeRow) → count (λ row. nat_lt row.node (suc k)) f ≡ count (λ row. nat_lt row.node k) f + count (is_shape k) f
below_more k nil = refl
below_more k (tree a c r) = let x = one_more a.node k in let y = below_more k c in let z = below_more k r in omega arith

below_zero : (f : Forest ShapeRow) → count (λ row. nat_lt row.node 0) f ≡ 0
below_zero nil = refl
below_zero (tree a c r) = let y = below_zero c in let z = below_zero r in at (nat_lt a.node 0) refl y z
  where
    at : (b : Bool) → nat_lt a.node 0 ≡ b → count (λ row. nat_lt row.node 0) c ≡ 0 → count (λ row. nat_lt row.node 0) r ≡ 0 → cond b 1 0 + (count (λ row. nat_lt row.node 0) c + count (λ row. nat_lt row.node 0) r) ≡ 0
    at true e y z = let l = ltb-true a.node 0 e in absurd (omega arith)
    at false e y z = omega arith

once_there : (t : TreeShape) (k : ℕ) → IsLawful t → length (filter (λ n. has (is_shape n) t.rows) (k ∷ [])) ≡ count (is_shape k) t.rows
once_there t k lawful = at (has (is_shape k) t.rows) refl
  where
    at : (b : Bool) → has (is_shape k) t.rows ≡ b → length (cond b (k ∷ []) []) ≡ count (is_shape k) t.rows
    at true e = let l = count-has (is_shape k) t.rows e in let o = lawful.once k in omega arith
    at false e = by (nat_le 1 (count (is_shape k) t.rows)) refl
      where
        by : (d : Bool) → nat_le 1 (count (is_shape k) t.rows) ≡ d → 0 ≡ count (is_shape k) t.rows
        by true x = let y = has-count (is_shape k) t.rows (leb-true 1 (count (is_shape k) t.rows) x) in absurd cc
        by false x = let l = leb-false 1 (count (is_shape k) t.rows) x in omega arith

counted_below : (t : TreeShape) (k : ℕ) → IsLawful t → length (there_of t (below k)) ≡ count (λ row. nat_lt row.node k) t.rows
counted_below t zero lawful = sym (below_zero t.rows)
counted_below t (suc k) lawful =
    let parts = ap length (filter-append (λ n. has (is_shape n) t.rows) (below k) (k ∷ [])) in
    let both = length-append (there_of t (below k)) (there_of t (k ∷ [])) in
    let rest = counted_below t k lawful in
    let one = once_there t k lawful in
    let more = below_more k t.rows in
    omega arith

all_below_that : (k : ℕ) (f : Forest ShapeRow) → ((n : ℕ) → k ≤ n → count (is_shape n) f ≡ 0) → count (λ row. nat_lt row.node k) f ≡ count (λ row. true) f
all_below_that k nil none = refl
all_below_that k (tree a c r) none =
    let x = all_below_that k c (λ n l. let z = none n l in omega arith) in
    let y = all_below_that k r (λ n l. let z = none n l in omega arith) in
    at (nat_lt a.node k) refl x y
  where
    at : (b : Bool) → nat_lt a.node k ≡ b → count (λ row. nat_lt row.node k) c ≡ count (λ row. true) c → count (λ row. nat_lt row.node k) r ≡ count (λ row. true) r
        → cond b 1 0 + (count (λ row. nat_lt row.node k) c + count (λ row. nat_lt row.node k) r) ≡ 1 + (count (λ row. true) c + count (λ row. true) r)
    at true e x y = omega arith
    at false e x y =
        let l = ltb-false a.node k e in
        let z = none a.node (omega arith) in
        let self = ap (λ (b : Bool). cond {A = ℕ} b 1 0) (eq-eqb a.node a.node refl) in
        absurd (omega arith)

pub live_count : (t : TreeShape) → IsLawful t → length (live_nodes t) ≡ count (λ row. true) t.rows
live_count t lawful =
    ap (λ ks. length (there_of t ks)) (all_below t.added)
    ∙ counted_below t (suc t.added) lawful
    ∙ all_below_that (suc t.added) t.rows (λ n l. lawful.numbered n (omega arith))

-- WHERE NONE THAT WAS SEEN IS GONE, all are seen

filter_short : (p : ℕ → Bool) (xs : List ℕ) → length (filter p xs) ≤ length xs
filter_short p [] = omega arith
filter_short p (x ∷ xs) = let l = filter_short p xs in at (p x) l
  where
    at : (b : Bool) → length (filter p xs) ≤ length xs → length (cond b (x ∷ filter p xs) (filter p xs)) ≤ suc (length xs)
    at true l = omega arith
    at false l = omega arith

filter_whole : (p : ℕ → Bool) (xs : List ℕ) → length (filter p xs) ≡ length xs → filter p xs ≡ xs
filter_whole p [] e = refl
filter_whole p (x ∷ xs) e = at (p x) e (λ h. filter_whole p xs h)
  where
    at : (b : Bool) → length (cond b (x ∷ filter p xs) (filter p xs)) ≡ suc (length xs) → (length (filter p xs) ≡ length xs → filter p xs ≡ xs) → cond b (x ∷ filter p xs) (filter p xs) ≡ x ∷ xs
    at true e rest = ap (λ l. x ∷ l) (rest (omega arith))
    at false e rest = let l = filter_short p xs in absurd (omega arith)

pub all_seen : (t : TreeShape) (seen now : List ℕ) (next : ℕ) → IsLawful t → CanFollow seen next t → now ≡ seen ++ live_from next t → length now ≡ count (λ row. true) t.rows → now ≡ live_nodes t
all_seen t seen now next lawful can is long =
    let parts : there_of t seen ++ live_from next t ≡ live_nodes t = ap (λ ks. ks ++ live_from next t) can ∙ live_parts t next lawful in
    let many = ap length parts in
    let a = length-append (there_of t seen) (live_from next t) in
    let b = length-append seen (live_from next t) in
    let c = ap length is in
    let d = live_count t lawful in
    is ∙ ap (λ ks. ks ++ live_from next t) (sym (filter_whole (λ n. has (is_shape n) t.rows) seen (omega arith))) ∙ parts

pub none_seen : (t : TreeShape) (now : List ℕ) → IsLawful t → now ≡ live_from 0 t → now ≡ live_nodes t
none_seen t now lawful is = is ∙ live_parts t 0 lawful

-- WHAT IS DRAWN OF THE LIVE NODES

pub some_live : (t : TreeShape) → IsLawful t → 0 < length (live_nodes t)
some_live t lawful = let n = live_count t lawful in rooted lawful.rooted.0 lawful.rooted.1 lawful.rooted.3 n
  where
    rooted : (row : ShapeRow) (children : Forest ShapeRow) → t.rows ≡ tree row children nil → length (live_nodes t) ≡ count (λ row. true) t.rows → 0 < length (live_nodes t)
    rooted row children is n = let m = ap (count (λ row. true)) is in omega arith

pub few_live : (t : TreeShape) → IsLawful t → length (live_nodes t) ≤ 8192
few_live t lawful = let n = live_count t lawful in let few = lawful.few in omega arith

kept_passes : (p : ℕ → Bool) (xs : List ℕ) (i : ℕ) → i < length (filter p xs) → p (get_or (filter p xs) i 0) ≡ true
kept_passes p [] i l = absurd (omega arith)
kept_passes p (x ∷ xs) i l = at (p x) refl i l (λ j h. kept_passes p xs j h)
  where
    at : (b : Bool) → p x ≡ b → (i : ℕ) → i < length (cond b (x ∷ filter p xs) (filter p xs)) → ((j : ℕ) → j < length (filter p xs) → p (get_or (filter p xs) j 0) ≡ true)
        → p (get_or (cond b (x ∷ filter p xs) (filter p xs)) i 0) ≡ true
    at true e zero l rest = e
    at true e (suc i) l rest = rest i (omega arith)
    at false e i l rest = rest i l

pub live_there : (t : TreeShape) (i : ℕ) → i < length (live_nodes t) → has (is_shape (get_or (live_nodes t) i 0)) t.rows ≡ true
live_there t i l = kept_passes (λ n. has (is_shape n) t.rows) (numbers_to t.added) i l

-- A NODE HAS NO MORE CHILDREN THAN THERE ARE NODES

tops_few : (g : Forest ShapeRow) → length (numbers g) ≤ count (λ row. true) g
tops_few nil = omega arith
tops_few (tree a c r) = let l = tops_few r in omega arith

below_few : (n : ℕ) (f : Forest ShapeRow) → count (λ row. true) (children_at (is_shape n) f) ≤ count (λ row. true) f
below_few n nil = omega arith
below_few n (tree a c r) = at (is_shape n a) (has (is_shape n) c) (below_few n c) (below_few n r)
  where
    at : (b d : Bool) → count (λ row. true) (children_at (is_shape n) c) ≤ count (λ row. true) c → count (λ row. true) (children_at (is_shape n) r) ≤ count (λ row. true) r
        → count (λ row. true) (cond b c (cond d (children_at (is_shape n) c) (children_at (is_shape n) r))) ≤ 1 + (count (λ row. true) c + count (λ row. true) r)
    at true d x y = omega arith
    at false true x y = omega arith
    at false false x y = omega arith

pub few_children : (t : TreeShape) (n : ℕ) → IsLawful t → length (children_of n t) ≤ 8192
few_children t n lawful =
    let a = tops_few (children_at (is_shape n) t.rows) in
    let b = below_few n t.rows in
    let f = lawful.few in
    omega arith

-- what is drawn of them is there
pub drawn_there : (t : TreeShape) (nodes : List ℕ) (x n : ℕ) → IsLawful t → nodes ≡ live_nodes t → n ≡ drawn_of nodes x → has (is_shape n) t.rows ≡ true
drawn_there t nodes x n lawful live is =
    let some = some_live t lawful in
    let within : drawn x % length (live_nodes t) < length (live_nodes t) = omega arith in
    subst (λ m. has (is_shape m) t.rows ≡ true) (sym (is ∙ ap (λ ks. drawn_of ks x) live)) (live_there t (drawn x % length (live_nodes t)) within)

-- WHAT WAS SEEN OF A TREE CAN BE FOLLOWED IN A LATER ONE, to which no node came back

filter_both : (p q : ℕ → Bool) (k : ℕ) → ((m : ℕ) → m < k → q m ≡ true → p m ≡ true) → filter q (filter p (below k)) ≡ filter q (below k)
filter_both p q zero h = refl
filter_both p q (suc k) h =
    ap (filter q) (filter-append p (below k) (k ∷ []))
    ∙ filter-append q (filter p (below k)) (filter p (k ∷ []))
    ∙ ap (λ (ks : List ℕ). ks ++ filter q (filter p (k ∷ []))) (filter_both p q k (λ m l e. h m (omega arith) e))
    ∙ ap (λ (ks : List ℕ). filter q (below k) ++ ks) (one (p k) refl (q k) refl)
    ∙ sym (filter-append q (below k) (k ∷ []))
  where
    one : (a : Bool) → p k ≡ a → (b : Bool) → q k ≡ b → filter q (cond a (k ∷ []) []) ≡ cond b (k ∷ []) []
    one true x true y = one_passes q k y
    one true x false y = one_fails q k y
    one false x true y = let z = h k (omega arith) y in absurd cc
    one false x false y = refl

pub follow_on : (t later : TreeShape) (seen : List ℕ) (next : ℕ) → seen ≡ live_nodes t → next ≡ t.added + 1 → ((m : ℕ) → m ≤ t.added → has (is_shape m) later.rows ≡ true → has (is_shape m) t.rows ≡ true) → CanFollow seen next later
follow_on t later seen next is from back =
    let up : next ≡ suc t.added = omega (arith, from) in
    ap (there_of later) (is ∙ ap (there_of t) (all_below t.added))
    ∙ filter_both (λ n. has (is_shape n) t.rows) (λ n. has (is_shape n) later.rows) (suc t.added) (λ m l e. back m (omega arith) e)
    ∙ ap (λ (j : ℕ). there_of later (below j)) (sym up)
