-- Nodes noted one after another, and forgotten.
use Rattle.std.proofs.Common.{◌≡◌, ◌⊎◌, inl, inr, ℕ, suc, Bool, true, false, cond, ◌&&◌, Option, Some, None, List, [], ◌∷◌, ◌++◌, refl, sym, ap, ◌∙◌, subst, arith, true≢false}
use Rattle.std.specs.Prelude.{◌==◌, map, Result, Ok, Err, OnErr}
use Rattle.std.specs.Option.{option_map}
use Rattle.std.specs.Ordering.{nat_cmp}
use Rattle.std.specs.BTreeMap.{is_at}
use Rattle.std.proofs.lemmas.Bool.Decides.{nat_tests}
use Rattle.std.proofs.lemmas.List.{map-append}
use Rattle.atspi_tree_model.specs.declared.contents.Kinds.{Kinds}
use Rattle.atspi_tree_model.specs.Forest.{Forest, nil, tree, has, find, labels, pick, seats}
use Rattle.atspi_tree_model.specs.Row.{ShapeRow}
use Rattle.atspi_tree_model.specs.RowRules.{shapes}
use Rattle.atspi_tree_model.specs.Tree.{IsTree, is_shape}
use Rattle.atspi_tree.specs.TreeShape.{TreeShape, IsLawful}
use Rattle.atspi_tree.specs.Seats.{seat_at, seats_below, seats_in}
use Rattle.atspi_tree.specs.declared.seats.Seat.{Seat}
use Rattle.atspi_app_exported.proofs.Closed.{numbers_at, subtree_numbers}
use Rattle.atspi_audit_held.specs.Held.{nothing}
use Rattle.atspi_audit_held.specs.inner.Lacking.{lacks, lacks_at, no_parts}
use Rattle.atspi_audit_held.proofs.Lacked.{at_row, lacking_there}

-- a number among those of some places
abbrev pub among : ℕ → List Seat → Bool
among n [] = false
among n (s ∷ ss) = cond (is_at (nat_cmp s.node) n) true (among n ss)

-- and among numbers, by the test of nodes
abbrev is_in : ℕ → List ℕ → Bool
is_in n [] = false
is_in n (x ∷ xs) = cond (x == n) true (is_in n xs)

pub same_number : (x n : ℕ) → is_at (nat_cmp x) n ≡ true → x ≡ n
same_number x n e = grind (arith, nat_tests)

same_test : (x n : ℕ) → is_at (nat_cmp x) n ≡ (x == n)
same_test x n = grind (arith, nat_tests)

is_in-append : (n : ℕ) (xs ys : List ℕ) → is_in n (xs ++ ys) ≡ cond (is_in n xs) true (is_in n ys)
is_in-append n [] ys = refl
is_in-append n (x ∷ xs) ys = at (x == n) (is_in-append n xs ys)
  where
    at : (b : Bool) → is_in n (xs ++ ys) ≡ cond (is_in n xs) true (is_in n ys) → cond b true (is_in n (xs ++ ys)) ≡ cond (cond b true (is_in n xs)) true (is_in n ys)
    at true e = refl
    at false e = e

has_numbers : (n : ℕ) (g : Forest ShapeRow) → has (is_shape n) g ≡ is_in n (map (λ (row : ShapeRow). row.node) (labels g))
has_numbers n nil = refl
has_numbers n (tree a c r) =
    ap (cond (a.node == n) true)
    (rw (has_numbers n c, has_numbers n r)
    (sym (is_in-append n (map (λ (row : ShapeRow). row.node) (labels c)) (map (λ (row : ShapeRow). row.node) (labels r)))
    ∙ ap (is_in n) (sym (map-append (λ (row : ShapeRow). row.node) (labels c) (labels r)))))

among_is : (n : ℕ) (ss : List Seat) → among n ss ≡ is_in n (numbers_at ss)
among_is n [] = refl
among_is n (s ∷ ss) = rw (same_test s.node n, among_is n ss) refl

-- a fact holds behind an error
pub err_so : {T E : Type 0} (P : Type 0) (r : Result T E) → P → OnErr r P
err_so P (Ok x) p = tt
err_so P (Err e) p = p

any_of : (b : Bool) → cond b true true ≡ true
any_of true = refl
any_of false = refl

-- some nodes are noted, and of what is left those that have a part are to be
pub record IsCollecting (f : Forest ShapeRow) (noted : ℕ → Bool) (left : List Seat) : Type 0 where
  pub sound : (n : ℕ) → noted n ≡ true → lacks_at no_parts f n ≡ true
  pub complete : (n : ℕ) → lacks_at no_parts f n ≡ true → cond (among n left) true (noted n) ≡ true

pub collecting_starts : (t : TreeShape) (noted : ℕ → Bool) (left : List Seat) → ((n : ℕ) → noted n ≡ false) → left ≡ seats_in t
    → ((n : ℕ) → among n (seats_in t) ≡ has (is_shape n) t.rows) → IsCollecting t.rows noted left
collecting_starts t noted left none e all = record {
  sound = λ n h. absurd (true≢false (sym h ∙ none n));
  complete = λ n h. ap (λ b. cond b true (noted n)) (ap (among n) e ∙ all n ∙ lacking_there no_parts t.rows n h);
}

split : (test b s : Bool) → cond (test && b) true s ≡ true → ((test ≡ true) × (b ≡ true)) ⊎ (s ≡ true)
split true true s h = inl (refl, refl)
split true false s h = inr h
split false b s h = inr h

pub collecting_more : (f : Forest ShapeRow) (k : ℕ) (noted next : ℕ → Bool) (left rest : List Seat) (seat : Seat) (kinds : Kinds) (test : Bool)
    → IsTree shapes f k → left ≡ seat ∷ rest → option_map (λ (row : ShapeRow). row.kinds) (find (is_shape seat.node) f) ≡ Some kinds → test ≡ lacks nothing kinds
    → ((n : ℕ) → next n ≡ cond (test && is_at (nat_cmp seat.node) n) true (noted n)) → IsCollecting f noted left → IsCollecting f next rest
collecting_more f k noted next left rest seat kinds test t e found is step c = record { sound = sound; complete = complete }
  where
    here : lacks_at no_parts f seat.node ≡ test
    here = at_row no_parts f k seat.node kinds t found ∙ sym is

    sound : (n : ℕ) → next n ≡ true → lacks_at no_parts f n ≡ true
    sound n h = elim (split test (is_at (nat_cmp seat.node) n) (noted n) (sym (step n) ∙ h)) [
      | inl x ↦ subst (λ m. lacks_at no_parts f m ≡ true) (same_number seat.node n x.1) (here ∙ x.0)
      | inr s ↦ c.sound n s
    ]

    complete : (n : ℕ) → lacks_at no_parts f n ≡ true → cond (among n rest) true (next n) ≡ true
    complete n h = at (is_at (nat_cmp seat.node) n) refl
      where
        before : cond (among n (seat ∷ rest)) true (noted n) ≡ true
        before = subst (λ l. cond (among n l) true (noted n) ≡ true) e (c.complete n h)

        at : (b : Bool) → is_at (nat_cmp seat.node) n ≡ b → cond (among n rest) true (next n) ≡ true
        at true k =
            let yes : test ≡ true = sym here ∙ ap (lacks_at no_parts f) (same_number seat.node n k) ∙ h in
            let new : next n ≡ true = step n ∙ (rw (yes, k) refl) in
            ap (cond (among n rest) true) new ∙ any_of (among n rest)
        at false k =
            let old : next n ≡ noted n = step n ∙ (rw k (no test)) in
            ap (cond (among n rest) true) old ∙ subst (λ b. cond (cond b true (among n rest)) true (noted n) ≡ true) k before
          where
            no : (test : Bool) → cond (test && false) true (noted n) ≡ noted n
            no true = refl
            no false = refl

same_tests : (a b : Bool) → (a ≡ true → b ≡ true) → (b ≡ true → a ≡ true) → a ≡ b
same_tests true b h k = sym (h refl)
same_tests false true h k = k refl
same_tests false false h k = refl

pub collecting_ends : (f : Forest ShapeRow) (noted : ℕ → Bool) (left : List Seat) → left ≡ [] → IsCollecting f noted left → (n : ℕ) → noted n ≡ lacks_at no_parts f n
collecting_ends f noted left e c n =
    same_tests (noted n) (lacks_at no_parts f n) (c.sound n) (λ h. subst (λ l. cond (among n l) true (noted n) ≡ true) e (c.complete n h))

-- the places of a tree have the numbers of its nodes
seat_numbers : (g : Forest ShapeRow) (up : Option ℕ) (i : ℕ) → numbers_at (map seat_at (seats (λ row. Some row.node) up i g)) ≡ map (λ (row : ShapeRow). row.node) (labels g)
seat_numbers nil up i = refl
seat_numbers (tree a c r) up i =
    ap (λ l. a.node ∷ l)
    (ap (map (λ (s : Seat). s.node)) (map-append seat_at (seats (λ row. Some row.node) (Some a.node) 0 c) (seats (λ row. Some row.node) up (suc i) r))
    ∙ map-append (λ (s : Seat). s.node) (map seat_at (seats (λ row. Some row.node) (Some a.node) 0 c)) (map seat_at (seats (λ row. Some row.node) up (suc i) r))
    ∙ ap (λ l. l ++ numbers_at (map seat_at (seats (λ row. Some row.node) up (suc i) r))) (seat_numbers c (Some a.node) 0)
    ∙ ap (λ l. map (λ (row : ShapeRow). row.node) (labels c) ++ l) (seat_numbers r up (suc i))
    ∙ sym (map-append (λ (row : ShapeRow). row.node) (labels c) (labels r)))

pub all_there : (t : TreeShape) (n : ℕ) → among n (seats_in t) ≡ has (is_shape n) t.rows
all_there t n = among_is n (seats_in t) ∙ ap (is_in n) (seat_numbers t.rows None 0) ∙ sym (has_numbers n t.rows)

-- what is left to forget makes of the noted nodes what is wanted
pub record IsForgetting (now wanted : ℕ → Bool) (left : List Seat) : Type 0 where
  pub forgets : (n : ℕ) → cond (among n left) false (now n) ≡ wanted n

pub forgetting_starts : (t : TreeShape) (x : ℕ) (old now : ℕ → Bool) (left : List Seat) → IsLawful t → has (is_shape x) t.rows ≡ true
    → ((n : ℕ) → now n ≡ cond (is_at (nat_cmp x) n) false (old n)) → left ≡ seats_below x t
    → IsForgetting now (λ n. cond (has (is_shape n) (pick (is_shape x) t.rows)) false (old n)) left
forgetting_starts t x old now left lawful there e l = record {
  forgets = λ n.
      ap (λ ss. cond (among n ss) false (now n)) l ∙ ap (cond (among n (seats_below x t)) false) (e n)
      ∙ both (among n (seats_below x t)) (is_at (nat_cmp x) n) (old n)
      ∙ ap (λ b. cond b false (old n)) (sym (goes n));
}
  where
    both : (a b o : Bool) → cond a false (cond b false o) ≡ cond (cond b true a) false o
    both true true o = refl
    both true false o = refl
    both false true o = refl
    both false false o = refl

    goes : (n : ℕ) → has (is_shape n) (pick (is_shape x) t.rows) ≡ cond (is_at (nat_cmp x) n) true (among n (seats_below x t))
    goes n =
        has_numbers n (pick (is_shape x) t.rows) ∙ ap (is_in n) (subtree_numbers t x lawful there)
        ∙ (rw (same_test x n, among_is n (seats_below x t)) refl)

pub forgetting_more : (now next wanted : ℕ → Bool) (left rest : List Seat) (seat : Seat) → left ≡ seat ∷ rest
    → ((n : ℕ) → next n ≡ cond (is_at (nat_cmp seat.node) n) false (now n)) → IsForgetting now wanted left → IsForgetting next wanted rest
forgetting_more now next wanted left rest seat e step c = record {
  forgets = λ n.
      ap (cond (among n rest) false) (step n) ∙ both (among n rest) (is_at (nat_cmp seat.node) n) (now n)
      ∙ subst (λ l. cond (among n l) false (now n) ≡ wanted n) e (c.forgets n);
}
  where
    both : (a b o : Bool) → cond a false (cond b false o) ≡ cond (cond b true a) false o
    both true true o = refl
    both true false o = refl
    both false true o = refl
    both false false o = refl

pub forgetting_ends : (now wanted : ℕ → Bool) (left : List Seat) → left ≡ [] → IsForgetting now wanted left → (n : ℕ) → now n ≡ wanted n
forgetting_ends now wanted left e c n = subst (λ l. cond (among n l) false (now n) ≡ wanted n) e (c.forgets n)
