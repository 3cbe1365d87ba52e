-- Every part of a tree is known exactly where no node is noted as lacking one.
use Rattle.std.proofs.Common.{◌≡◌, ℕ, ◌+◌, ◌<◌, ◌≤◌, ◌^◌, Bool, true, false, cond, ◌&&◌, ◌||◌, not, Option, Some, None, List, [], ◌∷◌, ◌++◌, length, refl, sym, ap, ◌∙◌, subst, arith, true≢false}
use Rattle.std.specs.Prelude.{◌==◌, ◌↔◌, nat_lt, IsTrue, is_some}
use Rattle.std.specs.List.{AllByRecursion, list_any}
use Rattle.std.specs.Ordering.{nat_cmp}
use Rattle.std.specs.BTreeMap.{is_at}
use Rattle.std.proofs.lemmas.Bool.Decides.{nat_tests}
use Rattle.std.proofs.lemmas.Bool.{eqb-true, ltb-true, ltb-false}
use Rattle.atspi_tree_model.specs.declared.view.Row.{Row}
use Rattle.atspi_tree_model.specs.Forest.{Forest, nil, tree, count, labels, EachLabel}
use Rattle.atspi_tree_model.specs.Row.{TextContents, TreeRow, IsContents}
use Rattle.atspi_tree_model.specs.RowRules.{rows}
use Rattle.atspi_tree_model.specs.Tree.{IsTree, is_node, shape_of}
use Rattle.atspi_tree_model.specs.View.{Told, shown, text_part, number_part, characters_of, caret_of, view}
use Rattle.atspi_protocol.specs.following.Wishes.{unknown_parts, unknown_if, text_is_unknown, number_is_unknown}
use Rattle.atspi_protocol.specs.declared.news.part.PartName.TheVariants.{Text, Caret, Columns}
use Rattle.atspi_whole_tree.specs.Whole.{AppTree}
use Rattle.atspi_audit_held.specs.Held.{Agrees, Holds, told_by}
use Rattle.atspi_audit_held.specs.declared.marks.Marks.{Marks}
use Rattle.atspi_audit_held.specs.inner.Lacking.{AreMarks, lacks, lacking_row, lacks_at}

-- of one row
known_by : (kt kc : Bool) (told : Told) (text : Option TextContents) (columns : Option ℕ) → kt ≡ is_some text → kc ≡ is_some columns
    → (cond (kt && not (told.text && told.caret)) true (kc && not told.columns) ≡ false)
    ↔ (unknown_if (text_is_unknown (text_part told.text (characters_of text))) Text
    ++ (unknown_if (number_is_unknown (number_part told.caret (caret_of text))) Caret
    ++ unknown_if (number_is_unknown (number_part told.columns columns)) Columns) ≡ [])
known_by kt kc told text columns a b = subst (λ kt. cond (kt && not (told.text && told.caret)) true (kc && not told.columns) ≡ false
    ↔ (unknown_if (text_is_unknown (text_part told.text (characters_of text))) Text
    ++ (unknown_if (number_is_unknown (number_part told.caret (caret_of text))) Caret
    ++ unknown_if (number_is_unknown (number_part told.columns columns)) Columns) ≡ [])) (sym a)
    (subst (λ kc. cond (is_some text && not (told.text && told.caret)) true (kc && not told.columns) ≡ false
    ↔ (unknown_if (text_is_unknown (text_part told.text (characters_of text))) Text
    ++ (unknown_if (number_is_unknown (number_part told.caret (caret_of text))) Caret
    ++ unknown_if (number_is_unknown (number_part told.columns columns)) Columns) ≡ [])) (sym b)
    (at text columns told.text told.caret told.columns))
  where
    at : (text : Option TextContents) (columns : Option ℕ) (t c n : Bool)
        → (cond (is_some text && not (t && c)) true (is_some columns && not n) ≡ false)
        ↔ (unknown_if (text_is_unknown (text_part t (characters_of text))) Text
        ++ (unknown_if (number_is_unknown (number_part c (caret_of text))) Caret
        ++ unknown_if (number_is_unknown (number_part n columns)) Columns) ≡ [])
    at None None t c n = (λ _. refl, λ _. refl)
    at None (Some m) t c true = (λ _. refl, λ _. refl)
    at None (Some m) t c false = (λ h. absurd (true≢false h), λ h. absurd cc)
    at (Some x) None true true n = (λ _. refl, λ _. refl)
    at (Some x) None true false n = (λ h. absurd (true≢false h), λ h. absurd cc)
    at (Some x) None false c n = (λ h. absurd (true≢false h), λ h. absurd cc)
    at (Some x) (Some m) true true true = (λ _. refl, λ _. refl)
    at (Some x) (Some m) true true false = (λ h. absurd (true≢false h), λ h. absurd cc)
    at (Some x) (Some m) true false n = (λ h. absurd (true≢false h), λ h. absurd cc)
    at (Some x) (Some m) false c n = (λ h. absurd (true≢false h), λ h. absurd cc)

-- the rows of a forest, each known where it lacks nothing
abbrev LacksNone : (ℕ → Told) → TreeRow → Type 0
LacksNone told row = lacks (told row.shape.node) row.shape.kinds ≡ false

abbrev IsRow : ℕ → TreeRow → Type 0
IsRow added row = IsContents row.shape.kinds row.contents × (row.shape.node ≤ added)

all_append : {A : Type 0} (P : A → Type 0) (xs ys : List A) → AllByRecursion P xs → AllByRecursion P ys → AllByRecursion P (xs ++ ys)
all_append P [] ys a b = b
all_append P (x ∷ xs) ys a b = (a.0, all_append P xs ys a.1 b)

all_front : {A : Type 0} (P : A → Type 0) (xs ys : List A) → AllByRecursion P (xs ++ ys) → AllByRecursion P xs
all_front P [] ys a = tt
all_front P (x ∷ xs) ys a = (a.0, all_front P xs ys a.1)

all_back : {A : Type 0} (P : A → Type 0) (xs ys : List A) → AllByRecursion P (xs ++ ys) → AllByRecursion P ys
all_back P [] ys a = a
all_back P (x ∷ xs) ys a = all_back P xs ys a.1

abbrev IsKnown : Row → Type 0
IsKnown row = unknown_parts row ≡ []

module _ (by_path : List ℕ → Told) (told : ℕ → Told) (added : ℕ) (agree : Agrees by_path told) (few : added < 2 ^ 32) where
  row_known : (row : TreeRow) → IsRow added row → LacksNone told row ↔ IsKnown (shown by_path row)
  row_known row i =
      let small : row.shape.node < 2 ^ 32 = let l = i.1 in omega arith in
      let same = agree row.shape.node small in
      subst (λ (t : Told). LacksNone told row ↔ IsKnown (shown (λ path. t) row)) (sym same)
      (known_by row.shape.kinds.text row.shape.kinds.table (told row.shape.node) row.contents.text row.contents.columns i.0.text i.0.table)

  known : (f : Forest TreeRow) → EachLabel (IsRow added) f → EachLabel (LacksNone told) f → AllByRecursion IsKnown (labels (view by_path f))
  known nil i h = tt
  known (tree a c r) i h =
      ((row_known a i.0).0 h.0, all_append IsKnown (labels (view by_path c)) (labels (view by_path r)) (known c i.1 h.1) (known r i.2 h.2))

  lacks_none : (f : Forest TreeRow) → EachLabel (IsRow added) f → AllByRecursion IsKnown (labels (view by_path f)) → EachLabel (LacksNone told) f
  lacks_none nil i h = tt
  lacks_none (tree a c r) i h = (
    (row_known a i.0).1 h.0,
    lacks_none c i.1 (all_front IsKnown (labels (view by_path c)) (labels (view by_path r)) h.1),
    lacks_none r i.2 (all_back IsKnown (labels (view by_path c)) (labels (view by_path r)) h.1),
  )

-- no number lacks a part exactly where no row does
itself : (n : ℕ) → (n == n) ≡ true
itself n = grind (arith, nat_tests)

three : (a b c : Bool) → cond a true (cond b true c) ≡ false → (a ≡ false) × (b ≡ false) × (c ≡ false)
three true b c h = absurd (true≢false h)
three false true c h = absurd (true≢false h)
three false false c h = (refl, refl, h)

no_row : (told : ℕ → Told) (f : Forest TreeRow) → ((n : ℕ) → lacks_at told (shape_of f) n ≡ false) → EachLabel (LacksNone told) f
no_row told nil h = tt
no_row told (tree a c r) h = (
  sym (ap (λ b. b && lacks (told a.shape.node) a.shape.kinds) (itself a.shape.node)) ∙ (split a.shape.node).0,
  no_row told c (λ n. (split n).1),
  no_row told r (λ n. (split n).2),
)
  where
    split : (n : ℕ) → (lacking_row told n a.shape ≡ false) × (lacks_at told (shape_of c) n ≡ false) × (lacks_at told (shape_of r) n ≡ false)
    split n = three (lacking_row told n a.shape) (lacks_at told (shape_of c) n) (lacks_at told (shape_of r) n) (h n)

no_number : (told : ℕ → Told) (f : Forest TreeRow) → EachLabel (LacksNone told) f → (n : ℕ) → lacks_at told (shape_of f) n ≡ false
no_number told nil h n = refl
no_number told (tree a c r) h n = rw (here (a.shape.node == n) refl, no_number told c h.1 n, no_number told r h.2 n) refl
  where
    here : (b : Bool) → (a.shape.node == n) ≡ b → lacking_row told n a.shape ≡ false
    here true e = ap (λ b. b && lacks (told n) a.shape.kinds) e ∙ ap (λ m. lacks (told m) a.shape.kinds) (sym (eqb-true a.shape.node n e)) ∙ h.0
    here false e = ap (λ b. b && lacks (told n) a.shape.kinds) e

-- the rows of a tree
pub numbered : (f : Forest TreeRow) (added : ℕ) → ((n : ℕ) → added < n → count (is_node n) f ≡ 0) → EachLabel (λ (row : TreeRow). row.shape.node ≤ added) f
numbered nil added h = tt
numbered (tree a c r) added h = (
  here,
  numbered c added (λ n l. let z = h n l in omega arith),
  numbered r added (λ n l. let z = h n l in omega arith),
)
  where
    here : a.shape.node ≤ added
    here = not_above (λ l. one (a.shape.node == a.shape.node) (itself a.shape.node) (h a.shape.node l))
      where
        one : (b : Bool) → b ≡ true → cond b 1 0 + (count (is_node a.shape.node) c + count (is_node a.shape.node) r) ≡ 0 → ⊥
        one true e z = omega arith
        one false e z = true≢false (sym e)

        not_above : (added < a.shape.node → ⊥) → a.shape.node ≤ added
        not_above never = at (nat_lt added a.shape.node) refl
          where
            at : (b : Bool) → nat_lt added a.shape.node ≡ b → a.shape.node ≤ added
            at true e = absurd (never (ltb-true added a.shape.node e))
            at false e = ltb-false added a.shape.node e

each_both : (f : Forest TreeRow) (added : ℕ) → EachLabel rows.IsLawful f → EachLabel (λ (row : TreeRow). row.shape.node ≤ added) f → EachLabel (IsRow added) f
each_both nil added a b = tt
each_both (tree x c r) added a b = ((a.0.1, b.0), each_both c added a.1 b.1, each_both r added a.2 b.2)

-- a set without keys has nothing, and only such a one
none_in : (keys : List ℕ) → ((n : ℕ) → list_any (is_at (nat_cmp n)) keys ≡ false) → keys ≡ []
none_in [] h = refl
none_in (x ∷ xs) h = absurd (true≢false (sym (first (is_at (nat_cmp x) x) (at_itself x)) ∙ h x))
  where
    at_itself : (x : ℕ) → is_at (nat_cmp x) x ≡ true
    at_itself x = grind (arith, nat_tests)

    first : (b : Bool) → b ≡ true → b || list_any (is_at (nat_cmp x)) xs ≡ true
    first true e = refl
    first false e = absurd (true≢false (sym e))

no_length : (keys : List ℕ) → length keys ≡ 0 → keys ≡ []
no_length [] e = refl
no_length (x ∷ xs) e = absurd (omega arith)

pub is_whole : (by_path : List ℕ → Told) (told : ℕ → Told) (f : Forest TreeRow) (added : ℕ) (keys : List ℕ) (b : Bool) → IsTree rows f added
    → ((n : ℕ) → list_any (is_at (nat_cmp n)) keys ≡ lacks_at told (shape_of f) n) → IsTrue b ↔ (length keys ≡ 0) → Agrees by_path told
    → IsTrue b ↔ AllByRecursion IsKnown (labels (view by_path f))
is_whole by_path told f added keys b t m empty agree = (
  λ yes.
      let none = no_length keys (empty.0 yes) in
      known by_path told added agree few f own (no_row told f (λ n. sym (m n) ∙ ap (list_any (is_at (nat_cmp n))) none)),
  λ all.
      let none = no_number told f (lacks_none by_path told added agree few f own all) in
      empty.1 (ap length (none_in keys (λ n. m n ∙ none n))),
)
  where
    few : added < 2 ^ 32
    few = let l = t.few_ever in omega arith

    own : EachLabel (IsRow added) f
    own = each_both f added t.lawful (numbered f added t.numbered)

pub whole_by : (by_path : List ℕ → Told) (h : Holds) (t : AppTree) (marks : Marks) (b : Bool) → ◌≡◌ {A = Holds} (record { tree = t; told = marks.told.entries }) h
    → IsTree rows t.forest t.added → AreMarks marks (shape_of t.forest) → IsTrue b ↔ (length marks.lacking.keys ≡ 0) → Agrees by_path (told_by h.told)
    → IsTrue b ↔ AllByRecursion IsKnown (labels (view by_path h.tree.forest))
whole_by by_path h t marks b e law m empty agree =
    subst (λ (h : Holds). Agrees by_path (told_by h.told) → IsTrue b ↔ AllByRecursion IsKnown (labels (view by_path h.tree.forest))) e
    (λ agree. is_whole by_path (told_by marks.told.entries) t.forest t.added marks.lacking.keys b law m empty agree) agree
