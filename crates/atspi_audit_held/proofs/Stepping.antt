-- What is noted beside a tree stays right at each step.
use Rattle.std.proofs.Common.{◌≡◌, ℕ, Bool, true, false, cond, ◌&&◌, refl, sym, ap, ◌∙◌, arith}
use Rattle.std.specs.Prelude.{◌==◌, Result, Ok, Err, OnOk, OnErr}
use Rattle.std.specs.Ordering.{nat_cmp}
use Rattle.std.specs.BTreeMap.{is_at}
use Rattle.std.proofs.lemmas.Bool.Decides.{nat_tests}
use Rattle.atspi_tree_model.specs.declared.contents.Kinds.{Kinds}
use Rattle.atspi_tree_model.specs.declared.step.Seed.{Seed}
use Rattle.atspi_tree_model.specs.declared.step.Step.{Step}
use Rattle.atspi_tree_model.specs.declared.step.Step.TheVariants.{Add, Remove, Move, SetName, SetDescription, SetRole, SetState, Insert, Delete, Caret, TextSelect, Relate}
use Rattle.atspi_tree_model.specs.Forest.{has, pick}
use Rattle.atspi_tree_model.specs.RowRules.{rows, shapes, first_kinds}
use Rattle.atspi_tree_model.specs.Tree.{IsTree, is_node, is_shape, shape_of, after}
use Rattle.atspi_tree_model.specs.View.{Told}
use Rattle.atspi_tree_model.proofs.Found.{not_there}
use Rattle.atspi_tree_model.proofs.ShapeOf.{shape_after, shape_applies, shape_is_tree, shape-has}
use Rattle.atspi_app_exported.specs.Doing.{IsAdd}
use Rattle.atspi_whole_tree.specs.Whole.{AppTree, StepCanBe, tree_after}
use Rattle.atspi_audit_held.specs.inner.Lacking.{lacks, lacks_at, IsOther}
use Rattle.atspi_audit_held.proofs.Lacked.{added, at_none, others, removed}
use Rattle.atspi_audit_held.proofs.Collecting.{same_number}

-- what is noted is right for a tree
abbrev pub IsRight : (ℕ → Told) → (ℕ → Bool) → AppTree → Type 0
IsRight told noted t = (n : ℕ) → noted n ≡ lacks_at told (shape_of t.forest) n

-- the same beside the tree that a step made
stepped : (told : ℕ → Told) (t u : AppTree) (step : Step) (n : ℕ) → u ≡ tree_after t step
    → lacks_at told (after shapes (shape_of t.forest) step) n ≡ lacks_at told (shape_of u.forest) n
stepped told t u step n e =
    ap (λ f. lacks_at told f n) (sym (shape_after t.forest step)) ∙ ap (λ (t : AppTree). lacks_at told (shape_of t.forest) n) (sym e)

pub kept_right : {T E : Type 0} (told : ℕ → Told) (noted : ℕ → Bool) (t u : AppTree) (step : Step) (r : Result T E) → IsTree rows t.forest t.added → IsOther step
    → StepCanBe t step → OnOk r (u ≡ tree_after t step) → OnErr r (u ≡ t) → IsRight told noted t → IsRight told noted u
kept_right told noted t u step (Ok x) law o a ok err m = λ n.
    m n ∙ sym (others told (shape_of t.forest) t.added (shape_is_tree t.forest t.added law) n step o (shape_applies t.forest t.added step a))
    ∙ stepped told t u step n ok
kept_right told noted t u step (Err x) law o a ok err m = λ n. m n ∙ ap (λ (t : AppTree). lacks_at told (shape_of t.forest) n) (sym err)

-- a new node
same_tests : (told : ℕ → Told) (kinds : Kinds) (node n : ℕ) (test s : Bool) → test ≡ lacks (told node) kinds
    → cond (test && is_at (nat_cmp node) n) true s ≡ cond ((node == n) && lacks (told n) kinds) true s
same_tests told kinds node n test s e = at (is_at (nat_cmp node) n) refl
  where
    equal : (b : Bool) → is_at (nat_cmp node) n ≡ b → (node == n) ≡ b
    equal true k = grind (arith, nat_tests)
    equal false k = grind (arith, nat_tests)

    both : (b : Bool) → b && true ≡ b
    both true = refl
    both false = refl

    none : (b : Bool) → b && false ≡ false
    none true = refl
    none false = refl

    at : (b : Bool) → is_at (nat_cmp node) n ≡ b → cond (test && is_at (nat_cmp node) n) true s ≡ cond ((node == n) && lacks (told n) kinds) true s
    at true k =
        ap (λ b. cond (test && b) true s) k ∙ ap (λ b. cond b true s) (both test ∙ e ∙ ap (λ m. lacks (told m) kinds) (same_number node n k))
        ∙ sym (ap (λ b. cond (b && lacks (told n) kinds) true s) (equal true k))
    at false k =
        ap (λ b. cond (test && b) true s) k ∙ ap (λ b. cond b true s) (none test)
        ∙ sym (ap (λ b. cond (b && lacks (told n) kinds) true s) (equal false k))

pub added_right : (told : ℕ → Told) (noted now : ℕ → Bool) (t u : AppTree) (step : Step) (node : ℕ) (seed : Seed) (test : Bool) → IsTree rows t.forest t.added
    → StepCanBe t step → IsAdd step node seed → test ≡ lacks (told node) (first_kinds seed)
    → ((n : ℕ) → now n ≡ cond (test && is_at (nat_cmp node) n) true (noted n)) → u ≡ tree_after t step → IsRight told noted t → IsRight told now u
added_right told noted now t u (Add m p i first) node seed test law a is e s ok right = λ n.
    s n
    ∙ same_tests told (first_kinds seed) node n test (noted n) e
    ∙ ap (λ b. cond ((node == n) && lacks (told n) (first_kinds seed)) true b) (right n)
    ∙ ap (λ x. cond ((node == n) && lacks (told n) (first_kinds x)) true (lacks_at told (shape_of t.forest) n)) (sym is.1)
    ∙ ap (λ x. cond ((x == n) && lacks (told n) (first_kinds first)) true (lacks_at told (shape_of t.forest) n)) (sym is.0)
    ∙ sym (added told (shape_of t.forest) t.added (shape_is_tree t.forest t.added law) n m p i first (shape_applies t.forest t.added (Add m p i first) a))
    ∙ stepped told t u (Add m p i first) n ok
added_right told noted now t u (Remove m) node seed test law a is e s ok right = absurd is
added_right told noted now t u (Move m p i) node seed test law a is e s ok right = absurd is
added_right told noted now t u (SetName m x) node seed test law a is e s ok right = absurd is
added_right told noted now t u (SetDescription m x) node seed test law a is e s ok right = absurd is
added_right told noted now t u (SetRole m r) node seed test law a is e s ok right = absurd is
added_right told noted now t u (SetState m st on) node seed test law a is e s ok right = absurd is
added_right told noted now t u (Insert m at x) node seed test law a is e s ok right = absurd is
added_right told noted now t u (Delete m at x) node seed test law a is e s ok right = absurd is
added_right told noted now t u (Caret m at) node seed test law a is e s ok right = absurd is
added_right told noted now t u (TextSelect m marks) node seed test law a is e s ok right = absurd is
added_right told noted now t u (Relate m kind ts) node seed test law a is e s ok right = absurd is

-- the number of a new node is that of none before
new_number : (t : AppTree) (step : Step) (node : ℕ) (seed : Seed) → IsTree rows t.forest t.added → StepCanBe t step → IsAdd step node seed
    → has (is_shape node) (shape_of t.forest) ≡ false
new_number t (Add m p i first) node seed law a is =
    shape-has node t.forest ∙ not_there (is_node node) t.forest (law.numbered node (let x = a.next in let y = is.0 in omega arith))
new_number t (Remove m) node seed law a is = absurd is
new_number t (Move m p i) node seed law a is = absurd is
new_number t (SetName m x) node seed law a is = absurd is
new_number t (SetDescription m x) node seed law a is = absurd is
new_number t (SetRole m r) node seed law a is = absurd is
new_number t (SetState m st on) node seed law a is = absurd is
new_number t (Insert m at x) node seed law a is = absurd is
new_number t (Delete m at x) node seed law a is = absurd is
new_number t (Caret m at) node seed law a is = absurd is
new_number t (TextSelect m marks) node seed law a is = absurd is
new_number t (Relate m kind ts) node seed law a is = absurd is

-- one that is taken back
pub back_right : (told : ℕ → Told) (noted now back : ℕ → Bool) (t u : AppTree) (step : Step) (node : ℕ) (seed : Seed) (test : Bool) → IsTree rows t.forest t.added
    → StepCanBe t step → IsAdd step node seed → ((n : ℕ) → now n ≡ cond (test && is_at (nat_cmp node) n) true (noted n))
    → ((n : ℕ) → back n ≡ cond (is_at (nat_cmp node) n) false (now n)) → u ≡ t → IsRight told noted t → IsRight told back u
back_right told noted now back t u step node seed test law a is s b e right = λ n.
    b n ∙ at n (is_at (nat_cmp node) n) refl ∙ ap (λ (t : AppTree). lacks_at told (shape_of t.forest) n) (sym e)
  where
    none : (b : Bool) → b && false ≡ false
    none true = refl
    none false = refl

    at : (n : ℕ) (c : Bool) → is_at (nat_cmp node) n ≡ c → cond (is_at (nat_cmp node) n) false (now n) ≡ lacks_at told (shape_of t.forest) n
    at n true k =
        ap (λ c. cond c false (now n)) k
        ∙ sym (ap (lacks_at told (shape_of t.forest)) (sym (same_number node n k)) ∙ at_none told (shape_of t.forest) node (new_number t step node seed law a is))
    at n false k =
        ap (λ c. cond c false (now n)) k ∙ s n ∙ ap (λ c. cond (test && c) true (noted n)) k ∙ ap (λ c. cond c true (noted n)) (none test) ∙ right n

-- nothing was noted, since nothing was done
pub same_right : (told : ℕ → Told) (noted now : ℕ → Bool) (t : AppTree) → ((n : ℕ) → now n ≡ noted n) → IsRight told noted t → IsRight told now t
same_right told noted now t e right = λ n. e n ∙ right n

-- nodes that go
pub removed_there : (t : AppTree) (node : ℕ) → StepCanBe t (Remove node) → has (is_shape node) (shape_of t.forest) ≡ true
removed_there t node a = shape-has node t.forest ∙ a.there

pub removed_right : (told : ℕ → Told) (noted now : ℕ → Bool) (t u : AppTree) (node : ℕ) → IsTree rows t.forest t.added
    → ((n : ℕ) → now n ≡ cond (has (is_shape n) (pick (is_shape node) (shape_of t.forest))) false (noted n)) → u ≡ tree_after t (Remove node)
    → IsRight told noted t → IsRight told now u
removed_right told noted now t u node law s ok right = λ n.
    s n ∙ ap (cond (has (is_shape n) (pick (is_shape node) (shape_of t.forest))) false) (right n)
    ∙ sym (removed told (shape_of t.forest) t.added (shape_is_tree t.forest t.added law) n node)
    ∙ stepped told t u (Remove node) n ok
