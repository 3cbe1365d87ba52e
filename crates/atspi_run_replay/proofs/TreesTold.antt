-- The tree of an application along a trace: no node comes back.
use Rattle.std.proofs.Common.{◌≡◌, ℕ, zero, suc, ◌≤◌, ◌==◌, Bool, true, false, cond, List, [], ◌∷◌, ◌++◌, Some, refl, sym, ap, ◌∙◌, subst, arith, append_assoc, append-nil}
use Rattle.std.specs.Prelude.{if◌then◌else◌}
use Rattle.std.proofs.lemmas.Bool.{eq-eqb, eqb-true, ne_eqb}
use Rattle.atspi_tree_model.specs.declared.step.Step.{Step}
use Rattle.atspi_tree_model.specs.declared.step.Step.TheVariants.{Add}
use Rattle.atspi_tree_model.specs.Forest.{Forest, nil, tree, has}
use Rattle.atspi_tree_model.specs.Row.{TreeRow}
use Rattle.atspi_tree_model.specs.RowRules.{rows}
use Rattle.atspi_tree_model.specs.Tree.{is_node, first_tree, after, added_after, IsTree, Applies}
use Rattle.atspi_tree_model.proofs.RowRules.{rows_sound}
use Rattle.atspi_tree_model.proofs.Kept.{after_is_tree}
use Rattle.atspi_script_lines.specs.declared.line.Party.TheVariants.{App}
use Rattle.atspi_trace.specs.Entry.{Entry, started, changed}
use Rattle.atspi_trace_laws.specs.laws.Words.{tree_after, live_tree, count_after, added}
use Rattle.atspi_trace_laws.specs.laws.NineLaws.{StepIsOne}
use Rattle.atspi_trace_laws.specs.views.Laws.{StepsOnTree}
use Rattle.atspi_trace_laws.proofs.OfOrder.Each.{Each}
use Rattle.atspi_trace_laws.proofs.OfSteps.Trees.{tree_more, count_more}
use Rattle.atspi_run_replay.proofs.NoneBack.{was_there}

-- of two trees, to which so many nodes were added, the later has no node of the earlier's numbers that the earlier lacks; and it has a root
pub record ComesAfter (f g : Forest TreeRow) (n k : ℕ) : Type 0 where
  pub grows : n ≤ k
  pub back : (m : ℕ) → m ≤ n → has (is_node m) g ≡ true → has (is_node m) f ≡ true
  pub root : has (is_node 0) g ≡ true

pub has_root : (f : Forest TreeRow) (k : ℕ) → IsTree rows f k → has (is_node 0) f ≡ true
has_root f k t = by t.rooted.0 t.rooted.1 t.rooted.2 t.rooted.3
  where
    by : (row : TreeRow) (children : Forest TreeRow) → row.shape.node ≡ 0 → f ≡ tree row children nil → has (is_node 0) f ≡ true
    by row children zero_ is = ap (has (is_node 0)) is ∙ ap (λ b. cond b true (cond (has (is_node 0) children) true false)) (eq-eqb row.shape.node 0 zero_)

step_grows : (n : ℕ) (step : Step) → n ≤ added_after n step
step_grows n (Add m p i seed) = omega arith
step_grows n step = omega arith

stays : (f : Forest TreeRow) (n : ℕ) → has (is_node 0) f ≡ true → ComesAfter f f n n
stays f n root = record { grows = omega arith; back = λ m l h. h; root = root }

one_entry : (app : ℕ) (es rest : List Entry) (y : Entry) → has (is_node 0) (live_tree es app) ≡ true → StepIsOne es y rest → StepsOnTree es y rest
    → ComesAfter (live_tree es app) (tree_after app (live_tree es app) y) (added es app) (count_after app (added es app) y)
one_entry app es rest (changed a step) root one is = by (a == app) refl
  where
    by : (b : Bool) → (a == app) ≡ b → ComesAfter (live_tree es app) (if b then after rows (live_tree es app) step else live_tree es app) (added es app) (if b then added_after (added es app) step else added es app)
    by true e =
        let same : a ≡ app = eqb-true a app e in
        let t : IsTree rows (live_tree es app) (added es app) = subst (λ n. IsTree rows (live_tree es n) (added es n)) same is in
        let applies : Applies rows (live_tree es app) (added es app) step = subst (λ n. Applies rows (live_tree es n) (added es n) step) same one.1 in
        record {
          grows = step_grows (added es app) step;
          back = λ m l h. was_there (live_tree es app) (added es app) step m t applies l h;
          root = has_root (after rows (live_tree es app) step) (added_after (added es app) step) (after_is_tree rows rows_sound (live_tree es app) (added es app) step t applies);
        }
    by false e = stays (live_tree es app) (added es app) root
one_entry app es rest (started (App a) (Some name)) root one is = by (a == app)
  where
    first : (m : ℕ) → has (is_node m) (first_tree rows name) ≡ true → has (is_node m) (live_tree es app) ≡ true
    first zero h = root
    first (suc m) h = let other : (0 == suc m) ≡ false = ne_eqb 0 (suc m) (λ e. omega (arith, e)) in absurd cc

    by : (b : Bool) → ComesAfter (live_tree es app) (if b then first_tree rows name else live_tree es app) (added es app) (added es app)
    by true = record { grows = omega arith; back = λ m l h. first m h; root = refl }
    by false = stays (live_tree es app) (added es app) root
one_entry app es rest y root one is = stays (live_tree es app) (added es app) root

comes_both : (f g h : Forest TreeRow) (n k j : ℕ) → ComesAfter f g n k → ComesAfter g h k j → ComesAfter f h n j
comes_both f g h n k j a b = record {
  grows = let x = a.grows in let y = b.grows in omega arith;
  back = λ m l there. a.back m l (b.back m (let x = a.grows in omega arith) there);
  root = b.root;
}

-- NO NODE COMES BACK along a trace
pub all_entries : (app : ℕ) (es ys : List Entry) → has (is_node 0) (live_tree es app) ≡ true → Each StepIsOne es ys → Each StepsOnTree es ys
    → ComesAfter (live_tree es app) (live_tree (es ++ ys) app) (added es app) (added (es ++ ys) app)
all_entries app es [] root one is = subst (λ l. ComesAfter (live_tree es app) (live_tree l app) (added es app) (added l app)) (sym (append-nil es)) (stays (live_tree es app) (added es app) root)
all_entries app es (y ∷ ys) root one is =
    let first : ComesAfter (live_tree es app) (live_tree (es ++ y ∷ []) app) (added es app) (added (es ++ y ∷ []) app) =
    subst (λ f. ComesAfter (live_tree es app) f (added es app) (added (es ++ y ∷ []) app)) (sym (tree_more app es (y ∷ [])))
    (subst (λ n. ComesAfter (live_tree es app) (tree_after app (live_tree es app) y) (added es app) n) (sym (count_more app es (y ∷ []))) (one_entry app es ys y root one.0 is.0)) in
    let rest = all_entries app (es ++ y ∷ []) ys first.root one.1 is.1 in
    subst (λ l. ComesAfter (live_tree es app) (live_tree l app) (added es app) (added l app)) (append_assoc es (y ∷ []) ys)
    (comes_both (live_tree es app) (live_tree (es ++ y ∷ []) app) (live_tree ((es ++ y ∷ []) ++ ys) app) (added es app) (added (es ++ y ∷ []) app) (added ((es ++ y ∷ []) ++ ys) app) first rest)
