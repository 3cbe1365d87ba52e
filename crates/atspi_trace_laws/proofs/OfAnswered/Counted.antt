-- Whatever node stands in an application's tree was added to it, along a lawful trace.
use Rattle.std.proofs.Common.{◌≡◌, ◌⊎◌, inl, inr, ℕ, ◌+◌, ◌≤◌, ◌<◌, Bool, true, false, cond, List, [], ◌∷◌, ◌++◌, Some, refl, sym, ap, ◌∙◌, subst, arith}
use Rattle.std.specs.Prelude.{◌==◌}
use Rattle.std.proofs.lemmas.Bool.{eqb-true, cases_lt}
use Rattle.std.proofs.lemmas.List.{append-nil, append_assoc}
use Rattle.atspi_tree_model.specs.declared.step.Step.{Step}
use Rattle.atspi_tree_model.specs.Forest.{Forest, count}
use Rattle.atspi_tree_model.specs.Row.{TreeRow}
use Rattle.atspi_tree_model.specs.RowRules.{rows}
use Rattle.atspi_tree_model.specs.Tree.{is_node, first_tree, after, added_after, IsTree}
use Rattle.atspi_tree_model.proofs.RowRules.{rows_sound}
use Rattle.atspi_tree_model.proofs.Kept.{after_is_tree}
use Rattle.atspi_script_lines.specs.declared.line.Party.{Party}
use Rattle.atspi_script_lines.specs.declared.line.Party.TheVariants.{App}
use Rattle.atspi_trace.specs.Entry.{Entry, started, changed}
use Rattle.atspi_trace_laws.specs.laws.Words.{tree_after, count_after, live_tree, added, is_sent_as, before_sent}
use Rattle.atspi_trace_laws.specs.laws.NineLaws.{Everywhere, LawOfSteps}
use Rattle.atspi_trace_laws.specs.views.Laws.{StepsOnTree}
use Rattle.atspi_trace_laws.proofs.OfSteps.Trees.{tree_more, count_more}

-- of a tree and how many were added
abbrev IsCounted : Forest TreeRow → ℕ → Type 0
IsCounted f n = (m : ℕ) → 1 ≤ count (is_node m) f → m ≤ n

tree_counted : (f : Forest TreeRow) (n : ℕ) → IsTree rows f n → IsCounted f n
tree_counted f n t m there = by (cases_lt n m)
  where
    by : (n < m) ⊎ (m ≤ n) → m ≤ n
    by (inl l) = let none : count (is_node m) f ≡ 0 = t.numbered m l in absurd (omega (arith, none, there))
    by (inr l) = l

-- a root alone
root_counted : (name : List ℕ) (n : ℕ) → IsCounted (first_tree rows name) n
root_counted name n m there = by (0 == m) refl there
  where
    by : (b : Bool) → (0 == m) ≡ b → 1 ≤ cond b 1 0 + (0 + 0) → m ≤ n
    by true g l = let same : 0 ≡ m = eqb-true 0 m g in omega (arith, same)
    by false g l = absurd (omega (arith, l))

-- one entry
next_counted : (app : ℕ) (f : Forest TreeRow) (n : ℕ) (entry : Entry) → ((step : Step) → entry ≡ changed app step → IsCounted (after rows f step) (added_after n step)) → IsCounted f n → IsCounted (tree_after app f entry) (count_after app n entry)
next_counted app f n (started (App a) (Some name)) h i = by (a == app)
  where
    by : (b : Bool) → IsCounted (cond b (first_tree rows name) f) n
    by true = root_counted name n
    by false = i
next_counted app f n (changed a step) h i = by (a == app) refl
  where
    by : (b : Bool) → (a == app) ≡ b → IsCounted (cond b (after rows f step) f) (cond b (added_after n step) n)
    by true g = h step (ap (λ x. changed x step) (eqb-true a app g))
    by false g = i
next_counted app f n entry h i = i

module _ (T : List Entry) (app : ℕ) (trees : Everywhere StepsOnTree T) (steps : LawOfSteps T) where
  all_counted : (early xs rest : List Entry) → T ≡ early ++ (xs ++ rest) → IsCounted (live_tree early app) (added early app) → IsCounted (live_tree (early ++ xs) app) (added (early ++ xs) app)
  all_counted early [] rest at i = subst (λ l. IsCounted (live_tree l app) (added l app)) (sym (append-nil early)) i
  all_counted early (x ∷ xs) rest at i =
      subst (λ l. IsCounted (live_tree l app) (added l app)) (append_assoc early (x ∷ []) xs)
      (all_counted (early ++ x ∷ []) xs rest (at ∙ sym (append_assoc early (x ∷ []) (xs ++ rest)))
      (subst (λ f. IsCounted f (added (early ++ x ∷ []) app)) (sym (tree_more app early (x ∷ [])))
      (subst (λ n. IsCounted (tree_after app (live_tree early app) x) n) (sym (count_more app early (x ∷ []))) (next_counted app (live_tree early app) (added early app) x stepped i))))
    where
      stepped : (step : Step) → x ≡ changed app step → IsCounted (after rows (live_tree early app) step) (added_after (added early app) step)
      stepped step is =
          let split : T ≡ early ++ changed app step ∷ (xs ++ rest) = at ∙ ap (λ y. early ++ y ∷ (xs ++ rest)) is in
          tree_counted (after rows (live_tree early app) step) (added_after (added early app) step)
          (after_is_tree rows rows_sound (live_tree early app) (added early app) step (trees early (changed app step) (xs ++ rest) split) (steps early (changed app step) (xs ++ rest) split).1)

  front_of : (who : Party) (serial : ℕ) (es : List Entry) → (rest : List Entry) × (es ≡ before_sent who serial es ++ rest)
  front_of who serial [] = ([], refl)
  front_of who serial (x ∷ xs) = by (is_sent_as who serial x) (front_of who serial xs)
    where
      by : (b : Bool) → (rest : List Entry) × (xs ≡ before_sent who serial xs ++ rest) → (rest : List Entry) × (x ∷ xs ≡ cond b [] (x ∷ before_sent who serial xs) ++ rest)
      by true h = (x ∷ xs, refl)
      by false h = (h.0, ap (λ l. x ∷ l) h.1)

  none_counted : IsCounted (live_tree [] app) (added [] app)
  none_counted m there = absurd (omega (arith, there))

  -- as of a message
  pub sent_counted : (before behind : List Entry) → T ≡ before ++ behind → (serial m : ℕ) → 1 ≤ count (is_node m) (live_tree (before_sent (App app) serial before) app) → m ≤ added (before_sent (App app) serial before) app
  sent_counted before behind at serial =
      let f = front_of (App app) serial before in
      all_counted [] (before_sent (App app) serial before) (f.0 ++ behind) (at ∙ ap (λ l. l ++ behind) f.1 ∙ append_assoc (before_sent (App app) serial before) f.0 behind) none_counted
