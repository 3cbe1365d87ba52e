-- A part that an application refused is one of no node of its tree, and stays so: a node that was added is not added again, and none gets a part that it was not added with.
use Rattle.std.proofs.Common.{◌≡◌, ◌⊎◌, inl, inr, ℕ, zero, suc, ◌+◌, ◌≤◌, Bool, true, false, cond, List, [], ◌∷◌, ◌++◌, Option, None, Some, refl, sym, ap, ◌∙◌, subst, arith}
use Rattle.std.specs.Prelude.{◌==◌, bytes_eq, get_or, nat_lt, decimal, ◌^◌}
use Rattle.std.specs.List.{AllByRecursion}
use Rattle.std.proofs.lemmas.Bool.{eqb-true}
use Rattle.std.proofs.lemmas.List.{append-nil, append_assoc}
use Rattle.std.proofs.lemmas.Slice.Eq.{bytes_eq-Decides}
use Rattle.atspi_tree_model.specs.declared.step.Seed.{Seed}
use Rattle.atspi_tree_model.specs.declared.step.Step.{Step}
use Rattle.atspi_tree_model.specs.declared.step.Step.TheVariants.{Add, Remove, Move, SetName, SetDescription, SetRole, SetState, Insert, Delete, Caret as Caret_step, TextSelect, Relate}
use Rattle.atspi_tree_model.specs.Forest.{Forest, nil, tree, count, take_out, labels, EachLabel}
use Rattle.atspi_tree_model.specs.Path.{base_path, path_of}
use Rattle.atspi_tree_model.specs.Row.{TextContents, Contents, TreeRow, on_some, IsContents}
use Rattle.atspi_tree_model.specs.RowRules.{rows, changed_contents}
use Rattle.atspi_tree_model.specs.Tree.{is_number, is_node, after, added_after, first_tree, in_subtree, root_seed, IsTree, Applies}
use Rattle.atspi_tree_model.specs.View.{nothing_told}
use Rattle.atspi_tree_model.proofs.Found.{find-none, find-only, none_passes, EachLabel-weaker}
use Rattle.atspi_tree_model.proofs.Labels.{each_put_in, each_take_out, each_pick, each_relabel}
use Rattle.atspi_tree_model.proofs.Lookup.{each-find}
use Rattle.atspi_tree_model.proofs.Path.{path_of_apart}
use Rattle.atspi_tree_model.proofs.Seen.{same_node}
use Rattle.atspi_script_lines.specs.declared.line.Party.TheVariants.{App}
use Rattle.atspi_protocol.specs.declared.news.part.PartName.{PartName}
use Rattle.atspi_protocol.specs.declared.news.part.PartName.TheVariants.{Text, Caret, Columns}
use Rattle.atspi_protocol.specs.ends.Places.{cache_path}
use Rattle.atspi_protocol.specs.objects.Application.{Application}
use Rattle.atspi_protocol.specs.objects.Places.{node_at}
use Rattle.atspi_trace.specs.Entry.{Entry, started, changed}
use Rattle.atspi_trace_laws.specs.laws.Words.{live_tree, tree_after, added, count_after}
use Rattle.atspi_trace_laws.specs.laws.NineLaws.{StepIsOne}
use Rattle.atspi_trace_laws.proofs.OfOrder.Parties.{all_append}
use Rattle.atspi_trace_laws.proofs.OfOrder.Each.{Each}
use Rattle.atspi_trace_laws.proofs.OfSteps.Trees.{tree_more, count_more}
use Rattle.atspi_trace_laws.proofs.OfAnswered.Parts.{part_answer, IsValue, HasPart, part_value, HasNoPart, absent_steps, lacking_steps}
use Rattle.atspi_trace_caches.proofs.OfSettled.Facts.{HasNone}

abbrev pub LacksAt : List ℕ → PartName → TreeRow → Type 0
LacksAt path part row = path_of row.shape.node ≡ path → HasNone part row

-- labels in a forest and in a list
pub each_labels : (P : TreeRow → Type 0) (f : Forest TreeRow) → EachLabel P f → AllByRecursion P (labels f)
each_labels P nil e = tt
each_labels P (tree a c r) e = (e.0, all_append P (labels c) (labels r) (each_labels P c e.1) (each_labels P r e.2))

-- A STEP gives no node a part
text_stays : (step : Step) (c : Contents) → c.text ≡ None → (changed_contents step c).text ≡ None
text_stays (Insert n at x) c h = ap (on_some _) h
text_stays (Delete n at x) c h = ap (on_some _) h
text_stays (Caret_step n at) c h = ap (on_some _) h
text_stays (TextSelect n marks) c h = ap (on_some _) h
text_stays (Add n p i seed) c h = h
text_stays (Remove n) c h = h
text_stays (Move n p i) c h = h
text_stays (SetName n x) c h = h
text_stays (SetDescription n x) c h = h
text_stays (SetRole n x) c h = h
text_stays (SetState n s on) c h = h
text_stays (Relate n kind targets) c h = h

columns_stay : (step : Step) (c : Contents) → (changed_contents step c).columns ≡ c.columns
columns_stay (Insert n at x) c = refl
columns_stay (Delete n at x) c = refl
columns_stay (Caret_step n at) c = refl
columns_stay (TextSelect n marks) c = refl
columns_stay (Add n p i seed) c = refl
columns_stay (Remove n) c = refl
columns_stay (Move n p i) c = refl
columns_stay (SetName n x) c = refl
columns_stay (SetDescription n x) c = refl
columns_stay (SetRole n x) c = refl
columns_stay (SetState n s on) c = refl
columns_stay (Relate n kind targets) c = refl

node_stays : (step : Step) (row : TreeRow) → (rows.changed step row).shape.node ≡ row.shape.node
node_stays (Insert n at x) row = refl
node_stays (Delete n at x) row = refl
node_stays (Caret_step n at) row = refl
node_stays (TextSelect n marks) row = refl
node_stays (Add n p i seed) row = refl
node_stays (Remove n) row = refl
node_stays (Move n p i) row = refl
node_stays (SetName n x) row = refl
node_stays (SetDescription n x) row = refl
node_stays (SetRole n x) row = refl
node_stays (SetState n s on) row = refl
node_stays (Relate n kind targets) row = refl

-- no node has the path of the object for the whole tree
not_cache : (n : ℕ) → path_of n ≡ cache_path → ⊥
unfolding path_of
not_cache zero e = let h : 97 ≡ 99 = ap (λ (l : List ℕ). get_or l 16 0) e in absurd (omega (arith, h))
not_cache (suc n) e = by (nat_lt (suc n) (2 ^ 32)) e
  where
    by : (b : Bool) → cond b (base_path ++ decimal (suc n)) ((n + 256) ∷ []) ≡ cache_path → ⊥
    by true e = let h : 97 ≡ 99 = ap (λ (l : List ℕ). get_or l 16 0) e in absurd (omega (arith, h))
    by false e = let h : n + 256 ≡ 47 = ap (λ (l : List ℕ). get_or l 0 0) e in absurd (omega (arith, h))

module _ (path : List ℕ) (part : PartName) (node : ℕ) (is_of : path ≡ path_of node) where
  none_changed : (p : PartName) (step : Step) (row : TreeRow) → HasNone p row → HasNone p (rows.changed step row)
  none_changed Text step row h = text_stays step row.contents h
  none_changed Caret step row h = text_stays step row.contents h
  none_changed Columns step row h = columns_stay step row.contents ∙ h

  lacks_changed : (step : Step) (row : TreeRow) → LacksAt path part row → LacksAt path part (rows.changed step row)
  lacks_changed step row h = λ same. none_changed part step row (h (ap path_of (sym (node_stays step row)) ∙ same))

  lacks_cond : (b : Bool) (step : Step) (row : TreeRow) → LacksAt path part row → LacksAt path part (cond b (rows.changed step row) row)
  lacks_cond true step row h = lacks_changed step row h
  lacks_cond false step row h = h

  -- where one node changes
  change_lacks : (step : Step) (p : TreeRow → Bool) (f : Forest TreeRow) → EachLabel (LacksAt path part) f → EachLabel (λ (row : TreeRow). LacksAt path part (cond (p row) (rows.changed step row) row)) f
  change_lacks step p f e = EachLabel-weaker (LacksAt path part) (λ (row : TreeRow). LacksAt path part (cond (p row) (rows.changed step row) row)) (λ row h. lacks_cond (p row) step row h) f e

  new_lacks : (n k : ℕ) (seed : Seed) → n ≡ suc k → node ≤ k → LacksAt path part (rows.first n seed)
  new_lacks n k seed next low = λ same. let is : n ≡ node = path_of_apart n node (same ∙ is_of) in absurd (omega (arith, is, next, low))

  forgets : (g : ℕ → Bool) (p : PartName) (row : TreeRow) → HasNone p row → HasNone p (rows.forgetting g row)
  forgets g Text row h = h
  forgets g Caret row h = h
  forgets g Columns row h = h

  step_lacks : (f : Forest TreeRow) (k : ℕ) (step : Step) → node ≤ k → Applies rows f k step → EachLabel (LacksAt path part) f → EachLabel (LacksAt path part) (after rows f step)
  step_lacks f k (Add n p i seed) low a e = each_put_in (LacksAt path part) _ (Some i) (tree (rows.first n seed) nil nil) f (new_lacks n k seed a.next low, tt, tt) e
  step_lacks f k (Remove n) low a e =
      each_relabel (LacksAt path part) (rows.forgetting (in_subtree rows n f)) (take_out (is_number rows n) f)
      (EachLabel-weaker (LacksAt path part) (λ (row : TreeRow). LacksAt path part (rows.forgetting (in_subtree rows n f) row)) (λ row h same. forgets (in_subtree rows n f) part row (h same)) (take_out (is_number rows n) f)
      (each_take_out (LacksAt path part) (is_number rows n) f e))
  step_lacks f k (Move n p i) low a e = each_put_in (LacksAt path part) _ (Some i) _ _ (each_pick (LacksAt path part) _ f e) (each_take_out (LacksAt path part) _ f e)
  step_lacks f k (SetName n x) low a e = each_relabel (LacksAt path part) _ f (change_lacks (SetName n x) _ f e)
  step_lacks f k (SetDescription n x) low a e = each_relabel (LacksAt path part) _ f (change_lacks (SetDescription n x) _ f e)
  step_lacks f k (SetRole n x) low a e = each_relabel (LacksAt path part) _ f (change_lacks (SetRole n x) _ f e)
  step_lacks f k (SetState n s on) low a e = each_relabel (LacksAt path part) _ f (change_lacks (SetState n s on) _ f e)
  step_lacks f k (Insert n at x) low a e = each_relabel (LacksAt path part) _ f (change_lacks (Insert n at x) _ f e)
  step_lacks f k (Delete n at x) low a e = each_relabel (LacksAt path part) _ f (change_lacks (Delete n at x) _ f e)
  step_lacks f k (Caret_step n at) low a e = each_relabel (LacksAt path part) _ f (change_lacks (Caret_step n at) _ f e)
  step_lacks f k (TextSelect n marks) low a e = each_relabel (LacksAt path part) _ f (change_lacks (TextSelect n marks) _ f e)
  step_lacks f k (Relate n kind targets) low a e = each_relabel (LacksAt path part) _ f (change_lacks (Relate n kind targets) _ f e)

  -- ALONG A TRACE
  more_added : (n : ℕ) (step : Step) → n ≤ added_after n step
  more_added n (Add m p i seed) = omega arith
  more_added n (Remove m) = omega arith
  more_added n (Move m p i) = omega arith
  more_added n (SetName m x) = omega arith
  more_added n (SetDescription m x) = omega arith
  more_added n (SetRole m x) = omega arith
  more_added n (SetState m s on) = omega arith
  more_added n (Insert m at x) = omega arith
  more_added n (Delete m at x) = omega arith
  more_added n (Caret_step m at) = omega arith
  more_added n (TextSelect m marks) = omega arith
  more_added n (Relate m kind targets) = omega arith

  abbrev At : Forest TreeRow → ℕ → Type 0
  At f n = EachLabel (LacksAt path part) f × (node ≤ n)

  root_lacks : (name : List ℕ) → EachLabel (LacksAt path part) (first_tree rows name)
  root_lacks name = (λ same. none part, tt, tt)
    where
      none : (p : PartName) → HasNone p (rows.first 0 (root_seed name))
      none Text = refl
      none Caret = refl
      none Columns = refl

  next_lacks : (app : ℕ) (f : Forest TreeRow) (n : ℕ) (entry : Entry) → ((step : Step) → entry ≡ changed app step → Applies rows f n step) → At f n → At (tree_after app f entry) (count_after app n entry)
  next_lacks app f n (started (App a) (Some name)) h i = by (a == app)
    where
      by : (b : Bool) → At (cond b (first_tree rows name) f) n
      by true = (root_lacks name, i.1)
      by false = i
  next_lacks app f n (changed a step) h i = by (a == app) refl
    where
      by : (b : Bool) → (a == app) ≡ b → At (cond b (after rows f step) f) (cond b (added_after n step) n)
      by true g =
          let more = more_added n step in
          let low : node ≤ n = i.1 in
          (step_lacks f n step i.1 (h step (ap (λ x. changed x step) (eqb-true a app g))) i.0, omega (arith, low, more))
      by false g = i
  next_lacks app f n entry h i = i

  pub stays_lacking : (app : ℕ) (early xs : List Entry) → Each StepIsOne early xs → At (live_tree early app) (added early app) → At (live_tree (early ++ xs) app) (added (early ++ xs) app)
  stays_lacking app early [] law i = subst (λ l. At (live_tree l app) (added l app)) (sym (append-nil early)) i
  stays_lacking app early (x ∷ xs) law i =
      subst (λ l. At (live_tree l app) (added l app)) (append_assoc early (x ∷ []) xs)
      (stays_lacking app (early ++ x ∷ []) xs law.1
      (subst (λ f. At f (added (early ++ x ∷ []) app)) (sym (tree_more app early (x ∷ [])))
      (subst (λ n. At (tree_after app (live_tree early app) x) n) (sym (count_more app early (x ∷ [])))
      (next_lacks app (live_tree early app) (added early app) x (λ step is. (subst (λ y. StepIsOne early y xs) is law.0).1) i))))

  -- WHAT IS REFUSED
  apart : bytes_eq path cache_path ≡ false
  apart = by (bytes_eq path cache_path) refl
    where
      by : (b : Bool) → bytes_eq path cache_path ≡ b → bytes_eq path cache_path ≡ false
      by true h = absurd (not_cache node (sym is_of ∙ (bytes_eq-Decides path cache_path).0 h))
      by false h = h

  decide : (p : PartName) (row : TreeRow) → HasPart p row ⊎ HasNone p row
  decide Text row = by row.contents.text refl
    where
      by : (o : Option TextContents) → row.contents.text ≡ o → HasPart Text row ⊎ HasNone Text row
      by None h = inr h
      by (Some t) h = inl (t, h)
  decide Caret row = by row.contents.text refl
    where
      by : (o : Option TextContents) → row.contents.text ≡ o → HasPart Caret row ⊎ HasNone Caret row
      by None h = inr h
      by (Some t) h = inl (t, h)
  decide Columns row = by row.contents.columns refl
    where
      by : (o : Option ℕ) → row.contents.columns ≡ o → HasPart Columns row ⊎ HasNone Columns row
      by None h = inr h
      by (Some t) h = inl (t, h)

  abbrev has_path : TreeRow → Bool
  has_path row = bytes_eq (path_of row.shape.node) path

  as_path : (f : Forest TreeRow) → EachLabel (λ (row : TreeRow). has_path row ≡ true → HasNone part row) f → EachLabel (LacksAt path part) f
  as_path f e = EachLabel-weaker (λ (row : TreeRow). has_path row ≡ true → HasNone part row) (LacksAt path part) (λ row h same. h ((bytes_eq-Decides (path_of row.shape.node) path).1 same)) f e

  count_ext : (p q : TreeRow → Bool) → ((row : TreeRow) → p row ≡ q row) → (f : Forest TreeRow) → count p f ≡ count q f
  count_ext p q e nil = refl
  count_ext p q e (tree a c r) = rw (e a, count_ext p q e c, count_ext p q e r) refl

  once : (f : Forest TreeRow) (n : ℕ) → IsTree rows f n → count has_path f ≤ 1
  once f n t =
      let same : count has_path f ≡ count (is_node node) f = count_ext has_path (is_node node) (λ row. ap (bytes_eq (path_of row.shape.node)) is_of ∙ same_node [] nothing_told node row) f in
      let one : count (is_node node) f ≤ 1 = t.once node in
      omega (arith, same, one)

  -- and nothing is changed by it
  no_part : (p : PartName) (row : TreeRow) → HasNone p row → HasNoPart p row
  no_part Text row h = h
  no_part Caret row h = h
  no_part Columns row h = h

  pub refused_steps : (a : Application) (n : ℕ) → IsTree rows a.tree n → (IsValue (part_answer a path part).reply → ⊥) → (part_answer a path part).steps ≡ []
  refused_steps a n t never = by (node_at a.tree path) refl
    where
      by : (o : Option TreeRow) → node_at a.tree path ≡ o → (part_answer a path part).steps ≡ []
      by None h = absent_steps a path part apart h
      by (Some row) h = at (decide part row)
        where
          kept : IsContents row.shape.kinds row.contents
          kept = (each-find rows.IsLawful has_path a.tree row t.lawful h).1

          at : HasPart part row ⊎ HasNone part row → (part_answer a path part).steps ≡ []
          at (inl has) = absurd (never (part_value a path part row apart h kept has))
          at (inr none) = lacking_steps a path part row apart h kept (no_part part row none)

  pub refused_lacks : (a : Application) (n : ℕ) → IsTree rows a.tree n → (IsValue (part_answer a path part).reply → ⊥) → EachLabel (LacksAt path part) a.tree
  refused_lacks a n t never = by (node_at a.tree path) refl
    where
      by : (o : Option TreeRow) → node_at a.tree path ≡ o → EachLabel (LacksAt path part) a.tree
      by None h = as_path a.tree (none_passes has_path (HasNone part) a.tree (find-none has_path a.tree h))
      by (Some row) h =
          as_path a.tree (EachLabel-weaker (λ (x : TreeRow). has_path x ≡ true → x ≡ row) (λ (x : TreeRow). has_path x ≡ true → HasNone part x) (λ x f passes. subst (HasNone part) (sym (f passes)) none) a.tree (find-only has_path a.tree row (once a.tree n t) h))
        where
          kept : IsContents row.shape.kinds row.contents
          kept = (each-find rows.IsLawful has_path a.tree row t.lawful h).1

          none : HasNone part row
          none = at (decide part row)
            where
              at : HasPart part row ⊎ HasNone part row → HasNone part row
              at (inl has) = absurd (never (part_value a path part row apart h kept has))
              at (inr none) = none
