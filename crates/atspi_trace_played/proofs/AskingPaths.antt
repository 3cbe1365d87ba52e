-- Each row that a reader has of an application has a path that can be asked of.
use Rattle.std.proofs.Common.{◌≡◌, ℕ, zero, suc, ◌+◌, ◌^◌, ◌≤◌, ◌<◌, Bool, true, false, cond, List, [], ◌∷◌, ◌++◌, Option, None, Some, refl, sym, ap, ◌∙◌, subst, arith}
use Rattle.std.specs.Prelude.{◌==◌, decimal}
use Rattle.std.specs.List.{AllByRecursion}
use Rattle.std.proofs.lemmas.Bool.{lt-ltb, eqb-true, eq-eqb}
use Rattle.std.proofs.lemmas.List.{append-nil, append_assoc}
use Rattle.atspi_base.specs.valid_names.Names.{is_path}
use Rattle.atspi_tree_model.specs.declared.step.Step.{Step}
use Rattle.atspi_tree_model.specs.declared.step.Step.TheVariants.{Add}
use Rattle.atspi_tree_model.specs.declared.view.Row.{Row}
use Rattle.atspi_tree_model.specs.Forest.{Forest, nil, tree, count, labels}
use Rattle.atspi_tree_model.specs.Path.{base_path, path_of}
use Rattle.atspi_tree_model.specs.Row.{TreeRow}
use Rattle.atspi_tree_model.specs.RowRules.{rows}
use Rattle.atspi_tree_model.specs.Tree.{is_node, added_after, Applies}
use Rattle.atspi_tree_model.specs.View.{Told, view}
use Rattle.atspi_protocol_messages.proofs.PathRule.{numbered_path, root_is_path}
use Rattle.atspi_script_lines.specs.declared.line.Line.{Line}
use Rattle.atspi_script_lines.specs.declared.line.Party.{Party}
use Rattle.atspi_script_lines.specs.declared.line.Party.TheVariants.{App}
use Rattle.atspi_protocol.specs.following.ReaderState.{Followed, ReaderState}
use Rattle.atspi_trace.specs.Entry.{Entry, changed}
use Rattle.atspi_trace.specs.World.{World}
use Rattle.atspi_trace.specs.Causes.{told_in}
use Rattle.atspi_trace_laws.specs.laws.Words.{Kept, count_after, added, is_sent_as, before_sent, as_of, held}
use Rattle.atspi_trace_laws.specs.laws.NineLaws.{LawOfSteps}
use Rattle.atspi_trace_caches.specs.caches.Caches.{followed}
use Rattle.atspi_trace_caches.specs.caches.Laws.{CacheIs}
use Rattle.atspi_trace_laws.proofs.OfOrder.Parties.{no_none, same_some, all_append}
use Rattle.atspi_trace_laws.proofs.OfSteps.Trees.{count_more}
use Rattle.atspi_trace_laws.proofs.OfSteps.LawSteps.{steps_apply}
use Rattle.atspi_trace_laws.proofs.OfViews.LawViews.{trees_stand}
use Rattle.atspi_trace_laws.proofs.OfAnswered.Counted.{sent_counted}
use Rattle.atspi_trace_caches.proofs.OfCaches.LawCaches.{caches_follow}
use Rattle.atspi_trace_caches.proofs.OfServed.LawServed.{steps_asked}
use Rattle.atspi_trace_played.proofs.Facts.{Ground, AreDistinct, IsSeen, IsOfApp, SeesWell}
use Rattle.atspi_trace_played.proofs.AskingWords.{all_weaker, all_both, IsFound, all_found}

-- A NODE'S PATH is one
pub node_path : (n : ℕ) → n < 2 ^ 32 → is_path (path_of n) ≡ true
unfolding path_of
node_path zero l = root_is_path
node_path (suc n) l = ap (λ b. is_path (cond b (base_path ++ decimal (suc n)) ((n + 256) ∷ []))) (lt-ltb (suc n) (2 ^ 32) l) ∙ numbered_path (suc n) l

-- HOW MANY NODES were ever added
abbrev IsFew : ℕ → Type 0
IsFew n = n < 2 ^ 32

step_few : (app a : ℕ) (n : ℕ) (step : Step) → (a ≡ app → IsFew (added_after n step)) → IsFew n → IsFew (count_after app n (changed a step))
step_few app a n step h i = by (a == app) refl
  where
    by : (b : Bool) → (a == app) ≡ b → IsFew (cond b (added_after n step) n)
    by true e = h (eqb-true a app e)
    by false e = i

applied_few : (f : Forest TreeRow) (n : ℕ) (step : Step) → Applies rows f n step → IsFew n → IsFew (added_after n step)
applied_few f n (Add k p i seed) a l = let room = a.room_ever in omega (arith, room)
applied_few f n step a l = l

one_few : (app n : ℕ) (entry : Entry) → ((step : Step) → entry ≡ changed app step → IsFew (added_after n step)) → IsFew n → IsFew (count_after app n entry)
one_few app n (changed a step) h i = step_few app a n step (λ e. h step (ap (λ x. changed x step) e)) i
one_few app n entry h i = i

module _ (T : List Entry) (app : ℕ) (steps : LawOfSteps T) where
  few_more : (early xs rest : List Entry) → T ≡ early ++ (xs ++ rest) → IsFew (added early app) → IsFew (added (early ++ xs) app)
  few_more early [] rest at i = subst (λ l. IsFew (added l app)) (sym (append-nil early)) i
  few_more early (x ∷ xs) rest at i =
      subst (λ l. IsFew (added l app)) (append_assoc early (x ∷ []) xs)
      (few_more (early ++ x ∷ []) xs rest (at ∙ sym (append_assoc early (x ∷ []) (xs ++ rest)))
      (subst IsFew (sym (count_more app early (x ∷ []))) (one_few app (added early app) x
      (λ step is. applied_few _ (added early app) step (steps early (changed app step) (xs ++ rest) (at ∙ ap (λ y. early ++ y ∷ (xs ++ rest)) is)).1 i) i)))

-- what stands before a message is a front
front_of : (who : Party) (serial : ℕ) (es : List Entry) → (rest : List Entry) × (es ≡ before_sent who serial es ++ rest)
front_of who serial [] = ([], refl)
front_of who serial (x ∷ xs) = by (is_sent_as who serial x) (front_of who serial xs)
  where
    by : (b : Bool) → (rest : List Entry) × (xs ≡ before_sent who serial xs ++ rest) → (rest : List Entry) × (x ∷ xs ≡ cond b [] (x ∷ before_sent who serial xs) ++ rest)
    by true h = (x ∷ xs, refl)
    by false h = (h.0, ap (λ l. x ∷ l) h.1)

-- EACH ROW of a view
paths_in : (told : List ℕ → Told) (f : Forest TreeRow) → ((n : ℕ) → 1 ≤ count (is_node n) f → n < 2 ^ 32) → AllByRecursion (λ (row : Row). is_path row.path ≡ true) (labels (view told f))
paths_in told nil few = tt
paths_in told (tree row children rest) few = (
  node_path row.shape.node (few row.shape.node (first (eq-eqb row.shape.node row.shape.node refl))),
  all_append (λ (r : Row). is_path r.path ≡ true) (labels (view told children)) (labels (view told rest))
      (paths_in told children (λ n l. few n (omega (arith, l)))) (paths_in told rest (λ n l. few n (omega (arith, l)))),
)
  where
    first : is_node row.shape.node row ≡ true → 1 ≤ count (is_node row.shape.node) (tree row children rest)
    first e = subst (λ b. 1 ≤ cond b 1 0 + (count (is_node row.shape.node) children + count (is_node row.shape.node) rest)) (sym e) (omega arith)

abbrev pub HasPaths : Followed → Type 0
HasPaths f = (v : Forest Row) → f.view ≡ Some v → AllByRecursion (λ (row : Row). is_path row.path ≡ true) (labels v)

module _ (script : List Line) (es : List Entry) (w : World) (free : Option ℕ) (g : Ground script es w free) (r : ℕ) where
  tree_paths : (app : ℕ) (k : Kept) → AllByRecursion (λ (row : Row). is_path row.path ≡ true) (labels (view (told_in k.told) (as_of es app k.last)))
  tree_paths app k = paths_in (told_in k.told) (as_of es app k.last) few
    where
      steps : LawOfSteps es
      steps = steps_apply script es g.can g.goes

      few : (n : ℕ) → 1 ≤ count (is_node n) (as_of es app k.last) → n < 2 ^ 32
      few n l =
          let low = sent_counted es app (trees_stand script es g.can g.goes) steps es [] (sym (append-nil es)) k.last n l in
          let front = front_of (App app) k.last es in
          let most = few_more es app steps [] (before_sent (App app) k.last es) front.0 front.1 (omega arith) in
          omega (arith, low, most)

  held_paths : (app : ℕ) (k : Option Kept) (f : Followed) → CacheIs es app k f → HasPaths f
  held_paths app None f c v e = absurd (no_none v (sym c ∙ e))
  held_paths app (Some k) f c v e = subst (λ l. AllByRecursion (λ (row : Row). is_path row.path ≡ true) (labels l)) (same_some _ v (sym c.shows ∙ e)) (tree_paths app k)

  one_has : (s : ReaderState) → SeesWell es r s → (f : Followed) → IsOfApp es f → IsFound s.apps f → HasPaths f
  one_has s sees f o found v e =
      let seen = subst (λ x. IsSeen x (followed f.name es r o.app)) found (sees.seen f.name o.app o.its_name) in
      held_paths o.app (held es r o.app) (followed f.name es r o.app)
      (caches_follow script es g.can g.goes g.nothing_owed f.name r o.app (λ own is. same_some own f.name (sym is ∙ o.its_name)) (steps_asked script es g.can g.goes f.name r o.app) es [] (sym (append-nil es)))
      v (sym seen.0 ∙ e)

  pub all_paths : (s : ReaderState) → SeesWell es r s → AreDistinct s.apps → AllByRecursion HasPaths s.apps
  all_paths s sees d =
      all_weaker (λ f. IsOfApp es f × IsFound s.apps f) HasPaths (λ f h. one_has s sees f h.0 h.1) s.apps (all_both (IsOfApp es) (IsFound s.apps) s.apps sees.apps (all_found s.apps d))
