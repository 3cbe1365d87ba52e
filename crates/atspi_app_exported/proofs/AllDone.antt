-- Steps that are done as one, one after another.
use Rattle.std.proofs.Common.{◌≡◌, ℕ, suc, ◌+◌, ◌<◌, List, [], ◌∷◌, length, drop, get_or, refl, sym, ap, ◌∙◌, subst, ◌⊎◌, inl, inr, add-one, drop-cons}
use Rattle.std.specs.Prelude.{Result, Ok, Err, OnErr}
use Rattle.atspi_tree_model.specs.declared.step.Step.{Step}
use Rattle.atspi_tree_model.specs.Row.{Each}
use Rattle.atspi_tree_model.specs.RowRules.{rows}
use Rattle.atspi_tree_model.specs.Tree.{after, added_after, Applies, AllApply, after_all}
use Rattle.atspi_app_exported.specs.Parts.{Parts, whole_of}
use Rattle.atspi_app_exported.specs.Doing.{TakesMemory, AreOne, added_all}

abbrev AreFree : List Step → Type 0
AreFree steps = Each (λ s. TakesMemory s → ⊥) steps

-- what is done so far, and what is left to do, is all; and nothing is done yet, or the rest wants no memory
pub record IsDoing (start now : Parts) (left all : List Step) : Type 0 where
  pub apply : AllApply rows (whole_of now) now.tree.added left
  pub whole : after_all rows (whole_of now) left ≡ after_all rows (whole_of start) all
  pub added : added_all now.tree.added left ≡ added_all start.tree.added all
  pub free : ((now ≡ start) × AreOne left) ⊎ AreFree left

pub doing_starts : (start : Parts) (all : List Step) → AllApply rows (whole_of start) start.tree.added all → AreOne all → IsDoing start start all all
doing_starts start all a one = record { apply = a; whole = refl; added = refl; free = inl (refl, one) }

pub doing_applies : (start now : Parts) (left rest all : List Step) (step : Step) → left ≡ step ∷ rest → IsDoing start now left all
    → Applies rows (whole_of now) now.tree.added step
doing_applies start now left rest all step is d = (subst (AllApply rows (whole_of now) now.tree.added) is d.apply).0

rest_free : (now start : Parts) (step : Step) (rest : List Step) → ((now ≡ start) × AreOne (step ∷ rest)) ⊎ AreFree (step ∷ rest) → AreFree rest
rest_free now start step rest h = elim h [ inl one ↦ one.1 | inr free ↦ free.1 ]

pub doing_goes_on : (start now next : Parts) (left rest all : List Step) (step : Step) → left ≡ step ∷ rest → IsDoing start now left all
    → whole_of next ≡ after rows (whole_of now) step → next.tree.added ≡ added_after now.tree.added step → IsDoing start next rest all
doing_goes_on start now next left rest all step is d whole added =
    let a = subst (AllApply rows (whole_of now) now.tree.added) is d.apply in
    record {
      apply =
          subst (λ k. AllApply rows (whole_of next) k rest) (sym added)
          (subst (λ f. AllApply rows f (added_after now.tree.added step) rest) (sym whole) a.1);
      whole = ap (λ f. after_all rows f rest) whole ∙ sym (ap (after_all rows (whole_of now)) is) ∙ d.whole;
      added = ap (λ k. added_all k rest) added ∙ sym (ap (added_all now.tree.added) is) ∙ d.added;
      free = inr (rest_free now start step rest (subst (λ l. ((now ≡ start) × AreOne l) ⊎ AreFree l) is d.free));
    }

undone_by : (start now new : Parts) (step : Step) (rest : List Step) → ((now ≡ start) × AreOne (step ∷ rest)) ⊎ AreFree (step ∷ rest) → new ≡ now → TakesMemory step → new ≡ start
undone_by start now new step rest h same wants = elim h [ inl one ↦ same ∙ one.0 | inr free ↦ absurd (free.0 wants) ]

-- where memory is wanting, nothing was done
pub doing_fails : (start now new : Parts) (left rest all : List Step) (step : Step) → left ≡ step ∷ rest → IsDoing start now left all → new ≡ now → TakesMemory step
    → new ≡ start
doing_fails start now new left rest all step is d same wants =
    undone_by start now new step rest (subst (λ l. ((now ≡ start) × AreOne l) ⊎ AreFree l) is d.free) same wants

pub doing_ends : (start now : Parts) (left all : List Step) → left ≡ [] → IsDoing start now left all
    → (whole_of now ≡ after_all rows (whole_of start) all) × (now.tree.added ≡ added_all start.tree.added all)
doing_ends start now left all none d =
    (sym (ap (after_all rows (whole_of now)) none) ∙ d.whole, sym (ap (added_all now.tree.added) none) ∙ d.added)

-- what is left from an index on
pub drop_here : (xs : List Step) (i : ℕ) (x : Step) → i < length xs → x ≡ get_or xs i x → drop i xs ≡ x ∷ drop (i + 1) xs
drop_here xs i x h e =
    drop-cons xs i x h ∙ ap (λ y. y ∷ drop (suc i) xs) (sym e) ∙ ap (λ n. x ∷ drop n xs) (sym (add-one i))

pub on_err_any : {T E P : Type 0} (r : Result T E) → P → OnErr r P
on_err_any (Ok x) p = tt
on_err_any (Err e) p = p
