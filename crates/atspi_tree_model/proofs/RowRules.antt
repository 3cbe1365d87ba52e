-- What the laws of trees need of the rules of rows, and that both kinds of rows have it.
use Rattle.std.proofs.Common.{◌≡◌, ℕ, ◌==◌, Bool, true, false, cond, not, List, [], ◌∷◌, ◌++◌, refl}
use Rattle.std.specs.Prelude.{map, filter}
use Rattle.atspi_tree_model.specs.declared.step.Seed.{Seed}
use Rattle.atspi_tree_model.specs.declared.step.Step.{Step}
use Rattle.atspi_tree_model.specs.declared.step.Step.TheVariants.{SetName, SetDescription, SetRole, SetState, Relate}
use Rattle.atspi_tree_model.specs.Row.{ShapeRow, Each, with_targets, without_targets, IsShape}
use Rattle.atspi_tree_model.specs.RowRules.{RowRules, shapes, rows, forgetting_shape, shape_targets}
use Rattle.atspi_tree_model.specs.Tree.{step_targets}

-- numbers of a list that all pass
abbrev pub Pass : (ℕ → Bool) → List ℕ → Type 0
Pass p xs = Each (λ t. p t ≡ true) xs

pub record Sound {A : Type 0} (rules : RowRules A) : Type 0 where
  pub number_first : (n : ℕ) (seed : Seed) → rules.number (rules.first n seed) ≡ n
  pub number_changed : (step : Step) (a : A) → rules.number (rules.changed step a) ≡ rules.number a
  pub number_forgetting : (gone : ℕ → Bool) (a : A) → rules.number (rules.forgetting gone a) ≡ rules.number a
  pub targets_first : (n : ℕ) (seed : Seed) → rules.targets (rules.first n seed) ≡ []
  pub targets_changed : (p : ℕ → Bool) (step : Step) (a : A) → Pass p (rules.targets a) → Pass p (step_targets step)
      → Pass p (rules.targets (rules.changed step a))
  pub targets_forgetting : (p gone : ℕ → Bool) (a : A) → Pass p (rules.targets a)
      → Each (λ t. (p t ≡ true) × (gone t ≡ false)) (rules.targets (rules.forgetting gone a))
  pub lawful_forgetting : (gone : ℕ → Bool) (a : A) → rules.IsLawful a → rules.IsLawful (rules.forgetting gone a)

kept_targets : (p : ℕ → Bool) (test : ℕ × ℕ → Bool) (rs : List (ℕ × ℕ)) → Pass p (map (λ r. r.1) rs)
    → Pass p (map (λ r. r.1) (filter test rs))
kept_targets p test [] h = tt
kept_targets p test (r ∷ rs) h = at (test r) (kept_targets p test rs h.1)
  where
    at : (b : Bool) → Pass p (map (λ r. r.1) (filter test rs))
        → Pass p (map (λ r. r.1) (cond b (r ∷ filter test rs) (filter test rs)))
    at true k = (h.0, k)
    at false k = k

more_targets : (p : ℕ → Bool) (kind : ℕ) (rs : List (ℕ × ℕ)) (ts : List ℕ) → Pass p (map (λ r. r.1) rs) → Pass p ts
    → Pass p (map (λ r. r.1) (rs ++ map (λ t. (kind, t)) ts))
more_targets p kind [] [] h k = tt
more_targets p kind [] (t ∷ ts) h k = (k.0, more_targets p kind [] ts h k.1)
more_targets p kind (r ∷ rs) ts h k = (h.0, more_targets p kind rs ts h.1 k)

left_targets : (p gone : ℕ → Bool) (rs : List (ℕ × ℕ)) → Pass p (map (λ r. r.1) rs)
    → Each (λ t. (p t ≡ true) × (gone t ≡ false)) (map (λ r. r.1) (without_targets gone rs))
left_targets p gone [] h = tt
left_targets p gone (r ∷ rs) h = at (gone r.1) refl (left_targets p gone rs h.1)
  where
    at : (b : Bool) → gone r.1 ≡ b
        → Each (λ t. (p t ≡ true) × (gone t ≡ false)) (map (λ r. r.1) (without_targets gone rs))
        → Each (λ t. (p t ≡ true) × (gone t ≡ false)) (map (λ r. r.1) (cond (not b) (r ∷ without_targets gone rs) (without_targets gone rs)))
    at true e k = k
    at false e k = ((h.0, e), k)

related_targets : (p : ℕ → Bool) (kind : ℕ) (ts : List ℕ) (rs : List (ℕ × ℕ)) → Pass p (map (λ r. r.1) rs)
    → Pass p ts → Pass p (map (λ r. r.1) (with_targets kind ts rs))
related_targets p kind ts rs h k = more_targets p kind (filter (λ r. not (r.0 == kind)) rs) ts (kept_targets p (λ r. not (r.0 == kind)) rs h) k

shape_numbers : (step : Step) (row : ShapeRow) → (shapes.changed step row).node ≡ row.node
shape_numbers (Relate n kind ts) row = refl
shape_numbers (SetName n x) row = refl
shape_numbers (SetDescription n x) row = refl
shape_numbers (SetRole n x) row = refl
shape_numbers (SetState n s on) row = refl
shape_numbers _ row = refl

changed_targets : (p : ℕ → Bool) (step : Step) (row : ShapeRow) → Pass p (shape_targets row)
    → Pass p (step_targets step) → Pass p (shape_targets (shapes.changed step row))
changed_targets p (Relate n kind ts) row h k = related_targets p kind ts row.relations h k
changed_targets p (SetName n x) row h k = h
changed_targets p (SetDescription n x) row h k = h
changed_targets p (SetRole n x) row h k = h
changed_targets p (SetState n s on) row h k = h
changed_targets p _ row h k = h

forgets_lawfully : (gone : ℕ → Bool) (row : ShapeRow) → IsShape row → IsShape (forgetting_shape gone row)
forgets_lawfully gone row h = record { name = h.name; description = h.description; editable = h.editable }

pub shapes_sound : Sound shapes
shapes_sound = record {
  number_first = λ n seed. refl;
  number_changed = shape_numbers;
  number_forgetting = λ gone row. refl;
  targets_first = λ n seed. refl;
  targets_changed = changed_targets;
  targets_forgetting = λ p gone row h. left_targets p gone row.relations h;
  lawful_forgetting = forgets_lawfully;
}

pub rows_sound : Sound rows
rows_sound = record {
  number_first = λ n seed. refl;
  number_changed = λ step row. shape_numbers step row.shape;
  number_forgetting = λ gone row. refl;
  targets_first = λ n seed. refl;
  targets_changed = λ p step row h k. changed_targets p step row.shape h k;
  targets_forgetting = λ p gone row h. left_targets p gone row.shape.relations h;
  lawful_forgetting = λ gone row h. (forgets_lawfully gone row.shape h.0, h.1);
}
