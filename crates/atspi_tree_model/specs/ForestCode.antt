-- A forest as a list, from which it is read back: how a proof tells two forests apart.
use Rattle.std.specs.Prelude.{◌≡◌, refl, List, [], ◌∷◌, Option, Some, None}
use Rattle.std.specs.Coded.{Coded, code_by, coded_list, coded_option}
use mathlib.Core.Path.{ap, ◌∙◌}
use Rattle.atspi_tree_model.specs.Forest.{Forest, nil, tree}

-- each tree is its label, its children and what follows it; None is the empty forest
abbrev pub flat : {A : Type 0} → Forest A → List (Option A) → List (Option A)
flat nil after = None ∷ after
flat (tree a children rest) after = Some a ∷ flat children (flat rest after)

-- a label with the two forests in front, its children and what follows it
abbrev pub combined : {A : Type 0} → A → List (Forest A) → List (Forest A)
combined a [] = []
combined a (c ∷ []) = []
combined a (c ∷ r ∷ fs) = tree a c r ∷ fs

-- the forests that a list spells, read from its end
abbrev pub forests : {A : Type 0} → List (Option A) → List (Forest A)
forests [] = []
forests (None ∷ ts) = nil ∷ forests ts
forests (Some a ∷ ts) = combined a (forests ts)

-- the first of some forests
abbrev pub first_forest : {A : Type 0} → List (Forest A) → Forest A
first_forest [] = nil
first_forest (f ∷ fs) = f

-- what a forest is flattened to is read back
pub forests-flat : {A : Type 0} (f : Forest A) (ts : List (Option A)) → forests (flat f ts) ≡ f ∷ forests ts
forests-flat nil ts = refl
forests-flat (tree a c r) ts = ap (combined a) (forests-flat c (flat r ts) ∙ ap (λ fs. c ∷ fs) (forests-flat r ts))

-- a forest is told from another by that list
abbrev pub forest_code : {A : Type 0} → Coded A → Coded (Forest A)
forest_code {A} a =
    code_by (List (Option A)) (coded_list (coded_option a)) (λ f. flat f []) (λ ts. first_forest (forests ts))
    (λ f. ap first_forest (forests-flat f []))
