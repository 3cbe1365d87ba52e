-- Forests: a forest is empty, or a first tree, which is a label and the forest of its children, and the forest of the
-- trees after it.
use Rattle.std.specs.Prelude.{ℕ, zero, suc, ◌+◌, Bool, true, false, cond, List, [], ◌∷◌, ◌++◌, Option, Some, None}

-- a forest
pub data Forest (A : Type 0) : Type 0 where
  nil : Forest A
  tree : (label : A) → (children : Forest A) → (rest : Forest A) → Forest A

-- the labels in preorder
abbrev pub labels : {A : Type 0} → Forest A → List A
labels nil = []
labels (tree a children rest) = a ∷ labels children ++ labels rest

-- how many nodes pass a test
abbrev pub count : {A : Type 0} → (A → Bool) → Forest A → ℕ
count p nil = 0
count p (tree a children rest) = cond (p a) 1 0 + (count p children + count p rest)

-- some node passes
abbrev pub has : {A : Type 0} → (A → Bool) → Forest A → Bool
has p nil = false
has p (tree a children rest) = cond (p a) true (cond (has p children) true (has p rest))

-- how many trees stand side by side at the top
abbrev pub width : {A : Type 0} → Forest A → ℕ
width nil = 0
width (tree a children rest) = suc (width rest)

-- one forest, and another after it
abbrev pub join : {A : Type 0} → Forest A → Forest A → Forest A
join nil g = g
join (tree a children rest) g = tree a children (join rest g)

-- g put before the tree at this index of the top, or at the end where there are fewer
abbrev pub put_at : {A : Type 0} → ℕ → Forest A → Forest A → Forest A
put_at i g nil = g
put_at zero g (tree a children rest) = join g (tree a children rest)
put_at (suc i) g (tree a children rest) = tree a children (put_at i g rest)

-- the same with None for the end
abbrev pub put_place : {A : Type 0} → Option ℕ → Forest A → Forest A → Forest A
put_place None g f = join f g
put_place (Some i) g f = put_at i g f

-- the same where a test passed
abbrev pub put_if : {A : Type 0} → Bool → Option ℕ → Forest A → Forest A → Forest A
put_if true i g f = put_place i g f
put_if false i g f = f

-- g put among the children of each node that passes
abbrev pub put_in : {A : Type 0} → (A → Bool) → Option ℕ → Forest A → Forest A → Forest A
put_in q i g nil = nil
put_in q i g (tree a children rest) =
    tree a (put_if (q a) i g (put_in q i g children)) (put_in q i g rest)

-- without the nodes that pass, and all that is below them
abbrev pub take_out : {A : Type 0} → (A → Bool) → Forest A → Forest A
take_out p nil = nil
take_out p (tree a children rest) =
    cond (p a) (take_out p rest) (tree a (take_out p children) (take_out p rest))

-- the nodes that pass, with all that is below them, side by side
abbrev pub pick : {A : Type 0} → (A → Bool) → Forest A → Forest A
pick p nil = nil
pick p (tree a children rest) =
    cond (p a) (tree a children (pick p rest)) (join (pick p children) (pick p rest))

-- a new label for each node
abbrev pub relabel : {A B : Type 0} → (A → B) → Forest A → Forest B
relabel h nil = nil
relabel h (tree a children rest) = tree (h a) (relabel h children) (relabel h rest)

-- a new label for each node that passes
abbrev pub change : {A : Type 0} → (A → Bool) → (A → A) → Forest A → Forest A
change p h f = relabel (λ a. cond (p a) (h a) a) f

-- the first of two that is there
abbrev pub first_of : {B : Type 0} → Option B → Option B → Option B
first_of None y = y
first_of (Some x) y = Some x

-- where the first node that passes stands: its parent's name, or the one handed in at the top, and its index
abbrev pub place : {A B : Type 0} → (A → B) → (A → Bool) → B → ℕ → Forest A → Option (B × ℕ)
place name p up i nil = None
place name p up i (tree a children rest) =
    cond (p a) (Some (up, i)) (first_of (place name p (name a) 0 children) (place name p up (suc i) rest))

-- the label of the first node that passes
abbrev pub find : {A : Type 0} → (A → Bool) → Forest A → Option A
find p nil = None
find p (tree a children rest) = cond (p a) (Some a) (first_of (find p children) (find p rest))

-- the labels of the trees at the top
abbrev pub tops : {A : Type 0} → Forest A → List A
tops nil = []
tops (tree a children rest) = a ∷ tops rest

-- the children of the first node that passes
abbrev pub children_at : {A : Type 0} → (A → Bool) → Forest A → Forest A
children_at p nil = nil
children_at p (tree a children rest) =
    cond (p a) children (cond (has p children) (children_at p children) (children_at p rest))

-- every label has this property
abbrev pub EachLabel : {A : Type 0} → (A → Type 0) → Forest A → Type 0
EachLabel P nil = Unit {0}
EachLabel P (tree a children rest) = P a × EachLabel P children × EachLabel P rest

-- each node in preorder, with its parent's name and its index; at the top these are handed in
abbrev pub seats : {A B : Type 0} → (A → B) → B → ℕ → Forest A → List (B × ℕ × A)
seats name up i nil = []
seats name up i (tree a children rest) = (up, i, a) ∷ seats name (name a) 0 children ++ seats name up (suc i) rest

-- trees of these labels, each with a forest of its own below it
abbrev pub graft : {A : Type 0} → (A → Forest A) → List A → Forest A
graft below [] = nil
graft below (x ∷ xs) = tree x (below x) (graft below xs)

-- a forest of so many levels: below each label the trees of its children
abbrev pub grow : {A : Type 0} → ℕ → (A → List A) → List A → Forest A
grow zero children xs = nil
grow (suc n) children xs = graft (λ x. grow n children (children x)) xs

-- every node and its children have this property
abbrev pub EachNode : {A : Type 0} → (A → Forest A → Type 0) → Forest A → Type 0
EachNode P nil = Unit {0}
EachNode P (tree a children rest) = P a children × EachNode P children × EachNode P rest
