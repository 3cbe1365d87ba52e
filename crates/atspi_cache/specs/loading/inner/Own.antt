-- The first item of each object, one item after another.
use Rattle.std.specs.Prelude.{ℕ, Bool, true, false, cond, List, [], ◌∷◌, ◌++◌, bytes_eq}
use Rattle.atspi_tree_model.specs.declared.news.Item.{Item}

-- whether a list has an item of this object
abbrev pub has_object : List ℕ → List Item → Bool
has_object path [] = false
has_object path (x ∷ xs) = cond (bytes_eq x.object.path path) true (has_object path xs)

-- one more item, if its object was not there
abbrev pub with_new : List Item → Item → List Item
with_new xs y = cond (has_object y.object.path xs) xs (xs ++ y ∷ [])

-- the same where the object is the application's own
abbrev pub with_own : List ℕ → List Item → Item → List Item
with_own bus xs y = cond (bytes_eq y.object.bus bus) (with_new xs y) xs
