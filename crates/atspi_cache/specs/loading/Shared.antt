-- Lists of borrowed items, and the items that name one parent.
use Rattle.std.specs.Prelude.{ℕ, Bool, false, cond, List, [], ◌∷◌, map, bytes_eq, Option, Some, None}
use denote.Ref.{Bor}
use Rattle.atspi_tree_model.specs.declared.news.Item.{Item}
use Rattle.atspi_tree_model.specs.Forest.{Forest, labels}
use Rattle.atspi_tree_model.specs.News.{reached}

-- the items that a list borrows
abbrev pub shared : List (Bor Item) → List Item
shared items = map (λ item. item.now) items

-- the items of a group, if there is one
abbrev pub grouped : Option (List (Bor Item)) → List Item
grouped None = []
grouped (Some items) = shared items

-- an item that may stand below another: it is not the root, and its parent is the application's own
abbrev pub is_lower : List ℕ → List ℕ → Item → Bool
is_lower root bus item = cond (bytes_eq item.object.path root) false (bytes_eq item.parent.bus bus)

-- an item whose parent is the application's object of this path; the root is nobody's child
abbrev pub is_below : List ℕ → List ℕ → List ℕ → Item → Bool
is_below root bus path item =
    cond (bytes_eq item.object.path root) false
    (cond (bytes_eq item.parent.bus bus) (bytes_eq path item.parent.path) false)

-- the items that the root reaches, in preorder
abbrev pub reached_items : List ℕ → List ℕ → List Item → List Item
reached_items root bus items = labels (reached root bus items)
