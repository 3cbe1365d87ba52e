-- A cache: for each application that is held its bus name, the path of its root, and its view.
use Rattle.std.specs.Prelude.{ℕ, refl, Bool, false, List, Option, Some, None}
use Rattle.std.specs.Option.{option_map}
use Rattle.std.specs.Ordering.{nat_cmp}
use Rattle.std.specs.Coded.{Coded, code_by, coded×, coded_ℕ, coded_list}
use Rattle.std.specs.FinMap as finmap
use Rattle.std.specs.FinMap.{FinMap}
use Rattle.atspi_tree_model.specs.declared.view.Row.{Row}
use Rattle.atspi_tree_model.specs.declared.news.Item.{Item}
use Rattle.atspi_tree_model.specs.declared.news.News.{News}
use Rattle.atspi_tree_model.specs.Forest.{Forest, find}
use Rattle.atspi_tree_model.specs.ForestCode.{forest_code}
use Rattle.atspi_tree_model.specs.News.{is_path, effect, load, marks_reload}

-- what is kept of an application
pub record View : Type 0 where
  pub bus : List ℕ
  pub root : List ℕ
  pub rows : Forest Row

-- views by the numbers of their applications
abbrev pub Views : Type 0
Views = FinMap nat_cmp View

-- a view is stored as the tuple of its fields
abbrev pub view_code : Coded Row → Coded View
view_code row =
    code_by (List ℕ × (List ℕ × Forest Row))
    (coded× (coded_list coded_ℕ) (coded× (coded_list coded_ℕ) (forest_code row)))
    (λ v. (v.bus, (v.root, v.rows))) (λ p. record { bus = p.0; root = p.1.0; rows = p.1.1 }) (λ _. refl)

-- the views after an application is loaded: its items in place of what was kept of it
abbrev pub loaded : ℕ → List ℕ → List ℕ → List Item → Views → Views
loaded app bus root items views =
    finmap.insert views app (record { bus = bus; root = root; rows = load root bus items })

-- a view after a news
abbrev pub told : News → View → View
told news v = record v { rows = effect v.root v.bus v.rows news }

-- the views with one in place of what was kept of its application, if there is one
abbrev pub with_view : ℕ → Option View → Views → Views
with_view app None views = views
with_view app (Some v) views = finmap.insert views app v

-- the views after a news of an application
abbrev pub folded : ℕ → News → Views → Views
folded app news views = with_view app (option_map (told news) (finmap.get views app)) views

-- whether a news asks for the items of an application again
abbrev pub reloads : News → Option View → Bool
reloads news None = false
reloads news (Some v) = marks_reload v.rows news

-- the row of a path, where the application is held and has one
abbrev pub row_in : List ℕ → Option View → Option Row
row_in path None = None
row_in path (Some v) = find (is_path path) v.rows
