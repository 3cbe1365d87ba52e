-- The laws of caches.
use Rattle.std.specs.Prelude.{ℕ, ◌≡◌, List, Some}
use Rattle.std.specs.FinMap as finmap
use Rattle.atspi_tree_model.specs.declared.news.Item.{Item}
use Rattle.atspi_tree_model.specs.declared.news.News.{News}
use Rattle.atspi_tree_model.specs.Laws.{IsView}
use Rattle.atspi_cache.specs.Cache.{View, Views, folded, loaded}

-- in each view every path stands once, and all rows are below the root
abbrev pub AreViews : Views → Type 0
AreViews views = (app : ℕ) (v : View) → finmap.get views app ≡ Some v → IsView v.root v.rows

-- so it is at first, and after each call, whatever the items and the news
pub record ViewsStayViews : Type 0 where
  pub empty : AreViews finmap.empty
  pub loaded :
      (app : ℕ) (bus root : List ℕ) (items : List Item) (views : Views) → AreViews views
      → AreViews (loaded app bus root items views)
  pub folded : (app : ℕ) (news : News) (views : Views) → AreViews views → AreViews (folded app news views)
  pub dropped : (app : ℕ) (views : Views) → AreViews views → AreViews (finmap.remove views app)
