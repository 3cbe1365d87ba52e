-- What is kept of an application, and what is spoken of it.
use Rattle.std.specs.Prelude.{◌≡◌, ℕ, List, [], Option, None, Some}
use Rattle.std.specs.FinMap as finmap
use Rattle.atspi_tree_model.specs.declared.view.Row.{Row}
use Rattle.atspi_tree_model.specs.declared.news.News.{News}
use Rattle.atspi_tree_model.specs.Forest.{Forest}
use Rattle.atspi_cache.specs.Cache.{View, Views}
use Rattle.atspi_speech.specs.Speech.{closing_lines, lines}
use Rattle.atspi_protocol.specs.following.ReaderState.{Followed}

-- the one view in an application's own cache
abbrev pub kept : Views → Option View
kept views = finmap.get views 0

abbrev pub rows_of : Option View → Option (Forest Row)
rows_of None = None
rows_of (Some v) = Some v.rows

-- it is under the application's name and root
abbrev pub IsKept : List ℕ → List ℕ → Option View → Type 0
IsKept name root None = Unit {0}
IsKept name root (Some v) = (v.bus ≡ name) × (v.root ≡ root)

-- the lines that are spoken at a news of an application, where it is held
abbrev pub lines_in : News → Followed → List (List ℕ)
lines_in news app = by app.view
  where
    by : Option (Forest Row) → List (List ℕ)
    by None = []
    by (Some view) = lines app.root app.name view news

-- those that are spoken where it ends
abbrev pub closing_in : Followed → List (List ℕ)
closing_in app = by app.view
  where
    by : Option (Forest Row) → List (List ℕ)
    by None = []
    by (Some view) = closing_lines view
