-- What is spoken of an application that is held.
use Rattle.std.specs.Prelude.{List, ℕ, [], Option, Some, None}
use Rattle.atspi_tree_model.specs.declared.news.News.{News}
use Rattle.atspi_speech.specs.Speech.{closing_lines, lines}
use Rattle.atspi_cache.specs.Cache.{View}

-- the lines of a news, given the view before it
abbrev pub lines_of : News → Option View → List (List ℕ)
lines_of news None = []
lines_of news (Some v) = lines v.root v.bus v.rows news

-- the line of an application that is gone
abbrev pub closing_in : Option View → List (List ℕ)
closing_in None = []
closing_in (Some v) = closing_lines v.rows
