-- What a reader does with a message.
use Rattle.std.specs.Prelude.{ℕ, ◌+◌, ◌||◌, Bool, List, [], ◌∷◌, ◌++◌, filter, flat_map, map, Option, Some, None}
use Rattle.std.specs.Prelude.{is_some, if◌then◌else◌}
use Rattle.atspi_script_lines.specs.declared.deed.Deed.{Deed}
use Rattle.atspi_message.specs.Envelope.{Envelope}
use Rattle.atspi_tree_model.specs.declared.view.Row.{Row}
use Rattle.atspi_tree_model.specs.declared.news.News.{News}
use Rattle.atspi_tree_model.specs.declared.news.News.TheVariants.{Item as NewItem}
use Rattle.atspi_tree_model.specs.Forest.{Forest, has}
use Rattle.atspi_tree_model.specs.News.{effect, is_path, marks_reload}
use Rattle.atspi_protocol.specs.declared.news.part.PartName.{PartName}
use Rattle.atspi_speech.specs.Speech.{lines}
use Rattle.atspi_protocol.specs.news.NewsOf.{news_of, or_empty}
use Rattle.atspi_protocol.specs.declared.following.question.Question.{Question}
use Rattle.atspi_protocol.specs.following.ReaderState.{Followed, Pending, Done, sends, speaks, ReaderState, is_named}
use Rattle.atspi_protocol.specs.following.Calls.{asking, user_call}
use Rattle.atspi_protocol.specs.following.Wishes.{of_others, wishes}
use Rattle.atspi_protocol.specs.following.Known.{takes_child, takes_end}
use Rattle.atspi_protocol.specs.following.Replied.{changed, takes_reply}

-- the serial of a message of an application is noted
abbrev pub noted : ℕ → Followed → Followed
noted serial app = record app { last = serial }

abbrev pub notes : ReaderState → Envelope → ReaderState
notes s e = record s { apps = changed (noted e.serial) (or_empty e.sender) s.apps }

-- The parts that stay refused at a news, given the view before it: where the path of an item has no row, the parts of
-- that path were refused of a row that is gone, and are refused no longer.
abbrev pub still_refused : Forest Row → News → List (List ℕ × PartName) → List (List ℕ × PartName)
still_refused view (NewItem item) refused =
    if has (is_path item.object.path) view then refused else of_others item.object.path refused
still_refused view news refused = refused

-- what is spoken at news of an application that is held, and the view after them
abbrev pub lines_at : News → Followed → List Done
lines_at news app = by app.view
  where
    by : Option (Forest Row) → List Done
    by None = []
    by (Some view) = map (λ (line : List ℕ). speaks app.name line) (lines app.root app.name view news)

abbrev pub folded : News → Followed → Followed
folded news app = by app.view
  where
    by : Option (Forest Row) → Followed
    by None = app
    by (Some view) = record app {
      view = Some (effect app.root app.name view news);
      reload = app.reload || marks_reload view news;
      refused = still_refused view news app.refused;
    }

-- the news of a message's sender, if it is an application that is held
abbrev pub takes_news : ReaderState → Envelope → ReaderState
takes_news s e =
    let name = or_empty e.sender in
    record s {
      apps = changed (folded (news_of name e)) name s.apps;
      out = s.out ++ flat_map (lines_at (news_of name e)) (filter (is_named name) s.apps);
    }

-- a call of the reader's own is sent, and waits
abbrev pub asks : ReaderState → Question → ReaderState
asks s question = record s {
  pending = Some (record { serial = s.next; question = question });
  next = s.next + 1;
  out = s.out ++ sends (asking s.next question) ∷ [];
}

-- the next call of the start, or the first wish, where no call waits
abbrev pub asks_first : ReaderState → List Question → ReaderState
asks_first s [] = s
asks_first s (question ∷ questions) = asks s question

abbrev pub goes_on : ReaderState → ReaderState
goes_on s = by s.pending s.to_come
  where
    by : Option Pending → List Question → ReaderState
    by (Some p) to_come = s
    by None (question ∷ to_come) = asks (record s { to_come = to_come }) question
    by None [] = asks_first s (wishes s.apps)

-- a reader starts
abbrev pub starts : ReaderState → ReaderState
starts s = goes_on s

-- What a reader does with a message: it notes the serial, and takes it as a reply, as the end of a connection, as a new
-- child of the registry's and as news; then it asks what it wants to know next.
abbrev pub reader_takes : ReaderState → Envelope → ReaderState
reader_takes s e = goes_on (takes_news (takes_child (takes_end (takes_reply (notes s e) e) e) e) e)

-- a user's call of an application that is held goes out at once
abbrev pub reader_calls : ReaderState → List ℕ → ℕ → Deed → ReaderState
reader_calls s name node deed =
    record s { next = s.next + 1; out = s.out ++ sends (user_call s.next name node deed) ∷ [] }

-- the view of an application, where it is held, and the serial of the last message taken from it
abbrev pub found_in : List ℕ → List Followed → Option Followed
found_in name [] = None
found_in name (app ∷ apps) = if is_named name app then Some app else found_in name apps

abbrev pub view_of : Option Followed → Option (Forest Row)
view_of None = None
view_of (Some app) = app.view

abbrev pub held_view : ReaderState → List ℕ → Option (Forest Row)
held_view s name = view_of (found_in name s.apps)

abbrev pub last_of : Option Followed → Option ℕ
last_of None = None
last_of (Some app) = by app.view
  where
    by : Option (Forest Row) → Option ℕ
    by None = None
    by (Some view) = Some app.last

abbrev pub last_taken : ReaderState → List ℕ → Option ℕ
last_taken s name = last_of (found_in name s.apps)

-- the held applications, in the order in which they became known
abbrev pub is_held : Followed → Bool
is_held app = is_some app.view

abbrev pub held_names : ReaderState → List (List ℕ)
held_names s = map (λ (app : Followed). app.name) (filter is_held s.apps)
