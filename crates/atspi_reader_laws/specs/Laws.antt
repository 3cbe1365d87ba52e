-- What holds of a reader whatever messages it takes: when it rests, which parts it gives up, which applications it
-- forgets, and what ends its start early.
use Rattle.std.specs.Prelude.{◌≡◌, ◌⊎◌, ◌==◌, ◌||◌, ℕ, Bool, true, false, not, List, [], ◌∷◌, Option, None, Some}
use Rattle.std.specs.Prelude.{is_some, bytes_eq}
use Rattle.std.specs.List.{list_all}
use Rattle.atspi_message.specs.Envelope.{Envelope}
use Rattle.atspi_tree_model.specs.declared.view.Row.{Row}
use Rattle.atspi_tree_model.specs.declared.news.Item.{Item}
use Rattle.atspi_tree_model.specs.declared.news.News.TheVariants.{Item as NewItem}
use Rattle.atspi_tree_model.specs.Forest.{Forest, has}
use Rattle.atspi_tree_model.specs.News.{is_path}
use Rattle.atspi_protocol.specs.declared.news.part.PartName.{PartName}
use Rattle.atspi_protocol.specs.news.Arguments.{signature_of}
use Rattle.atspi_protocol.specs.news.NewsOf.{news_of, or_empty}
use Rattle.atspi_protocol.specs.news.Replies.{items_told, part_told}
use Rattle.atspi_protocol.specs.declared.following.question.Question.{Question}
use Rattle.atspi_protocol.specs.declared.following.question.Question.TheVariants.{Hello, AddMatch, RegisterEvent}
use Rattle.atspi_protocol.specs.declared.following.question.Question.TheVariants.{GetChildren, GetItems, GetPart}
use Rattle.atspi_protocol.specs.following.ReaderState.{Followed, Pending, ReaderState}
use Rattle.atspi_protocol.specs.following.Wishes.{is_refused, wishes}
use Rattle.atspi_protocol.specs.following.Known.{told_end}
use Rattle.atspi_protocol.specs.following.Replied.{ends_call, is_unique_name_alone, children_signature}
use Rattle.atspi_protocol.specs.following.Takes.{found_in}

-- the call that waits is this question, and the message ends it
pub record IsReplyTo (question : Question) (s : ReaderState) (e : Envelope) : Type 0 where
  pub serial : ℕ
  pub waits : s.pending ≡ Some (record { serial = serial; question = question })
  pub ends : ends_call (record { serial = serial; question = question }) e ≡ true

-- WHEN A READER RESTS: where no call of its own waits, no call of its start is to come, and there is nothing that it
-- wants to know.
abbrev pub RestsOnlyAtEnd : ReaderState → Type 0
RestsOnlyAtEnd s = s.pending ≡ None → (s.to_come ≡ []) × (wishes s.apps ≡ [])

-- the parts that an application would not tell, and whether one of a row, by its path, is among those of the
-- application with this name
abbrev pub refused_of : Option Followed → List (List ℕ × PartName)
refused_of None = []
refused_of (Some app) = app.refused

abbrev pub is_given_up : ReaderState → List ℕ → List ℕ → PartName → Bool
is_given_up s name path part = is_refused (refused_of (found_in name s.apps)) path part

-- WHAT GIVES A PART UP: the reply to the call for it, which tells no such part. It is an error, or misformed.
abbrev pub GivesUp : ReaderState → Envelope → List ℕ → List ℕ → PartName → Type 0
GivesUp s e name path part = IsReplyTo (GetPart name path part) s e × (part_told part path e ≡ None)

-- WHAT MAKES ALL PARTS OF AN APPLICATION ASKED FOR AGAIN: the end of its name, or the reply to the call for all of it,
-- whatever that is.
abbrev pub BeginsAnew : ReaderState → Envelope → List ℕ → Type 0
BeginsAnew s e name = (told_end e ≡ Some name) ⊎ IsReplyTo (GetItems name) s e

-- whether an application that was found is held and has no row of a path
abbrev pub lacks : Option (Forest Row) → List ℕ → Bool
lacks None path = false
lacks (Some view) path = not (has (is_path path) view)

abbrev pub lacks_row : Option Followed → List ℕ → Bool
lacks_row None path = false
lacks_row (Some app) path = lacks app.view path

-- WHAT MAKES THE PARTS OF ONE ROW ASKED FOR AGAIN: an item of the application's for a path of which it has no row, so
-- that what was refused of the path was refused of a row that is gone.
pub record ComesAnew (s : ReaderState) (e : Envelope) (name path : List ℕ) : Type 0 where
  pub sender : or_empty e.sender ≡ name
  pub item : Item
  pub told : news_of name e ≡ NewItem item
  pub of_path : item.object.path ≡ path
  pub no_row : lacks_row (found_in name s.apps) path ≡ true

-- whether an application with this name is known
abbrev pub is_known : ReaderState → List ℕ → Bool
is_known s name = is_some (found_in name s.apps)

-- WHAT MAKES AN APPLICATION FORGOTTEN: the bus tells the end of its name; or the reply to the call for all of it tells
-- no items, as an error, or misformed.
abbrev pub Forgets : ReaderState → Envelope → List ℕ → Type 0
Forgets s e name = (told_end e ≡ Some name) ⊎ (IsReplyTo (GetItems name) s e × (items_told e ≡ None))

-- whether a question is one of the start
abbrev pub is_of_start : Question → Bool
is_of_start Hello = true
is_of_start (AddMatch rule) = true
is_of_start (RegisterEvent pattern) = true
is_of_start GetChildren = true
is_of_start (GetItems name) = false
is_of_start (GetPart name path part) = false

-- whether a reply fails the call of the start that it is to: an error, a Hello that returns anything but a unique name,
-- a GetChildren that returns no references
abbrev pub fails_start : Question → Envelope → Bool
fails_start Hello e = e.kind == 3 || not (is_unique_name_alone e.body)
fails_start (AddMatch rule) e = e.kind == 3
fails_start (RegisterEvent pattern) e = e.kind == 3
fails_start GetChildren e = e.kind == 3 || not (bytes_eq (signature_of e.body) children_signature)
fails_start (GetItems name) e = false
fails_start (GetPart name path part) e = false

-- WHAT ENDS THE START EARLY
pub record EndsStart (s : ReaderState) (e : Envelope) : Type 0 where
  pub question : Question
  pub reply : IsReplyTo question s e
  pub fails : fails_start question e ≡ true

-- whether the call that waits is one of the start
abbrev pub waits_for_start : Option Pending → Bool
waits_for_start None = false
waits_for_start (Some p) = is_of_start p.question

-- the start is over: no call of it is to come, and none waits
abbrev pub IsStartOver : ReaderState → Type 0
IsStartOver s = (s.to_come ≡ []) × (waits_for_start s.pending ≡ false)

-- all that is to come is of the start, as it is at the beginning
abbrev pub IsOfStart : ReaderState → Type 0
IsOfStart s = list_all is_of_start s.to_come ≡ true

-- the first of the calls that were to come was asked, and waits now; the others are still to come
pub record AsksFirst (s now : ReaderState) : Type 0 where
  pub question : Question
  pub was : s.to_come ≡ question ∷ now.to_come
  pub serial : ℕ
  pub waits : now.pending ≡ Some (record { serial = serial; question = question })

-- HOW THE START GOES ON OTHERWISE: what is to come stays so, or the first of it is asked
abbrev pub AsksInOrder : ReaderState → ReaderState → Type 0
AsksInOrder s now = (now.to_come ≡ s.to_come) ⊎ AsksFirst s now
