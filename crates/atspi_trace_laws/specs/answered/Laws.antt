-- What applications' returns to readers' calls for all items, and for parts, tell.
use Rattle.std.specs.Prelude.{◌≡◌, ◌≤◌, ℕ, List, [], ◌∷◌, ◌++◌, Some}
use Rattle.atspi_tree_model.specs.declared.news.Item.{Item}
use Rattle.atspi_tree_model.specs.declared.news.News.{News}
use Rattle.atspi_tree_model.specs.Forest.{Forest}
use Rattle.atspi_tree_model.specs.News.{effect, load}
use Rattle.atspi_tree_model.specs.Path.{path_of}
use Rattle.atspi_tree_model.specs.Row.{TreeRow}
use Rattle.atspi_tree_model.specs.View.{nothing_told, view}
use Rattle.atspi_script_lines.specs.declared.line.Party.TheVariants.{App, Reader}
use Rattle.atspi_message.specs.Envelope.{Envelope}
use Rattle.atspi_protocol.specs.declared.following.question.Question.TheVariants.{GetItems, GetPart}
use Rattle.atspi_protocol.specs.declared.news.part.PartName.{PartName}
use Rattle.atspi_protocol.specs.news.Replies.{items_told, part_told}
use Rattle.atspi_trace.specs.Entry.{Entry, got}
use Rattle.atspi_trace.specs.Causes.{told_in}
use Rattle.atspi_trace_laws.specs.laws.Words.{added, message, before_sent, as_of, answers_question}
use Rattle.atspi_trace_laws.specs.laws.NineLaws.{Everywhere}
use Rattle.atspi_trace_laws.specs.order.Laws.{OfEachTrace}
use Rattle.atspi_trace_laws.specs.signed.Laws.{IsItsName}

-- WHAT RETURNS TELL. A return to a call for all items tells the view of a tree, and one to a call for a part tells that
-- part of it, of a node that was added.
pub record TellsItems (name : List ℕ) (tree : Forest TreeRow) (e : Envelope) : Type 0 where
  pub items : List Item
  pub told : items_told e ≡ Some items
  pub loads : load (path_of 0) name items ≡ view nothing_told tree

pub record TellsPart (name : List ℕ) (tree : Forest TreeRow) (count : ℕ) (path : List ℕ) (part : PartName)
    (e : Envelope) : Type 0 where
  pub news : News
  pub told : part_told part path e ≡ Some news
  pub shows : (parts : List (List ℕ × PartName))
      → effect (path_of 0) name (view (told_in parts) tree) news ≡ view (told_in (parts ++ (path, part) ∷ [])) tree
  pub node : ℕ
  pub is_of : path ≡ path_of node
  pub was_added : node ≤ count

-- a return that a reader takes as one to its call for all items tells the view of the application's tree as it was when
-- it was sent, under its own name
abbrev pub IsItemsTold : List Entry → Entry → List Entry → Type 0
IsItemsTold before (got (Reader r) (App a) serial) behind =
    (name asked : List ℕ) (e : Envelope) → IsItsName before a name → message before (App a) serial ≡ Some e
    → answers_question before r (Some e) ≡ Some (GetItems asked) → TellsItems name (as_of before a serial) e
IsItemsTold before entry behind = Unit {0}

abbrev pub ItemsAreTold : Type 0
ItemsAreTold = OfEachTrace (Everywhere IsItemsTold)

-- and one that it takes as one to its call for a part that part of the tree as it was when it was sent, of a node that
-- was added to it
abbrev pub IsPartTold : List Entry → Entry → List Entry → Type 0
IsPartTold before (got (Reader r) (App a) serial) behind =
    (name asked path : List ℕ) (part : PartName) (e : Envelope) → message before (App a) serial ≡ Some e
    → answers_question before r (Some e) ≡ Some (GetPart asked path part)
    → TellsPart name (as_of before a serial) (added (before_sent (App a) serial before) a) path part e
IsPartTold before entry behind = Unit {0}

abbrev pub PartsAreTold : Type 0
PartsAreTold = OfEachTrace (Everywhere IsPartTold)
