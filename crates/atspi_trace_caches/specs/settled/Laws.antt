-- Where nothing waits, and each reader asked for all that it may, each holds each application as it is now.
use Rattle.std.specs.Prelude.{◌≡◌, ◌⊎◌, ℕ, ◌≤◌, true, false, List, [], ◌∷◌, ◌++◌, map, None, Some}
use Rattle.std.specs.List.{AllByRecursion, list_all}
use Rattle.atspi_tree_model.specs.Forest.{labels}
use Rattle.atspi_tree_model.specs.Path.{path_of}
use Rattle.atspi_tree_model.specs.View.{view}
use Rattle.atspi_tree_model.specs.declared.view.Row.{Row}
use Rattle.atspi_script_lines.specs.declared.line.Line.{Line}
use Rattle.atspi_script_lines.specs.declared.line.Party.TheVariants.{App, Reader}
use Rattle.atspi_protocol.specs.declared.news.part.PartName.{PartName}
use Rattle.atspi_protocol.specs.declared.following.question.Question.{Question}
use Rattle.atspi_protocol.specs.declared.following.question.Question.TheVariants.{GetItems, GetPart}
use Rattle.atspi_protocol.specs.following.Calls.{asking}
use Rattle.atspi_protocol.specs.following.ReaderState.{start_calls}
use Rattle.atspi_protocol.specs.following.Wishes.{unknown_parts}
use Rattle.atspi_trace.specs.Entry.{Entry, sent, got}
use Rattle.atspi_trace.specs.World.{here, Asked, Holding, a_reader, Hearer, End, World}
use Rattle.atspi_trace.specs.Ends.{end_at}
use Rattle.atspi_trace.specs.Hearing.{holding_of, is_answered, question_in}
use Rattle.atspi_trace.specs.Causes.{told_in}
use Rattle.atspi_trace.specs.Work.{next_turn}
use Rattle.atspi_trace.specs.Due.{begins, after_all, Begun, Scene, is_lost, IsSettled}
use Rattle.atspi_trace_laws.specs.laws.Words.{added, name_in, message, answers_question}
use Rattle.atspi_trace_laws.specs.laws.NineLaws.{Everywhere}
use Rattle.atspi_trace_laws.specs.missed.Laws.{IsLoad}
use Rattle.atspi_trace_laws.specs.order.Scripts.{CanAllStand}

-- nothing waits: no message on any link, and no end that stopped
abbrev pub NothingWaits : World → Type 0
NothingWaits w = next_turn w ≡ None

-- OF WHAT PARTS ARE ASKED: of an application, by its unique name, and of a node that was added to it. One that is asked
-- for before is refused, and stays unknown.
pub record IsOfNode (before : List Entry) (name path : List ℕ) : Type 0 where
  pub app : ℕ
  pub its_name : name_in before (App app) ≡ Some name
  pub node : ℕ
  pub is_of : path ≡ path_of node
  pub was_added : node ≤ added before app

abbrev pub AsksOfNode : List Entry → Entry → List Entry → Type 0
AsksOfNode before (sent (Reader r) e) behind = (name path : List ℕ) (part : PartName)
    → question_in e ≡ Some (GetPart name path part) → IsOfNode before name path
AsksOfNode before entry behind = Unit {0}

-- a question was asked
abbrev pub IsAsked : Question → List Asked → Type 0
IsAsked question [] = ⊥
IsAsked question (a ∷ asked) = (a.question ≡ question) ⊎ IsAsked question asked

-- the calls of the start were, in their order, before any other
abbrev pub question_of : Asked → Question
question_of a = a.question

abbrev pub BeginsWell : List Asked → Type 0
BeginsWell asked = (late : List Question) × (map question_of asked ≡ start_calls ++ late)

-- a part was asked for, and since then the reader took no message that loads the application anew
abbrev pub NoLoad : List Entry → ℕ → ℕ → List Entry → Type 0
NoLoad early reader app late =
    (xs ys : List Entry) (serial : ℕ) → late ≡ xs ++ got (Reader reader) (App app) serial ∷ ys
    → IsLoad (answers_question (early ++ xs) reader (message (early ++ xs) (App app) serial)) → ⊥

pub record IsPartAsked (trace : List Entry) (reader app : ℕ) (name path : List ℕ) (part : PartName) : Type 0 where
  pub early : List Entry
  pub serial : ℕ
  pub late : List Entry
  pub is : trace ≡ (early ++ sent (Reader reader) (asking serial (GetPart name path part)) ∷ []) ++ late
  pub no_load : NoLoad (early ++ sent (Reader reader) (asking serial (GetPart name path part)) ∷ []) reader app late

-- each part of a row that is unknown
abbrev pub ArePartsAsked : List Entry → ℕ → ℕ → List ℕ → Row → Type 0
ArePartsAsked trace reader app name row =
    AllByRecursion (IsPartAsked trace reader app name row.path) (unknown_parts row)

-- the unique name of an application that is here
abbrev pub IsNameHere : List End → List ℕ → Type 0
IsNameHere ends name = (conn app : ℕ) × (e : End) × (end_at ends conn ≡ Some e) × (e.who ≡ App app)
    × (e.standing ≡ here) × (e.unique ≡ Some name)

-- A READER THAT ASKED FOR ALL: each call of its start, all items of each application that is here and that the registry
-- told it of, and each part that it does not know of one that it holds
pub record HasAskedAll (trace : List Entry) (ends : List End) (reader : ℕ) (h : Hearer) : Type 0 where
  pub starts : BeginsWell h.asked
  pub items : AllByRecursion (λ name. IsNameHere ends name → IsAsked (GetItems name) h.asked) h.named
  pub parts : (conn app : ℕ) (e : End) (name : List ℕ) (k : Holding) → end_at ends conn ≡ Some e → e.who ≡ App app
      → e.unique ≡ Some name → holding_of app h.holds ≡ Some k
      → AllByRecursion (ArePartsAsked trace reader app name) (labels (view (told_in k.told) k.tree))

-- each reader that is here and waits for no reply is one
abbrev pub AllAsk : List Entry → World → Type 0
AllAsk trace w =
    (conn reader : ℕ) (e : End) (h : Hearer) → end_at w.ends conn ≡ Some e → e.who ≡ Reader reader → e.standing ≡ here
    → e.role ≡ a_reader h → list_all is_answered h.asked ≡ true
    → HasAskedAll trace w.ends reader h

-- AT QUIET: behind each front of a lawful trace behind which nothing is owed and nothing waits, where the registry is
-- here and readers asked for all, each reader that is here holds each application that is here as it is now, with every
-- part known
abbrev pub IsWellAt : List Entry → Scene → Type 0
IsWellAt trace s = s.owing ≡ [] → NothingWaits s.world → is_lost s.world ≡ false → AllAsk trace s.world
    → IsSettled s.world

abbrev pub RestsAreWell : Type 0
RestsAreWell = (lines : List Line) (trace : List Entry) → CanAllStand lines → Begun lines trace
    → Everywhere AsksOfNode trace → IsWellAt trace (after_all (begins lines) trace)
