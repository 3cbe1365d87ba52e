-- What a reader makes of an application's messages, one behind the other.
use Rattle.std.specs.Prelude.{◌≡◌, ℕ, true, List, [], ◌∷◌, ◌++◌, map, Some}
use Rattle.std.specs.List.{AllByRecursion, fold}
use Rattle.atspi_tree_model.specs.declared.step.Step.{Step}
use Rattle.atspi_tree_model.specs.declared.view.Row.{Row}
use Rattle.atspi_tree_model.specs.Forest.{Forest}
use Rattle.atspi_tree_model.specs.Path.{path_of}
use Rattle.atspi_tree_model.specs.View.{Told, view}
use Rattle.atspi_tree_model.specs.News.{effect}
use Rattle.atspi_tree_model.specs.Laws.{UntoldOfNew}
use Rattle.atspi_script_lines.specs.declared.line.Party.TheVariants.{App}
use Rattle.atspi_message.specs.Envelope.{Envelope}
use Rattle.atspi_protocol.specs.announcing.Signals.{Signal}
use Rattle.atspi_protocol.specs.announcing.Announced.{announced}
use Rattle.atspi_protocol.specs.news.NewsOf.{news_of}
use Rattle.atspi_protocol.specs.exporting.Hearing.{is_covered}
use Rattle.atspi_trace.specs.Entry.{Entry, changed, sent}
use Rattle.atspi_trace_laws.specs.laws.Words.{live_tree, heard_pairs}
use Rattle.atspi_trace_laws.specs.laws.NineLaws.{Everywhere}
use Rattle.atspi_trace_laws.specs.heard.Laws.{OfEachDone}

-- a view behind the news of messages, as they come from an application of this name
abbrev pub heard_from : List ℕ → Forest Row → Envelope → Forest Row
heard_from name v e = effect (path_of 0) name v (news_of name (record e { sender = Some name }))

abbrev pub folded : List ℕ → Forest Row → List Envelope → Forest Row
folded name v es = fold (heard_from name) v es

-- some heard pattern covers each signal
abbrev pub AreAllCovered : List (List ℕ × List ℕ) → List Signal → Type 0
AreAllCovered pairs signals = AllByRecursion (λ (s : Signal). is_covered pairs s.event s.minor ≡ true) signals

-- Directly behind a step stand messages of its application which, where all its signals were asked for, make the view
-- of the live tree behind the step out of the view of that before it, for whoever was told nothing of a node that the
-- step adds.
pub record Folds (before : List Entry) (app : ℕ) (step : Step) (behind : List Entry) : Type 0 where
  pub name : List ℕ
  pub messages : List Envelope
  pub rest : List Entry
  pub stand : behind ≡ map (sent (App app)) messages ++ rest
  pub makes : (parts : List ℕ → Told) → UntoldOfNew parts step
      → AreAllCovered (heard_pairs before app) (announced name (live_tree before app) step)
      → folded name (view parts (live_tree before app)) messages
      ≡ view parts (live_tree (before ++ changed app step ∷ []) app)

abbrev pub StepFolds : List Entry → Entry → List Entry → Type 0
StepFolds before (changed app step) behind = Folds before app step behind
StepFolds before entry behind = Unit {0}

abbrev pub StepsFold : Type 0
StepsFold = OfEachDone (Everywhere StepFolds)
