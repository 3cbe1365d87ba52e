-- What announcements tell, along lawful traces.
use Rattle.std.specs.Prelude.{◌≡◌, ℕ, List, [], ◌∷◌, ◌++◌, map, Some}
use Rattle.atspi_tree_model.specs.declared.step.Step.{Step}
use Rattle.atspi_tree_model.specs.RowRules.{rows}
use Rattle.atspi_tree_model.specs.Tree.{IsTree}
use Rattle.atspi_tree_model.specs.Path.{path_of}
use Rattle.atspi_tree_model.specs.View.{Told, view}
use Rattle.atspi_tree_model.specs.News.{effect}
use Rattle.atspi_tree_model.specs.Announce.{announcement, echoes, Idle}
use Rattle.atspi_tree_model.specs.Laws.{UntoldOfNew}
use Rattle.atspi_protocol.specs.announcing.Signals.{Signal}
use Rattle.atspi_protocol.specs.announcing.Announced.{announced}
use Rattle.atspi_protocol.specs.announcing.Laws.{told}
use Rattle.atspi_protocol.specs.news.NewsOf.{news_of}
use Rattle.atspi_trace.specs.Entry.{Entry, changed}
use Rattle.atspi_trace_laws.specs.laws.Words.{live_tree, added}
use Rattle.atspi_trace_laws.specs.laws.NineLaws.{Everywhere}
use Rattle.atspi_trace_laws.specs.order.Laws.{OfEachTrace}

-- what a step changes is a tree
abbrev pub StepsOnTree : List Entry → Entry → List Entry → Type 0
StepsOnTree before (changed app step) behind = IsTree rows (live_tree before app) (added before app)
StepsOnTree before entry behind = Unit {0}

abbrev pub TreesStand : Type 0
TreesStand = OfEachTrace (Everywhere StepsOnTree)

-- A step is seen by whoever reads its signals as they come from its application, whatever that is named, and was told
-- nothing of a node that the step adds: the announcement makes the view of the live tree behind the step out of that
-- before it, and the echoes change nothing and ask for nothing.
pub record IsCarried (before : List Entry) (app : ℕ) (step : Step) : Type 0 where
  pub news : (name : List ℕ) (serial : ℕ)
      → map (λ (s : Signal). news_of name (record s.message { serial = serial; sender = Some name }))
      (announced name (live_tree before app) step) ≡ told name (live_tree before app) step
  pub announcement : (name : List ℕ) (parts : List ℕ → Told) → UntoldOfNew parts step
      → effect (path_of 0) name (view parts (live_tree before app)) (announcement name (live_tree before app) step)
      ≡ view parts (live_tree (before ++ changed app step ∷ []) app)
  pub echoes : (name : List ℕ) (parts : List ℕ → Told) → UntoldOfNew parts step
      → Idle (path_of 0) name (view parts (live_tree (before ++ changed app step ∷ []) app))
      (echoes name (live_tree before app) step)

abbrev pub StepIsCarried : List Entry → Entry → List Entry → Type 0
StepIsCarried before (changed app step) behind = IsCarried before app step
StepIsCarried before entry behind = Unit {0}

abbrev pub AnnouncementsCarryViews : Type 0
AnnouncementsCarryViews = OfEachTrace (Everywhere StepIsCarried)
