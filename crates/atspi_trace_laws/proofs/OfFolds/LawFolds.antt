-- The signals of a step, folded, make the view of the tree behind it.
use Rattle.std.proofs.Common.{◌≡◌, ℕ, suc, ◌+◌, List, [], ◌∷◌, ◌++◌, length, map, Some, refl, ap, ◌∙◌}
use Rattle.std.specs.Prelude.{if◌then◌else◌}
use Rattle.std.specs.List.{fold}
use Rattle.atspi_tree_model.specs.declared.news.News.{News}
use Rattle.atspi_tree_model.specs.declared.step.Step.{Step}
use Rattle.atspi_tree_model.specs.declared.step.Step.TheVariants.{Add, Remove, Move, SetName, SetDescription, SetRole, SetState, Insert, Delete, Caret, TextSelect, Relate}
use Rattle.atspi_tree_model.specs.declared.view.Row.{Row}
use Rattle.atspi_tree_model.specs.Forest.{Forest}
use Rattle.atspi_tree_model.specs.Row.{TreeRow}
use Rattle.atspi_tree_model.specs.Path.{path_of}
use Rattle.atspi_tree_model.specs.View.{view}
use Rattle.atspi_tree_model.specs.News.{effect}
use Rattle.atspi_tree_model.specs.Announce.{announcement, echoes, Idle}
use Rattle.atspi_script_lines.specs.declared.line.Line.{Line}
use Rattle.atspi_script_lines.specs.declared.line.Party.TheVariants.{App}
use Rattle.atspi_message.specs.Envelope.{Envelope}
use Rattle.atspi_protocol.specs.ends.Messages.{numbered}
use Rattle.atspi_protocol.specs.announcing.Signals.{Signal}
use Rattle.atspi_protocol.specs.announcing.Announced.{announced}
use Rattle.atspi_protocol.specs.announcing.Laws.{told}
use Rattle.atspi_protocol.specs.news.NewsOf.{news_of}
use Rattle.atspi_protocol.specs.exporting.Telling.{asked_for}
use Rattle.atspi_trace.specs.Entry.{Entry, changed}
use Rattle.atspi_trace.specs.Due.{begins, after_all, Goes}
use Rattle.atspi_trace_laws.specs.laws.Words.{live_tree, heard_pairs, messages}
use Rattle.atspi_trace_laws.specs.laws.NineLaws.{Everywhere}
use Rattle.atspi_trace_laws.specs.order.Scripts.{CanAllStand}
use Rattle.atspi_trace_laws.specs.heard.Laws.{IsToldUnder}
use Rattle.atspi_trace_laws.proofs.OfHeard.LawHeard.{steps_told}
use Rattle.atspi_trace_laws.specs.views.Laws.{IsCarried, StepIsCarried}
use Rattle.atspi_trace_laws.proofs.OfViews.LawViews.{announcements_carry}
use Rattle.atspi_trace_laws.specs.folds.Laws.{heard_from, folded, AreAllCovered, Folds, StepFolds}

-- where all are covered none is left out
pub all_asked : (pairs : List (List ℕ × List ℕ)) (xs : List Signal) → AreAllCovered pairs xs → asked_for pairs xs ≡ xs
all_asked pairs [] a = refl
all_asked pairs (x ∷ xs) a = ap (λ b. if b then x ∷ asked_for pairs xs else asked_for pairs xs) a.0 ∙ ap (λ l. x ∷ l) (all_asked pairs xs a.1)

-- a message's number is no part of its news
fold_news : (name : List ℕ) (v : Forest Row) (n : ℕ) (xs : List Signal)
    → folded name v (numbered n (map (λ (s : Signal). s.message) xs))
    ≡ fold (effect (path_of 0) name) v (map (λ (s : Signal). news_of name (record s.message { serial = 0; sender = Some name })) xs)
fold_news name v n [] = refl
fold_news name v n (x ∷ xs) = fold_news name (heard_from name v (record x.message { serial = n })) (n + 1) xs

-- news that change nothing
fold_idle : (name : List ℕ) (v : Forest Row) (ns : List News) → Idle (path_of 0) name v ns → fold (effect (path_of 0) name) v ns ≡ v
fold_idle name v [] i = refl
fold_idle name v (n ∷ ns) i = ap (λ u. fold (effect (path_of 0) name) u ns) i.0 ∙ fold_idle name v ns i.2

-- what a step tells makes the view behind it
fold_told : (name : List ℕ) (f : Forest TreeRow) (step : Step) (v u : Forest Row) → effect (path_of 0) name v (announcement name f step) ≡ u → Idle (path_of 0) name u (echoes name f step)
    → fold (effect (path_of 0) name) v (told name f step) ≡ u
fold_told name f (Add n p i seed) v u h idle = ap (λ x. fold (effect (path_of 0) name) x (echoes name f (Add n p i seed))) h ∙ fold_idle name u (echoes name f (Add n p i seed)) idle
fold_told name f (Remove n) v u h idle = ap (λ x. fold (effect (path_of 0) name) x (echoes name f (Remove n))) h ∙ fold_idle name u (echoes name f (Remove n)) idle
fold_told name f (Move n p i) v u h idle = ap (λ x. fold (effect (path_of 0) name) x (echoes name f (Move n p i))) h ∙ fold_idle name u (echoes name f (Move n p i)) idle
fold_told name f (SetName n x) v u h idle = h
fold_told name f (SetDescription n x) v u h idle = h
fold_told name f (SetRole n role) v u h idle = h
fold_told name f (SetState n state on) v u h idle = h
fold_told name f (Insert n at x) v u h idle = h
fold_told name f (Delete n at x) v u h idle = h
fold_told name f (Caret n at) v u h idle = h
fold_told name f (TextSelect n marks) v u h idle = h
fold_told name f (Relate n kind targets) v u h idle = h

folds : (before : List Entry) (app : ℕ) (step : Step) (behind : List Entry) → IsToldUnder before (changed app step) behind → IsCarried before app step → Folds before app step behind
folds before app step behind is c = record {
  name = name;
  messages = said;
  rest = is.1.0;
  stand = is.1.1;
  makes = λ parts untold covered.
      ap (λ xs. folded name (view parts f) (numbered n (map (λ (s : Signal). s.message) xs))) (all_asked (heard_pairs before app) (announced name f step) covered)
      ∙ fold_news name (view parts f) n (announced name f step)
      ∙ ap (fold (effect (path_of 0) name) (view parts f)) (c.news name 0)
      ∙ fold_told name f step (view parts f) (view parts (live_tree (before ++ changed app step ∷ []) app)) (c.announcement name parts untold) (c.echoes name parts untold);
}
  where
    name : List ℕ
    name = is.0

    f : Forest TreeRow
    f = live_tree before app

    n : ℕ
    n = suc (length (messages before (App app)))

    said : List Envelope
    said = numbered n (map (λ (s : Signal). s.message) (asked_for (heard_pairs before app) (announced name f step)))

step_folds : (before : List Entry) (entry : Entry) (behind : List Entry) → IsToldUnder before entry behind → StepIsCarried before entry behind → StepFolds before entry behind
step_folds before (changed app step) behind is c = folds before app step behind is c
step_folds before entry behind is c = tt

pub steps_fold : (lines : List Line) (trace : List Entry) → CanAllStand lines → Goes (begins lines) trace → (after_all (begins lines) trace).owing ≡ [] → Everywhere StepFolds trace
steps_fold lines trace a g none before entry behind h =
    step_folds before entry behind (steps_told lines trace a g none before entry behind h) (announcements_carry lines trace a g before entry behind h)
