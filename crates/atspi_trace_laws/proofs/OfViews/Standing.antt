-- What an application's steps change is a tree, each time.
use Rattle.std.proofs.Common.{◌≡◌, ℕ, List, [], ◌∷◌, ◌++◌, map, refl, sym, ap, ◌∙◌, subst, cond}
use Rattle.std.proofs.lemmas.Bool.{eq-eqb}
use Rattle.atspi_tree_model.specs.Forest.{Forest}
use Rattle.atspi_tree_model.specs.Row.{TreeRow}
use Rattle.atspi_tree_model.specs.RowRules.{rows}
use Rattle.atspi_tree_model.specs.Tree.{after, added_after, IsTree}
use Rattle.atspi_tree_model.proofs.RowRules.{rows_sound}
use Rattle.atspi_tree_model.proofs.Kept.{after_is_tree}
use Rattle.atspi_protocol.specs.exporting.Exporter.{Happening, steps, sends, hears, deaf}
use Rattle.atspi_trace.specs.Entry.{Entry, changed}
use Rattle.atspi_trace.specs.Causes.{did}
use Rattle.atspi_trace_laws.specs.laws.Words.{live_tree, added}
use Rattle.atspi_trace_laws.proofs.OfOrder.Each.{Each}
use Rattle.atspi_trace_laws.proofs.OfSteps.Doings.{AllDone}
use Rattle.atspi_trace_laws.proofs.OfSteps.Trees.{tree_more, count_more}
use Rattle.atspi_trace_laws.specs.views.Laws.{StepsOnTree}

pub did_stand : (app : ℕ) (early : List Entry) (f : Forest TreeRow) (n : ℕ) (hs : List Happening) → live_tree early app ≡ f → added early app ≡ n → IsTree rows f n → AllDone f n hs
    → Each StepsOnTree early (map (did app) hs)
did_stand app early f n [] tree count is a = tt
did_stand app early f n (steps step ∷ hs) tree count is a =
    let here : IsTree rows (live_tree early app) (added early app) = subst (λ t. IsTree rows t (added early app)) (sym tree) (subst (λ c. IsTree rows f c) (sym count) is) in (
      here,
      did_stand app (early ++ changed app step ∷ []) (after rows f step) (added_after n step) hs
          (tree_more app early (changed app step ∷ []) ∙ ap (λ b. cond b (after rows (live_tree early app) step) (live_tree early app)) (eq-eqb app app refl) ∙ ap (λ t. after rows t step) tree)
          (count_more app early (changed app step ∷ []) ∙ ap (λ b. cond b (added_after (added early app) step) (added early app)) (eq-eqb app app refl) ∙ ap (λ c. added_after c step) count)
          (after_is_tree rows rows_sound f n step is a.0) a.1,
    )
did_stand app early f n (sends e ∷ hs) tree count is a =
    (tt, did_stand app (early ++ did app (sends e) ∷ []) f n hs (tree_more app early (did app (sends e) ∷ []) ∙ tree) (count_more app early (did app (sends e) ∷ []) ∙ count) is a)
did_stand app early f n (hears listener pattern ∷ hs) tree count is a =
    (tt, did_stand app (early ++ did app (hears listener pattern) ∷ []) f n hs (tree_more app early (did app (hears listener pattern) ∷ []) ∙ tree) (count_more app early (did app (hears listener pattern) ∷ []) ∙ count) is a)
did_stand app early f n (deaf listener pattern ∷ hs) tree count is a =
    (tt, did_stand app (early ++ did app (deaf listener pattern) ∷ []) f n hs (tree_more app early (did app (deaf listener pattern) ∷ []) ∙ tree) (count_more app early (did app (deaf listener pattern) ∷ []) ∙ count) is a)
