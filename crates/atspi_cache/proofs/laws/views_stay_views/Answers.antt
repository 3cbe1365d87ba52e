use Rattle.std.proofs.Common.{◌≡◌, ℕ, Bool, true, false, cond, Option, Some, None, refl, sym, subst, ◌∙◌}
use Rattle.std.specs.Option.{option_map}
use Rattle.std.specs.Ordering.{nat_cmp, eq_by_cmp}
use Rattle.std.specs.Cmp.{nat_cmp_total}
use Rattle.std.specs.FinMap.{get, insert, remove, get-empty, get-insert, get-remove}
use Rattle.atspi_tree_model.specs.declared.news.News.{News}
use Rattle.atspi_tree_model.specs.Laws.{IsView}
use Rattle.atspi_tree_model.proofs.RootAlone.{load_is_view, news_keep_view}
use Rattle.atspi_cache.specs.Cache.{View, Views, told, with_view}
use Rattle.atspi_cache.specs.Laws.{AreViews}
use Rattle.atspi_cache.proofs.laws.views_stay_views.Goals as goal

with_one : (views : Views) (k : ℕ) (w : View) → IsView w.root w.rows → AreViews views → AreViews (insert views k w)
with_one views k w i h app v e = at (eq_by_cmp nat_cmp app k) (sym (get-insert nat_cmp_total views k w app) ∙ e)
  where
    at : (b : Bool) → cond b (Some w) (get views app) ≡ Some v → IsView v.root v.rows
    at true f = let same : w ≡ v = cc in subst (λ (x : View). IsView x.root x.rows) same i
    at false f = h app v f

without_one : (views : Views) (k : ℕ) → AreViews views → AreViews (remove views k)
without_one views k h app v e = at (eq_by_cmp nat_cmp app k) (sym (get-remove nat_cmp_total views k app) ∙ e)
  where
    at : (b : Bool) → cond b None (get views app) ≡ Some v → IsView v.root v.rows
    at true f = cc
    at false f = h app v f

after_news : (app : ℕ) (news : News) (views : Views) → AreViews views → (o : Option View) → get views app ≡ o → AreViews (with_view app (option_map (told news) o) views)
after_news app news views h None e = h
after_news app news views h (Some v) e = with_one views app (told news v) (news_keep_view v.root v.bus v.rows news (h app v e)) h

pub returns : goal.returns
returns c = record {
  empty = λ app v e. let z : None ≡ Some v = sym (get-empty nat_cmp app) ∙ e in absurd cc;
  loaded = λ app bus root items views h. with_one views app _ (load_is_view root bus items) h;
  folded = λ app news views h. after_news app news views h (get views app) refl;
  dropped = λ app views h. without_one views app h;
}
