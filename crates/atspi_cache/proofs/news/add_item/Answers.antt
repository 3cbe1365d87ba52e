use Rattle.std.proofs.Common.{◌≡◌, ℕ, w32, SFits, rules, List, Option, OnOk, sym, ap, subst, ◌∙◌}
use Rattle.std.proofs.lemmas.Int.{to_z-of_z}
use Rattle.atspi_tree_model.specs.declared.view.Row.{Row}
use Rattle.atspi_tree_model.specs.Forest.{Forest, nil, tree, put_in}
use Rattle.atspi_tree_model.specs.News.{is_path, fresh, spot}
use Rattle.atspi_cache.proofs.Effects.{added_foreign, added_own}
use Rattle.atspi_cache.proofs.news.add_item.Goals as goal

pub returns-then-not-is_text-clause-ok : goal.returns-then-not-is_text-clause-ok
returns-then-not-is_text-clause-ok c = added_foreign c.args.bus.now c.args.item c.args.rows.now (sym c.is_text.ensures ∙ c.if-not-is_text.true)

pub returns-clause-ok : goal.returns-clause-ok
returns-clause-ok c =
    let fits : SFits w32 c.fresh-parent.result.1 = search rules in
    subst (λ (v : Forest Row). OnOk c.insert.result (c.insert.new.self ≡ v))
    (ap (λ (p : List ℕ). put_in (is_path p) c.spot.result (tree c.fresh-parent.result.2 nil nil) c.args.rows.now) c.fresh-parent.ensures.parent
    ∙ (ap (λ (r : Row). put_in (is_path c.args.item.parent.path) c.spot.result (tree r nil nil) c.args.rows.now) c.fresh-parent.ensures.row
    ∙ (ap (λ (s : Option ℕ). put_in (is_path c.args.item.parent.path) s (tree (fresh c.args.item) nil nil) c.args.rows.now) (c.spot.ensures ∙ ap spot (to_z-of_z w32 c.fresh-parent.result.1 fits ∙ c.fresh-parent.ensures.index))
    ∙ added_own c.args.bus.now c.args.item c.args.rows.now (sym c.is_text.ensures ∙ c.if-not-is_text.false))))
    c.insert.ensures.ok
