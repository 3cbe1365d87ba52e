use Rattle.std.proofs.Common.{w32, sym, ap, ◌∙◌}
use Rattle.std.specs.Prelude.{ℤ}
use Rattle.std.proofs.lemmas.Int.{to_z-of_z}
use Rattle.atspi_tree_model.specs.News.{is_path}
use Rattle.atspi_tree_model.specs.Row.{insert_there}
use Rattle.atspi_cache.proofs.Effects.{change_unknown, known_changed, not_known_same}
use Rattle.atspi_cache.proofs.news.insert.Goals as goal

pub returns-in_default-clause-ok : goal.returns-in_default-clause-ok
returns-in_default-clause-ok c = sym (change_unknown (is_path c.args.path.now) _ c.args.rows.now (sym c.in_default.ensures.found))

pub returns-in_default-text : goal.returns-in_default-text
returns-in_default-text c = record {
  ok = not_known_same (insert_there c.args.at c.args.text.now) c.args.path.now c.args.rows.now c.in-Some.row.now (c.in-Some.ensures.once c.args.path.now) (sym c.in-Some.ensures.found) c.in_default-text.not-Known;
  err = tt;
}

pub returns-clause-ok : goal.returns-clause-ok
returns-clause-ok c =
    c.change.ensures
    ∙ known_changed (insert_there c.args.at c.args.text.now) c.args.path.now c.in_ok-new.new c.in-Known.old c.args.rows.now c.in-Some.row.now (c.in-Some.ensures.once c.args.path.now) (sym c.in-Some.ensures.found) c.in-Known.is (c.in_ok-new.ensures ∙ ap (λ (z : ℤ). insert_there z c.args.text.now c.in-Known.old) (to_z-of_z w32 c.args.at c.ranges.at))
