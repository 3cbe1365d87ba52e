use Rattle.std.proofs.Common.{ℕ, List, ap, ◌∙◌}
use Rattle.atspi_tree_model.specs.Forest.{change}
use Rattle.atspi_tree_model.specs.News.{is_path}
use Rattle.atspi_cache_arena.specs.Change.{changed}
use Rattle.atspi_cache_arena.specs.declared.change.Change.{Change}
use Rattle.atspi_cache.proofs.news.renew.Goals as goal

pub returns : goal.returns
returns c =
    c.change.ensures
    ∙ ap (λ (p : List ℕ). change (is_path p) (changed c.renewal-path.result.1) c.args.rows.now) c.renewal-path.ensures.path
    ∙ ap (λ (w : Change). change (is_path c.args.item.object.path) (changed w) c.args.rows.now) c.renewal-path.ensures.change
