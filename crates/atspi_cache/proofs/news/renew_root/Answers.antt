use Rattle.std.proofs.Common.{ap, ◌∙◌}
use Rattle.atspi_tree_model.specs.Forest.{change}
use Rattle.atspi_tree_model.specs.News.{is_path}
use Rattle.atspi_cache_arena.specs.Change.{changed}
use Rattle.atspi_cache_arena.specs.declared.change.Change.{Change}
use Rattle.atspi_cache.proofs.news.renew_root.Goals as goal

pub returns : goal.returns
returns c =
    c.change.ensures ∙ ap (λ (w : Change). change (is_path c.args.root.now) (changed w) c.args.rows.now) c.renewal-with.ensures.change
