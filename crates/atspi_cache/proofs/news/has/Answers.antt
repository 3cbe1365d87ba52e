use Rattle.std.proofs.Common.{ap, ◌∙◌}
use Rattle.std.specs.Prelude.{is_some}
use Rattle.atspi_tree_model.specs.News.{is_path}
use Rattle.atspi_cache.proofs.Effects.{found_has, copied_some}
use Rattle.atspi_cache.proofs.news.has.Goals as goal

pub returns : goal.returns
returns c = c.is_some.ensures ∙ (copied_some c.find.result ∙ ap is_some c.find.ensures.found ∙ found_has (is_path c.args.path.now) c.args.rows.now)
