use Rattle.std.proofs.Common.{sym, ◌∙◌}
use Rattle.atspi_tree_model.specs.News.{is_path}
use Rattle.atspi_cache.proofs.Effects.{moved_foreign}
use Rattle.atspi_cache.proofs.news.move_there.Goals as goal

pub returns-then-not-is_text-clause-ok : goal.returns-then-not-is_text-clause-ok
returns-then-not-is_text-clause-ok c = moved_foreign c.args.bus.now c.args.item.now c.args.rows.now (is_path c.args.item.now.object.path) (sym c.is_text.ensures ∙ c.if-not-is_text.true)
