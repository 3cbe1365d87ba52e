use Rattle.std.proofs.Common.{drop}
use Rattle.atspi_tree_model.specs.News.{load}
use Rattle.atspi_cache.specs.loading.Shared.{shared}
use Rattle.atspi_cache.proofs.OfLoading.FillLemmas.{IsLeft}
use Rattle.atspi_cache.proofs.load.fill.Given as goal

abbrev pub invariant-loop-item : goal.invariant-loop-item
invariant-loop-item l = IsLeft l.rows (shared (drop l.item-index l.others)) (load l.root l.bus l.items)
