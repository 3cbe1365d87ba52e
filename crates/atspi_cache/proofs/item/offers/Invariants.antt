use Rattle.std.proofs.Common.{◌≡◌, false, take}
use Rattle.atspi_tree_model.specs.News.{offers}
use Rattle.atspi_cache.proofs.item.offers.Given as goal

abbrev pub invariant-loop-interface : goal.invariant-loop-interface
invariant-loop-interface l = offers l.word (take l.interface-index l.interfaces) ≡ false
