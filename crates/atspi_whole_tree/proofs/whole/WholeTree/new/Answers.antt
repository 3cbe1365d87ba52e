use Rattle.std.proofs.Common.{refl}
use Rattle.atspi_app_exported.proofs.Following.{root_exported}
use Rattle.atspi_whole_tree.specs.inner.Tables.{own_kinds}
use Rattle.atspi_whole_tree.proofs.Read.{first_is}
use Rattle.atspi_whole_tree.proofs.whole.WholeTree.new.Goals as goal

pub invariant_of-result : goal.invariant_of-result
invariant_of-result c =
    root_exported own_kinds c.args.name c.in_ok-tree.tree _ (record { texts = refl; columns = refl; actions = refl }) c.requires c.in_ok-tree.ensures
    (record { texts = c.new-chars.ensures.empty; columns = c.new-grid.ensures.empty; actions = c.new-deeds.ensures.empty })

pub returns : goal.returns
returns c =
    first_is c.args.name c.in_ok-tree.tree _ c.in_ok-tree.ensures
    (record { texts = c.new-chars.ensures.empty; columns = c.new-grid.ensures.empty; actions = c.new-deeds.ensures.empty })
