use Rattle.std.proofs.Common.{ap, sym, subst}
use Rattle.std.specs.Option.{option_map}
use Rattle.atspi_tree_model.specs.Row.{Holds}
use Rattle.atspi_tree.specs.Table.{Kept, kept}
use Rattle.atspi_tree.proofs.Keys.{is_other}
use Rattle.atspi_tree.proofs.Leaf.{prunes, still_kept}
use Rattle.atspi_tree.proofs.table.prune.Goals as goal

pub unreachable-requires : goal.unreachable-requires
unreachable-requires c =
    subst (Holds (λ (k : Kept). Unit {0})) (sym (ap (option_map (kept c.args.node)) c.in-None.ensures.value))
    (still_kept _ _ c.args.parent c.args.node c.requires.apart c.requires.once c.unlist_child.ensures.put c.requires.there)

pub returns-clause-put : goal.returns-clause-put
returns-clause-put c =
    prunes _ _ _ c.args.parent c.args.node c.requires.apart c.requires.once c.unlist_child.ensures.put
    (ap (option_map (kept c.args.node)) c.remove.ensures.updates.1)
    (λ m e. ap (option_map (kept m)) (c.remove.ensures.updates.2 m (is_other c.args.node m e)))
