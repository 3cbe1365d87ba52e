use Rattle.atspi_tree.proofs.Rehung.{rehung}
use Rattle.atspi_tree.proofs.table.rehang.Goals as goal

pub returns-clause-put : goal.returns-clause-put
returns-clause-put c =
    rehung _ _ _ c.args.old c.args.new c.args.index c.args.node c.requires.apart c.requires.not_own c.requires.there c.in_ok-relist.ensures.put c.set_parent.ensures.put
