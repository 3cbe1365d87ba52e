use Rattle.std.proofs.lemmas.Bool.{ne_eqb}
use Rattle.atspi_tree.proofs.Rehung.{relisted, relisted_here}
use Rattle.atspi_tree.proofs.table.relist.Goals as goal

pub returns-then-old-new-clause-put : goal.returns-then-old-new-clause-put
returns-then-old-new-clause-put c = relisted_here _ _ c.args.old c.args.new c.args.index c.args.node c.if-old-new.true c.requires.from c.shift_child.ensures.put

pub returns-clause-put : goal.returns-clause-put
returns-clause-put c =
    let ne = ne_eqb c.args.old c.args.new c.if-old-new.false in
    relisted _ _ _ c.args.old c.args.new c.args.index c.args.node ne (c.requires.only_there ne) c.in_ok-insert_child.ensures.put c.remove_child.ensures.put c.requires.from
