use Rattle.std.proofs.Common.{arith}
use Rattle.atspi_app_exported.proofs.EitherOrder.{cut_after, end_fits, exchanged_after}
use Rattle.atspi_app_exported.proofs.texts.exchange.Goals as goal

pub overflow_add-at : goal.overflow_add-at
overflow_add-at g c =
    let fits = end_fits _ _ c.args.node c.args.at _ c.kind.ensures.contents c.requires in
    let e = c.count.ensures in
    omega (arith, fits, e)

pub delete-requires : goal.delete-requires
delete-requires g c = cut_after _ _ c.args.node c.args.at c.count.result _ c.args.text.now c.count.ensures c.requires c.in_ok-insert.ensures.ok

pub returns-clause-ok : goal.returns-clause-ok
returns-clause-ok g c =
    exchanged_after _ _ _ c.args.node c.args.at c.count.result _ c.args.text.now c.count.ensures c.requires c.in_ok-insert.ensures.ok c.delete.ensures.ok
