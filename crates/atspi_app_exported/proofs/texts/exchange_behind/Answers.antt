use Rattle.atspi_app_exported.proofs.EitherOrder.{back_after, undone_after}
use Rattle.atspi_app_exported.proofs.texts.exchange_behind.Goals as goal

pub set_caret-requires-in-Err : goal.set_caret-requires-in-Err
set_caret-requires-in-Err g c =
    back_after _ _ _ _ c.args.node c.args.caret _ c.kind.ensures.contents c.requires.caret c.set_caret.ensures.ok c.in-Err.ensures.err c.caret-before.ensures

pub returns-in-Err-clause-err : goal.returns-in-Err-clause-err
returns-in-Err-clause-err g c =
    undone_after _ _ _ _ c.args.node c.args.caret _ c.requires.caret c.set_caret.ensures.ok c.in-Err.ensures.err c.caret-before.ensures c.set_caret-in-Err.ensures.ok
