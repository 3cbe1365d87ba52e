use Rattle.std.proofs.Common.{[], ◌∷◌}
use Rattle.std.specs.Prelude.{pos, codes}
use Rattle.atspi_tree_model.specs.Announce.{own, item_of}
use Rattle.atspi_tree_model.specs.RowRules.{rows}
use Rattle.atspi_protocol.specs.announcing.Signals.{added, child_changed}
use Rattle.atspi_app_signals.proofs.Asked.{asked_two}
use Rattle.atspi_app_signals.proofs.places.added.Goals as goal

pub returns : goal.returns
returns c =
    let item = item_of c.args.bus.now (own c.args.bus.now c.args.parent) (pos c.args.index) 0 (rows.first c.args.node c.args.seed.now) in
    asked_two c.args.heard.now (added item ∷ []) (child_changed c.args.bus.now c.args.parent (codes "add") c.args.index c.args.node ∷ []) c.args.mail.now _ _
    c.in_ok-new_told.ensures c.in_ok-arrived.ensures
