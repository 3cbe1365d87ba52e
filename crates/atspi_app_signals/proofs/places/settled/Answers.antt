use Rattle.std.proofs.Common.{[], ◌∷◌}
use Rattle.std.specs.Prelude.{codes}
use Rattle.atspi_tree_model.specs.Path.{path_of}
use Rattle.atspi_protocol.specs.ends.Places.{reference}
use Rattle.atspi_protocol.specs.announcing.Signals.{property_changed, child_changed}
use Rattle.atspi_app_signals.proofs.Asked.{asked_two}
use Rattle.atspi_app_signals.proofs.places.settled.Goals as goal

pub returns : goal.returns
returns c =
    asked_two c.args.heard.now (property_changed c.args.node (codes "accessible-parent") (reference c.args.bus.now (path_of c.args.parent)) ∷ [])
    (child_changed c.args.bus.now c.args.parent (codes "add") c.args.index c.args.node ∷ []) c.args.mail.now _ _
    c.in_ok-reparented.ensures c.in_ok-arrived.ensures
