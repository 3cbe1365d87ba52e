use Rattle.std.proofs.Common.{sym, ◌∙◌, map}
use Rattle.atspi_tree_model.specs.Forest.{labels, pick}
use Rattle.atspi_tree_model.specs.Row.{ShapeRow}
use Rattle.atspi_tree_model.specs.Tree.{is_shape}
use Rattle.atspi_protocol.specs.announcing.Signals.{removed}
use Rattle.atspi_tree.specs.Seats.{seats_below}
use Rattle.atspi_tree.specs.declared.seats.Seat.{Seat}
use Rattle.atspi_app_signals.proofs.Asked.{asked_empty, asked_front, asked_nothing}
use Rattle.atspi_app_signals.proofs.Told.{gone_asked, stands_once}
use Rattle.atspi_app_signals.proofs.places.gone.Goals as goal

pub returns-then-not-is_covered : goal.returns-then-not-is_covered
returns-then-not-is_covered c =
    let rows = labels (pick (is_shape c.args.node) c.args.tree.now.rows) in
    asked_empty c.args.heard.now (map (λ (row : ShapeRow). removed c.args.bus.now row.node) rows) c.args.mail.now
    (asked_nothing c.args.heard.now (λ (row : ShapeRow). removed c.args.bus.now row.node) rows (λ row. sym c.is_covered.ensures ∙ c.if-not-is_covered.true))

pub returns : goal.returns
returns c =
    let t = c.args.tree.now in
    let n = c.args.node in
    let bus = c.args.bus.now in
    let rows = labels (pick (is_shape n) t.rows) in
    asked_front c.args.heard.now (map (λ (row : ShapeRow). removed bus row.node) rows) _ (removed bus n).message
    (map (λ (s : Seat). (removed bus s.node).message) (seats_below n t)) _ _ c.args.mail.now
    (gone_asked c.args.heard.now bus t n (stands_once t n c.is_lawful.ensures c.requires) (sym c.is_covered.ensures ∙ c.if-not-is_covered.false))
    c.in_ok-node_removed.ensures c.in_ok-push.ensures.ok c.in_ok-gone_below.ensures
