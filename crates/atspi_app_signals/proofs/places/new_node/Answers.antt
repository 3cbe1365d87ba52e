use Rattle.std.proofs.Common.{ap, ◌∙◌}
use Rattle.atspi_tree_model.specs.declared.news.Item.{Item}
use Rattle.atspi_protocol.specs.announcing.Signals.{added}
use Rattle.atspi_app_signals.proofs.places.new_node.Goals as goal

pub returns : goal.returns
returns c = c.in_ok-message.ensures ∙ ap (λ (item : Item). (added item).message) c.in_ok-item.ensures
