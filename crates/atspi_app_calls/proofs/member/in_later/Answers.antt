use Rattle.std.proofs.Common.{ap₂, ◌∙◌}
use Rattle.atspi_tree_model.specs.Forest.{first_of}
use Rattle.atspi_app_calls.proofs.member.in_later.Goals as goal

pub returns : goal.returns
returns c =
    c.first_of-4.ensures
    ∙ ap₂ first_of c.offered-selection.ensures
    (c.first_of-3.ensures
    ∙ ap₂ first_of c.offered-table.ensures (c.first_of-2.ensures ∙ ap₂ first_of c.offered-action.ensures (c.first_of.ensures ∙ ap₂ first_of c.offered-properties.ensures c.offered-peer.ensures)))
