use Rattle.std.proofs.Common.{sym, ◌∙◌}
use Rattle.atspi_tree_edits.proofs.Faults.{both_there}
use Rattle.atspi_tree_edits.proofs.moves.shift.Goals as goal

pub is_at-requires : goal.is_at-requires
is_at-requires c =
    let h = both_there c.args.tree.now c.args.node c.args.parent c.args.index (sym c.move_fault.ensures.answer ∙ c.in_default.is) in
    record { there = h.0; parent_there = h.1; lawful = c.move_fault.ensures.lawful }
