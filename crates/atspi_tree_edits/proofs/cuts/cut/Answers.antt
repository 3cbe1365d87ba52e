use Rattle.std.proofs.Common.{sym, ◌∙◌, arith}
use Rattle.atspi_tree_edits.proofs.TextParts.{in_text}
use Rattle.atspi_tree_edits.proofs.cuts.cut.Goals as goal

pub known_cut-requires : goal.known_cut-requires
known_cut-requires c =
    let h = in_text c.args.tree.now c.args.known.now c.args.node c.args.from c.args.to (sym c.cut_fault.ensures ∙ c.in_default.is) in
    record { some = (let ne = c.if-from-to.false in let l = h.0 in omega arith); inside = h.1 }
