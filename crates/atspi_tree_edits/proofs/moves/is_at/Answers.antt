use Rattle.std.proofs.Common.{ℕ, ◌==◌, Some, ap, ◌∙◌}
use Rattle.atspi_tree.specs.inner.Places.{index_in}
use Rattle.atspi_tree.proofs.Seated.{seat_is}
use Rattle.atspi_tree_edits.proofs.moves.is_at.Goals as goal

pub returns : goal.returns
returns c =
    ap (λ (k : ℕ). k == c.args.index) (c.index_of.ensures ∙ ap (index_in c.args.node) c.children.ensures)
    ∙ seat_is c.args.tree.now c.args.node c.args.parent c.args.index c.requires.lawful (c.in-Some.ensures ∙ ap (λ (p : ℕ). Some (Some p)) c.if-up-parent.false)
