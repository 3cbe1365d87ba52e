use Rattle.std.proofs.Common.{rules, ap, ◌∙◌, w32, SFits}
use Rattle.std.proofs.lemmas.Int.{to_z-of_z}
use Rattle.atspi_tree_model.specs.View.{Told, shown}
use Rattle.atspi_audit_held.proofs.rows.row_at.Goals as goal

pub returns : goal.returns
returns c row f = let fits : SFits w32 c.shown_index-index.result = search rules in λ i. record {
  parent = c.in_ok-parent.ensures i;
  index = (to_z-of_z w32 c.shown_index-index.result fits ∙ c.shown_index-index.ensures) i;
  row = (c.in_ok-row.ensures row f ∙ ap (λ (t : Told). shown (λ path. t) row) c.known_of.ensures) i;
}
