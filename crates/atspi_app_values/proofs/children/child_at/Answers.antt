use Rattle.std.proofs.Common.{sym, ap, ◌∙◌, w32}
use Rattle.std.proofs.lemmas.Int.{to_z-of_z}
use Rattle.atspi_tree.specs.TreeShape.{children_of}
use Rattle.atspi_app_values.specs.Numbers.{place_of}
use Rattle.atspi_app_values.proofs.Indexes.{at_none, at_some}
use Rattle.atspi_app_values.proofs.children.child_at.Goals as goal

pub returns-in-Some : goal.returns-in-Some
returns-in-Some c =
    c.nth_child.ensures
    ∙ at_some c.args.index c.in-Some.place (children_of c.args.node c.args.tree.now) (ap place_of (sym (to_z-of_z w32 c.args.index c.ranges.index)) ∙ sym c.place_of.ensures ∙ c.in-Some.is)

pub returns-in-None : goal.returns-in-None
returns-in-None c = at_none c.args.index (children_of c.args.node c.args.tree.now) (ap place_of (sym (to_z-of_z w32 c.args.index c.ranges.index)) ∙ sym c.place_of.ensures ∙ c.in-None.is)
