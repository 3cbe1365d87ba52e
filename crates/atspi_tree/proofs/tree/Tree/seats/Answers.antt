use Rattle.std.proofs.Common.{None, Some, refl, sym, subst}
use Rattle.atspi_tree.specs.Seats.{IsWalk}
use Rattle.atspi_tree.proofs.Walks.{walk_begins}
use Rattle.atspi_tree.proofs.tree.Tree.seats.Goals as goal

pub invariant_of-result : goal.invariant_of-result
invariant_of-result c =
    subst (IsWalk c.args.self.now (Some (record { node = 0; parent = None; index = 0 }))) (sym c.new.ensures)
    (walk_begins c.args.self.now (record { node = 0; parent = None; index = 0 }) c.is_lawful.ensures refl).1
