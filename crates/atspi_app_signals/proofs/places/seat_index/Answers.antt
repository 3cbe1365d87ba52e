use Rattle.std.proofs.Common.{◌≤◌, ℕ, Some, sym, ap, ◌∙◌, subst, arith}
use Rattle.atspi_tree.specs.inner.Places.{index_in}
use Rattle.atspi_tree.proofs.Seated.{has_parent}
use Rattle.atspi_app_signals.proofs.Told.{seat_few}
use Rattle.atspi_app_signals.proofs.places.seat_index.Goals as goal

pub children-requires : goal.children-requires
children-requires c = (has_parent c.args.tree.now c.args.node c.args.parent c.is_lawful.ensures c.requires).there

pub overflow_cast-result : goal.overflow_cast-result
overflow_cast-result c =
    let index = c.index_of.ensures ∙ ap (index_in c.args.node) c.children.ensures in
    let few : c.index_of.result ≤ 8192 = subst (λ (k : ℕ). k ≤ 8192) (sym index) (seat_few c.args.tree.now c.args.node c.args.parent c.is_lawful.ensures) in
    omega arith

pub returns-clause-seat : goal.returns-clause-seat
returns-clause-seat c =
    (has_parent c.args.tree.now c.args.node c.args.parent c.is_lawful.ensures c.requires).seat
    ∙ ap (λ (k : ℕ). Some (Some c.args.parent, k)) (sym (c.index_of.ensures ∙ ap (index_in c.args.node) c.children.ensures))

pub returns-clause-small : goal.returns-clause-small
returns-clause-small c =
    subst (λ (k : ℕ). k ≤ 8192) (sym (c.index_of.ensures ∙ ap (index_in c.args.node) c.children.ensures))
    (seat_few c.args.tree.now c.args.node c.args.parent c.is_lawful.ensures)
