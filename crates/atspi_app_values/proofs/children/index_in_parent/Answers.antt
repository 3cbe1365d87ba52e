use Rattle.std.proofs.Common.{ℕ, List, length, sym, ap, ◌∙◌, rules, w32, SFits, arith}
use Rattle.std.specs.Prelude.{pos}
use Rattle.std.proofs.lemmas.Int.{to_z-of_z}
use Rattle.atspi_tree.specs.inner.Places.{index_in}
use Rattle.atspi_tree.proofs.Seated.{has_parent}
use Rattle.atspi_app_values.specs.Numbers.{index_of}
use Rattle.atspi_app_values.proofs.Indexes.{few_children, seat_found}
use Rattle.atspi_app_values.proofs.children.index_in_parent.Goals as goal

pub children-requires : goal.children-requires
children-requires c = (has_parent c.args.tree.now c.args.node c.in-Some.parent c.is_lawful.ensures c.in-Some.ensures).there

pub small-requires : goal.small-requires
small-requires c =
    let few = few_children c.args.tree.now c.in-Some.parent c.is_lawful.ensures in
    let len = ap (λ (l : List ℕ). length l) c.children.ensures in
    omega (arith, c.index_among.ensures.within, len, few)

pub returns-in-Some : goal.returns-in-Some
returns-in-Some c =
    let fits : SFits w32 c.small.result = search rules in
    to_z-of_z w32 c.small.result fits
    ∙ c.small.ensures
    ∙ ap (λ (k : ℕ). pos k) (c.index_among.ensures.index ∙ ap (index_in c.args.node) c.children.ensures)
    ∙ sym (ap index_of (seat_found c.args.tree.now c.args.node c.in-Some.parent c.is_lawful.ensures c.in-Some.ensures))
