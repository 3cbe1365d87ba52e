use Rattle.std.proofs.Common.{◌≡◌, ◌-◌, Some, length, sym, ap, ◌∙◌, subst, arith}
use Rattle.std.specs.List.{slice_get}
use Rattle.atspi_tree.proofs.Popped.{not_empty, popped_off}
use Rattle.atspi_tree.proofs.states.unlist.Goals as goal

pub returns-in-Some : goal.returns-in-Some
returns-in-Some c =
    let last : slice_get c.args.children.now.items (length c.args.children.now.items - 1) ≡ Some c.args.node =
    subst (λ xs. slice_get xs (length xs - 1) ≡ Some c.args.node) c.deref.ensures.value (sym c.in-Some.ensures.value ∙ ap Some c.if-last-node.true) in
    let b = c.args.children.now.ok.0 in
    let l = not_empty c.args.children.now.items c.args.node last in
    popped_off c.args.children.now.items c.pop.new.self.items c.pop.result c.args.node c.pop.ensures.items (c.pop.ensures.variant.1 (omega arith)) last c.requires
