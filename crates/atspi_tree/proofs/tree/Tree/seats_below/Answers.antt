use Rattle.std.proofs.Common.{◌∷◌, ap, ◌∙◌}
use Rattle.atspi_tree.proofs.Walks.{walk_below}
use Rattle.atspi_tree.proofs.tree.Tree.seats_below.Goals as goal

pub invariant_of-result : goal.invariant_of-result
invariant_of-result c =
    (walk_below c.args.self.now c.args.node c.push.new.self c.is_lawful.ensures c.requires (c.push.ensures ∙ ap (λ l. (c.args.node, 0) ∷ l) c.new-levels.ensures)).1

pub returns : goal.returns
returns c =
    (walk_below c.args.self.now c.args.node c.push.new.self c.is_lawful.ensures c.requires (c.push.ensures ∙ ap (λ l. (c.args.node, 0) ∷ l) c.new-levels.ensures)).0
