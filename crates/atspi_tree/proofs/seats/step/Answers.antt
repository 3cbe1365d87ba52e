use Rattle.std.proofs.Common.{◌∷◌, length, ap, sym, ◌∙◌, arith}
use Rattle.atspi_tree.proofs.Walks.{index_small, stepped, stepping_done, stepping_room}
use Rattle.atspi_tree.proofs.seats.step.Goals as goal

pub overflow_add-index : goal.overflow_add-index
overflow_add-index c = omega (arith, index_small c.args.tree.now c.in-Some.node c.in-Some.index c.in-Some-child_at.child c.is_lawful.ensures (sym c.in-Some-child_at.ensures))

pub push-requires-in-Some-child_at : goal.push-requires-in-Some-child_at
push-requires-in-Some-child_at c =
    omega (
      arith,
      ap length c.push.ensures,
      stepping_room c.args.tree.now c.args.levels.now c.loop-node.levels c.pop.new.self c.in-Some.node c.in-Some.index c.in-Some-child_at.child c.is_lawful.ensures c.loop-node.invariant c.in-Some.ensures (sym c.in-Some-child_at.ensures),
    )

pub returns-in-Some-child_at-clause-next : goal.returns-in-Some-child_at-clause-next
returns-in-Some-child_at-clause-next c =
    (stepped c.args.tree.now c.args.levels.now c.loop-node.levels c.pop.new.self c.push-in-Some-child_at.new.self c.in-Some.node c.in-Some.index c.in-Some-child_at.child c.is_lawful.ensures c.loop-node.invariant
    c.in-Some.ensures (sym c.in-Some-child_at.ensures) (c.push-in-Some-child_at.ensures ∙ ap (λ l. (c.in-Some-child_at.child, 0) ∷ l) c.push.ensures)).gives

pub returns-in-Some-child_at-clause-there : goal.returns-in-Some-child_at-clause-there
returns-in-Some-child_at-clause-there c =
    (stepped c.args.tree.now c.args.levels.now c.loop-node.levels c.pop.new.self c.push-in-Some-child_at.new.self c.in-Some.node c.in-Some.index c.in-Some-child_at.child c.is_lawful.ensures c.loop-node.invariant
    c.in-Some.ensures (sym c.in-Some-child_at.ensures) (c.push-in-Some-child_at.ensures ∙ ap (λ l. (c.in-Some-child_at.child, 0) ∷ l) c.push.ensures)).there

pub returns-in-Some-child_at-clause-room : goal.returns-in-Some-child_at-clause-room
returns-in-Some-child_at-clause-room c =
    (stepped c.args.tree.now c.args.levels.now c.loop-node.levels c.pop.new.self c.push-in-Some-child_at.new.self c.in-Some.node c.in-Some.index c.in-Some-child_at.child c.is_lawful.ensures c.loop-node.invariant
    c.in-Some.ensures (sym c.in-Some-child_at.ensures) (c.push-in-Some-child_at.ensures ∙ ap (λ l. (c.in-Some-child_at.child, 0) ∷ l) c.push.ensures)).room

pub loop-node-preserved : goal.loop-node-preserved
loop-node-preserved c =
    stepping_done c.args.tree.now c.args.levels.now c.loop-node.levels c.pop.new.self c.in-Some.node c.in-Some.index c.loop-node.invariant c.in-Some.ensures (sym c.in_default-child_at.ensures)
