use Rattle.std.proofs.Common.{length, sym, ap, ◌∙◌, arith}
use Rattle.atspi_tree.proofs.Walks.{first_taken}
use Rattle.atspi_tree.proofs.seats.SeatsIterator.next.Goals as goal

pub invariant_of-self : goal.invariant_of-self
invariant_of-self c =
    (first_taken c.self.inside.tree.now c.self.inside.first c.take.new.self c.in-Some.seat c.self.inside.levels c.push.new.self c.is_lawful.ensures c.self.invariant (sym c.in-Some.ensures.value) c.take.ensures.after c.push.ensures).1

pub returns-in-Some-clause-steps : goal.returns-in-Some-clause-steps
returns-in-Some-clause-steps c =
    sym c.self.view_is
    ∙ (first_taken c.self.inside.tree.now c.self.inside.first c.take.new.self c.in-Some.seat c.self.inside.levels c.push.new.self c.is_lawful.ensures c.self.invariant (sym c.in-Some.ensures.value) c.take.ensures.after c.push.ensures).0

pub returns-in-Some-clause-goes : goal.returns-in-Some-clause-goes
returns-in-Some-clause-goes c =
    let gives = returns-in-Some-clause-steps c in
    record {
      on = λ _. (tt, tt, let a = ap length gives in omega arith);
      keeps = tt;
      rests = λ _. tt;
    }
