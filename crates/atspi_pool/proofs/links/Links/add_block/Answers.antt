use Rattle.std.proofs.Common.{arith}
use Rattle.atspi_pool.proofs.LinkSpecs as specs
use Rattle.atspi_pool.proofs.links.Links.add_block.Goals as goal

pub overflow_add-self : goal.overflow_add-self
overflow_add-self c = omega (arith, specs.made_is c.self.inside.next.items c.self.inside.first_free c.self.inside.free c.self.inside.runs.items c.self.invariant c.args.self.now c.self.view_is)

pub invariant_of-self-2 : goal.invariant_of-self-2
invariant_of-self-2 c = (specs.added c.self.inside.next.items c.self.inside.first_free c.self.inside.free c.self.inside.runs.items c.self.invariant c.args.self.now c.self.view_is c.push.new.self.items c.len-block.result c.in_ok-push.ensures.items (omega (arith, c.len-block.ensures))).linked

pub returns-clause-ok : goal.returns-clause-ok
returns-clause-ok c = (specs.added c.self.inside.next.items c.self.inside.first_free c.self.inside.free c.self.inside.runs.items c.self.invariant c.args.self.now c.self.view_is c.push.new.self.items c.len-block.result c.in_ok-push.ensures.items (omega (arith, c.len-block.ensures))).view
