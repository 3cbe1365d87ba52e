use Rattle.atspi_pool.proofs.LinkSpecs as specs
use Rattle.atspi_pool.proofs.links.Links.set_marks.Goals as goal

pub invariant_of-self : goal.invariant_of-self
invariant_of-self c = (specs.marks_set c.self.inside.next.items c.self.inside.first_free c.self.inside.free c.self.inside.runs.items c.self.invariant c.args.self.now c.self.view_is c.args.chain c.requires c.index_mut.result.now c.index_mut.ensures.value c.args.marks).linked

pub returns : goal.returns
returns c = (specs.marks_set c.self.inside.next.items c.self.inside.first_free c.self.inside.free c.self.inside.runs.items c.self.invariant c.args.self.now c.self.view_is c.args.chain c.requires c.index_mut.result.now c.index_mut.ensures.value c.args.marks).view
