use Rattle.std.proofs.Common.{ap, sym, ◌∙◌}
use Rattle.std.specs.Option.{option_copied}
use Rattle.atspi_tree.proofs.Descent.{child_inside, child_deeper, last_child, no_last}
use Rattle.atspi_tree.proofs.Trees.{holding, has_cell, read}
use Rattle.atspi_tree.proofs.tree.Tree.last_leaf.Goals as goal

pub index-requires : goal.index-requires
index-requires c = has_cell _ _ c.loop-child.at c.args.self.now (holding _ _ c.args.self.now c.self.invariant c.self.view_is) c.loop-child.invariant.there

pub loop-child-preserved : goal.loop-child-preserved
loop-child-preserved c =
    let h = holding _ _ c.args.self.now c.self.invariant c.self.view_is in
    let x = last_child _ _ c.loop-child.at c.in-Some.child.now c.args.self.now h c.deref.result.now
    (c.deref.ensures.value ∙ (read _ _ c.loop-child.at c.args.self.now h c.loop-child.invariant.there c.index.result.now c.index.ensures).children) (sym c.in-Some.ensures.value) in
    record {
      there = x.there;
      inside = λ top e. child_inside c.args.self.now c.loop-child.at c.in-Some.child.now h.lawful x top (c.loop-child.invariant.inside top e);
    }

pub loop-child-smaller : goal.loop-child-smaller
loop-child-smaller c =
    let h = holding _ _ c.args.self.now c.self.invariant c.self.view_is in
    child_deeper c.args.self.now c.loop-child.at c.in-Some.child.now h.lawful
    (last_child _ _ c.loop-child.at c.in-Some.child.now c.args.self.now h c.deref.result.now
    (c.deref.ensures.value ∙ (read _ _ c.loop-child.at c.args.self.now h c.loop-child.invariant.there c.index.result.now c.index.ensures).children) (sym c.in-Some.ensures.value))

pub returns-clause-leaf : goal.returns-clause-leaf
returns-clause-leaf c =
    let h = holding _ _ c.args.self.now c.self.invariant c.self.view_is in
    sym (c.deref.ensures.value ∙ (read _ _ c.loop-child.at c.args.self.now h c.loop-child.invariant.there c.index.result.now c.index.ensures).children)
    ∙ no_last c.deref.result.now (sym c.last.ensures.value ∙ ap option_copied c.in_default.is)

pub returns-clause-lawful : goal.returns-clause-lawful
returns-clause-lawful c = (holding _ _ c.args.self.now c.self.invariant c.self.view_is).lawful
