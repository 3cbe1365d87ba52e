use Rattle.std.proofs.Common.{◌∙◌}
use Rattle.atspi_tree.specs.Table.{kept}
use Rattle.atspi_tree.proofs.Trees.{knows, is_some-map, holding}
use Rattle.atspi_tree.proofs.tree.Tree.has.Goals as goal

pub returns-clause-answer : goal.returns-clause-answer
returns-clause-answer c =
    let h = holding _ _ c.args.self.now c.self.invariant c.self.view_is in
    c.contains_key.ensures ∙ is_some-map (kept c.args.node) _ ∙ knows _ _ c.args.node h.held

pub returns-clause-lawful : goal.returns-clause-lawful
returns-clause-lawful c = (holding _ _ c.args.self.now c.self.invariant c.self.view_is).lawful
