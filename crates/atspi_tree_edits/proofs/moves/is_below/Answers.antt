use Rattle.std.proofs.Common.{ap, sym, ◌∙◌}
use Rattle.std.proofs.lemmas.Bool.{ne_eqb}
use Rattle.atspi_tree_model.specs.RowRules.{shapes}
use Rattle.atspi_tree_model.specs.Tree.{in_subtree}
use Rattle.atspi_tree.proofs.Seated.{at_root, has_parent, own_subtree}
use Rattle.atspi_tree_edits.proofs.moves.is_below.Goals as goal

pub loop-at-preserved : goal.loop-at-preserved
loop-at-preserved c =
    let up = has_parent c.args.tree.now c.loop-at.at c.in-Some.parent c.requires.lawful c.in-Some.ensures in
    record {
      there = up.there;
      same = c.loop-at.invariant.same ∙ up.inside c.args.top (ne_eqb c.loop-at.at c.args.top c.loop-at-test.true);
    }

pub loop-at-smaller : goal.loop-at-smaller
loop-at-smaller c = (has_parent c.args.tree.now c.loop-at.at c.in-Some.parent c.requires.lawful c.in-Some.ensures).higher

pub returns : goal.returns
returns c =
    sym (c.loop-at.invariant.same ∙ ap (in_subtree shapes c.args.top c.args.tree.now.rows) c.loop-at-test.false ∙ own_subtree c.args.tree.now c.args.top c.requires.top_there)

pub returns-in-None : goal.returns-in-None
returns-in-None c =
    sym (c.loop-at.invariant.same ∙ at_root c.args.tree.now c.loop-at.at c.args.top c.requires.lawful c.in-None.ensures (ne_eqb c.loop-at.at c.args.top c.loop-at-test.true))
