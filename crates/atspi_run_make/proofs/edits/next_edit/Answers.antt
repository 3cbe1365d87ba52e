use Rattle.std.proofs.Common.{arith, ap, subst, sym, ◌∙◌}
use Rattle.std.proofs.lemmas.Result.{IfOk-weaker}
use Rattle.atspi_tree_model.specs.Edits.{IsEdit}
use Rattle.std.specs.Prelude.{length}
use Rattle.atspi_run_make.proofs.LiveLemmas.{drawn_there, few_live, some_live}
use Rattle.atspi_run_make.proofs.Lawful.{drawn_lawful}
use Rattle.atspi_run_make.proofs.edits.next_edit.Goals as goal

pub pick-node-requires-clause-some : goal.pick-node-requires-clause-some
pick-node-requires-clause-some c = omega (arith, some_live c.args.tree.now c.is_lawful.ensures, ap length (c.as_slice-nodes.ensures ∙ c.requires))

pub pick-node-requires-clause-few : goal.pick-node-requires-clause-few
pick-node-requires-clause-few c = omega (arith, few_live c.args.tree.now c.is_lawful.ensures, ap length (c.as_slice-nodes.ensures ∙ c.requires))

pub edit_of-requires-clause-there : goal.edit_of-requires-clause-there
edit_of-requires-clause-there c = drawn_there c.args.tree.now c.as_slice-nodes.result.now c.draw-kind.new.self.state c.pick-node.result c.is_lawful.ensures (c.as_slice-nodes.ensures ∙ c.requires) c.pick-node.ensures.drawn

pub returns-clause-lawful : goal.returns-clause-lawful
returns-clause-lawful c = IfOk-weaker c.edit_of.result _ _ (λ edit is. subst IsEdit (sym is) (drawn_lawful c.args.tree.now (c.draw-kind.result) c.pick-node.result c.args.number c.pick-node.new.draws.state)) c.edit_of.ensures.edit
