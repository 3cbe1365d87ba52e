use Rattle.std.proofs.Common.{arith, ap}
use Rattle.std.specs.Prelude.{length}
use Rattle.atspi_run_make.proofs.LiveLemmas.{drawn_there, few_live, some_live}
use Rattle.atspi_run_make.proofs.edits.shift.Goals as goal

pub pick-parent-requires-clause-some : goal.pick-parent-requires-clause-some
pick-parent-requires-clause-some c = omega (arith, some_live c.args.tree.now c.requires.lawful, ap length c.requires.live)

pub pick-parent-requires-clause-few : goal.pick-parent-requires-clause-few
pick-parent-requires-clause-few c = omega (arith, few_live c.args.tree.now c.requires.lawful, ap length c.requires.live)

pub is_below-requires-clause-there : goal.is_below-requires-clause-there
is_below-requires-clause-there c = drawn_there c.args.tree.now c.args.nodes.now c.args.draws.now.state c.pick-parent.result c.requires.lawful c.requires.live c.pick-parent.ensures.drawn
