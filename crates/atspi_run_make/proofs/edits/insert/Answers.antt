use Rattle.std.proofs.Common.{arith, ap}
use Rattle.std.specs.Prelude.{length}
use Rattle.atspi_run_make.proofs.LiveLemmas.{few_children}
use Rattle.atspi_run_make.proofs.edits.insert.Goals as goal

pub overflow_cast-count : goal.overflow_cast-count
overflow_cast-count c = omega (arith, few_children c.args.tree.now c.args.parent c.requires.lawful, ap length c.children.ensures)

pub overflow_add-count : goal.overflow_add-count
overflow_add-count c = omega (arith, few_children c.args.tree.now c.args.parent c.requires.lawful, ap length c.children.ensures)
