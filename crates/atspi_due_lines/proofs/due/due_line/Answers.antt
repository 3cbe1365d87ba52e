use Rattle.atspi_due_lines.proofs.Shapes.{said_by}
use Rattle.atspi_due_lines.proofs.due.due_line.Goals as goal

pub returns : goal.returns
returns c f e = said_by f c.args.tree.now c.args.step.now _ e c.line_of.ensures
