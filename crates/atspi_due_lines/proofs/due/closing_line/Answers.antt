use Rattle.atspi_due_lines.proofs.Shapes.{closed_by}
use Rattle.atspi_due_lines.proofs.due.closing_line.Goals as goal

pub returns : goal.returns
returns c f e = closed_by f c.args.tree.now c.name.result.now _ e c.is_lawful.ensures c.name.ensures c.closing_line.ensures
