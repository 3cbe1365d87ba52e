use Rattle.atspi_due_lines.proofs.Shapes.{none_there}
use Rattle.atspi_due_lines.proofs.subject.spoken_of.Goals as goal

pub returns-then-not-has : goal.returns-then-not-has
returns-then-not-has c = none_there c.args.node c.args.tree.now c.has.result c.has.ensures.answer c.if-not-has.true
