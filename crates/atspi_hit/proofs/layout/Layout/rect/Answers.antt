use Rattle.std.proofs.Common.{sym}
use Rattle.atspi_hit.proofs.Placed.{read}
use Rattle.atspi_hit.proofs.layout.Layout.rect.Goals as goal

pub returns-in-Some : goal.returns-in-Some
returns-in-Some c = sym (read _ c.args.self.now c.args.node _ c.self.view_is c.in-Some.ensures.value)

pub returns-in-None : goal.returns-in-None
returns-in-None c = sym (read _ c.args.self.now c.args.node _ c.self.view_is c.in-None.ensures.value)
