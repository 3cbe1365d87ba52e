use Rattle.std.proofs.Common.{drop, sym}
use Rattle.std.proofs.lemmas.List.{take-append-drop}
use Rattle.atspi_live_bus.proofs.link.Link.front.Goals as goal

pub returns-clause-front : goal.returns-clause-front
returns-clause-front c = (drop c.min.result c.args.self.now.out.items, rw c.deref.ensures.value (sym (take-append-drop c.min.result c.args.self.now.out.items)))
