use Rattle.std.proofs.Common.{subst, sym}
use Rattle.atspi_live_host.specs.declared.call.Did.TheVariants.{Done}
use Rattle.atspi_live_host.specs.Calls.{Opens}
use Rattle.atspi_live_sockets.specs.Numbers.{numbers}
use Rattle.atspi_live_sockets.proofs.LinkLemmas.{pushed_opens}
use Rattle.atspi_live_sockets.proofs.sockets.Sockets.join.Goals as goal

pub returns-clause-links : goal.returns-clause-links
returns-clause-links c = subst (λ w. Opens (numbers c.args.self.now.links.items) (numbers w) (Done c.args.self.now.next)) (sym c.in-Ok.ensures.items)
    (pushed_opens c.args.self.now.links.items _ c.args.self.now.below)
