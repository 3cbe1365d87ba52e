use Rattle.atspi_world_parties.proofs.Started.{pushed_is}
use Rattle.atspi_world_parties.proofs.starting.start_app_at.Goals as goal

pub returns-clause-starts : goal.returns-clause-starts
returns-clause-starts g c = pushed_is g.A.Application.exporter c.args.apps.now.items c.push.new.self.items c.in_ok-app.app _ c.in_ok-push.ensures.items c.in_ok-app.ensures.starts
