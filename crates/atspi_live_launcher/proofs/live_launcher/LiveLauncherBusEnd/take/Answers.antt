use Rattle.atspi_message_in_place.specs.View.{envelope_at}
use Rattle.atspi_live_launcher.proofs.Launching.{take_rests, take_took}
use Rattle.atspi_live_launcher.proofs.live_launcher.LiveLauncherBusEnd.take.Goals as goal

pub returns-clause-ok : goal.returns-clause-ok
returns-clause-ok c = take_took c.take.result c.args.self.now (record { launcher = c.take.new.self }) (envelope_at c.args.m.now) c.take.ensures.ok c.take.ensures.room

pub returns-clause-err : goal.returns-clause-err
returns-clause-err c = take_rests c.take.result c.args.self.now (record { launcher = c.take.new.self }) c.take.ensures.err
