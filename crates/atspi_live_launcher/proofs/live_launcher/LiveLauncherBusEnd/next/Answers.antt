use Rattle.atspi_live_launcher.proofs.Launching.{next_empty, next_fewer, next_hands_out, next_may_send, next_none}
use Rattle.atspi_live_launcher.proofs.live_launcher.LiveLauncherBusEnd.next.Goals as goal

pub returns-clause-some : goal.returns-clause-some
returns-clause-some c = next_hands_out c.next.result c.args.self.now (record { launcher = c.next.new.self }) c.next.ensures.front c.next.ensures.empty

pub returns-clause-meets : goal.returns-clause-meets
returns-clause-meets c = next_may_send c.next.result c.args.self.now (record { launcher = c.next.new.self }) c.next.ensures.front

pub returns-clause-fewer : goal.returns-clause-fewer
returns-clause-fewer c = next_fewer c.next.result c.args.self.now (record { launcher = c.next.new.self }) c.next.ensures.front

pub returns-clause-none : goal.returns-clause-none
returns-clause-none c = next_none c.next.result c.args.self.now (record { launcher = c.next.new.self }) c.next.ensures.empty

pub returns-clause-empty : goal.returns-clause-empty
returns-clause-empty c = next_empty c.next.result c.args.self.now (record { launcher = c.next.new.self }) c.next.ensures.front c.next.ensures.empty
