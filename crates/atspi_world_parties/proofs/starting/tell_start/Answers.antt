use Rattle.std.proofs.Common.{ap}
use Rattle.atspi_trace.specs.Entry.{entry_of, started}
use Rattle.atspi_world_parties.proofs.Started.{pushed_is}
use Rattle.atspi_world_parties.proofs.starting.tell_start.Goals as goal

pub returns : goal.returns
returns c = record { told = pushed_is entry_of c.args.trace.now.items c.note.new.trace.items _ _ c.in_ok-note.ensures.told (ap (started c.args.who) c.in_ok-name.ensures) }
