use Rattle.std.proofs.Common.{sym, ap}
use Rattle.atspi_bus.specs.View.{bus_of}
use Rattle.atspi_match.specs.routing.Queues as queues
use Rattle.atspi_live_bus.proofs.Counting.{fewer_told, none_own}
use Rattle.atspi_live_bus.proofs.Going.{told_own}
use Rattle.atspi_live_bus.proofs.hall.Hall.forget_one.Goals as goal

pub returns-clause-told : goal.returns-clause-told
returns-clause-told c = told_own (bus_of c.args.self.now.bus) (bus_of c.own-oldest.new.self) _ c.own-oldest.ensures.bus

pub returns-clause-closings : goal.returns-clause-closings
returns-clause-closings c = sym (ap (λ (w : queues.Bus). w.closings) c.own-oldest.ensures.bus)

pub returns-clause-none : goal.returns-clause-none
returns-clause-none c e = none_own (bus_of c.args.self.now.bus) (bus_of c.own-oldest.new.self) c.own-oldest.result c.is_some.result c.is_some.ensures e c.own-oldest.ensures.none c.own-oldest.ensures.bus

pub returns-clause-fewer : goal.returns-clause-fewer
returns-clause-fewer c some = fewer_told (bus_of c.args.self.now.bus) (bus_of c.own-oldest.new.self) c.own-oldest.result c.is_some.result c.is_some.ensures some c.own-oldest.ensures.bus
