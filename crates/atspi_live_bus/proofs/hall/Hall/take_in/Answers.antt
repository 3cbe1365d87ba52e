use Rattle.std.proofs.Common.{rules, ◌≡◌, true, false, slice_set, sym, ◌∙◌}
use Rattle.atspi_live_bus.proofs.Going.{want_free}
use Rattle.atspi_live_bus.proofs.Hearing.{heard_either, lost_either, read_cut, read_lost, read_on}
use Rattle.atspi_live_bus.proofs.Serving.{link_open, turned}
use Rattle.atspi_live_bus.proofs.Shutting.{number_there}
use Rattle.atspi_live_bus.proofs.hall.Hall.take_in.Goals as goal

pub take_in-requires : goal.take_in-requires
take_in-requires g c = link_open c.args.self.now.links.items c.args.at c.index_mut.result.now (g.H.Host.links c.args.host.now) c.requires.there c.index_mut.ensures.value c.requires.serves

pub attend-requires : goal.attend-requires
attend-requires g c = record {
  serves =
      turned c.args.self.now.links.items c.args.at c.index_mut.result.now c.take_in.new.self (g.H.Host.links c.args.host.now) (g.H.Host.links c.take_in.new.host)
      c.requires.there c.index_mut.ensures.value c.take_in.ensures.number c.take_in.ensures.links c.requires.serves;
}

pub part-requires-clause-serves : goal.part-requires-clause-serves
part-requires-clause-serves g c =
    turned c.args.self.now.links.items c.args.at c.index_mut.result.now c.take_in.new.self (g.H.Host.links c.args.host.now) (g.H.Host.links c.take_in.new.host)
    c.requires.there c.index_mut.ensures.value c.take_in.ensures.number c.take_in.ensures.links c.requires.serves

pub returns-in-Err-clause-cause : goal.returns-in-Err-clause-cause
returns-in-Err-clause-cause g c = want_free c.in-Err.stop c.in-Err.ensures.cause

pub returns-in-Ok-true-clause-calls : goal.returns-in-Ok-true-clause-calls
returns-in-Ok-true-clause-calls g c =
    let goes_on : c.in-Ok-true.field-0 ≡ true = search rules in
    heard_either c.attend.result c.args.self.now.bus c.args.self.now.bus c.attend.new.self.bus c.args.self.now.links.items c.attend.new.self.links.items c.args.at c.index.result.now.number c.index_mut.result.now c.take_in.new.self
    (g.H.Host.calls c.args.host.now) (g.H.Host.calls c.take_in.new.host) (g.H.Host.calls c.attend.new.host)
    (sym (number_there c.args.self.now.links.items c.args.at c.index.result.now c.requires.there c.index.ensures) ∙ number_there c.args.self.now.links.items c.args.at c.index_mut.result.now c.requires.there c.index_mut.ensures.value) c.requires.there c.index_mut.ensures.value c.take_in.ensures.number c.take_in.ensures.conn
    (read_on c.args.self.now.bus c.args.self.now.links.items c.args.at c.index_mut.result.now c.take_in.new.self (g.H.Host.links c.args.host.now) (g.H.Host.calls c.args.host.now) (g.H.Host.calls c.take_in.new.host)
    c.requires.there c.index_mut.ensures.value c.requires.serves c.take_in.ensures.number c.take_in.ensures.conn (rw goes_on at c.in-Ok-true.ensures.calls)) c.attend.ensures.calls

pub returns-in-Ok-false-clause-calls : goal.returns-in-Ok-false-clause-calls
returns-in-Ok-false-clause-calls g c =
    let goes_on : c.in-Ok-false.field-0 ≡ false = search rules in
    lost_either c.part.result c.args.self.now.bus c.part.new.self.bus c.args.self.now.links.items c.part.new.self.links.items c.args.at c.index_mut.result.now c.take_in.new.self
    (g.H.Host.calls c.args.host.now) (g.H.Host.calls c.take_in.new.host) (g.H.Host.calls c.part.new.host) c.requires.there c.index_mut.ensures.value c.take_in.ensures.number c.take_in.ensures.conn
    (read_lost c.args.self.now.bus c.args.self.now.links.items c.args.at c.index_mut.result.now c.take_in.new.self (g.H.Host.links c.args.host.now) (g.H.Host.calls c.args.host.now) (g.H.Host.calls c.take_in.new.host)
    c.requires.there c.index_mut.ensures.value c.requires.serves (rw goes_on at c.in-Ok-false.ensures.calls)) c.part.ensures.calls

pub returns-in-Err-clause-calls : goal.returns-in-Err-clause-calls
returns-in-Err-clause-calls g c =
    read_cut c.args.self.now.bus c.args.self.now.links.items (slice_set c.args.self.now.links.items c.args.at c.take_in.new.self) c.args.at c.index_mut.result.now (g.H.Host.links c.args.host.now) c.in-Err.stop (g.H.Host.calls c.args.host.now) (g.H.Host.calls c.take_in.new.host)
    c.requires.there c.index_mut.ensures.value c.requires.serves c.in-Err.ensures.cause c.in-Err.ensures.calls
