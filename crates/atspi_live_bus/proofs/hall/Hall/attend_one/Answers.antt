use Rattle.std.proofs.Common.{refl, slice_set, subst, sym, arith}
use Rattle.atspi_live_host.specs.inner.Calls.{Differ}
use Rattle.atspi_live_bus.proofs.Hearing.{bad_cut, bad_taken, none_takes, told_cut, took_one, waits}
use Rattle.atspi_live_bus.proofs.Serving.{turned}
use Rattle.atspi_live_bus.proofs.Shutting.{held_set}
use Rattle.atspi_live_bus.proofs.hall.Hall.attend_one.Goals as goal

pub settle-requires : goal.settle-requires
settle-requires g c = record {
  serves =
      turned c.args.self.now.links.items c.in-Some.at c.index_mut.result.now c.tell.new.self (g.H.Host.links c.args.host.now) (g.H.Host.links c.args.host.now)
      c.in-Some.ensures.below c.index_mut.ensures.value c.tell.ensures.number refl c.requires.serves;
}

pub part-requires-clause-serves : goal.part-requires-clause-serves
part-requires-clause-serves g c =
    turned c.args.self.now.links.items c.in-Some.at c.index_mut.result.now c.tell.new.self (g.H.Host.links c.args.host.now) (g.H.Host.links c.args.host.now)
    c.in-Some.ensures.below c.index_mut.ensures.value c.tell.ensures.number refl c.requires.serves

pub returns-in-Ok-NotYet-clause-serves : goal.returns-in-Ok-NotYet-clause-serves
returns-in-Ok-NotYet-clause-serves g c =
    turned c.args.self.now.links.items c.in-Some.at c.index_mut.result.now c.tell.new.self (g.H.Host.links c.args.host.now) (g.H.Host.links c.args.host.now)
    c.in-Some.ensures.below c.index_mut.ensures.value c.tell.ensures.number refl c.requires.serves

pub returns-in_default-clause-calls : goal.returns-in_default-clause-calls
returns-in_default-clause-calls g c = none_takes c.args.self.now.bus c.args.self.now.links.items c.args.number (g.H.Host.calls c.args.host.now) c.in_default.ensures.first

pub returns-in-Ok-Took-clause-calls : goal.returns-in-Ok-Took-clause-calls
returns-in-Ok-Took-clause-calls g c =
    took_one c.args.self.now.bus c.tell.new.bus c.settle.new.self.bus c.args.self.now.links.items c.settle.new.self.links.items c.in-Some.at c.args.number c.index_mut.result.now c.tell.new.self (g.H.Host.links c.args.host.now)
    (g.H.Host.calls c.args.host.now) (g.H.Host.calls c.settle.new.host) c.in-Some.ensures.below c.index_mut.ensures.value c.requires.serves c.tell.ensures.number c.tell.ensures.conn c.in-Some.ensures.first
    (rw c.in-Ok-Took.field-0-is at c.in-Ok-Took.ensures.ok) c.tell.ensures.given c.settle.ensures.calls

pub returns-in-Ok-Took-clause-fewer : goal.returns-in-Ok-Took-clause-fewer
returns-in-Ok-Took-clause-fewer g c e =
    let t = rw c.in-Ok-Took.field-0-is at c.in-Ok-Took.ensures.ok in
    omega (arith, c.settle.ensures.held, held_set c.args.self.now.links.items c.in-Some.at c.index_mut.result.now c.tell.new.self c.in-Some.ensures.below c.index_mut.ensures.value t.3)

pub returns-in-Ok-NotYet-clause-calls : goal.returns-in-Ok-NotYet-clause-calls
returns-in-Ok-NotYet-clause-calls g c =
    waits c.args.self.now.bus c.tell.new.bus c.args.self.now.links.items c.in-Some.at c.args.number c.index_mut.result.now c.tell.new.self (g.H.Host.links c.args.host.now) (g.H.Host.calls c.args.host.now)
    c.in-Some.ensures.below c.index_mut.ensures.value c.requires.serves c.tell.ensures.number c.tell.ensures.conn c.in-Some.ensures.first (rw c.in-Ok-NotYet.field-0-is at c.in-Ok-NotYet.ensures.ok) c.tell.ensures.given

pub returns-in-Err-clause-calls : goal.returns-in-Err-clause-calls
returns-in-Err-clause-calls g c = told_cut c.args.self.now.bus c.args.self.now.links.items (slice_set c.args.self.now.links.items c.in-Some.at c.tell.new.self) c.args.number c.in-Err.stop (g.H.Host.calls c.args.host.now) c.in-Err.ensures.spent

pub returns-in-Ok-clause-calls : goal.returns-in-Ok-clause-calls
returns-in-Ok-clause-calls g c =
    bad_taken c.args.self.now.bus c.tell.new.bus c.part.new.self.bus c.args.self.now.links.items c.part.new.self.links.items c.in-Some.at c.args.number c.index_mut.result.now c.tell.new.self
    (g.H.Host.calls c.args.host.now) (g.H.Host.calls c.part.new.host) c.in-Some.ensures.below c.index_mut.ensures.value c.tell.ensures.number c.tell.ensures.conn c.in-Some.ensures.first
    (rw c.in-Ok-Bad.field-0-is at c.in-Ok-Bad.ensures.ok) c.tell.ensures.given c.in-Ok.ensures.calls

pub returns-in-Err-part-clause-calls : goal.returns-in-Err-part-clause-calls
returns-in-Err-part-clause-calls g c =
    bad_cut c.args.self.now.bus c.tell.new.bus c.args.self.now.links.items c.part.new.self.links.items c.in-Some.at c.args.number c.index_mut.result.now c.tell.new.self c.in-Err-part.stop
    (g.H.Host.calls c.args.host.now) (g.H.Host.calls c.part.new.host) c.in-Some.ensures.below c.index_mut.ensures.value c.tell.ensures.number c.tell.ensures.conn c.in-Some.ensures.first
    (rw c.in-Ok-Bad.field-0-is at c.in-Ok-Bad.ensures.ok) c.tell.ensures.given c.in-Err-part.ensures.calls

pub place_near-requires : goal.place_near-requires
place_near-requires g c = record { differ = subst Differ (sym c.requires.serves.are) c.requires.serves.differ }
