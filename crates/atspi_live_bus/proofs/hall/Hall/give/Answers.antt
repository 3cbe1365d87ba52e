use Rattle.std.proofs.Common.{rules, ◌≡◌, true, false, slice_set, subst, sym}
use Rattle.atspi_live_host.specs.inner.Calls.{Differ}
use Rattle.atspi_live_bus.proofs.Going.{want_free}
use Rattle.atspi_live_bus.proofs.Hearing.{gave, gave_either, gave_none, gave_on, not_there}
use Rattle.atspi_live_bus.proofs.Serving.{link_open, turned}
use Rattle.atspi_live_bus.proofs.hall.Hall.give.Goals as goal

pub give-requires : goal.give-requires
give-requires g c = link_open c.args.self.now.links.items c.in-Some.at c.index_mut.result.now (g.H.Host.links c.args.host.now) c.in-Some.ensures.below c.index_mut.ensures.value c.requires.serves

pub part-requires-clause-serves : goal.part-requires-clause-serves
part-requires-clause-serves g c =
    turned c.args.self.now.links.items c.in-Some.at c.index_mut.result.now c.give.new.self (g.H.Host.links c.args.host.now) (g.H.Host.links c.give.new.host)
    c.in-Some.ensures.below c.index_mut.ensures.value c.give.ensures.number c.give.ensures.links c.requires.serves

pub returns-in-Ok-true-clause-serves : goal.returns-in-Ok-true-clause-serves
returns-in-Ok-true-clause-serves g c =
    turned c.args.self.now.links.items c.in-Some.at c.index_mut.result.now c.give.new.self (g.H.Host.links c.args.host.now) (g.H.Host.links c.give.new.host)
    c.in-Some.ensures.below c.index_mut.ensures.value c.give.ensures.number c.give.ensures.links c.requires.serves

pub returns-in-Err-clause-cause : goal.returns-in-Err-clause-cause
returns-in-Err-clause-cause g c = want_free c.in-Err.stop c.in-Err.ensures.cause

pub returns-in_default-clause-calls : goal.returns-in_default-clause-calls
returns-in_default-clause-calls g c = not_there c.args.self.now.bus c.args.self.now.links.items c.args.number (g.H.Host.calls c.args.host.now) c.in_default.ensures.first

pub returns-in-Ok-true-clause-calls : goal.returns-in-Ok-true-clause-calls
returns-in-Ok-true-clause-calls g c =
    let goes_on : c.in-Ok-true.field-0 ≡ true = search rules in
    gave_on c.args.self.now.bus c.give.new.bus c.args.self.now.links.items c.in-Some.at c.args.number c.index_mut.result.now c.give.new.self (g.H.Host.calls c.args.host.now) (g.H.Host.calls c.give.new.host)
    c.in-Some.ensures.below c.index_mut.ensures.value c.give.ensures.number c.give.ensures.conn c.in-Some.ensures.first
    (gave true c.args.self.now.bus c.give.new.bus c.args.self.now.links.items c.in-Some.at c.index_mut.result.now c.give.new.self (g.H.Host.links c.args.host.now) (g.H.Host.calls c.args.host.now) (g.H.Host.calls c.give.new.host)
    c.in-Some.ensures.below c.index_mut.ensures.value c.requires.serves c.give.ensures.number c.give.ensures.conn c.give.ensures.given c.in-Ok-true.ensures.ok (rw goes_on at c.in-Ok-true.ensures.calls))

pub returns-in-Ok-false-clause-calls : goal.returns-in-Ok-false-clause-calls
returns-in-Ok-false-clause-calls g c =
    let goes_on : c.in-Ok-false.field-0 ≡ false = search rules in
    gave_either c.part.result c.args.self.now.bus c.give.new.bus c.part.new.self.bus c.args.self.now.links.items c.part.new.self.links.items c.in-Some.at c.args.number c.index_mut.result.now c.give.new.self
    (g.H.Host.calls c.args.host.now) (g.H.Host.calls c.give.new.host) (g.H.Host.calls c.part.new.host) c.in-Some.ensures.below c.index_mut.ensures.value c.give.ensures.number c.give.ensures.conn c.in-Some.ensures.first
    (gave false c.args.self.now.bus c.give.new.bus c.args.self.now.links.items c.in-Some.at c.index_mut.result.now c.give.new.self (g.H.Host.links c.args.host.now) (g.H.Host.calls c.args.host.now) (g.H.Host.calls c.give.new.host)
    c.in-Some.ensures.below c.index_mut.ensures.value c.requires.serves c.give.ensures.number c.give.ensures.conn c.give.ensures.given c.in-Ok-false.ensures.ok (rw goes_on at c.in-Ok-false.ensures.calls))
    c.part.ensures.calls

pub returns-in-Err-clause-calls : goal.returns-in-Err-clause-calls
returns-in-Err-clause-calls g c = gave_none c.args.self.now.bus c.args.self.now.links.items (slice_set c.args.self.now.links.items c.in-Some.at c.give.new.self) c.args.number c.in-Err.stop (g.H.Host.calls c.args.host.now) (g.H.Host.calls c.give.new.host) c.in-Err.ensures.cause c.in-Err.ensures.err

pub place_near-requires : goal.place_near-requires
place_near-requires g c = record { differ = subst Differ (sym c.requires.serves.are) c.requires.serves.differ }
