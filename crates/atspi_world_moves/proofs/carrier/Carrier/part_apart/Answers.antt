use Rattle.std.proofs.Common.{◌≡◌, ◌<◌, List, ◌++◌, map, Err, refl, sym, ap, ◌∙◌, subst}
use Rattle.atspi_match.specs.routing.Queues as queues
use Rattle.atspi_bus_steps.specs.InnerBus.{inner_of}
use Rattle.atspi_bus_steps.specs.declared.inner.Inner.{Inner}
use Rattle.atspi_trace_events.specs.declared.event.Event.{Event}
use Rattle.atspi_trace.specs.Entry.{entries_of}
use Rattle.atspi_trace.specs.Causes.{does, unjoins}
use Rattle.atspi_world_moves.specs.Halted.{naming_of}
use Rattle.atspi_world_moves.specs.inner.Told.{all_emptied, bus_told, gone, whose}
use Rattle.atspi_world_links.proofs.Changes.{map-kept}
use Rattle.atspi_world_moves.proofs.Linked.{parted_linked}
use Rattle.atspi_world_moves.proofs.Staying.{Stands, there_of, stands_closed, stopped_gone}
use Rattle.atspi_world_moves.specs.declared.fault.CarryFault.TheVariants.{Spent, RegistryLost}
use Rattle.atspi_world_moves.proofs.Stopping.{same_fault, bus_spent, bus_lost}
use Rattle.atspi_world_moves.proofs.Ties.{parted_bus, parted_done, parted_lost, parted_spent}
use Rattle.atspi_world_moves.proofs.carrier.Carrier.part_apart.Goals as goal

pub returns-clause-does : goal.returns-clause-does
returns-clause-does c = λ w is.
    let s = c.args.self.now in
    let left = c.leave.new.self in
    let b1 = inner_of c.part_with.new.self in
    let told = c.in_ok-tell_bus.ensures in
    parted_done w c.args.conn (inner_of s.bus) b1 (inner_of c.tell_bus.new.self.bus) s.posts.items left.posts.items c.tell_bus.new.self.posts.items s.trace.items c.tell_bus.new.self.trace.items is c.leave.ensures.posts
    (c.in_ok-part_with.ensures.ok ∙ ap (λ (x : Inner). queues.leaves (inner_of x) c.args.conn) c.leave.ensures.bus) told.bus told.posts
    (told.told ∙ ap (λ (t : List Event). entries_of t ++ bus_told (map whose left.posts.items) b1.own b1.closings) c.leave.ensures.trace)

pub returns-clause-linked : goal.returns-clause-linked
returns-clause-linked c = λ w e is linked at stands.
    let s = c.args.self.now in
    let b1 = inner_of c.part_with.new.self in
    let told = c.in_ok-tell_bus.ensures in
    let posts1 = c.leave.new.self.posts.items in
    let left : b1 ≡ queues.leaves (inner_of s.bus) c.args.conn = c.in_ok-part_with.ensures.ok ∙ ap (λ (x : Inner). queues.leaves (inner_of x) c.args.conn) c.leave.ensures.bus in
    parted_linked w c.args.conn s.at_end.items c.tell_bus.new.self.at_end.items b1 linked is.closings_told (parted_bus w (inner_of s.bus) b1 s.posts.items c.args.conn is left) c.in_ok-part_with.ensures.sound.ready.last
    (told.given ∙ ap (all_emptied b1.closings) c.leave.ensures.given)
    (there_of (does w (unjoins c.args.conn)).world.ends c.tell_bus.new.self.posts.items (returns-clause-does c w is).tied.posts_are
    (subst Stands (sym told.posts)
    (stands_closed (map whose posts1) b1.closings posts1 refl told.others
    (subst Stands (sym c.leave.ensures.posts) (stopped_gone w.ends s.posts.items c.args.conn e is.posts_are at stands linked.there)))))

pub returns-in_err-part_with-clause-lost : goal.returns-in_err-part_with-clause-lost
returns-in_err-part_with-clause-lost c = λ is. absurd (bus_lost c.from_residual.result _ c.from_residual.ensures.1 is)

pub returns-in_err-part_with-clause-spent : goal.returns-in_err-part_with-clause-spent
returns-in_err-part_with-clause-spent c = λ is w tied.
    let s = c.args.self.now in
    let spent = c.in_err-part_with.ensures.spent (ap Err (bus_spent c.from_residual.result _ c.from_residual.ensures.1 is)) in
    parted_spent w c.args.conn (inner_of s.bus) s.posts.items c.leave.new.self.posts.items s.trace.items c.leave.new.self.trace.items tied
    (ap (map naming_of) c.leave.ensures.posts ∙ map-kept naming_of gone (λ p. refl) s.posts.items c.args.conn)
    (subst (λ (x : Inner). 4294967296 < (queues.leaves (inner_of x) c.args.conn).state.next) c.leave.ensures.bus spent) (ap entries_of c.leave.ensures.trace)

pub returns-in_err-tell_bus-clause-lost : goal.returns-in_err-tell_bus-clause-lost
returns-in_err-tell_bus-clause-lost c = λ is w tied first.
    let s = c.args.self.now in
    let left = c.leave.new.self in
    let b1 = inner_of c.part_with.new.self in
    let fault = ap Err (same_fault c.from_residual-in_err-tell_bus.result _ RegistryLost c.from_residual-in_err-tell_bus.ensures.1 is) in
    let lost = c.in_err-tell_bus.ensures.lost fault in
    parted_lost w c.args.conn (inner_of s.bus) b1 s.posts.items left.posts.items c.tell_bus.new.self.posts.items s.trace.items c.tell_bus.new.self.trace.items tied c.leave.ensures.posts
    (c.in_ok-part_with.ensures.ok ∙ ap (λ (x : Inner). queues.leaves (inner_of x) c.args.conn) c.leave.ensures.bus) first
    (lost.0 ∙ ap (λ (t : List Event). entries_of t ++ bus_told (map whose left.posts.items) b1.own b1.closings) c.leave.ensures.trace) lost.1 (c.in_err-tell_bus.ensures.names fault)

pub returns-in_err-tell_bus-clause-spent : goal.returns-in_err-tell_bus-clause-spent
returns-in_err-tell_bus-clause-spent c = λ is. absurd (c.in_err-tell_bus.ensures.calm (ap Err (same_fault c.from_residual-in_err-tell_bus.result _ Spent c.from_residual-in_err-tell_bus.ensures.1 is)))
