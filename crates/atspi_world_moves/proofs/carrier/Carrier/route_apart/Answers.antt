use Rattle.std.proofs.Common.{map, set, Err, refl, sym, ap, ◌∙◌, subst}
use Rattle.atspi_match.specs.routing.Queues as queues
use Rattle.atspi_bus_steps.specs.InnerBus.{inner_of}
use Rattle.atspi_message.specs.Bytes.{written}
use Rattle.atspi_message.proofs.Short.{message_spellable}
use Rattle.atspi_world_links.specs.declared.post.Post.{Post}
use Rattle.atspi_trace.specs.Causes.{does, routes}
use Rattle.atspi_world_moves.specs.inner.Told.{whose}
use Rattle.atspi_world_moves.proofs.Linked.{routed_linked}
use Rattle.atspi_world_moves.proofs.Staying.{Stands, stands_of, there_of, stands_set, stands_closed}
use Rattle.atspi_world_moves.specs.declared.fault.CarryFault.TheVariants.{Spent, RegistryLost}
use Rattle.atspi_world_moves.proofs.Stopping.{same_fault, bus_spent, bus_lost}
use Rattle.atspi_world_moves.proofs.Ties.{post_is, first_sends, front_routed, routed_bus, routed_done, routed_lost, taken_spent, settled_spent}
use Rattle.atspi_world_moves.proofs.carrier.Carrier.route_apart.Goals as goal

pub returns-clause-does : goal.returns-clause-does
returns-clause-does c = λ w e said rest is at up.
    let s = c.args.self.now in
    let told = c.in_ok-tell_bus.ensures in
    let b0 = inner_of c.route_front.new.bus in
    routed_done w c.args.conn e said rest (inner_of s.bus) b0 (inner_of c.settle.new.self) (inner_of c.tell_bus.new.self.bus) s.posts.items (set s.posts.items c.args.conn c.route_front.new.post)
    c.tell_bus.new.self.posts.items c.index_mut-post.result.now c.route_front.new.post s.trace.items c.route_front.new.trace.items c.tell_bus.new.self.trace.items is at up
    (post_is w (inner_of s.bus) s.posts.items c.args.conn e c.index_mut-post.result.now is at c.index_mut-post.ensures.value) c.in_ok-route_front.ensures.routes refl
    (c.in_ok-settle.ensures.ok ∙ ap (λ n. queues.settled n b0) c.joined_count-rounds.ensures) told.bus told.posts told.told

pub returns-clause-linked : goal.returns-clause-linked
returns-clause-linked c = λ w e said rest is linked at stands up.
    let s = c.args.self.now in
    let told = c.in_ok-tell_bus.ensures in
    let b0 = inner_of c.route_front.new.bus in
    let b1 = inner_of c.settle.new.self in
    let p = c.index_mut-post.result.now in
    let q = c.route_front.new.post in
    let p_is = post_is w (inner_of s.bus) s.posts.items c.args.conn e p is at c.index_mut-post.ensures.value in
    let posts1 = set s.posts.items c.args.conn q in
    let sends = first_sends w c.args.conn e said rest (inner_of s.bus) b0 b1 b1 s.posts.items s.posts.items s.posts.items p q s.trace.items s.trace.items s.trace.items is at up in
    let front = front_routed w c.args.conn e said rest (inner_of s.bus) b0 b1 b1 s.posts.items s.posts.items s.posts.items p q s.trace.items c.route_front.new.trace.items s.trace.items is at up p_is
    c.in_ok-route_front.ensures.routes in
    let bus = routed_bus w c.args.conn e said rest (inner_of s.bus) b0 b1 b1 s.posts.items s.posts.items s.posts.items p q s.trace.items c.route_front.new.trace.items s.trace.items is at up p_is
    c.in_ok-route_front.ensures.routes (c.in_ok-settle.ensures.ok ∙ ap (λ n. queues.settled n b0) c.joined_count-rounds.ensures) in
    routed_linked w c.args.conn e said rest s.at_end.items c.tell_bus.new.self.at_end.items b1 linked (message_spellable said.message (written said.message) sends.is) is.closings_told at stands up bus
    c.in_ok-settle.ensures.sound.ready.last told.given
    (there_of (does w (routes c.args.conn)).world.ends c.tell_bus.new.self.posts.items (returns-clause-does c w e said rest is at up).tied.posts_are
    (subst Stands (sym told.posts)
    (stands_closed (map whose posts1) b1.closings posts1 refl told.others
    (stands_set s.posts.items c.args.conn p q c.index_mut-post.ensures.value (ap whose front.post) (ap (λ (x : Post). x.standing) front.post) (stands_of w.ends s.posts.items is.posts_are linked.there)))))

pub returns-in_err-route_front-clause-lost : goal.returns-in_err-route_front-clause-lost
returns-in_err-route_front-clause-lost c = λ is. absurd (c.in_err-route_front.ensures.calm (ap Err (same_fault c.from_residual.result _ RegistryLost c.from_residual.ensures.1 is)))

pub returns-in_err-route_front-clause-spent : goal.returns-in_err-route_front-clause-spent
returns-in_err-route_front-clause-spent c = λ is w e said rest tied at up.
    let s = c.args.self.now in
    let b = inner_of s.bus in
    let posts = s.posts.items in
    let p = c.index_mut-post.result.now in
    let mid = c.route_front.new.trace.items in
    let fault = ap Err (same_fault c.from_residual.result _ Spent c.from_residual.ensures.1 is) in
    taken_spent w c.args.conn e said rest b b b b posts posts (set posts c.args.conn c.route_front.new.post) p p s.trace.items mid mid tied at up
    (post_is w b posts c.args.conn e p tied at c.index_mut-post.ensures.value) (c.in_err-route_front.ensures.spent fault) (ap (set posts c.args.conn) (c.in_err-route_front.ensures.stays fault))

pub returns-in_err-settle-clause-lost : goal.returns-in_err-settle-clause-lost
returns-in_err-settle-clause-lost c = λ is. absurd (bus_lost c.from_residual-in_err-settle.result _ c.from_residual-in_err-settle.ensures.1 is)

pub returns-in_err-settle-clause-spent : goal.returns-in_err-settle-clause-spent
returns-in_err-settle-clause-spent c = λ is w e said rest tied at up.
    let s = c.args.self.now in
    let b = inner_of s.bus in
    let posts = s.posts.items in
    let p = c.index_mut-post.result.now in
    let mid = c.route_front.new.trace.items in
    let b0 = inner_of c.route_front.new.bus in
    let b1 = queues.settled c.joined_count-rounds.result b0 in
    settled_spent w c.args.conn e said rest b b0 b1 b1 posts posts (set posts c.args.conn c.route_front.new.post) p c.route_front.new.post s.trace.items mid mid tied at up (post_is w b posts c.args.conn e p tied at c.index_mut-post.ensures.value)
    c.in_ok-route_front.ensures.routes (ap (λ n. queues.settled n b0) c.joined_count-rounds.ensures)
    (c.in_err-settle.ensures.spent (ap Err (bus_spent c.from_residual-in_err-settle.result _ c.from_residual-in_err-settle.ensures.1 is))) refl

pub returns-in_err-tell_bus-clause-lost : goal.returns-in_err-tell_bus-clause-lost
returns-in_err-tell_bus-clause-lost c = λ is w e said rest tied first at up.
    let s = c.args.self.now in
    let b = inner_of s.bus in
    let posts = s.posts.items in
    let p = c.index_mut-post.result.now in
    let q = c.route_front.new.post in
    let b0 = inner_of c.route_front.new.bus in
    let b1 = inner_of c.settle.new.self in
    let fault = ap Err (same_fault c.from_residual-in_err-tell_bus.result _ RegistryLost c.from_residual-in_err-tell_bus.ensures.1 is) in
    let lost = c.in_err-tell_bus.ensures.lost fault in
    routed_lost w c.args.conn e said rest b b0 b1 b1 posts (set posts c.args.conn q) c.tell_bus.new.self.posts.items p q s.trace.items c.route_front.new.trace.items c.tell_bus.new.self.trace.items tied at up
    (post_is w b posts c.args.conn e p tied at c.index_mut-post.ensures.value) c.in_ok-route_front.ensures.routes refl (c.in_ok-settle.ensures.ok ∙ ap (λ n. queues.settled n b0) c.joined_count-rounds.ensures) first
    lost.0 lost.1 (c.in_err-tell_bus.ensures.names fault)

pub returns-in_err-tell_bus-clause-spent : goal.returns-in_err-tell_bus-clause-spent
returns-in_err-tell_bus-clause-spent c = λ is. absurd (c.in_err-tell_bus.ensures.calm (ap Err (same_fault c.from_residual-in_err-tell_bus.result _ Spent c.from_residual-in_err-tell_bus.ensures.1 is)))
