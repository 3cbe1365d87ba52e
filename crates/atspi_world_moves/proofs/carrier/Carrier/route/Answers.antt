use Rattle.std.proofs.Common.{◌++◌, refl, sym, ap, ◌∙◌, subst}
use Rattle.atspi_bus_steps.specs.InnerBus.{inner_of, state_of}
use Rattle.atspi_bus_steps.specs.Sound.{IsSound}
use Rattle.atspi_bus_steps.specs.declared.inner.Inner.{Inner}
use Rattle.atspi_trace.specs.Causes.{does, routes}
use Rattle.atspi_world_moves.specs.GivenUp.{gives_up}
use Rattle.atspi_world_moves.specs.Linked.{IsLinked}
use Rattle.atspi_world_moves.specs.declared.fault.CarryFault.TheVariants.{Spent, RegistryLost}
use Rattle.atspi_world_moves.proofs.Rejoining.{told_ok, told_err, done_on, lost_on, spent_on}
use Rattle.atspi_world_moves.proofs.carrier.Carrier.route.Goals as goal

pub returns-clause-sound : goal.returns-clause-sound
returns-clause-sound c =
    told_ok gives_up c.rejoin.result c.route_apart-done.result c.rejoin.ensures.told c.route_apart-done.ensures.sound (λ sound same. subst (λ (b : Inner). IsSound (state_of b)) (sym same.bus_is) sound)

pub returns-clause-does : goal.returns-clause-does
returns-clause-does c =
    let s = c.args.self.now in
    let did = c.route_apart-done.new.self in
    let new = c.rejoin.new.self in
    let none = c.apart-before.ensures.none in
    told_ok gives_up c.rejoin.result c.route_apart-done.result c.rejoin.ensures.told c.route_apart-done.ensures.does
    (λ done same w e said rest is at up.
    done_on (does w (routes c.args.conn)) (inner_of did.bus) (inner_of new.bus) did.posts.items new.posts.items s.trace.items c.apart-before.new.trace.items did.trace.items new.trace.items none (ap inner_of same.bus_is)
    same.posts_are (same.told ∙ ap (λ l. l ++ did.trace.items) c.apart-before.ensures.before) (done w e said rest is at up))

pub returns-clause-linked : goal.returns-clause-linked
returns-clause-linked c =
    told_ok gives_up c.rejoin.result c.route_apart-done.result c.rejoin.ensures.told c.route_apart-done.ensures.linked
    (λ linked same w e said rest is linked_so at stands up. subst (IsLinked (does w (routes c.args.conn)).world) (sym same.given_are) (linked w e said rest is linked_so at stands up))

pub returns-clause-lost : goal.returns-clause-lost
returns-clause-lost c = λ is w e said rest tied first at up.
    let s = c.args.self.now in
    let did = c.route_apart-done.new.self in
    let new = c.rejoin.new.self in
    let none = c.apart-before.ensures.none in
    let so = told_err gives_up c.rejoin.result c.route_apart-done.result RegistryLost refl c.rejoin.ensures.told is in
    let same = so.1 in
    lost_on (does w (routes c.args.conn)) did.posts.items new.posts.items s.trace.items c.apart-before.new.trace.items did.trace.items new.trace.items none same.posts_are
    (same.told ∙ ap (λ l. l ++ did.trace.items) c.apart-before.ensures.before) (c.route_apart-done.ensures.lost so.0 w e said rest tied first at up)

pub returns-clause-spent : goal.returns-clause-spent
returns-clause-spent c = λ is w e said rest tied at up.
    let s = c.args.self.now in
    let did = c.route_apart-done.new.self in
    let new = c.rejoin.new.self in
    let none = c.apart-before.ensures.none in
    let so = told_err gives_up c.rejoin.result c.route_apart-done.result Spent refl c.rejoin.ensures.told is in
    let same = so.1 in
    spent_on w (does w (routes c.args.conn)) did.posts.items new.posts.items s.trace.items c.apart-before.new.trace.items did.trace.items new.trace.items none same.posts_are
    (same.told ∙ ap (λ l. l ++ did.trace.items) c.apart-before.ensures.before) (c.route_apart-done.ensures.spent so.0 w e said rest tied at up)
