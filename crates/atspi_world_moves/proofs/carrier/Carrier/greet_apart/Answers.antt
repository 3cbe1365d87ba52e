use Rattle.atspi_bus_steps.specs.InnerBus.{inner_of}
use Rattle.atspi_world_moves.proofs.Beginning.{greeted_by}
use Rattle.atspi_world_moves.proofs.carrier.Carrier.greet_apart.Goals as goal

pub returns-clause-greets : goal.returns-clause-greets
returns-clause-greets c = λ w is up.
    greeted_by w c.args.conn (inner_of c.route_apart.new.self.bus) (inner_of c.route_apart-2.new.self.bus) (inner_of c.route_apart-3.new.self.bus) c.route_apart.new.self.posts.items c.route_apart-2.new.self.posts.items c.route_apart-3.new.self.posts.items
    c.args.self.now.trace.items c.route_apart.new.self.trace.items c.route_apart-2.new.self.trace.items c.route_apart-3.new.self.trace.items up
    (c.in_ok-route_apart.ensures.does w up.first.the_end up.first.first up.first.rest is up.first.at up.first.up) (c.in_ok-route_apart-2.ensures.does _ up.second.the_end up.second.first up.second.rest)
    (c.in_ok-route_apart-3.ensures.does _ up.third.the_end up.third.first up.third.rest)

pub returns-clause-linked : goal.returns-clause-linked
returns-clause-linked c = λ w is linked up.
    let one = c.in_ok-route_apart.ensures in
    let two = c.in_ok-route_apart-2.ensures in
    let three = c.in_ok-route_apart-3.ensures in
    let first = one.does w up.first.the_end up.first.first up.first.rest is up.first.at up.first.up in
    let second = two.does _ up.second.the_end up.second.first up.second.rest first.tied up.second.at up.second.up in
    three.linked _ up.third.the_end up.third.first up.third.rest second.tied
    (two.linked _ up.second.the_end up.second.first up.second.rest first.tied (one.linked w up.first.the_end up.first.first up.first.rest is linked up.first.at up.first.stands up.first.up) up.second.at up.second.stands up.second.up)
    up.third.at up.third.stands up.third.up
