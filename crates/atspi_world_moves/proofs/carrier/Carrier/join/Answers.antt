use Rattle.std.proofs.Common.{◌≡◌, ◌≤◌, [], ◌∷◌, ◌++◌, length, ap, ◌∙◌, arith}
use Rattle.atspi_match.specs.routing.Queues as queues
use Rattle.atspi_bus_steps.specs.InnerBus.{inner_of}
use Rattle.atspi_trace.specs.World.{newcomer}
use Rattle.atspi_world_moves.specs.Carried.{post_of}
use Rattle.atspi_world_moves.proofs.Ties.{joined, new_post}
use Rattle.atspi_world_moves.proofs.Linked.{joined_linked}
use Rattle.atspi_world_moves.proofs.carrier.Carrier.join.Goals as goal

pub returns-in-Ok-join_behind-clause-joins : goal.returns-in-Ok-join_behind-clause-joins
returns-in-Ok-join_behind-clause-joins c = λ w role is.
    let s = c.args.self.now in
    let number : c.in-Ok.conn ≡ length s.posts.items = first_of (omega (arith, c.in-Ok.ensures, c.len.ensures), grind (arith, c.in-Ok.ensures, c.len.ensures)) in
    let more : c.push_reserved.new.self.items ≡ s.posts.items ++ c.new.result ∷ [] = c.push_reserved.ensures.items ∙ ap (λ l. l ++ c.new.result ∷ []) c.reserve.ensures.items in
    let few : length c.push_reserved.new.self.items ≤ 4294967296 = grind (arith, c.in-Ok.ensures, c.len.ensures, more) in
    let post : c.new.result ≡ post_of (newcomer c.args.who role) = new_post c.new.result c.args.who role c.new.ensures.who c.new.ensures.here c.new.ensures.unnamed c.new.ensures.up c.new.ensures.begun in
    joined w c.args.who role (inner_of s.bus) (inner_of c.join_behind.new.self) s.posts.items c.push_reserved.new.self.items c.new.result few is (c.in-Ok-join_behind.ensures.ok ∙ ap (queues.joins (inner_of s.bus)) number) more post

pub returns-in-Ok-join_behind-clause-linked : goal.returns-in-Ok-join_behind-clause-linked
returns-in-Ok-join_behind-clause-linked c = λ w role linked first.
    let lies = c.new-in-Ok-join_behind.result in
    joined_linked w c.args.who role c.args.self.now.at_end.items c.push_reserved-in-Ok-join_behind.new.self.items lies linked
    (c.push_reserved-in-Ok-join_behind.ensures.items ∙ ap (λ l. l ++ lies ∷ []) c.reserve-2.ensures.items) c.new-in-Ok-join_behind.ensures first
