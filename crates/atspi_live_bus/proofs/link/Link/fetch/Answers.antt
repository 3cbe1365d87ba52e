use Rattle.std.proofs.Common.{rules, ◌≤◌, length, take, ap, ◌∙◌, arith}
use Rattle.atspi_auth.specs.Talk.{Standing}
use Rattle.atspi_match.specs.routing.Queues.{queue_of}
use Rattle.atspi_bus.specs.View.{bus_of}
use Rattle.atspi_live_bus.proofs.Fetching.{fetches_more, front_of}
use Rattle.atspi_live_bus.proofs.link.Link.fetch.Goals as goal

pub pieces-preserved : goal.pieces-preserved
pieces-preserved c =
    let few : c.min-n.result ≤ length c.front-front.result.now = first_of (omega arith, search rules) in
    let none = c.pieces.invariant.said (first_of (omega arith, search rules)) in
    record {
      fetches =
          fetches_more c.args.self.now.conn c.min-n.result (take c.min-n.result c.front-front.result.now) (bus_of c.args.bus.now) (bus_of c.pieces.bus) (bus_of c.pop.new.self) c.args.self.now c.pieces.self c.queue.new.self
          c.pieces.invariant.fetches c.pieces.invariant.over none
          (front_of (queue_of (bus_of c.pieces.bus).waiting.queues c.args.self.now.conn) c.front-front.result.now c.front-front.ensures.begins.0 c.min-n.result c.front-front.ensures.begins.1 few)
          c.pop.ensures.bus c.queue.ensures.server c.queue.ensures.feeder c.in_default.ensures.out;
      over = ap (λ (n : Standing). n.stage) c.queue.ensures.server ∙ c.pieces.invariant.over;
      said = λ h. ap (λ (n : Standing). n.unsent) c.queue.ensures.server ∙ none;
      given = c.pop.ensures.given ∙ c.pieces.invariant.given;
      number = c.queue.ensures.number ∙ c.pieces.invariant.number;
      conn = c.queue.ensures.conn ∙ c.pieces.invariant.conn;
    }
