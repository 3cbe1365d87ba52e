use Rattle.std.proofs.Common.{ℕ, sym, ap, subst, ◌∙◌, arith}
use Rattle.atspi_live_bus.specs.Rounds.{IsRun}
use Rattle.atspi_live_bus.specs.Service.{OfTold}
use Rattle.atspi_live_bus.specs.Stops.{status_of}
use Rattle.atspi_live_bus.proofs.Ending.{none_served}
use Rattle.atspi_live_bus.proofs.Going.{stops_spent}
use Rattle.atspi_live_bus.proofs.Rounding.{no_rounds, not_listened, rounds_more, rounds_service, rounds_stopped, run_done, run_stopped}
use Rattle.atspi_live_bus.proofs.Stepping.{nothing_served, service_stopped}
use Rattle.atspi_live_bus.proofs.run.bus.Goals as goal

pub loop-init : goal.loop-init
loop-init g c =
    let told = c.in_default.ensures.told in
    record {
      serves = none_served (g.H.Host.links c.listen.new.host) c.new-hall.result.links.items (c.listen.ensures.links ∙ c.requires.links) c.new-hall.ensures.links;
      rounds = (told.0, told.1, no_rounds c.args.path.now told.0 c.new-hall.result.bus c.new-hall.result.links.items (g.H.Host.calls c.args.host.now) (g.H.Host.calls c.listen.new.host) c.new-hall.ensures.bus c.new-hall.ensures.links c.requires.calls told.2);
      same = c.in_default.ensures.same;
    }

pub returns-clause-service : goal.returns-clause-service
returns-clause-service g c =
    let r = c.loop.invariant.rounds in
    rounds_service c.args.path.now c.loop.counter r.0 c.loop.hall.bus c.loop.hall.links.items (g.H.Host.calls c.loop.host) r.2

pub returns-in-Err-clause-service : goal.returns-in-Err-clause-service
returns-in-Err-clause-service g c =
    nothing_served c.args.path.now c.listen.ensures.calls.0 (g.H.Host.calls c.args.host.now) (g.H.Host.calls c.listen.new.host) c.requires.calls c.listen.ensures.calls.1

pub returns-in-Err-round-clause-service : goal.returns-in-Err-round-clause-service
returns-in-Err-round-clause-service g c =
    let r = c.loop.invariant.rounds in
    service_stopped c.in-Err-round.stop (g.H.Host.calls c.round.new.host)
    (rounds_stopped c.args.path.now c.loop.counter c.in-Err-round.stop r.0 c.loop.hall.bus c.loop.hall.links.items (g.H.Host.calls c.loop.host) (g.H.Host.calls c.round.new.host) r.2 c.in-Err-round.ensures.calls)

pub returns-in-Err-round-clause-spent : goal.returns-in-Err-round-clause-spent
returns-in-Err-round-clause-spent g c e =
    let r = c.loop.invariant.rounds in
    stops_spent c.in-Err-round.stop c.status_of-in-Err-round.result (g.H.Host.calls c.round.new.host) c.status_of-in-Err-round.ensures
    (rounds_stopped c.args.path.now c.loop.counter c.in-Err-round.stop r.0 c.loop.hall.bus c.loop.hall.links.items (g.H.Host.calls c.loop.host) (g.H.Host.calls c.round.new.host) r.2 c.in-Err-round.ensures.calls) e

pub loop-preserved : goal.loop-preserved
loop-preserved g c =
    let r = c.loop.invariant.rounds in
    record {
      serves = c.in-Ok.ensures.serves;
      rounds = (r.0, r.1, rounds_more c.args.path.now c.loop.counter r.0 c.loop.hall.bus c.round.new.self.bus c.loop.hall.links.items c.round.new.self.links.items (g.H.Host.calls c.loop.host) (g.H.Host.calls c.round.new.host) r.2 c.in-Ok.ensures.calls);
      same = c.in-Ok.ensures.same ∙ c.loop.invariant.same;
    }

pub returns-clause-rounds : goal.returns-clause-rounds
returns-clause-rounds g c =
    let r = c.loop.invariant.rounds in
    run_done c.args.path.now c.loop.counter c.args.rounds r.0 c.loop.hall.bus c.loop.hall.links.items (g.H.Host.calls c.loop.host) r.1 (omega arith) r.2

pub returns-in-Err-clause-rounds : goal.returns-in-Err-clause-rounds
returns-in-Err-clause-rounds g c =
    subst (λ (n : ℕ). OfTold (IsRun c.args.path.now n c.args.rounds) (g.H.Host.calls c.listen.new.host)) (sym (c.status_of.ensures ∙ ap status_of c.in-Err.ensures.failed))
    (not_listened c.args.path.now c.args.rounds (g.H.Host.calls c.args.host.now) (g.H.Host.calls c.listen.new.host) c.requires.calls c.in-Err.ensures.told)

pub returns-in-Err-round-clause-rounds : goal.returns-in-Err-round-clause-rounds
returns-in-Err-round-clause-rounds g c =
    let r = c.loop.invariant.rounds in
    subst (λ (n : ℕ). OfTold (IsRun c.args.path.now n c.args.rounds) (g.H.Host.calls c.round.new.host)) (sym c.status_of-in-Err-round.ensures)
    (run_stopped c.args.path.now c.loop.counter c.args.rounds c.in-Err-round.stop r.0 c.loop.hall.bus c.loop.hall.links.items (g.H.Host.calls c.loop.host) (g.H.Host.calls c.round.new.host) r.1 (omega arith) r.2 c.in-Err-round.ensures.calls)
