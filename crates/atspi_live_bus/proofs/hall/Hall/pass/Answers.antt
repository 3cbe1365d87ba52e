use Rattle.std.proofs.Common.{◌≡◌, ℕ, ◌+◌, refl, sym, subst, ◌∙◌, arith}
use Rattle.atspi_live_bus.specs.inner.Rounds.{Moves}
use Rattle.atspi_live_bus.specs.inner.Seats.{GoesOpen, conn_at}
use Rattle.atspi_live_bus.proofs.Passing.{Passes, all_passed, cut_passed, none_left, passes_none, passes_on}
use Rattle.atspi_live_bus.proofs.Shutting.{conn_is}
use Rattle.atspi_live_bus.proofs.hall.Hall.pass.Goals as goal

pub loop-init : goal.loop-init
loop-init g c = record {
  serves = c.requires.serves;
  passes = passes_none c.args.self.now.bus c.args.self.now.links.items (g.H.Host.calls c.args.host.now);
  same = refl;
}

pub loop-preserved : goal.loop-preserved
loop-preserved g c =
    let conn : c.from-from.result ≡ conn_at c.loop.self.links.items c.in-Some.at = c.from-from.ensures ∙ conn_is c.loop.self.links.items c.in-Some.at c.index.result.now c.in-Some.ensures.below c.index.ensures in
    record {
      serves = c.in-Ok.ensures.serves;
      passes =
          subst (λ (k : ℕ). Moves (g.H.Host.calls c.args.host.now) (g.H.Host.calls c.serve.new.host) (GoesOpen c.args.self.now.bus c.args.self.now.links.items) (Passes (c.loop.counter + 1) (k + 1) c.args.self.now.links.items c.serve.new.self.links.items)
          (GoesOpen c.serve.new.self.bus c.serve.new.self.links.items)) (sym conn)
          (passes_on c.args.self.now.bus c.loop.self.bus c.serve.new.self.bus c.loop.counter c.loop.from c.in-Some.at c.args.self.now.links.items c.loop.self.links.items c.serve.new.self.links.items (g.H.Host.calls c.args.host.now) (g.H.Host.calls c.loop.host) (g.H.Host.calls c.serve.new.host)
          c.in-Some.ensures.below (sym c.in-Some.ensures.first) c.loop.invariant.passes c.in-Ok.ensures.calls);
      same = c.serve.ensures.same ∙ c.loop.invariant.same;
    }

pub returns-in_default-clause-calls : goal.returns-in_default-clause-calls
returns-in_default-clause-calls g c =
    none_left c.args.self.now.bus c.loop.self.bus c.loop.counter c.loop.from c.args.self.now.links.items c.loop.self.links.items (g.H.Host.calls c.args.host.now) (g.H.Host.calls c.loop.host) (sym c.in_default.ensures.first) c.loop.invariant.passes

pub returns-in-Err-clause-calls : goal.returns-in-Err-clause-calls
returns-in-Err-clause-calls g c =
    cut_passed c.args.self.now.bus c.loop.self.bus c.loop.counter c.loop.from c.in-Some.at c.args.self.now.links.items c.loop.self.links.items c.in-Err.stop (g.H.Host.calls c.args.host.now) (g.H.Host.calls c.loop.host) (g.H.Host.calls c.serve.new.host)
    c.in-Some.ensures.below (sym c.in-Some.ensures.first) c.loop.invariant.passes c.in-Err.ensures.calls

pub returns-clause-calls : goal.returns-clause-calls
returns-clause-calls g c =
    all_passed c.args.self.now.bus c.loop.self.bus c.loop.counter c.loop.from c.args.self.now.links.items c.loop.self.links.items (g.H.Host.calls c.args.host.now) (g.H.Host.calls c.loop.host) (omega arith) c.loop.invariant.passes
