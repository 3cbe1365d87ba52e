use Rattle.std.proofs.Common.{◌≡◌, ◌<◌, arith}
use Rattle.std.specs.Prelude.{Err}
use Rattle.std.proofs.lemmas.Grind.{common_steps}
use Rattle.atspi_match.specs.routing.Queues.{settled}
use Rattle.atspi_bus_steps.specs.InnerBus.{inner_of}
use Rattle.atspi_bus_steps.specs.declared.fault.BusFault.TheVariants.{Spent}
use Rattle.atspi_bus_steps.proofs.Settling.{settling-start, settling-next, settling-spent, settling-none}
use Rattle.atspi_bus_steps.proofs.inner.Inner.close_due.Goals as goal

pub loop-round-init : goal.loop-round-init
loop-round-init c = record { settling = settling-start c.args.rounds (inner_of c.args.self.now); sound = c.requires.sound }

pub returns-in-None-clause-ok : goal.returns-in-None-clause-ok
returns-in-None-clause-ok c =
    settling-none c.args.rounds c.loop-round.round (inner_of c.args.self.now) (inner_of c.loop-round.self) c.loop-round.invariant.settling c.in-None.ensures

pub returns-in_err-close-in-Some-clause-spent : goal.returns-in_err-close-in-Some-clause-spent
returns-in_err-close-in-Some-clause-spent c =
    let spent : c.close.result ≡ Err Spent → 4294967296 < (settled c.args.rounds (inner_of c.args.self.now)).state.next =
    λ e. settling-spent c.args.rounds c.loop-round.round (inner_of c.args.self.now) (inner_of c.loop-round.self) (c.in-Some.conn, c.in-Some.why) c.in-Some.ensures.0
    c.loop-round-test.true c.loop-round.invariant.settling c.in-Some.ensures.1 (c.close.ensures.spent e) in
    grind (arith, common_steps, spent)

pub loop-round-preserved : goal.loop-round-preserved
loop-round-preserved c = record {
  settling = settling-next c.args.rounds c.loop-round.round (inner_of c.args.self.now) (inner_of c.loop-round.self) (inner_of c.close.new.self) (c.in-Some.conn, c.in-Some.why) c.in-Some.ensures.0
      c.loop-round-test.true c.loop-round.invariant.settling c.in-Some.ensures.1 c.in_ok-close-in-Some.ensures.ok;
  sound = c.in_ok-close-in-Some.ensures.sound;
}
