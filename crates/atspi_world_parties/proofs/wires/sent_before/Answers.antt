use Rattle.std.proofs.Common.{◌≡◌, ◌∙◌, sym, ap, arith}
use Rattle.atspi_world_parties.specs.Wires.{sent_before}
use Rattle.atspi_world_parties.proofs.Found.{found_here, found_back}
use Rattle.atspi_world_parties.proofs.wires.sent_before.Goals as goal

pub returns-in-Some : goal.returns-in-Some
returns-in-Some c =
    found_here c.args.who c.args.serial c.args.trace.now c.loop-left.left _ c.in-Some.message.now (omega arith) (omega (arith, c.requires, c.loop-left.invariant.within)) (cc (c.index-trace-left.is)) c.in-Some.ensures
    ∙ sym c.loop-left.invariant.none

pub loop-left-preserved : goal.loop-left-preserved
loop-left-preserved c = record {
  within = omega arith;
  none = c.loop-left.invariant.none
      ∙ found_back c.args.who c.args.serial c.args.trace.now c.loop-left.left _ (omega arith) (omega (arith, c.requires, c.loop-left.invariant.within)) (cc (c.index-trace-left.is)) c.in-None.ensures;
}

pub returns : goal.returns
returns c = let start : c.loop-left.left ≡ 0 = omega arith in sym (c.loop-left.invariant.none ∙ ap (sent_before c.args.who c.args.serial c.args.trace.now) start)
