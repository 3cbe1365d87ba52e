use Rattle.std.proofs.Common.{arith}
use Rattle.std.proofs.lemmas.List.{drop_all}
use Rattle.atspi_app.proofs.Told.{drop_here, telling_starts, telling_goes_on, telling_can, telling_ends}
use Rattle.atspi_app.proofs.telling.each_told.Goals as goal

pub loop-step-init : goal.loop-step-init
loop-step-init c = telling_starts c.args.tree.now c.args.known.now.heard c.args.bus.now _ c.args.steps.now c.requires c.new-told.ensures

pub push_told-requires : goal.push_told-requires
push_told-requires c =
    telling_can c.args.tree.now c.args.known.now.heard c.args.bus.now _ _ _ c.args.steps.now c.step-item.result
    (drop_here c.args.steps.now c.loop-step.step-index c.step-item.result (omega arith) c.step-item.is) c.loop-step.invariant

pub loop-step-preserved : goal.loop-step-preserved
loop-step-preserved c =
    telling_goes_on c.args.tree.now c.args.known.now.heard c.args.bus.now _ _ _ _ c.args.steps.now c.step-item.result
    (drop_here c.args.steps.now c.loop-step.step-index c.step-item.result (omega arith) c.step-item.is) c.loop-step.invariant c.in_ok-push_told.ensures

pub returns : goal.returns
returns c =
    telling_ends c.args.tree.now c.args.known.now.heard c.args.bus.now _ _ c.args.steps.now
    (drop_all c.loop-step.step-index c.args.steps.now (omega arith)) c.loop-step.invariant
