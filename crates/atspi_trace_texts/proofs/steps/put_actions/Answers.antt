use Rattle.atspi_trace_texts.proofs.Written.{action_written}
use Rattle.atspi_trace_texts.proofs.steps.put_actions.Goals as goal

pub loop-action-preserved : goal.loop-action-preserved
loop-action-preserved c = action_written c.args.actions.now c.loop-action.action-index c.action-item.result c.args.out.now c.loop-action.out c.extend.new.self c.put_text.new.out c.loop-action-test.true c.action-item.is c.loop-action.invariant c.in_ok-extend.ensures.ok c.in_ok-put_text.ensures.ok
