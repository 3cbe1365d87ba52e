use Rattle.std.proofs.lemmas.Result.{IfErr-weaker}
use Rattle.atspi_run_replay.proofs.Script.{turned}
use Rattle.atspi_run_replay.proofs.making.make_turns.Goals as goal

pub returns-then-number-eq0-clause-done : goal.returns-then-number-eq0-clause-done
returns-then-number-eq0-clause-done g c = turned c.act.result c.args.number _ _ c.if-number-eq0.true c.act.ensures.done

pub returns-then-number-eq0-clause-stops : goal.returns-then-number-eq0-clause-stops
returns-then-number-eq0-clause-stops g c = IfErr-weaker c.act.result _ _ (λ stop h. (c.if-number-eq0.true, h)) c.act.ensures.stops
