use Rattle.std.proofs.Common.{rules, take, drop}
use Rattle.std.proofs.Math.Seq.{take-add}
use Rattle.std.proofs.lemmas.List.{take_rest, take-append-drop, append-nil}
use Rattle.atspi_base.specs.Outside.{appends_both, appends_none}
use Rattle.atspi_base.proofs.outside.write_all.Goals as goal

pub loop-at-preserved : goal.loop-at-preserved
loop-at-preserved g c =
    record {
      within = search rules;
      appended = rw take-add (appends_both _ _ _ _ _ c.loop-at.invariant.appended (rw take_rest at c.in-Ok.ensures.bytes));
      steady = search rules;
    }

pub returns-in_default-clause-err : goal.returns-in_default-clause-err
returns-in_default-clause-err g c = (
  take c.loop-at.at c.args.bytes.now,
  drop c.loop-at.at c.args.bytes.now,
  take-append-drop c.loop-at.at c.args.bytes.now,
  rw (← append-nil (take c.loop-at.at c.args.bytes.now)) (appends_both _ _ _ _ _ c.loop-at.invariant.appended (appends_none _ _ c.in_default.ensures.bytes)),
)
