use Rattle.atspi_run_replay.proofs.PlayLemmas.{did_if, did_part_if, halted_part_if, never_ok, nothing, ok_holds, refused_part_if, was_halted, was_refused}
use Rattle.atspi_run_replay.proofs.StopLemmas.{halted_never, refused_never}
use Rattle.atspi_run_replay.proofs.playing.play_line.Goals as goal

pub returns-in-Ok-clause-stage : goal.returns-in-Ok-clause-stage
returns-in-Ok-clause-stage g c = ok_holds c.write_trace.result _ c.in-Ok.ensures.stage

pub returns-in-Ok-clause-ok : goal.returns-in-Ok-clause-ok
returns-in-Ok-clause-ok g c = did_if c.write_trace.result c.args.options c.args.line.now _ _ _ _ c.in-Ok.ensures.line (rw c.trace-from.ensures at c.write_trace.ensures.ok)

pub returns-in-Ok-clause-halted : goal.returns-in-Ok-clause-halted
returns-in-Ok-clause-halted g c = halted_never c.write_trace.result _ c.write_trace.ensures.not_halted

pub returns-in-Ok-clause-refused : goal.returns-in-Ok-clause-refused
returns-in-Ok-clause-refused g c = refused_never c.write_trace.result _ c.write_trace.ensures.not_refused

pub returns-in-Ok-clause-err : goal.returns-in-Ok-clause-err
returns-in-Ok-clause-err g c = did_part_if c.write_trace.result c.args.options c.args.line.now c.args.number _ _ _ _ c.in-Ok.ensures.line (rw c.trace-from.ensures at c.write_trace.ensures.err)

pub returns-in-Err-Refused-clause-stage : goal.returns-in-Err-Refused-clause-stage
returns-in-Err-Refused-clause-stage g c = never_ok c.refuse.result _ c.refuse.ensures.stops

pub returns-in-Err-Refused-clause-ok : goal.returns-in-Err-Refused-clause-ok
returns-in-Err-Refused-clause-ok g c = never_ok c.refuse.result _ c.refuse.ensures.stops

pub returns-in-Err-Refused-clause-halted : goal.returns-in-Err-Refused-clause-halted
returns-in-Err-Refused-clause-halted g c = halted_never c.refuse.result _ c.refuse.ensures.not_halted

pub returns-in-Err-Refused-clause-refused : goal.returns-in-Err-Refused-clause-refused
returns-in-Err-Refused-clause-refused g c =
    was_refused c.refuse.result _ c.args.line.now c.args.number c.in-Err-Refused.why _ _ (rw c.in-Err-Refused.field-0-is at c.in-Err-Refused.ensures.line) c.refuse.ensures.refused

pub returns-in-Err-Refused-clause-err : goal.returns-in-Err-Refused-clause-err
returns-in-Err-Refused-clause-err g c =
    refused_part_if c.refuse.result c.args.options c.args.line.now c.args.number _ _ c.in-Err-Refused.why _ _ (rw c.in-Err-Refused.field-0-is at c.in-Err-Refused.ensures.line) c.refuse.ensures.err

pub returns-in-Err-Halted-clause-stage : goal.returns-in-Err-Halted-clause-stage
returns-in-Err-Halted-clause-stage g c = never_ok c.finish.result _ c.finish.ensures.stops

pub returns-in-Err-Halted-clause-ok : goal.returns-in-Err-Halted-clause-ok
returns-in-Err-Halted-clause-ok g c = never_ok c.finish.result _ c.finish.ensures.stops

pub returns-in-Err-Halted-clause-halted : goal.returns-in-Err-Halted-clause-halted
returns-in-Err-Halted-clause-halted g c =
    was_halted c.finish.result c.args.options c.args.line.now _ _ c.in-Err-Halted.halt _ _ (rw c.in-Err-Halted.field-0-is at c.in-Err-Halted.ensures.line) (rw c.trace-from.ensures at c.finish.ensures.halted)

pub returns-in-Err-Halted-clause-refused : goal.returns-in-Err-Halted-clause-refused
returns-in-Err-Halted-clause-refused g c = refused_never c.finish.result _ c.finish.ensures.not_refused

pub returns-in-Err-Halted-clause-err : goal.returns-in-Err-Halted-clause-err
returns-in-Err-Halted-clause-err g c =
    halted_part_if c.finish.result c.args.options c.args.line.now c.args.number _ _ c.in-Err-Halted.halt _ _ (rw c.in-Err-Halted.field-0-is at c.in-Err-Halted.ensures.line) (rw c.trace-from.ensures at c.finish.ensures.err)

pub returns-in-Err-Write-clause-err : goal.returns-in-Err-Write-clause-err
returns-in-Err-Write-clause-err g c = nothing c.args.options c.args.line.now c.args.number _ _ _

pub returns-in-Err-NoMemory-clause-err : goal.returns-in-Err-NoMemory-clause-err
returns-in-Err-NoMemory-clause-err g c = nothing c.args.options c.args.line.now c.args.number _ _ _
