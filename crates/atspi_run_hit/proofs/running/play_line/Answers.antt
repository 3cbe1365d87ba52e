use Rattle.atspi_run_hit.proofs.Course.{did_if, did_part_if, never_ok, nothing, ok_holds, refused_never, refused_part_if, was_refused}
use Rattle.atspi_run_hit.proofs.running.play_line.Goals as goal

pub returns-in-Ok-clause-session : goal.returns-in-Ok-clause-session
returns-in-Ok-clause-session g c = ok_holds c.write.result _ c.in-Ok.ensures.session

pub returns-in-Ok-clause-ok : goal.returns-in-Ok-clause-ok
returns-in-Ok-clause-ok g c = did_if c.write.result c.args.line.now _ _ _ _ _ c.in-Ok.ensures.line c.write.ensures.ok

pub returns-in-Ok-clause-refused : goal.returns-in-Ok-clause-refused
returns-in-Ok-clause-refused g c = refused_never c.write.result _ c.write.ensures.not_refused

pub returns-in-Ok-clause-err : goal.returns-in-Ok-clause-err
returns-in-Ok-clause-err g c = did_part_if c.write.result c.args.line.now c.args.number _ _ _ _ _ c.in-Ok.ensures.line c.write.ensures.err

pub returns-in-Err-Refused-clause-session : goal.returns-in-Err-Refused-clause-session
returns-in-Err-Refused-clause-session g c = never_ok c.refuse.result _ c.refuse.ensures.stops

pub returns-in-Err-Refused-clause-ok : goal.returns-in-Err-Refused-clause-ok
returns-in-Err-Refused-clause-ok g c = never_ok c.refuse.result _ c.refuse.ensures.stops

pub returns-in-Err-Refused-clause-refused : goal.returns-in-Err-Refused-clause-refused
returns-in-Err-Refused-clause-refused g c =
    was_refused c.refuse.result _ c.args.line.now c.args.number c.in-Err-Refused.why _ _ (rw c.in-Err-Refused.field-0-is at c.in-Err-Refused.ensures.line) c.refuse.ensures.refused

pub returns-in-Err-Refused-clause-err : goal.returns-in-Err-Refused-clause-err
returns-in-Err-Refused-clause-err g c =
    refused_part_if c.refuse.result c.args.line.now c.args.number _ c.in-Err-Refused.why _ _ (rw c.in-Err-Refused.field-0-is at c.in-Err-Refused.ensures.line) c.refuse.ensures.err

pub returns-clause-err : goal.returns-clause-err
returns-clause-err g c = nothing c.args.line.now c.args.number _ _
