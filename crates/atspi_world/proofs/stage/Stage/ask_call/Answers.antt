use Rattle.std.proofs.Common.{Some, subst}
use Rattle.atspi_script_lines.specs.declared.line.Party.TheVariants.{App, Reader}
use Rattle.atspi_world.proofs.Lining.{Finds, find_none, call_some, call_none, call_refused, callee_none}
use Rattle.atspi_world.proofs.Results.{both_ok}
use Rattle.atspi_world.proofs.LinesHalted.{call_line_spent}
use Rattle.atspi_world.proofs.stage.Stage.ask_call.Goals as goal

pub returns-clause-does : goal.returns-clause-does
returns-clause-does g c =
    both_ok c.call.result (call_some c.args.reader c.args.app c.args.node c.args.deed.now c.in-Some.conn c.in-Some-conn_of.callee _ _
    (subst (Finds (Some c.in-Some.conn) (Reader c.args.reader)) c.deref.ensures.value c.in-Some.ensures)
    (subst (Finds (Some c.in-Some-conn_of.callee) (App c.args.app)) c.deref-2.ensures.value c.in-Some-conn_of.ensures)) c.call.ensures.does c.call.ensures.accepts

pub returns-in_default-clause-does : goal.returns-in_default-clause-does
returns-in_default-clause-does g c =
    call_none c.args.reader c.args.app c.args.node c.args.deed.now _ _
    (find_none c.conn_of.result (Reader c.args.reader) _ c.in_default.not-Some (subst (Finds c.conn_of.result (Reader c.args.reader)) c.deref.ensures.value c.conn_of.ensures))

pub returns-in_default-conn_of-clause-does : goal.returns-in_default-conn_of-clause-does
returns-in_default-conn_of-clause-does g c =
    callee_none c.args.reader c.args.app c.args.node c.args.deed.now _ _
    (find_none c.conn_of-2.result (App c.args.app) _ c.in_default-conn_of.not-Some (subst (Finds c.conn_of-2.result (App c.args.app)) c.deref-2.ensures.value c.conn_of-2.ensures))

pub returns-clause-refused : goal.returns-clause-refused
returns-clause-refused g c = λ why is.
    call_refused c.args.reader c.args.app c.args.node c.args.deed.now c.in-Some.conn c.in-Some-conn_of.callee _ why
    (subst (Finds (Some c.in-Some.conn) (Reader c.args.reader)) c.deref.ensures.value c.in-Some.ensures)
    (subst (Finds (Some c.in-Some-conn_of.callee) (App c.args.app)) c.deref-2.ensures.value c.in-Some-conn_of.ensures) (c.call.ensures.refused why is)

pub returns-clause-spent : goal.returns-clause-spent
returns-clause-spent g c = λ is.
    call_line_spent c.args.reader c.args.app c.args.node c.args.deed.now c.in-Some.conn c.in-Some-conn_of.callee _ _
    (subst (Finds (Some c.in-Some.conn) (Reader c.args.reader)) c.deref.ensures.value c.in-Some.ensures)
    (subst (Finds (Some c.in-Some-conn_of.callee) (App c.args.app)) c.deref-2.ensures.value c.in-Some-conn_of.ensures) (c.call.ensures.allowed is) (c.call.ensures.spent is)
