use Rattle.std.proofs.Common.{None, Some, subst}
use Rattle.atspi_script_lines.specs.declared.line.Party.TheVariants.{App}
use Rattle.atspi_world.proofs.Lining.{Finds, edit_some, edit_none, edit_refused}
use Rattle.atspi_world.proofs.Results.{both_ok}
use Rattle.atspi_world.proofs.LinesHalted.{edit_line_spent}
use Rattle.atspi_world.proofs.stage.Stage.ask_edit.Goals as goal

pub returns-in-Some-clause-does : goal.returns-in-Some-clause-does
returns-in-Some-clause-does g c =
    both_ok c.edit.result (edit_some c.args.app c.args.edit.now c.in-Some.conn _ _ (subst (Finds (Some c.in-Some.conn) (App c.args.app)) c.deref.ensures.value c.in-Some.ensures)) c.edit.ensures.does c.edit.ensures.accepts

pub returns-in-Some-clause-refused : goal.returns-in-Some-clause-refused
returns-in-Some-clause-refused g c = λ why is.
    edit_refused c.args.app c.args.edit.now c.in-Some.conn _ why (subst (Finds (Some c.in-Some.conn) (App c.args.app)) c.deref.ensures.value c.in-Some.ensures) (c.edit.ensures.refused why is)

pub returns-in-None-clause-does : goal.returns-in-None-clause-does
returns-in-None-clause-does g c = edit_none c.args.app c.args.edit.now _ _ (subst (Finds None (App c.args.app)) c.deref.ensures.value c.in-None.ensures)

pub returns-in-Some-clause-spent : goal.returns-in-Some-clause-spent
returns-in-Some-clause-spent g c = λ is.
    edit_line_spent c.args.app c.args.edit.now c.in-Some.conn _ _ (subst (Finds (Some c.in-Some.conn) (App c.args.app)) c.deref.ensures.value c.in-Some.ensures) (c.edit.ensures.allowed is) (c.edit.ensures.spent is)
