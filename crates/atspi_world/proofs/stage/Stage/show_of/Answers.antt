use Rattle.std.proofs.Common.{None, Some, subst}
use Rattle.std.proofs.lemmas.Result.{on_ok_weaker}
use Rattle.atspi_script_lines.specs.declared.line.Party.TheVariants.{App}
use Rattle.atspi_world.proofs.Lining.{Finds}
use Rattle.atspi_world.proofs.Shows.{show_some, show_none}
use Rattle.atspi_world.proofs.stage.Stage.show_of.Goals as goal

pub returns-in-Some-clause-does : goal.returns-in-Some-clause-does
returns-in-Some-clause-does g c =
    on_ok_weaker c.show.result (show_some c.args.reader c.args.app c.in-Some.conn _ _ (subst (Finds (Some c.in-Some.conn) (App c.args.app)) c.deref.ensures.value c.in-Some.ensures)) c.show.ensures.shows

pub returns-in-None-clause-does : goal.returns-in-None-clause-does
returns-in-None-clause-does g c = show_none c.args.reader c.args.app _ _ (subst (Finds None (App c.args.app)) c.deref.ensures.value c.in-None.ensures)
