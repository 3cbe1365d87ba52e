use Rattle.std.proofs.Common.{None, Some, refl, subst}
use Rattle.atspi_world.proofs.Lining.{Finds, exit_some, exit_none}
use Rattle.atspi_world.proofs.Results.{both_ok}
use Rattle.atspi_world.proofs.stage.Stage.exit_of.Goals as goal

pub returns-in-Some-clause-does : goal.returns-in-Some-clause-does
returns-in-Some-clause-does g c =
    both_ok c.exit.result (λ done linked. exit_some c.args.who c.in-Some.conn _ _ c.requires.end (subst (Finds (Some c.in-Some.conn) c.args.who) c.deref.ensures.value c.in-Some.ensures) done linked refl refl
    (record { registry = refl; kits = refl; spares = refl })) c.exit.ensures.does c.exit.ensures.linked

pub returns-in-None-clause-does : goal.returns-in-None-clause-does
returns-in-None-clause-does g c = exit_none c.args.who _ _ (subst (Finds None c.args.who) c.deref.ensures.value c.in-None.ensures)
