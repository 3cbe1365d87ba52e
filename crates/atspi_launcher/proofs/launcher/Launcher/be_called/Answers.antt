use Rattle.std.proofs.Common.{◌≤◌, ap, sym, subst}
use Rattle.atspi_message_in_place.specs.View.{bytes_of, envelope_at}
use Rattle.atspi_launcher.specs.Launching.{Launcher}
use Rattle.atspi_launcher.proofs.Doing.{same_step, quiet, called_nobody}
use Rattle.atspi_launcher.proofs.launcher.Launcher.be_called.Goals as goal

pub returns-in-None : goal.returns-in-None
returns-in-None c =
    same_step _ _ _ _ _ (sym (called_nobody c.args.self.now.state (envelope_at c.args.m.now) c.requires (ap bytes_of c.in-None.is)))
    (quiet _ c.args.self.now (subst (λ (l : Launcher). l.state.next ≤ 4294967296) c.self.view_is c.self.invariant))
