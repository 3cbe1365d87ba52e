use Rattle.atspi_trace.specs.Work.{no_more}
use Rattle.atspi_world_parties.proofs.Seats.{is-started, not-started}
use Rattle.atspi_world_parties.proofs.refusing.unless_started.Goals as goal

pub returns-in-Some : goal.returns-in-Some
returns-in-Some c = λ ends seats. is-started _ ends _ _ seats c.in-Some.ensures

pub returns-in-None : goal.returns-in-None
returns-in-None c = λ ends seats. not-started _ ends _ no_more seats c.in-None.ensures
