use Rattle.std.proofs.Common.{[], ◌∷◌, refl}
use Rattle.std.specs.Prelude.{codes}
use Rattle.atspi_live_host.specs.declared.call.Did.TheVariants.{Done, NotYet}
use Rattle.atspi_live_host.specs.declared.call.Call.TheVariants.{Accept, Listen}
use Rattle.atspi_live_bus.proofs.Worked.{nothing_passed}
use Rattle.atspi_live_bus_examples.proofs.Facts.{some_byte, one_conn_of}
use Rattle.atspi_live_bus_examples.proofs.coursing.calls_of_a_course.Goals as goal

pub returns-clause-quiet : goal.returns-clause-quiet
returns-clause-quiet c = nothing_passed (Listen (codes "/p") (Done 0) ∷ Accept NotYet ∷ []) (λ k. refl) (λ k. refl)

pub returns-clause-taken : goal.returns-clause-taken
returns-clause-taken c fits = some_byte 97 [] (fits.said 3).0

pub returns-clause-given : goal.returns-clause-given
returns-clause-given c fits = some_byte 97 [] (fits.said 3).1

pub returns-clause-shared : goal.returns-clause-shared
returns-clause-shared c x cs three five fits = one_conn_of (fits.apart 3 5 0 three five)

pub returns-clause-led : goal.returns-clause-led
returns-clause-led c b cs fits = fits.run
