use Rattle.atspi_reader_laws.proofs.GivenUp.{given_up_only, given_up_then, given_up_until, begun_anew, row_anew}
use Rattle.atspi_reader_laws.proofs.laws.parts_are_given_up.Goals as goal

pub returns-clause-only : goal.returns-clause-only
returns-clause-only c = λ s e name path part. given_up_only path part name s e

pub returns-clause-each : goal.returns-clause-each
returns-clause-each c = λ s e name path part. given_up_then path part name s e

pub returns-clause-stay : goal.returns-clause-stay
returns-clause-stay c = λ s e name path part. given_up_until path part name s e

pub returns-clause-anew : goal.returns-clause-anew
returns-clause-anew c = λ s e name path part. begun_anew path part name s e

pub returns-clause-row : goal.returns-clause-row
returns-clause-row c = λ s e name path part. row_anew path part name s e
