use Rattle.std.proofs.Common.{◌∙◌, ap, Some}
use Rattle.atspi_world_parties.proofs.places.conn_of.Goals as goal

pub returns-in-None : goal.returns-in-None
returns-in-None c = λ few. c.in-None.ensures

pub returns-in-Ok : goal.returns-in-Ok
returns-in-Ok c = λ few. ap Some c.in-Ok.ensures.1 ∙ c.in-Some.ensures
