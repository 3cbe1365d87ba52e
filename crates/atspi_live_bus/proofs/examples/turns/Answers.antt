use Rattle.std.proofs.Common.{[], ◌∷◌}
use Rattle.atspi_live_host.specs.declared.call.Did.TheVariants.{Done, NotYet}
use Rattle.atspi_live_host.specs.declared.call.Call.TheVariants.{Accept}
use Rattle.atspi_live_bus.specs.Cases.{one_link}
use Rattle.atspi_live_bus.proofs.Worked.{answered_turn, closed_turn, ended_turn, gone, one_not_none, own_turn, quiet_turn, some_turn}
use Rattle.atspi_live_bus.proofs.examples.turns.Goals as goal

pub returns-clause-quiet : goal.returns-clause-quiet
returns-clause-quiet c = quiet_turn

pub returns-clause-answered : goal.returns-clause-answered
returns-clause-answered c = answered_turn

pub returns-clause-ended : goal.returns-clause-ended
returns-clause-ended c = (gone, ended_turn)

pub returns-clause-no_read : goal.returns-clause-no_read
returns-clause-no_read c y t = some_turn one_link y (Accept (Done 0) ∷ []) 0 t

pub returns-clause-not_closed : goal.returns-clause-not_closed
returns-clause-not_closed c y t = closed_turn one_link y (Accept (Done 0) ∷ []) 0 [] t

pub returns-clause-of_another : goal.returns-clause-of_another
returns-clause-of_another c y t = one_not_none (own_turn one_link y (Accept (Done 0) ∷ []) 1 0 [] NotYet [] t)
