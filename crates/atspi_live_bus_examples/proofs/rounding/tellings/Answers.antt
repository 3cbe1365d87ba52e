use Rattle.std.proofs.Common.{[], ◌∷◌, refl}
use Rattle.atspi_live_host.specs.declared.call.Call.TheVariants.{Close}
use Rattle.atspi_live_bus.specs.Course.{start}
use Rattle.atspi_live_bus_examples.proofs.Facts.{no_more_calls}
use Rattle.atspi_live_bus_examples.proofs.rounding.tellings.Goals as goal

pub returns-clause-no_more : goal.returns-clause-no_more
returns-clause-no_more c = tt

pub returns-clause-again : goal.returns-clause-again
returns-clause-again c d = d

pub returns-clause-such : goal.returns-clause-such
returns-clause-such c = (Close 5 ∷ [], (refl, refl), refl)

pub returns-clause-not_such : goal.returns-clause-not_such
returns-clause-not_such c d = d.1

pub returns-clause-other_calls : goal.returns-clause-other_calls
returns-clause-other_calls c d = no_more_calls d.0 d.2

pub returns-clause-moves_no_more : goal.returns-clause-moves_no_more
returns-clause-moves_no_more c = tt

pub returns-clause-moves_again : goal.returns-clause-moves_again
returns-clause-moves_again c m = m

pub returns-clause-moves : goal.returns-clause-moves
returns-clause-moves c = λ x s. (x, Close 3 ∷ [], (s.0, (s.1, (refl, s.0))), (s.0, refl), refl)

pub returns-clause-does_not_move : goal.returns-clause-does_not_move
returns-clause-does_not_move c m = (m start tt).2

pub returns-clause-does_not_reach : goal.returns-clause-does_not_reach
returns-clause-does_not_reach c m = (m start tt).3

pub returns-clause-moves_others : goal.returns-clause-moves_others
returns-clause-moves_others c m = no_more_calls (m start tt).1 (m start tt).4

pub returns-clause-no_premise : goal.returns-clause-no_premise
returns-clause-no_premise c = λ x s. absurd s
