use Rattle.std.proofs.Common.{refl, inl, inr}
use Rattle.atspi_live_bus_examples.proofs.Facts.{one_turn}
use Rattle.atspi_live_bus_examples.proofs.rounding.turns_of_links.Goals as goal

pub returns-clause-none : goal.returns-clause-none
returns-clause-none c x past = (refl, refl)

pub returns-clause-none_calls : goal.returns-clause-none_calls
returns-clause-none_calls c x y past calls t = t.0

pub returns-clause-none_same : goal.returns-clause-none_same
returns-clause-none_same c x y past calls t = t.1

pub returns-clause-closed : goal.returns-clause-closed
returns-clause-closed c x = inr (inl ((λ o. o), inr (inl ((λ o. o), (refl, refl)))))

pub returns-clause-cut : goal.returns-clause-cut
returns-clause-cut c x y past calls is = inl is

pub returns-clause-one : goal.returns-clause-one
returns-clause-one c x y past calls stands turn = one_turn x y past calls stands turn
