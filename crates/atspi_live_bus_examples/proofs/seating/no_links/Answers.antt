use Rattle.std.proofs.Common.{[], refl, sym, inl}
use Rattle.atspi_live_host.specs.declared.call.Call.TheVariants.{Close}
use Rattle.atspi_live_bus.proofs.Worked.{not_none}
use Rattle.atspi_live_bus_examples.proofs.Facts.{none_some}
use Rattle.atspi_live_bus_examples.proofs.Linked.{none_dismissed}
use Rattle.atspi_live_bus_examples.proofs.seating.no_links.Goals as goal

pub returns-clause-dismissed : goal.returns-clause-dismissed
returns-clause-dismissed c = (refl, inl ((λ k o e. o), refl), refl)

pub returns-clause-not_dismissed : goal.returns-clause-not_dismissed
returns-clause-not_dismissed c y d = none_dismissed d.1

pub returns-clause-dismissed_same : goal.returns-clause-dismissed_same
returns-clause-dismissed_same c y calls d = d.0

pub returns-clause-settling : goal.returns-clause-settling
returns-clause-settling c = ([], [], tt, refl, refl, refl, refl, refl, refl)

pub returns-clause-settled : goal.returns-clause-settled
returns-clause-settled c = ([], tt, refl, refl, refl, refl, refl)

pub returns-clause-not_settled : goal.returns-clause-not_settled
returns-clause-not_settled c y s = not_none (Close 3) [] (sym s.5)

pub returns-clause-left : goal.returns-clause-left
returns-clause-left c x = ((refl, refl), tt)

pub returns-clause-one_taken : goal.returns-clause-one_taken
returns-clause-one_taken c = (refl, refl, λ d e. absurd (none_some d e))

pub returns-clause-none_taken : goal.returns-clause-none_taken
returns-clause-none_taken c = (refl, λ d e. absurd (none_some d e))

pub returns-clause-may_take : goal.returns-clause-may_take
returns-clause-may_take c = (refl, refl, λ d e. absurd (none_some d e))

pub returns-clause-may_take_none : goal.returns-clause-may_take_none
returns-clause-may_take_none c = (refl, λ d e. absurd (none_some d e))

pub returns-clause-some_taken : goal.returns-clause-some_taken
returns-clause-some_taken c = (refl, refl, λ d e. absurd (none_some d e))

pub returns-clause-all_taken : goal.returns-clause-all_taken
returns-clause-all_taken c = (refl, λ d e. absurd (none_some d e))

pub returns-clause-written : goal.returns-clause-written
returns-clause-written c = (refl, λ d e. absurd (none_some d e))

pub returns-clause-no_turn : goal.returns-clause-no_turn
returns-clause-no_turn c y past calls t = none_some t.1 t.2

pub returns-clause-no_cut : goal.returns-clause-no_cut
returns-clause-no_cut c y past calls t = none_some t.0 t.1
