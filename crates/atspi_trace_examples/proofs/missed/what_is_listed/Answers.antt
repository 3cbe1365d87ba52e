use Rattle.std.proofs.Common.{ℕ, List, [], ◌∷◌, length, refl, ap, arith}
use Rattle.std.specs.Prelude.{codes}
use Rattle.atspi_base.specs.valid_names.Elements.{are_two_or_more, are_elements, parts_of}
use Rattle.atspi_base.specs.valid_names.Names.{is_bus_name}
use Rattle.atspi_trace_examples.specs.missed.Cases.{listening_by}
use Rattle.atspi_trace_laws.proofs.OfOrder.Parties.{no_none, same_some}
use Rattle.atspi_trace_examples.proofs.missed.what_is_listed.Goals as goal

abbrev one : List (List ℕ × List ℕ)
one = listening_by (codes "object" ∷ [])

pub returns-clause-as_told : goal.returns-clause-as_told
unfolding is_bus_name are_two_or_more are_elements parts_of
returns-clause-as_told c = λ pairs two is. same_some one pairs is

pub returns-clause-too_short : goal.returns-clause-too_short
unfolding is_bus_name are_two_or_more are_elements parts_of
returns-clause-too_short c = λ h. absurd (omega (arith, ap length (h [] refl refl)))

pub returns-clause-never_told : goal.returns-clause-never_told
unfolding is_bus_name are_two_or_more are_elements parts_of
returns-clause-never_told c = λ h. absurd (omega (arith, ap length (h one refl refl)))

pub returns-clause-a_signal : goal.returns-clause-a_signal
returns-clause-a_signal c = λ pairs two is. absurd (omega (arith, two))

pub returns-clause-of_children : goal.returns-clause-of_children
returns-clause-of_children c = λ pairs two is. absurd (no_none pairs is)

pub returns-clause-of_another : goal.returns-clause-of_another
returns-clause-of_another c = tt
