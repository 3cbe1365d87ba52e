use Rattle.std.proofs.Common.{[], ◌∷◌, refl, arith}
use Rattle.atspi_units.proofs.CutLemmas.{one_unit, unit_within}
use Rattle.atspi_units.proofs.examples.held.Goals as goal

pub returns-clause-first : goal.returns-clause-first
returns-clause-first c = record { before = []; piece = _; behind = _; cut = refl; starts = refl; ends = refl; from = omega arith; upto = omega arith }

pub returns-clause-last : goal.returns-clause-last
returns-clause-last c = record { before = []; piece = _; behind = _; cut = refl; starts = refl; ends = refl; from = omega arith; upto = omega arith }

pub returns-clause-next : goal.returns-clause-next
returns-clause-next c = record { before = _ ∷ []; piece = _; behind = _; cut = refl; starts = refl; ends = refl; from = omega arith; upto = omega arith }

pub returns-clause-in_the_third : goal.returns-clause-in_the_third
returns-clause-in_the_third c = record { before = _ ∷ (_ ∷ []); piece = _; behind = _; cut = refl; starts = refl; ends = refl; from = omega arith; upto = omega arith }

pub returns-clause-not_the_one_before : goal.returns-clause-not_the_one_before
returns-clause-not_the_one_before c = λ u. absurd (omega (arith, u.upto))

pub returns-clause-not_two : goal.returns-clause-not_two
returns-clause-not_two c = λ u.
    let is = one_unit _ 2 0 3 0 4 (record { before = []; piece = _; behind = _; cut = refl; starts = refl; ends = refl; from = omega arith; upto = omega arith }) u in
    absurd (omega (arith, is.1))

pub returns-clause-not_in_part : goal.returns-clause-not_in_part
returns-clause-not_in_part c = λ u.
    let is = one_unit _ 2 0 3 1 3 (record { before = []; piece = _; behind = _; cut = refl; starts = refl; ends = refl; from = omega arith; upto = omega arith }) u in
    absurd (omega (arith, is.0))

pub returns-clause-not_behind_all : goal.returns-clause-not_behind_all
returns-clause-not_behind_all c = λ u. absurd (omega (arith, unit_within _ 4 4 5 u))
