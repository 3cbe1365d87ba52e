use Rattle.std.proofs.Common.{[], ◌∷◌, refl, sym, inl, inr, arith, lit<}
use Rattle.atspi_live_examples.proofs.OfApp.Asked.{first_is}
use Rattle.atspi_live_examples.proofs.OfApp.Paced.{empty_takes, none_passed, passed, some_none}
use Rattle.atspi_live_examples.proofs.app.pacing.lines_in_turn.Goals as goal

pub returns-clause-passed : goal.returns-clause-passed
returns-clause-passed c = inl ([], refl, empty_takes, refl)

pub returns-clause-other_rounds : goal.returns-clause-other_rounds
returns-clause-other_rounds c h = omega (arith, (passed [] 2 3 1 (2 ∷ []) h).0)

pub returns-clause-other_mark : goal.returns-clause-other_mark
returns-clause-other_mark c h = omega (arith, first_is (passed [] 2 1 1 (3 ∷ []) h).1)

pub returns-clause-no_mark : goal.returns-clause-no_mark
returns-clause-no_mark c h = some_none (sym (passed [] 2 1 1 [] h).1)

pub returns-clause-none : goal.returns-clause-none
returns-clause-none c = inr (refl, refl, refl, refl)

pub returns-clause-none_marked : goal.returns-clause-none_marked
returns-clause-none_marked c h = some_none (none_passed [] 2 1 1 (2 ∷ []) h).2

pub returns-clause-none_moved : goal.returns-clause-none_moved
returns-clause-none_moved c h = omega (arith, (none_passed [] 2 1 2 [] h).0)

pub returns-clause-none_long : goal.returns-clause-none_long
returns-clause-none_long c h = omega (arith, (none_passed [] 2 2 1 [] h).1)

pub returns-clause-waits : goal.returns-clause-waits
returns-clause-waits c = inl (lit< tt, refl, refl, refl)

pub returns-clause-waits_less : goal.returns-clause-waits_less
returns-clause-waits_less c (inl h) = omega (arith, h.1)
returns-clause-waits_less c (inr h) = omega (arith, h.0)

pub returns-clause-waits_moved : goal.returns-clause-waits_moved
returns-clause-waits_moved c (inl h) = omega (arith, h.2)
returns-clause-waits_moved c (inr h) = omega (arith, h.0)

pub returns-clause-waits_marked : goal.returns-clause-waits_marked
returns-clause-waits_marked c (inl h) = some_none h.3
returns-clause-waits_marked c (inr h) = omega (arith, h.0)

pub returns-clause-goes : goal.returns-clause-goes
returns-clause-goes c = inr (refl, inl ([], refl, empty_takes, refl))

pub returns-clause-stays : goal.returns-clause-stays
returns-clause-stays c (inl h) = omega (arith, h.0)
returns-clause-stays c (inr h) = omega (arith, (passed [] 2 0 0 [] h.1).0)

pub returns-clause-too_soon : goal.returns-clause-too_soon
returns-clause-too_soon c (inl h) = omega (arith, h.2)
returns-clause-too_soon c (inr h) = omega (arith, h.0)
