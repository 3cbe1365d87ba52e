use Rattle.std.proofs.Common.{[], ◌∷◌, refl, sym, append-nil}
use Rattle.atspi_live_bus.specs.Asked.{popping}
use Rattle.atspi_live_bus_examples.proofs.coursing.steps_of_a_course.Goals as goal

pub returns-clause-one : goal.returns-clause-one
returns-clause-one c x b tells leads are = (b, tells, leads, are, refl, refl, refl, refl)

pub returns-clause-told : goal.returns-clause-told
returns-clause-told c b own closings = refl

pub returns-clause-handed : goal.returns-clause-handed
returns-clause-handed c x b leads = (popping 0 (7 ∷ []) ∷ [], (refl, tt), (b, leads, refl), refl, refl)

pub returns-clause-none_handed : goal.returns-clause-none_handed
returns-clause-none_handed c x = ([], tt, refl, sym (append-nil x.asked), refl)
