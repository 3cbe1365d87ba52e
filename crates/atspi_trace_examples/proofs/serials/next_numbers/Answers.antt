use Rattle.std.proofs.Common.{◌≡◌, refl, arith}
use Rattle.atspi_trace_examples.proofs.serials.next_numbers.Goals as goal

pub returns-clause-first : goal.returns-clause-first
returns-clause-first c = refl

pub returns-clause-second : goal.returns-clause-second
returns-clause-second c = refl

pub returns-clause-of_another : goal.returns-clause-of_another
returns-clause-of_another c = refl

pub returns-clause-too_late : goal.returns-clause-too_late
returns-clause-too_late c h = let same : 3 ≡ 2 = h in absurd (omega (arith, same))

pub returns-clause-registry : goal.returns-clause-registry
returns-clause-registry c = refl

pub returns-clause-bus : goal.returns-clause-bus
returns-clause-bus c = tt

pub returns-clause-anything : goal.returns-clause-anything
returns-clause-anything c = tt
