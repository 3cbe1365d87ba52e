use Rattle.std.proofs.Common.{length, ap, arith}
use Rattle.atspi_units.proofs.CutLemmas.{unit_ends}
use Rattle.atspi_units.proofs.StretchLemmas.{stretch-ordered, stretch-from, stretch-to, stretch-sliced, stretch-counted, stretch-holds, stretch-unit}
use Rattle.atspi_units.proofs.window.unit_within.Goals as goal

pub range-part-requires-clause-start_le_end : goal.range-part-requires-clause-start_le_end
range-part-requires-clause-start_le_end c = stretch-ordered _ _ c.utf8.window _ _ _ c.in_ok-stretch.ensures.stretch

pub range-part-requires-clause-start_boundary : goal.range-part-requires-clause-start_boundary
range-part-requires-clause-start_boundary c = λ _. stretch-from _ _ c.utf8.window _ _ _ c.in_ok-stretch.ensures.stretch

pub range-part-requires-clause-end_boundary : goal.range-part-requires-clause-end_boundary
range-part-requires-clause-end_boundary c = stretch-to _ _ c.utf8.window _ _ _ c.in_ok-stretch.ensures.stretch

pub unit_at-requires : goal.unit_at-requires
unit_at-requires c =
    let part = stretch-sliced _ _ c.utf8.window _ _ _ c.in_ok-stretch.ensures.stretch _ c.range-part.ensures.value in
    omega (arith, ap length part, stretch-counted _ _ c.utf8.window _ _ _ c.in_ok-stretch.ensures.stretch, c.requires)

pub returns-in_err-start-clause-told : goal.returns-in_err-start-clause-told
returns-in_err-start-clause-told c =
    let part = stretch-sliced _ _ c.utf8.window _ _ _ c.in_ok-stretch.ensures.stretch _ c.range-part.ensures.value in
    let holds = stretch-holds _ _ c.utf8.window _ _ _ c.in_ok-stretch.ensures.stretch in
    absurd (omega (arith, ap length part, holds.1, c.in_err-start.ensures))

pub overflow_add-result-2 : goal.overflow_add-result-2
overflow_add-result-2 c =
    let part = stretch-sliced _ _ c.utf8.window _ _ _ c.in_ok-stretch.ensures.stretch _ c.range-part.ensures.value in
    omega (arith, ap length part, unit_ends _ _ _ _ _ c.in_ok-start.ensures, stretch-counted _ _ c.utf8.window _ _ _ c.in_ok-stretch.ensures.stretch, c.requires)

pub returns-clause-unit : goal.returns-clause-unit
returns-clause-unit c =
    let part = stretch-sliced _ _ c.utf8.window _ _ _ c.in_ok-stretch.ensures.stretch _ c.range-part.ensures.value in
    stretch-unit _ _ c.utf8.window _ _ _ c.in_ok-stretch.ensures.stretch _ _ (rw part at c.in_ok-start.ensures)
