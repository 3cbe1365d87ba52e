use Rattle.std.proofs.Common.{[], refl, inl, inr}
use Rattle.atspi_live_bus.proofs.Worked.{goes_on, none_behind}
use Rattle.atspi_live_bus_examples.proofs.Facts.{stopped_other, stopped_unchanged}
use Rattle.atspi_live_bus_examples.proofs.closing.stopped_reads.Goals as goal

pub returns-clause-nothing : goal.returns-clause-nothing
returns-clause-nothing c x t = inl (refl, refl)

pub returns-clause-closed : goal.returns-clause-closed
returns-clause-closed c x t = inr (inl (inl refl, (refl, refl)))

pub returns-clause-quiet : goal.returns-clause-quiet
returns-clause-quiet c x none = inr (inr (goes_on, ([], x, [], [], (refl, refl), ([], ([], record { are = tt; parted = none_behind }, none), inl (refl, refl)), refl)))

pub returns-clause-same : goal.returns-clause-same
returns-clause-same c x y t calls w = stopped_unchanged x y t calls w

pub returns-clause-other : goal.returns-clause-other
returns-clause-other c x y t w = stopped_other x y t w
