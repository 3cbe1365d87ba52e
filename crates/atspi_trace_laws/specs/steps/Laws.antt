-- The law of steps, of lawful traces.
use Rattle.std.specs.Prelude.{ℕ, ◌≡◌, ◌<◌, List}
use Rattle.std.specs.List.{AllByRecursion}
use Rattle.atspi_tree_model.specs.declared.step.Step.TheVariants.{Add}
use Rattle.atspi_trace.specs.Entry.{Entry, changed}
use Rattle.atspi_trace_laws.specs.laws.NineLaws.{Everywhere, LawOfSteps}
use Rattle.atspi_trace_laws.specs.order.Laws.{OfEachTrace}

-- each step is one of a live application and applies to its tree, which is the fold of its steps
abbrev pub StepsApply : Type 0
StepsApply = OfEachTrace LawOfSteps

-- a node that the application added has a lower number
abbrev pub AddsLower : ℕ → ℕ → Entry → Type 0
AddsLower app number (changed a (Add n p i seed)) = a ≡ app → n < number
AddsLower app number entry = Unit {0}

-- NODE NUMBERS ARE NEVER USED AGAIN: where an application adds a node, its number is above that of the root, which is
-- 0, and of each node that the application added before, whatever became of it.
abbrev pub NumberIsNew : List Entry → Entry → List Entry → Type 0
NumberIsNew before (changed app (Add n p i seed)) behind = (0 < n) × AllByRecursion (AddsLower app n) before
NumberIsNew before entry behind = Unit {0}

abbrev pub NumbersAreNeverUsedAgain : Type 0
NumbersAreNeverUsedAgain = OfEachTrace (Everywhere NumberIsNew)
