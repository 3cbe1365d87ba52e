use Rattle.std.proofs.Common.{drop}
use Rattle.atspi_app_exported.specs.Boxed.{kinds_in, parts_in}
use Rattle.atspi_app_exported.specs.Parts.{IsExported}
use Rattle.atspi_app_exported.proofs.AllDone.{IsDoing}
use Rattle.atspi_app_exported.proofs.exported.Exported.apply_all.Given as goal

abbrev pub invariant-loop-step : goal.invariant-loop-step
invariant-loop-step g l =
    record {
      exported : IsExported (kinds_in (λ b. (goal.Face-dyn g (b.vtable, b.value)).of_kind b.value) l.self.kit) (parts_in (λ b. (goal.Face-dyn g (b.vtable, b.value)).nodes b.value) l.self);
      doing : IsDoing (parts_in (λ b. (goal.Face-dyn g (b.vtable, b.value)).nodes b.value) l.fn.self) (parts_in (λ b. (goal.Face-dyn g (b.vtable, b.value)).nodes b.value) l.self) (drop l.step-index l.list) l.fn.steps;
    }
