use Rattle.std.proofs.Common.{sym, subst, arith}
use Rattle.std.proofs.lemmas.List.{drop_all}
use Rattle.atspi_app_exported.specs.Boxed.{parts_in}
use Rattle.atspi_app_exported.proofs.AllDone.{IsDoing, drop_here, doing_starts, doing_applies, doing_goes_on, doing_fails, doing_ends, on_err_any}
use Rattle.atspi_app_exported.proofs.exported.Exported.apply_all.Goals as goal

pub loop-step-init : goal.loop-step-init
loop-step-init g c = record {
  exported = c.requires.exported;
  doing = subst (λ xs. IsDoing (parts_in (λ b. (goal.Face-dyn g (b.vtable, b.value)).nodes b.value) c.args.self.now) (parts_in (λ b. (goal.Face-dyn g (b.vtable, b.value)).nodes b.value) c.args.self.now) xs c.args.steps.now) (sym c.as_slice-list.ensures) (doing_starts (parts_in (λ b. (goal.Face-dyn g (b.vtable, b.value)).nodes b.value) c.args.self.now) c.args.steps.now c.requires.apply c.requires.one);
}

pub apply-requires-clause-applies : goal.apply-requires-clause-applies
apply-requires-clause-applies g c =
    doing_applies (parts_in (λ b. (goal.Face-dyn g (b.vtable, b.value)).nodes b.value) c.args.self.now) (parts_in (λ b. (goal.Face-dyn g (b.vtable, b.value)).nodes b.value) c.loop-step.self) _ _ c.args.steps.now c.step-item.result
    (drop_here c.as_slice-list.result.now c.loop-step.step-index c.step-item.result (omega arith) c.step-item.is) c.loop-step.invariant.doing

pub loop-step-preserved : goal.loop-step-preserved
loop-step-preserved g c = record {
  exported = c.in_ok-apply.ensures.exported;
  doing =
      doing_goes_on (parts_in (λ b. (goal.Face-dyn g (b.vtable, b.value)).nodes b.value) c.args.self.now) (parts_in (λ b. (goal.Face-dyn g (b.vtable, b.value)).nodes b.value) c.loop-step.self) (parts_in (λ b. (goal.Face-dyn g (b.vtable, b.value)).nodes b.value) c.apply.new.self) _ _ c.args.steps.now c.step-item.result
      (drop_here c.as_slice-list.result.now c.loop-step.step-index c.step-item.result (omega arith) c.step-item.is) c.loop-step.invariant.doing
      c.in_ok-apply.ensures.ok c.in_ok-apply.ensures.added;
}

pub returns-in_err-apply-clause-err : goal.returns-in_err-apply-clause-err
returns-in_err-apply-clause-err g c =
    on_err_any c.from_residual.result (
    doing_fails (parts_in (λ b. (goal.Face-dyn g (b.vtable, b.value)).nodes b.value) c.args.self.now) (parts_in (λ b. (goal.Face-dyn g (b.vtable, b.value)).nodes b.value) c.loop-step.self) (parts_in (λ b. (goal.Face-dyn g (b.vtable, b.value)).nodes b.value) c.apply.new.self) _ _ c.args.steps.now c.step-item.result
    (drop_here c.as_slice-list.result.now c.loop-step.step-index c.step-item.result (omega arith) c.step-item.is) c.loop-step.invariant.doing
    c.in_err-apply.ensures.err c.in_err-apply.ensures.cause
    )

pub returns-clause-ok : goal.returns-clause-ok
returns-clause-ok g c = (doing_ends (parts_in (λ b. (goal.Face-dyn g (b.vtable, b.value)).nodes b.value) c.args.self.now) (parts_in (λ b. (goal.Face-dyn g (b.vtable, b.value)).nodes b.value) c.loop-step.self) _ c.args.steps.now (drop_all c.loop-step.step-index c.as_slice-list.result.now (omega arith)) c.loop-step.invariant.doing).0

pub returns-clause-added : goal.returns-clause-added
returns-clause-added g c = (doing_ends (parts_in (λ b. (goal.Face-dyn g (b.vtable, b.value)).nodes b.value) c.args.self.now) (parts_in (λ b. (goal.Face-dyn g (b.vtable, b.value)).nodes b.value) c.loop-step.self) _ c.args.steps.now (drop_all c.loop-step.step-index c.as_slice-list.result.now (omega arith)) c.loop-step.invariant.doing).1
