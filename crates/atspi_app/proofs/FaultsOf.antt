-- Which fault of a part is which of the application.
use Rattle.std.proofs.Common.{◌≡◌, refl, sym, ap, ◌∙◌, subst}
use Rattle.std.specs.Prelude.{List, Result, Err}
use Rattle.atspi_tree_model.specs.declared.step.Step.{Step}
use Rattle.atspi_app_exported.specs.Asking.{AnswersSteps}
use Rattle.atspi_tree_model.specs.declared.edit.EditFault.{EditFault}
use Rattle.atspi_tree_edits.specs.declared.fault.EditRefused.{EditRefused}
use Rattle.atspi_tree_edits.specs.declared.fault.EditRefused.TheVariants as edits
use Rattle.atspi_protocol.specs.declared.ends.fault.EndFault.{EndFault}
use Rattle.atspi_protocol.specs.declared.ends.fault.EndFault.TheVariants as ends
use Rattle.atspi_app_known.specs.application.Faults.{of_end}
use Rattle.atspi_app_known.specs.declared.application.fault.AppFault.{AppFault}
use Rattle.atspi_app_known.specs.declared.application.fault.AppFault.TheVariants as faults
use Rattle.atspi_app.specs.inner.Faults.{of_edit}

same_error : {T : Type 0} (a b : AppFault) → ◌≡◌ {A = Result T AppFault} (Err a) (Err b) → a ≡ b
same_error a b h = cc

end_spent : (fault : EndFault) → of_end fault ≡ faults.Spent → fault ≡ ends.Spent
end_spent ends.Spent h = refl
end_spent ends.NoMemory h = absurd cc

pub end_is_spent : {T : Type 0} (fault : EndFault) (e : AppFault) → e ≡ of_end fault → ◌≡◌ {A = Result T AppFault} (Err e) (Err faults.Spent)
    → ◌≡◌ {A = Result T EndFault} (Err fault) (Err ends.Spent)
end_is_spent {T} fault e is h = ap Err (end_spent fault (sym is ∙ same_error {T = T} e faults.Spent h))

end_refused : (fault : EndFault) (why : EditFault) → of_end fault ≡ faults.Refused why → ⊥
end_refused ends.Spent why h = cc
end_refused ends.NoMemory why h = cc

pub end_is_not_refused : {T : Type 0} (fault : EndFault) (e : AppFault) (why : EditFault) → e ≡ of_end fault → ◌≡◌ {A = Result T AppFault} (Err e) (Err (faults.Refused why)) → ⊥
end_is_not_refused {T} fault e why is h = end_refused fault why (sym is ∙ same_error {T = T} e (faults.Refused why) h)

-- want of memory is neither
pub want_is_not_spent : {T : Type 0} (e : EndFault) → e ≡ ends.NoMemory
    → ◌≡◌ {A = Result T EndFault} (Err e) (Err ends.Spent) → ⊥
want_is_not_spent {T} e is h = let x : ◌≡◌ {A = Result T EndFault} (Err ends.NoMemory) (Err ends.Spent) = ap Err (sym is) ∙ h in cc

pub memory_is_not_spent : {T : Type 0} (e : AppFault) → e ≡ faults.NoMemory → ◌≡◌ {A = Result T AppFault} (Err e) (Err faults.Spent) → ⊥
memory_is_not_spent {T} e is h = let x : faults.NoMemory ≡ faults.Spent = sym is ∙ same_error {T = T} e faults.Spent h in cc

pub memory_is_not_refused : {T : Type 0} (e : AppFault) (why : EditFault) → e ≡ faults.NoMemory → ◌≡◌ {A = Result T AppFault} (Err e) (Err (faults.Refused why)) → ⊥
memory_is_not_refused {T} e why is h = let x : faults.NoMemory ≡ faults.Refused why = sym is ∙ same_error {T = T} e (faults.Refused why) h in cc

-- an edit's fault
edit_refused_by : (fault : EditRefused) (why : EditFault) → of_edit fault ≡ faults.Refused why → fault ≡ edits.Refused why
edit_refused_by (edits.Refused other) why h = let same : other ≡ why = cc in ap edits.Refused same
edit_refused_by edits.NoMemory why h = absurd cc

pub edit_is_refused : {T : Type 0} (fault : EditRefused) (e : AppFault) (why : EditFault) → e ≡ of_edit fault → ◌≡◌ {A = Result T AppFault} (Err e) (Err (faults.Refused why))
    → fault ≡ edits.Refused why
edit_is_refused {T} fault e why is h = edit_refused_by fault why (sym is ∙ same_error {T = T} e (faults.Refused why) h)

edit_spent_by : (fault : EditRefused) → of_edit fault ≡ faults.Spent → ⊥
edit_spent_by (edits.Refused other) h = cc
edit_spent_by edits.NoMemory h = cc

pub edit_is_not_spent : {T : Type 0} (fault : EditRefused) (e : AppFault) → e ≡ of_edit fault → ◌≡◌ {A = Result T AppFault} (Err e) (Err faults.Spent) → ⊥
edit_is_not_spent {T} fault e is h = edit_spent_by fault (sym is ∙ same_error {T = T} e faults.Spent h)

-- the fault that was meant
pub refused_by : (fault : EditRefused) (why : EditFault) (meant : Result (List Step) EditFault) → fault ≡ edits.Refused why → AnswersSteps (Err fault) meant → meant ≡ Err why
refused_by fault why meant e h = subst (λ (f : EditRefused). AnswersSteps (Err f) meant) e h
