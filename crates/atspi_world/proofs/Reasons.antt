-- What a line was refused for.
use Rattle.std.proofs.Common.{◌≡◌, Option, Some, refl, sym, ap, ◌∙◌, subst}
use Rattle.std.specs.Prelude.{Result, Ok, Err, IsErrAnd}
use Rattle.std.proofs.lemmas.Result.{err_from_is_err_and}
use Rattle.atspi_tree_model.specs.declared.edit.EditFault.{EditFault}
use Rattle.atspi_trace.specs.Work as work
use Rattle.atspi_app_known.specs.declared.application.fault.AppFault.{AppFault}
use Rattle.atspi_app_known.specs.declared.application.fault.AppFault.TheVariants as app
use Rattle.atspi_reader_calls.specs.declared.fault.CallFault.{CallFault}
use Rattle.atspi_reader_calls.specs.declared.fault.CallFault.TheVariants as call
use Rattle.atspi_world.specs.declared.fault.ActFault.{ActFault}
use Rattle.atspi_world.specs.declared.fault.ActFault.TheVariants.{Refused, Spent, NoMemory}
use Rattle.atspi_world_parties.specs.declared.refusing.Refusal.{Refusal}
use Rattle.atspi_world_parties.specs.declared.refusing.Refusal.TheVariants.{NotHeld, Edit}
use Rattle.atspi_world.specs.Faults.{of_app, of_call}
use Rattle.atspi_world_parties.specs.Refusals.{refusal_of}

-- the fault of an answer is the one that its end gave
abbrev pub fault_or : {T : Type 0} → ActFault → Result T ActFault → ActFault
fault_or other (Ok x) = other
fault_or other (Err e) = e

abbrev pub why_or : Refusal → ActFault → Refusal
why_or other (Refused why) = why
why_or other fault = other

given_as : {T : Type 0} (r : Result T ActFault) (e : ActFault) (why : Refusal) → IsErrAnd r (λ y. y ≡ e) → r ≡ Err (Refused why) → e ≡ Refused why
given_as r e why gives is = (let y = err_from_is_err_and r gives in sym y.2 ∙ ap (fault_or e) (sym y.1 ∙ is))

pub edit_why : {T : Type 0} (f : AppFault) (r : Result T ActFault) (why : Refusal) (P : Option work.Refusal → Type 0) → IsErrAnd r (λ e. e ≡ of_app f) → r ≡ Err (Refused why)
    → ((fault : EditFault) → f ≡ app.Refused fault → P (Some (work.of_edit fault))) → P (Some (refusal_of why))
edit_why (app.Refused fault) r why P gives is says = subst (λ w. P (Some (refusal_of w))) (ap (why_or why) (given_as r (Refused (Edit fault)) why gives is)) (says fault refl)
edit_why app.Spent r why P gives is says = let clash : Spent ≡ Refused why = given_as r Spent why gives is in absurd cc
edit_why app.NoMemory r why P gives is says = let clash : NoMemory ≡ Refused why = given_as r NoMemory why gives is in absurd cc

pub call_why : {T : Type 0} (f : CallFault) (r : Result T ActFault) (why : Refusal) (P : Option work.Refusal → Type 0) → IsErrAnd r (λ e. e ≡ of_call f) → r ≡ Err (Refused why)
    → (f ≡ call.NotHeld → P (Some work.not_held)) → P (Some (refusal_of why))
call_why call.NotHeld r why P gives is says = subst (λ w. P (Some (refusal_of w))) (ap (why_or why) (given_as r (Refused NotHeld) why gives is)) (says refl)
call_why call.Spent r why P gives is says = let clash : Spent ≡ Refused why = given_as r Spent why gives is in absurd cc
call_why call.NoMemory r why P gives is says = let clash : NoMemory ≡ Refused why = given_as r NoMemory why gives is in absurd cc
