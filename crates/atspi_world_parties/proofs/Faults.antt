-- Which fault an answer has.
use Rattle.std.proofs.Common.{◌≡◌, sym, ap, ◌∙◌}
use Rattle.std.specs.Prelude.{Result, Ok, Err, IsErrOf, IsErrAnd}
use Rattle.std.proofs.lemmas.Result.{err_from_is_err_and}

-- the fault of an answer is the one that it was made of
abbrev err_or : {T F : Type 0} → F → Result T F → F
err_or other (Ok x) = other
err_or other (Err e) = e

pub err_is : {T F : Type 0} (e x : F) → IsErrOf {T = T} (Err e) x → e ≡ x
err_is e x is = ap (err_or e) is

pub given_is : {T F : Type 0} (r : Result T F) (e x : F) → IsErrAnd r (λ y. y ≡ e) → r ≡ Err x → e ≡ x
given_is r e x gives is = (let y = err_from_is_err_and r gives in sym y.2 ∙ ap (err_or e) (sym y.1 ∙ is))
