use Rattle.std.proofs.Common.{◌≡◌, inl, inr, ◌⊎◌, ◌∙◌, sym, ap, ℕ, List, ◌≤◌, arith, length, Err}
use Rattle.std.proofs.lemmas.Result.{err_from_is_err_and}
use Rattle.atspi_base.specs.valid_names.Names.{IsBusName, IsElement}
use Rattle.atspi_base.specs.declared.valid_names.elements.Form.TheVariants.{WellKnown}
use Rattle.atspi_base.specs.declared.valid_names.fault.NameFault.TheVariants as faults
use Rattle.atspi_match.specs.Conditions.{IsNamespace}
use Rattle.atspi_match.proofs.NamespaceLemmas.{element_from, no_element}
use Rattle.atspi_match.proofs.value_of_key.check_namespace.Goals as goal
use Rattle.atspi_match.proofs.value_of_key.check_namespace.Goals.{then-not-is_element-via-then-not-is_element, then-not-is_element-via-else-not-is_element+then-value-gt255}

neither : (bytes : List ℕ) → (IsBusName bytes → ⊥) → (IsElement WellKnown bytes × (length bytes ≤ 255) → ⊥) → IsNamespace bytes → ⊥
neither bytes n m (inl h) = n h
neither bytes n m (inr h) = m h

pub returns-in_err-read-clause-form : goal.returns-in_err-read-clause-form
returns-in_err-read-clause-form c =
    let p = err_from_is_err_and c.from_residual.result c.from_residual.ensures.1 in
    λ e. neither c.args.value.now
    (c.in_err-read.ensures.form.0 (let is : p.0 ≡ faults.Form = cc (sym p.1 ∙ e) in ap Err (sym p.2 ∙ is)))
    (λ h. elim c.then-not-is_element.branch [
      | then-not-is_element-via-then-not-is_element w ↦ no_element c.args.value.now (sym c.is_element.ensures ∙ w.if-not-is_element.true) h.0
      | then-not-is_element-via-else-not-is_element+then-value-gt255 w ↦ omega (arith, w.if-value-gt255.true, h.1)
    ])

pub returns-else-value-gt255-clause-ok : goal.returns-else-value-gt255-clause-ok
returns-else-value-gt255-clause-ok c = inr (element_from c.args.value.now (sym c.is_element.ensures ∙ c.if-not-is_element.false), omega arith)
