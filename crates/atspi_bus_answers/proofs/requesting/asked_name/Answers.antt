use Rattle.std.proofs.Common.{◌≡◌, sym, ap, subst, ◌∙◌, List, ℕ}
use Rattle.std.specs.Prelude.{bytes_eq}
use Rattle.atspi_base.specs.valid_names.Names.{IsBusName, is_bus_name, is_unique_name}
use Rattle.atspi_names.specs.Owners.{own_name}
use Rattle.atspi_bus_answers.proofs.NameTexts.{name-chars, refused}
use Rattle.atspi_bus_answers.proofs.OwnerNames.{asked-unique, asked-own, asked-yes, asked-no_name}
use Rattle.atspi_bus_answers.proofs.requesting.asked_name.Goals as goal

pub returns-then-is_unique : goal.returns-then-is_unique
returns-then-is_unique c =
    let same = c.in-Ok.ensures.ok.0 ∙ c.as_bytes.ensures.value in
    asked-unique c.args.text.now (subst IsBusName c.as_bytes.ensures.value c.in-Ok.ensures.ok.1)
    (ap is_unique_name (sym same) ∙ sym c.is_unique.ensures ∙ c.if-is_unique.true)

pub returns-then-is_own : goal.returns-then-is_own
returns-then-is_own c =
    let same = c.in-Ok.ensures.ok.0 ∙ c.as_bytes.ensures.value in
    asked-own c.args.text.now (ap (λ (t : List ℕ). bytes_eq t own_name) (sym (c.as_str.ensures.bytes ∙ same)) ∙ sym c.is_own.ensures ∙ c.if-is_own.true)

pub returns-else-is_own : goal.returns-else-is_own
returns-else-is_own c =
    let same = c.in-Ok.ensures.ok.0 ∙ c.as_bytes.ensures.value in
    let name = subst IsBusName c.as_bytes.ensures.value c.in-Ok.ensures.ok.1 in (
      same ∙ sym (name-chars c.args.text.now name),
      asked-yes c.args.text.now name (ap is_unique_name (sym same) ∙ sym c.is_unique.ensures ∙ c.if-is_unique.false)
          (ap (λ (t : List ℕ). bytes_eq t own_name) (sym (c.as_str.ensures.bytes ∙ same)) ∙ sym c.is_own.ensures ∙ c.if-is_own.false),
    )

pub returns-in-Err-Form : goal.returns-in-Err-Form
returns-in-Err-Form c =
    asked-no_name c.args.text.now c.utf8.text (refused is_bus_name c.in-Err-Form.field-0 c.as_bytes.result.now c.args.text.now c.as_bytes.ensures.value c.in-Err-Form.ensures.tested c.in-Err-Form.field-0-is)
