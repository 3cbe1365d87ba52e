use Rattle.std.proofs.Common.{◌≡◌, sym, ap, subst, ◌∙◌, Option, Some, None, List, ℕ}
use Rattle.std.specs.Prelude.{bytes_eq}
use Rattle.std.specs.Option.{option_map}
use Rattle.atspi_types.specs.Data.{Data, text_data}
use Rattle.atspi_base.specs.valid_names.Names.{IsBusName, is_bus_name}
use Rattle.atspi_types.proofs.DataLemmas.{data_of-Text}
use Rattle.atspi_names.specs.Owners.{list_of}
use Rattle.atspi_names.specs.Queue.{owner_in}
use Rattle.atspi_match.specs.routing.BusState.{text_or_empty}
use Rattle.atspi_bus_answers.proofs.NameTexts.{refused}
use Rattle.atspi_bus_answers.proofs.Literals.{own-chars}
use Rattle.atspi_bus_answers.proofs.OwnerNames.{owner-own, owner-no_name, owner-nobody, owner-somebody}
use Rattle.atspi_bus_answers.proofs.owning.owner_of.Goals as goal

abbrev some_data : Data → Option Data
some_data d = Some d

pub returns-then-is_own : goal.returns-then-is_own
returns-then-is_own c =
    ap some_data (data_of-Text c.in_ok-of.field-0 ∙ ap text_data (c.in_ok-of.ensures ∙ own-chars))
    ∙ sym (ap (option_map text_data) (owner-own c.args.names.now c.args.text.now (sym c.is_own.ensures ∙ c.if-is_own.true)))

pub returns-in-Err-Form : goal.returns-in-Err-Form
returns-in-Err-Form c =
    sym (ap (option_map text_data) (owner-no_name c.args.names.now c.args.text.now c.requires c.utf8.text
    (refused is_bus_name c.in-Err-Form.field-0 c.as_bytes.result.now c.args.text.now c.as_bytes.ensures.value c.in-Err-Form.ensures.tested c.in-Err-Form.field-0-is)
    (sym c.is_own.ensures ∙ c.if-is_own.false)))

pub returns-in-Some : goal.returns-in-Some
returns-in-Some c =
    let same = c.in-Ok.ensures.ok.0 ∙ c.as_bytes.ensures.value in
    ap some_data (c.in_ok-owner_value-in-Some.ensures ∙ ap (λ o. text_data (text_or_empty o)) c.unique_name.ensures)
    ∙ sym (ap (option_map text_data) (owner-somebody c.args.names.now c.args.text.now c.in-Some.conn (subst IsBusName c.as_bytes.ensures.value c.in-Ok.ensures.ok.1)
    (sym c.is_own.ensures ∙ c.if-is_own.false)
    (ap (λ (n : List ℕ). owner_in (list_of c.args.names.now.lists n)) (sym same) ∙ sym c.in-Some.ensures)))

pub returns : goal.returns
returns c =
    let same = c.in-Ok.ensures.ok.0 ∙ c.as_bytes.ensures.value in
    sym (ap (option_map text_data) (owner-nobody c.args.names.now c.args.text.now (subst IsBusName c.as_bytes.ensures.value c.in-Ok.ensures.ok.1)
    (sym c.is_own.ensures ∙ c.if-is_own.false)
    (ap (λ (n : List ℕ). owner_in (list_of c.args.names.now.lists n)) (sym same) ∙ sym c.in-None.ensures)))
