use Rattle.std.proofs.Common.{◌≡◌, sym, ap, subst, ◌∙◌, [], ◌∷◌, map, List, ℕ, Some}
use Rattle.std.proofs.lemmas.Result.{IfOk-weaker}
use Rattle.atspi_types.specs.Data.{Data, text_data}
use Rattle.atspi_base.specs.valid_names.Names.{IsBusName, is_bus_name}
use Rattle.atspi_types.proofs.DataLemmas.{data_of-Text}
use Rattle.atspi_names.specs.Owners.{list_of}
use Rattle.atspi_match.specs.routing.BusState.{name_or_empty}
use Rattle.atspi_bus_answers.proofs.NameTexts.{refused}
use Rattle.atspi_bus_answers.proofs.Literals.{own-chars}
use Rattle.atspi_bus_answers.proofs.OwnerNames.{queued-own, queued-no_name, queued-named}
use Rattle.atspi_bus_answers.proofs.listing.queued.Goals as goal

pub returns-then-is_own : goal.returns-then-is_own
returns-then-is_own c =
    IfOk-weaker c.one.result _ _
    (λ values h. h ∙ ap (λ (d : Data). d ∷ []) (data_of-Text c.in_ok-of.field-0 ∙ ap text_data (c.in_ok-of.ensures ∙ own-chars))
    ∙ sym (ap (map text_data) (queued-own c.args.names.now c.args.text.now (sym c.is_own.ensures ∙ c.if-is_own.true))))
    c.one.ensures

pub returns-in-Ok : goal.returns-in-Ok
returns-in-Ok c =
    let same = c.in-Ok.ensures.ok.0 ∙ c.as_bytes.ensures.value in
    IfOk-weaker c.owners.result _ _
    (λ values h. h ∙ ap (λ (q : List (ℕ × ℕ)). map text_data (map (λ (e : ℕ × ℕ). name_or_empty c.args.names.now (Some e.0)) q)) (c.queue.ensures ∙ ap (list_of c.args.names.now.lists) same)
    ∙ sym (ap (map text_data) (queued-named c.args.names.now c.args.text.now (subst IsBusName c.as_bytes.ensures.value c.in-Ok.ensures.ok.1) (sym c.is_own.ensures ∙ c.if-is_own.false))))
    c.owners.ensures

pub returns-in-Err-Form : goal.returns-in-Err-Form
returns-in-Err-Form c =
    c.new.ensures
    ∙ sym (ap (map text_data) (queued-no_name c.args.names.now c.args.text.now c.requires c.utf8.text
    (refused is_bus_name c.in-Err-Form.field-0 c.as_bytes.result.now c.args.text.now c.as_bytes.ensures.value c.in-Err-Form.ensures.tested c.in-Err-Form.field-0-is)
    (sym c.is_own.ensures ∙ c.if-is_own.false)))
