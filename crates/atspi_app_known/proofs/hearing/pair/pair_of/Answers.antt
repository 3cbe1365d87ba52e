use Rattle.std.proofs.Common.{◌≡◌, sym, ap, ◌∙◌, subst, chars}
use Rattle.std.specs.Prelude.{IsTrue}
use Rattle.atspi_types.specs.Kinds.{Kind, text}
use Rattle.atspi_types.specs.Data.{type_of}
use Rattle.atspi_marshal.specs.Reading.{input_of}
use Rattle.atspi_marshal_in_place.specs.codes.Codes.{is_structure}
use Rattle.atspi_marshal_in_place.specs.Items.{item_data, item_kind, fields_data}
use Rattle.atspi_message_in_place.proofs.ReadTypes.{item_type}
use Rattle.atspi_app_known.specs.hearing.inner.Lent.{lent_or_none}
use Rattle.atspi_app_known.proofs.OfHearing.Values.{no_structure, field_wrong, second_wrong}
use Rattle.atspi_app_known.proofs.hearing.pair.pair_of.Goals as goal

pub returns-in_err-fields : goal.returns-in_err-fields
returns-in_err-fields c =
    let x = c.args.item in
    let kind : type_of (item_data x) ≡ item_kind x = item_type (input_of x.input) x.levels (item_kind x) x.bound x.at x.known in
    let other : IsTrue (is_structure (type_of (item_data x))) → ⊥ = λ h. (let clash = c.in_err-fields.ensures.is.1 (subst (λ (k : Kind). IsTrue (is_structure k)) kind h) in absurd cc) in
    ap lent_or_none c.from_residual.ensures ∙ sym (no_structure (item_data x) other)

pub returns-in_err-name : goal.returns-in_err-name
returns-in_err-name c =
    let x = c.in_ok-next.field-0 in
    let kind : type_of (item_data x) ≡ item_kind x = item_type (input_of x.input) x.levels (item_kind x) x.bound x.at x.known in
    let other : type_of (item_data x) ≡ text → ⊥ = λ h. (let clash = c.in_err-name.ensures.is.1 (sym kind ∙ h) in absurd cc) in
    ap lent_or_none c.from_residual-in_err-name.ensures
    ∙ sym (field_wrong (item_data c.args.item) (fields_data c.in_ok-fields.fields) c.in_ok-fields.ensures.fields (fields_data c.next.new.self) (item_data x) c.in_ok-next.ensures.comes other)

pub returns-in_err-pattern : goal.returns-in_err-pattern
returns-in_err-pattern c =
    let x = c.in_ok-next.field-0 in
    let y = c.in_ok-next-2.field-0 in
    let kind : type_of (item_data y) ≡ item_kind y = item_type (input_of y.input) y.levels (item_kind y) y.bound y.at y.known in
    let other : type_of (item_data y) ≡ text → ⊥ = λ h. (let clash = c.in_err-pattern.ensures.is.1 (sym kind ∙ h) in absurd cc) in
    ap lent_or_none c.from_residual-in_err-pattern.ensures
    ∙ sym (second_wrong (item_data c.args.item) (fields_data c.in_ok-fields.fields) c.in_ok-fields.ensures.fields (fields_data c.next.new.self) (fields_data c.next-2.new.self) (item_data x) (item_data y) (chars c.in_ok-name.name.now)
    c.in_ok-next.ensures.comes c.in_ok-name.ensures.text c.in_ok-next-2.ensures.comes other)
