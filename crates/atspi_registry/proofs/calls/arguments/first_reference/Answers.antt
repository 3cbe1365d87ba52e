use Rattle.std.proofs.Common.{◌≡◌, sym, ap, ◌∙◌, subst, chars}
use Rattle.std.specs.Prelude.{IsTrue}
use Rattle.atspi_types.specs.Kinds.{Kind, text, path}
use Rattle.atspi_types.specs.Data.{type_of}
use Rattle.atspi_marshal.specs.Reading.{input_of}
use Rattle.atspi_marshal_in_place.specs.codes.Codes.{is_structure}
use Rattle.atspi_marshal_in_place.specs.Items.{item_data, item_kind, fields_data}
use Rattle.atspi_message_in_place.proofs.ReadTypes.{item_type}
use Rattle.atspi_registry.specs.calls.inner.Arguments.{lent_references}
use Rattle.atspi_registry.proofs.OfCalls.Reading.{wrong_fields, wrong_name, wrong_path}
use Rattle.atspi_registry.proofs.calls.arguments.first_reference.Goals as goal

pub returns-in_err-fields-clause-reference : goal.returns-in_err-fields-clause-reference
returns-in_err-fields-clause-reference c =
    let x = c.in_ok-next.field-0 in
    let kind : type_of (item_data x) ≡ item_kind x = item_type (input_of x.input) x.levels (item_kind x) x.bound x.at x.known in
    let other : IsTrue (is_structure (type_of (item_data x))) → ⊥ = λ h. (let clash = c.in_err-fields.ensures.is.1 (subst (λ (k : Kind). IsTrue (is_structure k)) kind h) in absurd cc) in
    ap lent_references c.from_residual-in_err-fields.ensures ∙ sym (wrong_fields (fields_data c.args.args) (fields_data c.next.new.self) (item_data x) c.in_ok-next.ensures.comes other)

pub returns-in_err-name-clause-reference : goal.returns-in_err-name-clause-reference
returns-in_err-name-clause-reference c =
    let x = c.in_ok-next.field-0 in
    let y = c.in_ok-next-2.field-0 in
    let kind : type_of (item_data y) ≡ item_kind y = item_type (input_of y.input) y.levels (item_kind y) y.bound y.at y.known in
    let other : type_of (item_data y) ≡ text → ⊥ = λ h. (let clash = c.in_err-name.ensures.is.1 (sym kind ∙ h) in absurd cc) in
    ap lent_references c.from_residual-in_err-name.ensures
    ∙ sym (wrong_name (fields_data c.args.args) (fields_data c.next.new.self) (fields_data c.in_ok-fields.fields) (fields_data c.next-2.new.self) (item_data x) (item_data y) c.in_ok-next.ensures.comes c.in_ok-fields.ensures.fields c.in_ok-next-2.ensures.comes other)

pub returns-in_err-path-clause-reference : goal.returns-in_err-path-clause-reference
returns-in_err-path-clause-reference c =
    let x = c.in_ok-next.field-0 in
    let y = c.in_ok-next-2.field-0 in
    let z = c.in_ok-next-3.field-0 in
    let kind : type_of (item_data z) ≡ item_kind z = item_type (input_of z.input) z.levels (item_kind z) z.bound z.at z.known in
    let other : type_of (item_data z) ≡ path → ⊥ = λ h. (let clash = c.in_err-path.ensures.is.1 (sym kind ∙ h) in absurd cc) in
    ap lent_references c.from_residual-in_err-path.ensures
    ∙ sym (wrong_path (fields_data c.args.args) (fields_data c.next.new.self) (fields_data c.in_ok-fields.fields) (fields_data c.next-2.new.self) (fields_data c.next-3.new.self) (item_data x) (item_data y) (item_data z)
    (chars c.in_ok-name.name.now) c.in_ok-next.ensures.comes c.in_ok-fields.ensures.fields c.in_ok-next-2.ensures.comes c.in_ok-name.ensures.text c.in_ok-next-3.ensures.comes other)
