use Rattle.std.proofs.Common.{◌≡◌, sym, subst}
use Rattle.std.specs.Prelude.{IsTrue}
use Rattle.atspi_types.specs.Kinds.{Kind}
use Rattle.atspi_types.specs.Data.{type_of}
use Rattle.atspi_marshal.specs.Reading.{input_of}
use Rattle.atspi_marshal_in_place.specs.codes.Codes.{is_array}
use Rattle.atspi_marshal_in_place.specs.Items.{item_data, item_kind, fields_data}
use Rattle.atspi_message_in_place.proofs.ReadTypes.{item_type}
use Rattle.atspi_app_known.proofs.OfHearing.Values.{wrong_list}
use Rattle.atspi_app_known.proofs.hearing.list.list_in.Goals as goal

pub returns-in_err-elements : goal.returns-in_err-elements
returns-in_err-elements c =
    let x = c.in_ok-next.field-0 in
    let kind : type_of (item_data x) ≡ item_kind x = item_type (input_of x.input) x.levels (item_kind x) x.bound x.at x.known in
    let other : IsTrue (is_array (type_of (item_data x))) → ⊥ = λ h. (let clash = c.in_err-elements.ensures.is.1 (subst (λ (k : Kind). IsTrue (is_array k)) kind h) in absurd cc) in
    rw (c.from_residual-in_err-elements.ensures) (wrong_list (fields_data c.args.values) (fields_data c.next.new.self) (item_data x) c.in_ok-next.ensures.comes other)
