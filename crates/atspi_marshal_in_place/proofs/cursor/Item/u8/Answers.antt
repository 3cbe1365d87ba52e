use Rattle.std.proofs.Common.{◌≡◌, refl, sym, ap, ◌∙◌, arith}
use Rattle.std.proofs.lemmas.Bool.{false≢true}
use Rattle.atspi_types.specs.Kinds.{number, byte}
use Rattle.atspi_types.specs.Data.{number_data}
use Rattle.atspi_marshal_in_place.specs.codes.Codes.{head_code}
use Rattle.atspi_marshal_in_place.specs.codes.TyRefs.{ref_kind}
use Rattle.atspi_marshal.specs.Reading.{input_of}
use Rattle.atspi_marshal.proofs.ByteArrays.{byte_number}
use Rattle.atspi_marshal_in_place.proofs.Opens.{number_opened, leaf_kind}
use Rattle.atspi_marshal_in_place.proofs.cursor.Item.u8.Goals as goal

pub byte_at-requires : goal.byte_at-requires
byte_at-requires c =
    let x = c.args.self in
    let kind : ref_kind x.ty ≡ number byte = leaf_kind (ref_kind x.ty) c.code-code.result 121 (omega (arith, c.if-code-ne121.false)) (λ e. absurd (omega (arith, e))) (λ e. absurd (omega (arith, e))) c.code-code.ensures.leaf in
    let o = number_opened (input_of x.input) x.levels (ref_kind x.ty) byte x.bound x.at c.align_up-place.result kind c.align_up-place.ensures x.known in
    omega (arith, o.within, x.within.1)

pub returns-clause-is : goal.returns-clause-is
returns-clause-is c =
    let x = c.args.self in
    let kind : ref_kind x.ty ≡ number byte = leaf_kind (ref_kind x.ty) c.code-code.result 121 (omega (arith, c.if-code-ne121.false)) (λ e. absurd (omega (arith, e))) (λ e. absurd (omega (arith, e))) c.code-code.ensures.leaf in
    (λ s. kind, λ e. refl)

pub returns-clause-value : goal.returns-clause-value
returns-clause-value c =
    let x = c.args.self in
    let kind : ref_kind x.ty ≡ number byte = leaf_kind (ref_kind x.ty) c.code-code.result 121 (omega (arith, c.if-code-ne121.false)) (λ e. absurd (omega (arith, e))) (λ e. absurd (omega (arith, e))) c.code-code.ensures.leaf in
    let o = number_opened (input_of x.input) x.levels (ref_kind x.ty) byte x.bound x.at c.align_up-place.result kind c.align_up-place.ensures x.known in
    o.data_is ∙ ap (number_data byte) (byte_number (input_of x.input) c.align_up-place.result ∙ sym c.byte_at.ensures)

pub returns-then-code-ne121-clause-is : goal.returns-then-code-ne121-clause-is
returns-then-code-ne121-clause-is c = (λ s. absurd (false≢true s), λ e. absurd (c.if-code-ne121.true (c.code-code.ensures.head ∙ ap head_code e)))
