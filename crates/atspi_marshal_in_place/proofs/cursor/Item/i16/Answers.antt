use Rattle.std.proofs.Common.{◌≡◌, ℤ, refl, sym, ap, ◌∙◌, arith}
use Rattle.std.specs.Int.{w16, cast_unsigned}
use Rattle.std.proofs.lemmas.Int.{of_z-to_z}
use Rattle.std.proofs.lemmas.Bool.{false≢true}
use Rattle.atspi_types.specs.Kinds.{number, i16}
use Rattle.atspi_types.specs.Data.{number_data}
use Rattle.atspi_marshal_in_place.specs.codes.Codes.{head_code}
use Rattle.atspi_marshal_in_place.specs.codes.TyRefs.{ref_kind}
use Rattle.atspi_marshal.specs.Reading.{input_of}
use Rattle.atspi_marshal_in_place.proofs.Opens.{number_opened, leaf_kind}
use Rattle.atspi_marshal_in_place.proofs.cursor.Item.i16.Goals as goal

pub u16_at-requires : goal.u16_at-requires
u16_at-requires c =
    let x = c.args.self in
    let kind : ref_kind x.ty ≡ number i16 = leaf_kind (ref_kind x.ty) c.code-code.result 110 (omega (arith, c.if-code-ne110.false)) (λ e. absurd (omega (arith, e))) (λ e. absurd (omega (arith, e))) c.code-code.ensures.leaf in
    let o = number_opened (input_of x.input) x.levels (ref_kind x.ty) i16 x.bound x.at c.align_up-place.result kind c.align_up-place.ensures x.known in
    (omega (arith, o.within, x.within.1), x.within.2)

pub returns-clause-is : goal.returns-clause-is
returns-clause-is c =
    let x = c.args.self in
    let kind : ref_kind x.ty ≡ number i16 = leaf_kind (ref_kind x.ty) c.code-code.result 110 (omega (arith, c.if-code-ne110.false)) (λ e. absurd (omega (arith, e))) (λ e. absurd (omega (arith, e))) c.code-code.ensures.leaf in
    (λ s. kind, λ e. refl)

pub returns-clause-value : goal.returns-clause-value
returns-clause-value c =
    let x = c.args.self in
    let kind : ref_kind x.ty ≡ number i16 = leaf_kind (ref_kind x.ty) c.code-code.result 110 (omega (arith, c.if-code-ne110.false)) (λ e. absurd (omega (arith, e))) (λ e. absurd (omega (arith, e))) c.code-code.ensures.leaf in
    let o = number_opened (input_of x.input) x.levels (ref_kind x.ty) i16 x.bound x.at c.align_up-place.result kind c.align_up-place.ensures x.known in
    let bits : cast_unsigned w16 c.cast_signed.result ≡ c.u16_at.result = ap (λ (z : ℤ). cast_unsigned w16 z) c.cast_signed.ensures ∙ of_z-to_z w16 c.u16_at.result (omega arith) in
    o.data_is ∙ ap (number_data i16) (sym (of_z-to_z w16 (cast_unsigned w16 c.cast_signed.result) (omega (arith, bits)) ∙ bits ∙ c.u16_at.ensures))

pub returns-then-code-ne110-clause-is : goal.returns-then-code-ne110-clause-is
returns-then-code-ne110-clause-is c = (λ s. absurd (false≢true s), λ e. absurd (c.if-code-ne110.true (c.code-code.ensures.head ∙ ap head_code e)))
