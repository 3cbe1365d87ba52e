use Rattle.std.proofs.Common.{◌≡◌, ◌+◌, refl, ap, ◌∙◌, length, arith}
use Rattle.std.proofs.lemmas.Bool.{false≢true}
use Rattle.atspi_types.specs.Kinds.{text}
use Rattle.atspi_marshal_in_place.specs.codes.Codes.{head_code}
use Rattle.atspi_marshal_in_place.specs.codes.TyRefs.{ref_kind}
use Rattle.atspi_marshal.specs.Reading.{input_of}
use Rattle.atspi_marshal.proofs.Places.{length-slice}
use Rattle.atspi_marshal_in_place.proofs.Opens.{text_opened, leaf_kind}
use Rattle.atspi_marshal_in_place.proofs.cursor.Item.text.Goals as goal

pub u32_at-len-requires : goal.u32_at-len-requires
u32_at-len-requires c =
    let x = c.args.self in
    let kind : ref_kind x.ty ≡ text = leaf_kind (ref_kind x.ty) c.code-code.result 115 (omega (arith, c.if-code-ne115.false)) (λ e. absurd (omega (arith, e))) (λ e. absurd (omega (arith, e))) c.code-code.ensures.leaf in
    let o = text_opened (input_of x.input) x.levels (ref_kind x.ty) x.bound x.at c.align_up-place.result _ kind c.align_up-place.ensures refl x.known in
    (omega (arith, o.within, x.within.1), x.within.2)

pub slice-requires : goal.slice-requires
slice-requires c =
    let x = c.args.self in
    let kind : ref_kind x.ty ≡ text = leaf_kind (ref_kind x.ty) c.code-code.result 115 (omega (arith, c.if-code-ne115.false)) (λ e. absurd (omega (arith, e))) (λ e. absurd (omega (arith, e))) c.code-code.ensures.leaf in
    let o = text_opened (input_of x.input) x.levels (ref_kind x.ty) x.bound x.at c.align_up-place.result c.u32_at-len.result kind c.align_up-place.ensures c.u32_at-len.ensures x.known in
    (omega (arith, o.within, x.within.1), x.within.2)

pub from_utf8_unchecked-requires : goal.from_utf8_unchecked-requires
from_utf8_unchecked-requires c =
    let x = c.args.self in
    let kind : ref_kind x.ty ≡ text = leaf_kind (ref_kind x.ty) c.code-code.result 115 (omega (arith, c.if-code-ne115.false)) (λ e. absurd (omega (arith, e))) (λ e. absurd (omega (arith, e))) c.code-code.ensures.leaf in
    let o = text_opened (input_of x.input) x.levels (ref_kind x.ty) x.bound x.at c.align_up-place.result c.u32_at-len.result kind c.align_up-place.ensures c.u32_at-len.ensures x.known in
    rw (c.slice.ensures, c.u32_at-len.ensures) o.utf8

pub returns-clause-text : goal.returns-clause-text
returns-clause-text c =
    let x = c.args.self in
    let kind : ref_kind x.ty ≡ text = leaf_kind (ref_kind x.ty) c.code-code.result 115 (omega (arith, c.if-code-ne115.false)) (λ e. absurd (omega (arith, e))) (λ e. absurd (omega (arith, e))) c.code-code.ensures.leaf in
    let o = text_opened (input_of x.input) x.levels (ref_kind x.ty) x.bound x.at c.align_up-place.result c.u32_at-len.result kind c.align_up-place.ensures c.u32_at-len.ensures x.known in
    rw (c.from_utf8_unchecked.ensures, c.slice.ensures, c.u32_at-len.ensures) o.data_is

pub returns-clause-is : goal.returns-clause-is
returns-clause-is c =
    let x = c.args.self in
    let kind : ref_kind x.ty ≡ text = leaf_kind (ref_kind x.ty) c.code-code.result 115 (omega (arith, c.if-code-ne115.false)) (λ e. absurd (omega (arith, e))) (λ e. absurd (omega (arith, e))) c.code-code.ensures.leaf in
    (λ s. kind, λ e. refl)

pub returns-then-code-ne115-clause-is : goal.returns-then-code-ne115-clause-is
returns-then-code-ne115-clause-is c = (λ s. absurd (false≢true s), λ e. absurd (c.if-code-ne115.true (c.code-code.ensures.head ∙ ap head_code e)))

pub returns-clause-no_zero : goal.returns-clause-no_zero
returns-clause-no_zero c =
    let x = c.args.self in
    let kind : ref_kind x.ty ≡ text = leaf_kind (ref_kind x.ty) c.code-code.result 115 (omega (arith, c.if-code-ne115.false)) (λ e. absurd (omega (arith, e))) (λ e. absurd (omega (arith, e))) c.code-code.ensures.leaf in
    let o = text_opened (input_of x.input) x.levels (ref_kind x.ty) x.bound x.at c.align_up-place.result c.u32_at-len.result kind c.align_up-place.ensures c.u32_at-len.ensures x.known in
    rw (c.from_utf8_unchecked.ensures, c.slice.ensures, c.u32_at-len.ensures) o.no_zero

pub returns-clause-counted : goal.returns-clause-counted
returns-clause-counted c =
    let x = c.args.self in
    let kind : ref_kind x.ty ≡ text = leaf_kind (ref_kind x.ty) c.code-code.result 115 (omega (arith, c.if-code-ne115.false)) (λ e. absurd (omega (arith, e))) (λ e. absurd (omega (arith, e))) c.code-code.ensures.leaf in
    let o = text_opened (input_of x.input) x.levels (ref_kind x.ty) x.bound x.at c.align_up-place.result c.u32_at-len.result kind c.align_up-place.ensures c.u32_at-len.ensures x.known in
    let bytes : length c.from_utf8_unchecked.result.now ≡ c.u32_at-len.result =
    ap length (c.from_utf8_unchecked.ensures ∙ c.slice.ensures) ∙ length-slice (input_of x.input) (c.align_up-place.result + 4) c.u32_at-len.result (omega (arith, o.within, x.within.1)) in
    omega (arith, bytes, o.within, x.within.1, x.within.2)
