use Rattle.std.proofs.Common.{◌≡◌, refl, ap, ◌∙◌, arith}
use Rattle.std.proofs.lemmas.Bool.{false≢true}
use Rattle.atspi_types.specs.Kinds.{path}
use Rattle.atspi_marshal_in_place.specs.codes.Codes.{head_code}
use Rattle.atspi_marshal_in_place.specs.codes.TyRefs.{ref_kind}
use Rattle.atspi_marshal.specs.Reading.{input_of}
use Rattle.atspi_marshal_in_place.proofs.Opens.{path_opened, leaf_kind}
use Rattle.std.proofs.lemmas.Str.{IsUtf8-from_ascii}
use Rattle.atspi_base.proofs.OfValidNames.NameLemmas.{IsPath-from_test, IsAscii-IsPath}
use Rattle.atspi_marshal_in_place.proofs.cursor.Item.path.Goals as goal

pub u32_at-len-requires : goal.u32_at-len-requires
u32_at-len-requires c =
    let x = c.args.self in
    let kind : ref_kind x.ty ≡ path = leaf_kind (ref_kind x.ty) c.code-code.result 111 (omega (arith, c.if-code-ne111.false)) (λ e. absurd (omega (arith, e))) (λ e. absurd (omega (arith, e))) c.code-code.ensures.leaf in
    let o = path_opened (input_of x.input) x.levels (ref_kind x.ty) x.bound x.at c.align_up-place.result _ kind c.align_up-place.ensures refl x.known in
    (omega (arith, o.within, x.within.1), x.within.2)

pub slice-requires : goal.slice-requires
slice-requires c =
    let x = c.args.self in
    let kind : ref_kind x.ty ≡ path = leaf_kind (ref_kind x.ty) c.code-code.result 111 (omega (arith, c.if-code-ne111.false)) (λ e. absurd (omega (arith, e))) (λ e. absurd (omega (arith, e))) c.code-code.ensures.leaf in
    let o = path_opened (input_of x.input) x.levels (ref_kind x.ty) x.bound x.at c.align_up-place.result c.u32_at-len.result kind c.align_up-place.ensures c.u32_at-len.ensures x.known in
    (omega (arith, o.within, x.within.1), x.within.2)

pub from_utf8_unchecked-requires : goal.from_utf8_unchecked-requires
from_utf8_unchecked-requires c =
    let x = c.args.self in
    let kind : ref_kind x.ty ≡ path = leaf_kind (ref_kind x.ty) c.code-code.result 111 (omega (arith, c.if-code-ne111.false)) (λ e. absurd (omega (arith, e))) (λ e. absurd (omega (arith, e))) c.code-code.ensures.leaf in
    let o = path_opened (input_of x.input) x.levels (ref_kind x.ty) x.bound x.at c.align_up-place.result c.u32_at-len.result kind c.align_up-place.ensures c.u32_at-len.ensures x.known in
    rw (c.slice.ensures, c.u32_at-len.ensures) (IsUtf8-from_ascii _ (IsAscii-IsPath _ (IsPath-from_test _ o.path_is)))

pub returns-clause-path : goal.returns-clause-path
returns-clause-path c =
    let x = c.args.self in
    let kind : ref_kind x.ty ≡ path = leaf_kind (ref_kind x.ty) c.code-code.result 111 (omega (arith, c.if-code-ne111.false)) (λ e. absurd (omega (arith, e))) (λ e. absurd (omega (arith, e))) c.code-code.ensures.leaf in
    let o = path_opened (input_of x.input) x.levels (ref_kind x.ty) x.bound x.at c.align_up-place.result c.u32_at-len.result kind c.align_up-place.ensures c.u32_at-len.ensures x.known in
    rw (c.from_utf8_unchecked.ensures, c.slice.ensures, c.u32_at-len.ensures) o.data_is

pub returns-clause-is : goal.returns-clause-is
returns-clause-is c =
    let x = c.args.self in
    let kind : ref_kind x.ty ≡ path = leaf_kind (ref_kind x.ty) c.code-code.result 111 (omega (arith, c.if-code-ne111.false)) (λ e. absurd (omega (arith, e))) (λ e. absurd (omega (arith, e))) c.code-code.ensures.leaf in
    (λ s. kind, λ e. refl)

pub returns-then-code-ne111-clause-is : goal.returns-then-code-ne111-clause-is
returns-then-code-ne111-clause-is c = (λ s. absurd (false≢true s), λ e. absurd (c.if-code-ne111.true (c.code-code.ensures.head ∙ ap head_code e)))

pub returns-clause-rule : goal.returns-clause-rule
returns-clause-rule c =
    let x = c.args.self in
    let kind : ref_kind x.ty ≡ path = leaf_kind (ref_kind x.ty) c.code-code.result 111 (omega (arith, c.if-code-ne111.false)) (λ e. absurd (omega (arith, e))) (λ e. absurd (omega (arith, e))) c.code-code.ensures.leaf in
    let o = path_opened (input_of x.input) x.levels (ref_kind x.ty) x.bound x.at c.align_up-place.result c.u32_at-len.result kind c.align_up-place.ensures c.u32_at-len.ensures x.known in
    rw (c.from_utf8_unchecked.ensures, c.slice.ensures, c.u32_at-len.ensures) (IsPath-from_test _ o.path_is)
