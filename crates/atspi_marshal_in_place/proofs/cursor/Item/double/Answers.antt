use Rattle.std.proofs.Common.{◌≡◌, refl, ap, ◌∙◌, arith}
use Rattle.std.proofs.lemmas.Bool.{false≢true}
use Rattle.atspi_types.specs.Kinds.{number, double}
use Rattle.atspi_marshal_in_place.specs.codes.Codes.{head_code}
use Rattle.atspi_marshal_in_place.specs.codes.TyRefs.{ref_kind}
use Rattle.atspi_marshal.specs.Reading.{input_of}
use Rattle.atspi_marshal_in_place.proofs.Opens.{number_opened, leaf_kind}
use Rattle.atspi_marshal_in_place.proofs.cursor.Item.double.Goals as goal

pub u64_at-requires : goal.u64_at-requires
u64_at-requires c =
    let x = c.args.self in
    let kind : ref_kind x.ty ≡ number double = leaf_kind (ref_kind x.ty) c.code-code.result 100 (omega (arith, c.if-code-ne100.false)) (λ e. absurd (omega (arith, e))) (λ e. absurd (omega (arith, e))) c.code-code.ensures.leaf in
    let o = number_opened (input_of x.input) x.levels (ref_kind x.ty) double x.bound x.at c.align_up-place.result kind c.align_up-place.ensures x.known in
    (omega (arith, o.within, x.within.1), x.within.2)

pub returns-clause-is : goal.returns-clause-is
returns-clause-is c =
    let x = c.args.self in
    let kind : ref_kind x.ty ≡ number double = leaf_kind (ref_kind x.ty) c.code-code.result 100 (omega (arith, c.if-code-ne100.false)) (λ e. absurd (omega (arith, e))) (λ e. absurd (omega (arith, e))) c.code-code.ensures.leaf in
    (λ s. kind, λ e. refl)

pub returns-clause-value : goal.returns-clause-value
returns-clause-value c =
    let x = c.args.self in
    let kind : ref_kind x.ty ≡ number double = leaf_kind (ref_kind x.ty) c.code-code.result 100 (omega (arith, c.if-code-ne100.false)) (λ e. absurd (omega (arith, e))) (λ e. absurd (omega (arith, e))) c.code-code.ensures.leaf in
    let o = number_opened (input_of x.input) x.levels (ref_kind x.ty) double x.bound x.at c.align_up-place.result kind c.align_up-place.ensures x.known in
    rw c.u64_at.ensures o.data_is

pub returns-then-code-ne100-clause-is : goal.returns-then-code-ne100-clause-is
returns-then-code-ne100-clause-is c = (λ s. absurd (false≢true s), λ e. absurd (c.if-code-ne100.true (c.code-code.ensures.head ∙ ap head_code e)))
