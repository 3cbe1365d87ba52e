use Rattle.std.proofs.Common.{refl, ap, ◌∙◌, arith}
use Rattle.std.proofs.lemmas.Bool.{false≢true}
use Rattle.atspi_marshal_in_place.specs.codes.Codes.{head_code}
use Rattle.atspi_marshal_in_place.specs.codes.TyRefs.{ref_kind}
use Rattle.atspi_marshal.specs.Faults.{short_in}
use Rattle.atspi_marshal.specs.Reading.{input_of}
use Rattle.atspi_marshal_in_place.proofs.Opens.{typed_once, variant_type, variant_opened, variant_kind}
use Rattle.atspi_marshal_in_place.proofs.cursor.Item.variant.Goals as goal

pub byte_at-len-requires : goal.byte_at-len-requires
byte_at-len-requires c =
    let x = c.args.self in
    let kind = variant_kind (ref_kind x.ty) c.code-code.result (omega (arith, c.if-code-ne118.false)) c.code-code.ensures.leaf in
    let t = variant_type (input_of x.input) x.levels (ref_kind x.ty) x.bound x.at kind x.known in
    omega (arith, t.opened.within, x.within.1)

pub known_type-inner-requires : goal.known_type-inner-requires
known_type-inner-requires c =
    let x = c.args.self in
    let kind = variant_kind (ref_kind x.ty) c.code-code.result (omega (arith, c.if-code-ne118.false)) c.code-code.ensures.leaf in
    let t = variant_type (input_of x.input) x.levels (ref_kind x.ty) x.bound x.at kind x.known in
    record { end = (omega (arith, t.opened.within, x.within.1), x.within.2); known = typed_once (short_in (input_of x.input) x.at) t.inner t.spelled }

pub overflow_sub-result : goal.overflow_sub-result
overflow_sub-result c =
    let x = c.args.self in
    let kind = variant_kind (ref_kind x.ty) c.code-code.result (omega (arith, c.if-code-ne118.false)) c.code-code.ensures.leaf in
    let t = variant_type (input_of x.input) x.levels (ref_kind x.ty) x.bound x.at kind x.known in
    t.opened.some

pub returns-then-code-ne118-clause-is : goal.returns-then-code-ne118-clause-is
returns-then-code-ne118-clause-is c = (λ s. absurd (false≢true s), λ e. absurd (c.if-code-ne118.true (c.code-code.ensures.head ∙ ap head_code e)))

pub returns-clause-is : goal.returns-clause-is
returns-clause-is c =
    let x = c.args.self in
    let kind = variant_kind (ref_kind x.ty) c.code-code.result (omega (arith, c.if-code-ne118.false)) c.code-code.ensures.leaf in
    (λ s. kind, λ e. refl)

pub returns-clause-value : goal.returns-clause-value
returns-clause-value c =
    let x = c.args.self in
    let kind = variant_kind (ref_kind x.ty) c.code-code.result (omega (arith, c.if-code-ne118.false)) c.code-code.ensures.leaf in
    let o = variant_opened (input_of x.input) x.levels (ref_kind x.ty) (ref_kind c.known_type-inner.result) x.bound x.at kind c.known_type-inner.ensures x.known in
    rw c.byte_at-len.ensures o.data_is

pub invariant_of-result : goal.invariant_of-result
invariant_of-result c =
    let x = c.args.self in
    let kind = variant_kind (ref_kind x.ty) c.code-code.result (omega (arith, c.if-code-ne118.false)) c.code-code.ensures.leaf in
    let o = variant_opened (input_of x.input) x.levels (ref_kind x.ty) (ref_kind c.known_type-inner.result) x.bound x.at kind c.known_type-inner.ensures x.known in
    record { within = (omega (arith, c.byte_at-len.ensures, o.within), x.within.1, x.within.2); known = rw c.byte_at-len.ensures o.known }

pub returns-clause-levels : goal.returns-clause-levels
returns-clause-levels c =
    let x = c.args.self in
    let kind = variant_kind (ref_kind x.ty) c.code-code.result (omega (arith, c.if-code-ne118.false)) c.code-code.ensures.leaf in
    let t = variant_type (input_of x.input) x.levels (ref_kind x.ty) x.bound x.at kind x.known in
    omega (arith, t.opened.some)
