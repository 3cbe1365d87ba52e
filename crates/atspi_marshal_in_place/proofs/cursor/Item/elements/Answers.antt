use Rattle.std.proofs.Common.{◌+◌, ℕ, refl, ap, ◌∙◌, arith}
use Rattle.atspi_marshal_in_place.specs.codes.TyRefs.{ref_kind}
use Rattle.atspi_marshal.specs.Input.{aligned}
use Rattle.atspi_marshal.specs.Reading.{input_of}
use Rattle.atspi_marshal_in_place.proofs.Opens.{array_opened}
use Rattle.atspi_marshal_in_place.proofs.cursor.Item.elements.Goals as goal

pub u32_at-len-requires : goal.u32_at-len-requires
u32_at-len-requires c =
    let x = c.args.self in
    let o = array_opened (input_of x.input) x.levels (ref_kind x.ty) (ref_kind c.in-Some.element) x.bound x.at c.align_up-place.result _ _ c.in-Some.ensures.element c.align_up-place.ensures refl refl x.known in
    (omega (arith, o.within, x.within.1), x.within.2)

pub overflow_sub-result : goal.overflow_sub-result
overflow_sub-result c =
    let x = c.args.self in
    (array_opened (input_of x.input) x.levels (ref_kind x.ty) (ref_kind c.in-Some.element) x.bound x.at (aligned 4 x.at) _ _ c.in-Some.ensures.element refl refl refl x.known).some

pub invariant_of-result : goal.invariant_of-result
invariant_of-result c =
    let x = c.args.self in
    let start = c.align_up-start.ensures ∙ ap (λ (n : ℕ). aligned n (c.align_up-place.result + 4)) c.alignment.ensures in
    let o = array_opened (input_of x.input) x.levels (ref_kind x.ty) (ref_kind c.in-Some.element) x.bound x.at c.align_up-place.result c.u32_at-len.result c.align_up-start.result c.in-Some.ensures.element c.align_up-place.ensures c.u32_at-len.ensures start x.known in
    record {
      within = (omega arith, omega (arith, o.within, x.within.1), x.within.2);
      known = o.known;
    }

pub returns-in-Some-clause-elements : goal.returns-in-Some-clause-elements
returns-in-Some-clause-elements c =
    let x = c.args.self in
    let start = c.align_up-start.ensures ∙ ap (λ (n : ℕ). aligned n (c.align_up-place.result + 4)) c.alignment.ensures in
    (array_opened (input_of x.input) x.levels (ref_kind x.ty) (ref_kind c.in-Some.element) x.bound x.at c.align_up-place.result c.u32_at-len.result c.align_up-start.result c.in-Some.ensures.element c.align_up-place.ensures c.u32_at-len.ensures start x.known).data_is

pub returns-in-Some-clause-levels : goal.returns-in-Some-clause-levels
returns-in-Some-clause-levels c =
    let x = c.args.self in
    let o = array_opened (input_of x.input) x.levels (ref_kind x.ty) (ref_kind c.in-Some.element) x.bound x.at (aligned 4 x.at) _ _ c.in-Some.ensures.element refl refl refl x.known in
    omega (arith, o.some)
