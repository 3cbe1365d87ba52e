use Rattle.std.proofs.Common.{refl, arith}
use Rattle.atspi_marshal_in_place.specs.codes.TyRefs.{ref_kind, refs_kinds}
use Rattle.atspi_marshal.specs.Input.{aligned}
use Rattle.atspi_marshal.specs.Reading.{input_of}
use Rattle.atspi_marshal_in_place.proofs.Opens.{struct_opened}
use Rattle.atspi_marshal_in_place.proofs.cursor.Item.fields.Goals as goal

pub overflow_sub-result : goal.overflow_sub-result
overflow_sub-result c =
    let x = c.args.self in
    (struct_opened (input_of x.input) x.levels (ref_kind x.ty) (refs_kinds c.in-Some.types) x.bound x.at (aligned 8 x.at) c.in-Some.ensures.fields refl x.known).some

pub invariant_of-result : goal.invariant_of-result
invariant_of-result c =
    let x = c.args.self in
    let o = struct_opened (input_of x.input) x.levels (ref_kind x.ty) (refs_kinds c.in-Some.types) x.bound x.at c.align_up.result c.in-Some.ensures.fields c.align_up.ensures x.known in
    record {
      within = (o.within, x.within.1, x.within.2);
      known = o.known;
    }

pub returns-in-Some-clause-fields : goal.returns-in-Some-clause-fields
returns-in-Some-clause-fields c =
    let x = c.args.self in
    (struct_opened (input_of x.input) x.levels (ref_kind x.ty) (refs_kinds c.in-Some.types) x.bound x.at c.align_up.result c.in-Some.ensures.fields c.align_up.ensures x.known).data_is

pub returns-in-Some-clause-levels : goal.returns-in-Some-clause-levels
returns-in-Some-clause-levels c =
    let x = c.args.self in
    let o = struct_opened (input_of x.input) x.levels (ref_kind x.ty) (refs_kinds c.in-Some.types) x.bound x.at (aligned 8 x.at) c.in-Some.ensures.fields refl x.known in
    omega (arith, o.some)
