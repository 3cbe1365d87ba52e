use Rattle.std.proofs.Common.{true, false, sym, ap, arith}
use Rattle.atspi_marshal_in_place.specs.codes.Codes.{is_structure, kind_at}
use Rattle.atspi_marshal_in_place.proofs.OfCodes.Parts.{one_has_codes, fields_are, no_fields, same_answer}
use Rattle.atspi_marshal_in_place.proofs.codes.types.TyRef.fields.Goals as goal

pub bounds-codes-0 : goal.bounds-codes-0
bounds-codes-0 c = one_has_codes c.args.self.codes.now c.args.self.one

pub returns-then-codes-ne40-clause-is : goal.returns-then-codes-ne40-clause-is
returns-then-codes-ne40-clause-is c =
    let codes = c.args.self.codes.now in
    same_answer false (is_structure (kind_at codes)) (sym (no_fields codes c.args.self.one (λ e. omega (arith, e, c.if-codes-ne40.true))))

pub slice_bounds-result-count : goal.slice_bounds-result-count
slice_bounds-result-count c = omega (arith, (fields_are c.args.self.codes.now c.args.self.one (omega (arith, c.if-codes-ne40.false))).long)

pub slice_bounds-result-start : goal.slice_bounds-result-start
slice_bounds-result-start c =
    let long = (fields_are c.args.self.codes.now c.args.self.one (omega (arith, c.if-codes-ne40.false))).long in
    omega (arith, long)

pub invariant_of-result : goal.invariant_of-result
invariant_of-result c = record { all = (fields_are c.args.self.codes.now c.args.self.one (omega (arith, c.if-codes-ne40.false))).all }

pub returns-clause-is : goal.returns-clause-is
returns-clause-is c =
    let codes = c.args.self.codes.now in
    same_answer true (is_structure (kind_at codes)) (sym (ap is_structure (fields_are codes c.args.self.one (omega (arith, c.if-codes-ne40.false))).is))

pub returns-clause-fields : goal.returns-clause-fields
returns-clause-fields c = (fields_are c.args.self.codes.now c.args.self.one (omega (arith, c.if-codes-ne40.false))).is
