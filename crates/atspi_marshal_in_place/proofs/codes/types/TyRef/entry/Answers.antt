use Rattle.std.proofs.Common.{true, false, sym, ap, arith}
use Rattle.atspi_marshal_in_place.specs.codes.Codes.{is_dictionary, kind_at}
use Rattle.atspi_marshal_in_place.proofs.OfCodes.Parts.{one_has_codes, has_second, entry_is, no_entry, same_answer}
use Rattle.atspi_marshal_in_place.proofs.codes.types.TyRef.entry.Goals as goal

pub bounds-codes-0 : goal.bounds-codes-0
bounds-codes-0 c = one_has_codes c.args.self.codes.now c.args.self.one

pub bounds-codes-1 : goal.bounds-codes-1
bounds-codes-1 c = has_second c.args.self.codes.now c.args.self.one (omega (arith, c.if-codes-ne97.false))

pub returns-then-codes-ne97-clause-is : goal.returns-then-codes-ne97-clause-is
returns-then-codes-ne97-clause-is c =
    let codes = c.args.self.codes.now in
    same_answer false (is_dictionary (kind_at codes)) (sym (no_entry codes c.args.self.one (λ e f. omega (arith, e, c.if-codes-ne97.true))))

pub returns-then-codes-ne123-clause-is : goal.returns-then-codes-ne123-clause-is
returns-then-codes-ne123-clause-is c =
    let codes = c.args.self.codes.now in
    same_answer false (is_dictionary (kind_at codes)) (sym (no_entry codes c.args.self.one (λ e f. omega (arith, f, c.if-codes-ne123.true))))

pub slice_bounds-result-end : goal.slice_bounds-result-end
slice_bounds-result-end c = omega (arith, (entry_is c.args.self.codes.now c.args.self.one (omega (arith, c.if-codes-ne97.false)) (omega (arith, c.if-codes-ne123.false))).long)

pub slice_bounds-result-count-2 : goal.slice_bounds-result-count-2
slice_bounds-result-count-2 c = omega (arith, (entry_is c.args.self.codes.now c.args.self.one (omega (arith, c.if-codes-ne97.false)) (omega (arith, c.if-codes-ne123.false))).long)

pub slice_bounds-result-start-2 : goal.slice_bounds-result-start-2
slice_bounds-result-start-2 c = omega (arith, (entry_is c.args.self.codes.now c.args.self.one (omega (arith, c.if-codes-ne97.false)) (omega (arith, c.if-codes-ne123.false))).long)

pub invariant_of-result : goal.invariant_of-result
invariant_of-result c = record { one = (entry_is c.args.self.codes.now c.args.self.one (omega (arith, c.if-codes-ne97.false)) (omega (arith, c.if-codes-ne123.false))).key_one }

pub invariant_of-result-2 : goal.invariant_of-result-2
invariant_of-result-2 c = record { one = (entry_is c.args.self.codes.now c.args.self.one (omega (arith, c.if-codes-ne97.false)) (omega (arith, c.if-codes-ne123.false))).value_one }

pub returns-clause-is : goal.returns-clause-is
returns-clause-is c = same_answer true (is_dictionary (kind_at c.args.self.codes.now)) (sym (ap is_dictionary (entry_is c.args.self.codes.now c.args.self.one (omega (arith, c.if-codes-ne97.false)) (omega (arith, c.if-codes-ne123.false))).is))

pub returns-clause-entry : goal.returns-clause-entry
returns-clause-entry c = (entry_is c.args.self.codes.now c.args.self.one (omega (arith, c.if-codes-ne97.false)) (omega (arith, c.if-codes-ne123.false))).is
