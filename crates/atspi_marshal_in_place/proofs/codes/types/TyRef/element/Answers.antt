use Rattle.std.proofs.Common.{true, false, sym, ap, arith}
use Rattle.atspi_marshal_in_place.specs.codes.Codes.{is_array, kind_at}
use Rattle.atspi_marshal_in_place.proofs.OfCodes.Parts.{one_has_codes, has_second, element_is, no_element, same_answer}
use Rattle.atspi_marshal_in_place.proofs.codes.types.TyRef.element.Goals as goal

pub bounds-codes-0 : goal.bounds-codes-0
bounds-codes-0 c = one_has_codes c.args.self.codes.now c.args.self.one

pub bounds-codes-1 : goal.bounds-codes-1
bounds-codes-1 c = has_second c.args.self.codes.now c.args.self.one (omega (arith, c.if-codes-ne97.false))

pub returns-then-codes-ne97-clause-is : goal.returns-then-codes-ne97-clause-is
returns-then-codes-ne97-clause-is c =
    let codes = c.args.self.codes.now in
    same_answer false (is_array (kind_at codes)) (sym (no_element codes c.args.self.one (λ e. absurd (omega (arith, e, c.if-codes-ne97.true)))))

pub returns-then-codes-eq123-clause-is : goal.returns-then-codes-eq123-clause-is
returns-then-codes-eq123-clause-is c =
    let codes = c.args.self.codes.now in
    same_answer false (is_array (kind_at codes)) (sym (no_element codes c.args.self.one (λ e. omega (arith, c.if-codes-eq123.true))))

pub invariant_of-result : goal.invariant_of-result
invariant_of-result c = record { one = (element_is c.args.self.codes.now c.args.self.one (omega (arith, c.if-codes-ne97.false)) (λ e. omega (arith, e, c.if-codes-eq123.false))).one }

pub returns-clause-is : goal.returns-clause-is
returns-clause-is c =
    let codes = c.args.self.codes.now in
    same_answer true (is_array (kind_at codes)) (sym (ap is_array (element_is codes c.args.self.one (omega (arith, c.if-codes-ne97.false)) (λ e. omega (arith, e, c.if-codes-eq123.false))).is))

pub returns-clause-element : goal.returns-clause-element
returns-clause-element c = (element_is c.args.self.codes.now c.args.self.one (omega (arith, c.if-codes-ne97.false)) (λ e. omega (arith, e, c.if-codes-eq123.false))).is
