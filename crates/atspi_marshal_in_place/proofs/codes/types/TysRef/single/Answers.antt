use Rattle.std.proofs.Common.{length, sym, ap, ◌∙◌, arith}
use Rattle.std.proofs.lemmas.Bool.{false≢true}
use Rattle.atspi_marshal_in_place.proofs.OfCodes.Parts.{some_codes, emptiness, alone_is, alone_only}
use Rattle.atspi_marshal_in_place.proofs.codes.types.TysRef.single.Goals as goal

pub returns-then-is_empty-clause-is : goal.returns-then-is_empty-clause-is
returns-then-is_empty-clause-is c =
    let none = (emptiness c.args.self.codes.now c.args.self.all).0 (sym c.is_empty.ensures ∙ c.if-is_empty.true) in
    (λ e. absurd (false≢true e), λ e. absurd (omega (arith, e, ap length none)))

pub returns-then-first_len-codes-clause-is : goal.returns-then-first_len-codes-clause-is
returns-then-first_len-codes-clause-is c =
    let codes = c.args.self.codes.now in
    (λ e. absurd (false≢true e), λ e. absurd (omega (arith, alone_only codes c.args.self.all (some_codes codes (sym c.is_empty.ensures ∙ c.if-is_empty.false)) e, c.first_len.ensures, c.if-first_len-codes.true)))

pub invariant_of-result : goal.invariant_of-result
invariant_of-result c =
    let codes = c.args.self.codes.now in
    record { one = alone_is codes c.args.self.all (some_codes codes (sym c.is_empty.ensures ∙ c.if-is_empty.false)) (omega (arith, c.first_len.ensures, c.if-first_len-codes.false)) }
