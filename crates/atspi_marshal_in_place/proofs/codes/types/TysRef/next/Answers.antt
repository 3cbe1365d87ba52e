use Rattle.std.proofs.Common.{sym, ◌∙◌, arith}
use Rattle.std.proofs.lemmas.List.{length-take}
use Rattle.std.proofs.lemmas.Bool.{eqb-true}
use Rattle.atspi_marshal_in_place.proofs.OfCodes.Parts.{next_here}
use Rattle.atspi_marshal_in_place.proofs.OfCodes.Spelled.{none_spelled}
use Rattle.atspi_marshal_in_place.proofs.codes.types.TysRef.next.Goals as goal

pub returns : goal.returns
returns c = (next_here c.args.self.now.codes.now c.first_len-len.result c.args.self.now.all (sym c.is_empty.ensures ∙ c.if-is_empty.false) c.first_len-len.ensures).0.kinds

pub returns-then-is_empty : goal.returns-then-is_empty
returns-then-is_empty c =
    let codes = c.args.self.now.codes.now in
    let none = none_spelled codes c.args.self.now.all (eqb-true _ 0 (sym c.is_empty.ensures ∙ c.if-is_empty.true)) in
    (none, none)

pub slice_bounds-self-count : goal.slice_bounds-self-count
slice_bounds-self-count c = (next_here c.args.self.now.codes.now c.first_len-len.result c.args.self.now.all (sym c.is_empty.ensures ∙ c.if-is_empty.false) c.first_len-len.ensures).1

pub slice_bounds-self-start : goal.slice_bounds-self-start
slice_bounds-self-start c = (next_here c.args.self.now.codes.now c.first_len-len.result c.args.self.now.all (sym c.is_empty.ensures ∙ c.if-is_empty.false) c.first_len-len.ensures).1

pub invariant_of-self : goal.invariant_of-self
invariant_of-self c = record { all = (next_here c.args.self.now.codes.now c.first_len-len.result c.args.self.now.all (sym c.is_empty.ensures ∙ c.if-is_empty.false) c.first_len-len.ensures).0.all }

pub slice_bounds-result-end : goal.slice_bounds-result-end
slice_bounds-result-end c =
    let n = (next_here c.args.self.now.codes.now c.first_len-len.result c.args.self.now.all (sym c.is_empty.ensures ∙ c.if-is_empty.false) c.first_len-len.ensures) in
    omega (arith, n.1, length-take c.first_len-len.result c.args.self.now.codes.now)

pub invariant_of-result : goal.invariant_of-result
invariant_of-result c = record { one = (next_here c.args.self.now.codes.now c.first_len-len.result c.args.self.now.all (sym c.is_empty.ensures ∙ c.if-is_empty.false) c.first_len-len.ensures).0.one }
