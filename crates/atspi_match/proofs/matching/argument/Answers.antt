use Rattle.std.proofs.Common.{◌≡◌, ℕ, ◌≤◌, List, Option, None, drop, subst, sym, ap, ◌∙◌, arith}
use Rattle.std.specs.List.{slice_get}
use Rattle.std.specs.Option.{option_map}
use Rattle.atspi_marshal_in_place.specs.Items.{item_data, fields_data}
use Rattle.atspi_marshal_in_place.specs.declared.cursor.Item.{Item}
use Rattle.atspi_match.proofs.Arguments.{one_passed, none_there, argument_is}
use Rattle.atspi_match.proofs.matching.argument.Goals as goal

pub returns-in_err-next : goal.returns-in_err-next
returns-in_err-next c =
    let body = fields_data c.args.m.now.body in
    let le : c.loop.counter ≤ c.args.index = omega (arith, c.loop.invariant.0) in
    let none = none_there body c.loop.counter c.args.index (c.loop.invariant.1 ∙ c.in_err-next.ensures.comes.0) le in
    ap (λ (o : Option Item). option_map item_data o) c.from_residual.ensures ∙ sym none

pub loop-preserved : goal.loop-preserved
loop-preserved c = (
  omega (arith, c.loop-test.true),
  one_passed (fields_data c.args.m.now.body) c.loop.counter (item_data c.in_ok-next.field-0) (fields_data c.loop.rest) (fields_data c.next.new.self) c.loop.invariant.1 c.in_ok-next.ensures.comes,
)

pub returns : goal.returns
returns c =
    let body = fields_data c.args.m.now.body in
    let all : c.loop.counter ≡ c.args.index = omega (arith, c.loop.invariant.0, c.loop-test.false) in
    let left : drop c.args.index body ≡ fields_data c.loop.rest = subst (λ (n : ℕ). drop n body ≡ fields_data c.loop.rest) all c.loop.invariant.1 in
    argument_is body c.args.index c.next-2.result (fields_data c.loop.rest) (fields_data c.next-2.new.self) left c.next-2.ensures.comes
