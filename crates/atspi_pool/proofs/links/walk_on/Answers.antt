use Rattle.std.proofs.Common.{◌≡◌, ◌<◌, ◌+◌, length, sym, ap, ◌∙◌, subst, arith, add-one, slice_index}
use Rattle.atspi_pool.proofs.WalkLemmas.{jump, jump_more, get_or-walk}
use Rattle.atspi_pool.proofs.links.walk_on.Goals as goal

pub offset_bounds-next-block : goal.offset_bounds-next-block
offset_bounds-next-block c =
    let lt : c.loop.counter < c.args.count = c.loop-test.true in
    let within : c.loop.block < length c.args.next.now =
    subst (λ j. j < length c.args.next.now) (get_or-walk c.args.next.now c.args.from c.loop.counter c.args.count lt ∙ sym c.loop.invariant) (c.requires c.loop.counter lt) in
    omega arith

pub bounds-next-block : goal.bounds-next-block
bounds-next-block c =
    subst (λ j. j < length c.args.next.now)
    (get_or-walk c.args.next.now c.args.from c.loop.counter c.args.count c.loop-test.true ∙ sym c.loop.invariant)
    (c.requires c.loop.counter c.loop-test.true)

pub loop-preserved : goal.loop-preserved
loop-preserved c =
    ap (λ b. slice_index c.args.next.now b) c.loop.invariant ∙ sym (jump_more c.args.next.now c.args.from c.loop.counter)
    ∙ ap (jump c.args.next.now c.args.from) (sym (add-one c.loop.counter))

pub returns : goal.returns
returns c =
    let e : c.loop.counter ≡ c.args.count = omega arith in
    let lt : c.args.count < c.args.count + 1 = omega arith in
    c.loop.invariant ∙ ap (jump c.args.next.now c.args.from) e
    ∙ sym (get_or-walk c.args.next.now c.args.from c.args.count (c.args.count + 1) lt)
