use Rattle.std.proofs.Common.{length, ap, length-append, arith}
use Rattle.atspi_world_moves.proofs.Filling.{given_piece}
use Rattle.atspi_world_moves.proofs.down.carry_down.Goals as goal

pub returns-clause-gives : goal.returns-clause-gives
returns-clause-gives c =
    let begins = c.front.ensures.begins in
    let few = c.in_ok-count.ensures.there in
    let many = ap length begins.1 in
    let sum = length-append c.front.result.now begins.0 in
    given_piece _ _ c.args.conn c.in_ok-count.count c.front.result.now begins.0 _ _ begins.1 few c.in_ok-count.ensures.moved c.pop.ensures (omega (arith, few, many, sum))
