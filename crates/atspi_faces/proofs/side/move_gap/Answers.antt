use Rattle.std.proofs.Common.{reverse, subst}
use Rattle.std.proofs.lemmas.List.{reverse-reverse}
use Rattle.atspi_faces.specs.Sides.{AreSides}
use Rattle.atspi_faces.proofs.SideLemmas.{mirrored, totals, turned}
use Rattle.atspi_faces.proofs.side.move_gap.Goals as goal

pub returns-else-gap-front-clause-sides : goal.returns-else-gap-front-clause-sides
returns-else-gap-front-clause-sides c = λ text sides place.
    let front = c.args.front.now in
    let back = c.args.back.now in
    let sums = totals text front back sides in
    let moved = c.give-else-gap-front.ensures.sides (reverse text) (turned text front back sides)
    (mirrored text _ c.args.gap c.without.result sums.0 sums.1 place c.without.ensures.chars c.without.ensures.bytes) in
    subst (λ l. AreSides l c.give-else-gap-front.new.other c.give-else-gap-front.new.self) (reverse-reverse text) (turned (reverse text) _ _ moved)
