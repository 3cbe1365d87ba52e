use Rattle.std.proofs.Common.{refl}
use Rattle.atspi_faces.proofs.SideLemmas.{spread, gathered}
use Rattle.atspi_faces.proofs.side.Side.give.Goals as goal

pub returns-clause-sides : goal.returns-clause-sides
returns-clause-sides c = λ text sides place.
    gathered text _ _ _ place c.without-other.ensures.chars c.without-other.ensures.bytes
    (c.spill.ensures text _ c.requires.less (spread text c.args.self.now c.args.other.now _ _ sides refl refl c.put.ensures))
