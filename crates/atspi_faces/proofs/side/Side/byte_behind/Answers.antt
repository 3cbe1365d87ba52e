use Rattle.std.proofs.Common.{reverse, chars, subst}
use Rattle.std.proofs.lemmas.List.{reverse-reverse}
use Rattle.atspi_faces.specs.Sides.{IsPlace}
use Rattle.atspi_faces.proofs.SideLemmas.{mirrored}
use Rattle.atspi_faces.proofs.side.Side.byte_behind.Goals as goal

pub further-requires-clause-from : goal.further-requires-clause-from
further-requires-clause-from c =
    let cs = chars c.args.text.now in
    let side = c.requires.side in
    subst (λ l. IsPlace l c.without.result) (reverse-reverse cs)
    (mirrored (reverse cs) c.args.self.now.end c.near_behind-near.result c.without.result side.counted side.sized (c.near_behind-near.ensures.place (reverse cs) side) c.without.ensures.chars c.without.ensures.bytes)
