use Rattle.std.proofs.Common.{length, ap, arith}
use Rattle.atspi_faces.proofs.SideLemmas.{noted_place}
use Rattle.atspi_faces.proofs.side.Side.near_behind.Goals as goal

pub returns-clause-place : goal.returns-clause-place
returns-clause-place c = λ cs is.
    noted_place cs c.args.self.now.end.chars c.args.self.now.places.items c.partition_point-n.result c.index-2.result.now is.noted
    (omega (arith, c.partition_point-n.ensures.bound, ap length c.deref.ensures.value, c.if-n-len.false, c.len.ensures, c.args.self.now.places.ok)) c.index-2.ensures
