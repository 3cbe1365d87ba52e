use Rattle.std.proofs.Common.{arith}
use Rattle.atspi_types.specs.KindView.{kind_of, kinds_in}
use Rattle.atspi_types.proofs.ReadingLemmas.{began-code}
use Rattle.atspi_types.proofs.parser.front.Goals as goal

pub loop-byte-preserved : goal.loop-byte-preserved
loop-byte-preserved c =
    rw c.in_ok-push.ensures.ok (began-code c.args.bytes.now (kinds_in c.loop-byte.types) c.loop-byte.byte-index (kind_of c.in-Code.ty) (omega arith) c.in-Code.ensures c.loop-byte.invariant)
