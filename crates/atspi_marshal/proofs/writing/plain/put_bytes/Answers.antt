use Rattle.std.proofs.Common.{arith}
use Rattle.atspi_marshal.proofs.writing.plain.put_bytes.Goals as goal

pub returns-clause-bytes : goal.returns-clause-bytes
returns-clause-bytes c = λ i. omega (arith, c.type_inv.bytes i)
