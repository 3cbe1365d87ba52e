use Rattle.std.proofs.Common.{arith}
use Rattle.atspi_types.specs.KindView.{kind_of}
use Rattle.atspi_marshal.proofs.Decoded.{found, only, first, refused}
use Rattle.atspi_marshal.proofs.decoding.decode.Goals as goal

pub returns-clause-found : goal.returns-clause-found
returns-clause-found c = found c.args.order c.args.bytes.now (kind_of c.args.ty.now) c.args.at c.decode_value.result c.requires.lawful (λ i. omega (arith, c.type_inv.bytes i)) c.decode_value.ensures

pub returns-clause-only : goal.returns-clause-only
returns-clause-only c = only c.args.order c.args.bytes.now (kind_of c.args.ty.now) c.args.at c.decode_value.result c.requires.lawful c.decode_value.ensures

pub returns-clause-first : goal.returns-clause-first
returns-clause-first c = first c.args.order c.args.bytes.now (kind_of c.args.ty.now) c.args.at c.decode_value.result c.requires.lawful (λ i. omega (arith, c.type_inv.bytes i)) c.requires.limits.0 c.decode_value.ensures

pub returns-clause-refused : goal.returns-clause-refused
returns-clause-refused c = refused c.args.order c.args.bytes.now (kind_of c.args.ty.now) c.args.at c.decode_value.result c.requires.lawful c.requires.limits.0 c.decode_value.ensures
