use Rattle.std.proofs.Common.{arith}
use Rattle.atspi_message_in_place.proofs.ParsingLaws.{parse_found, parse_only, parse_first, parse_told}
use Rattle.atspi_message_in_place.proofs.message.MessageRef.parse.Goals as goal

pub returns-clause-found : goal.returns-clause-found
returns-clause-found c = parse_found c.args.bytes.now c.read.result (λ i. omega (arith, c.type_inv.bytes i)) c.requires.length c.requires.sound c.read.ensures

pub returns-clause-only : goal.returns-clause-only
returns-clause-only c e message = parse_only c.args.bytes.now c.read.result (λ i. omega (arith, c.type_inv.bytes i)) c.read.ensures e message

pub returns-clause-first : goal.returns-clause-first
returns-clause-first c = parse_first c.args.bytes.now c.read.result (λ i. omega (arith, c.type_inv.bytes i)) c.requires.length c.requires.sound c.read.ensures

pub returns-clause-told : goal.returns-clause-told
returns-clause-told c place reason first = parse_told c.args.bytes.now c.read.result (λ i. omega (arith, c.type_inv.bytes i)) c.requires.length c.requires.sound c.read.ensures place reason first
