use Rattle.std.proofs.Common.{sym}
use Rattle.atspi_protocol_messages.proofs.StateNames.{named, name_is_word}
use Rattle.atspi_protocol_messages.proofs.values.name_of.Goals as goal

pub unreachable-requires : goal.unreachable-requires
unreachable-requires c = named c.args.state c.requires (sym c.in-None.ensures)

pub returns-clause-plain : goal.returns-clause-plain
returns-clause-plain c = (name_is_word c.args.state c.in-Some.name.now c.requires (sym c.in-Some.ensures)).0

pub returns-clause-short : goal.returns-clause-short
returns-clause-short c = (name_is_word c.args.state c.in-Some.name.now c.requires (sym c.in-Some.ensures)).1
