use Rattle.std.proofs.Common.{rules}
use Rattle.atspi_protocol_messages.proofs.Words.{plain_no_zero, plain_chars}
use Rattle.atspi_protocol_messages.proofs.values.word.Goals as goal

pub of-requires-clause-no_zero : goal.of-requires-clause-no_zero
of-requires-clause-no_zero c = plain_no_zero c.args.text.now c.requires.plain

pub returns : goal.returns
returns c = search (rules, plain_chars c.args.text.now c.requires.plain, c.of.ensures)
