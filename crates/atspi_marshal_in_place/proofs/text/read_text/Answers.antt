use Rattle.std.proofs.Common.{sym, ◌∙◌}
use Rattle.atspi_marshal_in_place.proofs.Texts.{plain_text}
use Rattle.atspi_marshal_in_place.proofs.text.read_text.Goals as goal

pub returns-then-are_plain-clause-text : goal.returns-then-are_plain-clause-text
returns-then-are_plain-clause-text c = plain_text c.args.bytes.now (sym c.are_plain.ensures ∙ c.if-are_plain.true)
