use Rattle.std.proofs.Common.{sym, ◌∙◌}
use Rattle.std.proofs.lemmas.Slice.Eq.{bytes_eq-Decides}
use Rattle.atspi_protocol.specs.members.Interfaces as names
use Rattle.atspi_registry.proofs.OfCalls.Properties.{unknown, none_of, roots}
use Rattle.atspi_registry.proofs.calls.asking.properties.Goals as goal

pub returns-then-not-has-clause-properties : goal.returns-then-not-has-clause-properties
returns-then-not-has-clause-properties c = unknown c.args.object c.args.interface.now c.args.interface.now c.utf8.interface c.utf8.interface (sym c.has.ensures ∙ c.if-not-has.true)

pub returns-then-is_word-clause-properties : goal.returns-then-is_word-clause-properties
returns-then-is_word-clause-properties c =
    roots c.args.object c.args.interface.now c.args.interface.now c.utf8.interface c.utf8.interface (sym c.has.ensures ∙ c.if-not-has.false)
    ((bytes_eq-Decides c.args.interface.now names.accessible).0 (sym c.is_word.ensures ∙ c.if-is_word.true))

pub returns-clause-properties : goal.returns-clause-properties
returns-clause-properties c = none_of c.args.object c.args.interface.now c.args.interface.now c.utf8.interface c.utf8.interface (sym c.has.ensures ∙ c.if-not-has.false) (sym c.is_word.ensures ∙ c.if-is_word.false)
