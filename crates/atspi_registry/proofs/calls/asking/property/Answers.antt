use Rattle.std.proofs.Common.{sym, ◌∙◌}
use Rattle.std.proofs.lemmas.Slice.Eq.{bytes_eq-Decides}
use Rattle.atspi_protocol.specs.members.Interfaces as names
use Rattle.atspi_registry.proofs.OfCalls.Properties.{unknown_one, none_one, the_name, the_count, another}
use Rattle.atspi_registry.proofs.calls.asking.property.Goals as goal

pub returns-then-not-has-clause-property : goal.returns-then-not-has-clause-property
returns-then-not-has-clause-property c = unknown_one c.args.object c.args.interface.now c.args.name.now c.utf8.interface c.utf8.name (sym c.has.ensures ∙ c.if-not-has.true)

pub returns-then-not-is_word-clause-property : goal.returns-then-not-is_word-clause-property
returns-then-not-is_word-clause-property c =
    none_one c.args.object c.args.interface.now c.args.name.now c.utf8.interface c.utf8.name (sym c.has.ensures ∙ c.if-not-has.false) (sym c.is_word.ensures ∙ c.if-not-is_word.true)

pub returns-then-is_word-clause-property : goal.returns-then-is_word-clause-property
returns-then-is_word-clause-property c =
    the_name c.args.object c.args.interface.now c.args.name.now c.utf8.interface c.utf8.name (sym c.has.ensures ∙ c.if-not-has.false)
    ((bytes_eq-Decides c.args.interface.now names.accessible).0 (sym c.is_word.ensures ∙ c.if-not-is_word.false)) (sym c.is_word-2.ensures ∙ c.if-is_word.true)

pub returns-then-is_word-2-clause-property : goal.returns-then-is_word-2-clause-property
returns-then-is_word-2-clause-property c =
    the_count c.args.object c.args.interface.now c.args.name.now c.utf8.interface c.utf8.name (sym c.has.ensures ∙ c.if-not-has.false)
    ((bytes_eq-Decides c.args.interface.now names.accessible).0 (sym c.is_word.ensures ∙ c.if-not-is_word.false)) (sym c.is_word-2.ensures ∙ c.if-is_word.false)
    (sym c.is_word-3.ensures ∙ c.if-is_word-2.true)

pub returns-clause-property : goal.returns-clause-property
returns-clause-property c =
    another c.args.object c.args.interface.now c.args.name.now c.utf8.interface c.utf8.name (sym c.has.ensures ∙ c.if-not-has.false)
    ((bytes_eq-Decides c.args.interface.now names.accessible).0 (sym c.is_word.ensures ∙ c.if-not-is_word.false)) (sym c.is_word-2.ensures ∙ c.if-is_word.false)
    (sym c.is_word-3.ensures ∙ c.if-is_word-2.false)
