use Rattle.std.proofs.Common.{sym, ap, ◌∙◌}
use Rattle.atspi_match.specs.Slots.{is_its, slot_at}
use Rattle.atspi_match.proofs.SlotLemmas.{kept-its, gone-its}
use Rattle.atspi_match.proofs.slots.empty_its.Goals as goal

pub returns-then-not-is_of-clause-slots : goal.returns-then-not-is_of-clause-slots
returns-then-not-is_of-clause-slots c =
    kept-its c.args.slots.now.items c.args.place c.args.conn
    (ap (λ l. is_its c.args.conn (slot_at l c.args.place)) (sym c.deref.ensures.value) ∙ sym c.is_of.ensures ∙ c.if-not-is_of.true)

pub returns-clause-slots : goal.returns-clause-slots
returns-clause-slots c =
    c.empty.ensures.slots
    ∙ gone-its c.args.slots.now.items c.args.place c.args.conn
    (ap (λ l. is_its c.args.conn (slot_at l c.args.place)) (sym c.deref.ensures.value) ∙ sym c.is_of.ensures ∙ c.if-not-is_of.false)
