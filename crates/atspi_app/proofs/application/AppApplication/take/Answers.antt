use Rattle.std.proofs.Common.{sym, ap, ◌∙◌}
use Rattle.atspi_message_in_place.specs.View.{envelope_at}
use Rattle.atspi_protocol.specs.exporting.Taking.{is_spent}
use Rattle.atspi_app_exported.specs.Boxed.{parts_in}
use Rattle.atspi_app_known.proofs.OfHeeding.Heeded.{heeded}
use Rattle.atspi_app.specs.Seen.{seen, with_tree}
use Rattle.atspi_app.proofs.application.AppApplication.take.Goals as goal

pub take_call-requires-clause-answered : goal.take_call-requires-clause-answered
take_call-requires-clause-answered g c = sym (c.is_answered.ensures (with_tree (parts_in (λ b. (goal.Face-dyn g (b.vtable, b.value)).nodes b.value) c.args.self.now.exported) c.args.self.now.id)) ∙ c.if-is_answered.true

pub returns-in-Ok-clause-ok : goal.returns-in-Ok-clause-ok
returns-in-Ok-clause-ok g c = c.in-Ok.ensures.ok (with_tree (parts_in (λ b. (goal.Face-dyn g (b.vtable, b.value)).nodes b.value) c.args.self.now.exported) c.args.self.now.id) ∙ sym (heeded (seen (parts_in (λ b. (goal.Face-dyn g (b.vtable, b.value)).nodes b.value) c.args.self.now.exported) c.args.self.now.id c.args.self.now.known) (envelope_at c.args.message.now) (sym (c.is_answered.ensures (with_tree (parts_in (λ b. (goal.Face-dyn g (b.vtable, b.value)).nodes b.value) c.args.self.now.exported) c.args.self.now.id)) ∙ c.if-is_answered.false))

pub returns-in-Ok-clause-numbered : goal.returns-in-Ok-clause-numbered
returns-in-Ok-clause-numbered g c = c.is_numbered.ensures (with_tree (parts_in (λ b. (goal.Face-dyn g (b.vtable, b.value)).nodes b.value) c.args.self.now.exported) c.args.self.now.id)

pub returns-in-Err-clause-spent : goal.returns-in-Err-clause-spent
returns-in-Err-clause-spent g c = λ h.
    ap is_spent (heeded (seen (parts_in (λ b. (goal.Face-dyn g (b.vtable, b.value)).nodes b.value) c.args.self.now.exported) c.args.self.now.id c.args.self.now.known) (envelope_at c.args.message.now) (sym (c.is_answered.ensures (with_tree (parts_in (λ b. (goal.Face-dyn g (b.vtable, b.value)).nodes b.value) c.args.self.now.exported) c.args.self.now.id)) ∙ c.if-is_answered.false))
    ∙ c.in-Err.ensures.spent h (with_tree (parts_in (λ b. (goal.Face-dyn g (b.vtable, b.value)).nodes b.value) c.args.self.now.exported) c.args.self.now.id)

pub returns-in-Err-clause-err : goal.returns-in-Err-clause-err
returns-in-Err-clause-err g c = c.in-Err.ensures.err (with_tree (parts_in (λ b. (goal.Face-dyn g (b.vtable, b.value)).nodes b.value) c.args.self.now.exported) c.args.self.now.id)
