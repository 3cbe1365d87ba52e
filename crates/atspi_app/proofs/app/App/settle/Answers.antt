use Rattle.std.proofs.Common.{rules, w32, SFits, sym, ap, ◌∙◌, subst}
use Rattle.std.proofs.lemmas.Int.{to_z-of_z}
use Rattle.atspi_tree_model.specs.Row.{Each}
use Rattle.atspi_message_in_place.specs.View.{envelope_at}
use Rattle.atspi_tree.specs.TreeShape.{TreeShape}
use Rattle.atspi_app_signals.specs.Asked.{CanBeTold}
use Rattle.atspi_app_known.specs.happenings.View.{happened}
use Rattle.atspi_app_exported.specs.Boxed.{parts_in}
use Rattle.atspi_app.proofs.OfCalls.{call_applies, call_can_be_told, call_is_taken_at, ok_along, spent_along}
use Rattle.atspi_app.proofs.app.App.settle.Goals as goal

pub told_of_call-requires : goal.told_of_call-requires
told_of_call-requires g c =
    subst (λ (t : TreeShape). Each (CanBeTold t) c.args.what.steps) (sym c.tree.ensures)
    (call_can_be_told (parts_in (λ b. (goal.Face-dyn g (b.vtable, b.value)).nodes b.value) c.args.self.now.exported) c.args.self.now.id c.args.self.now.known (envelope_at c.args.call.now) c.args.what c.requires.comes c.requires.app.lawful)

pub do_call-requires-clause-apply : goal.do_call-requires-clause-apply
do_call-requires-clause-apply g c =
    call_applies (parts_in (λ b. (goal.Face-dyn g (b.vtable, b.value)).nodes b.value) c.args.self.now.exported) c.args.self.now.id c.args.self.now.known (envelope_at c.args.call.now) c.args.what c.requires.comes c.requires.app.lawful

pub returns-in-Ok-clause-ok : goal.returns-in-Ok-clause-ok
returns-in-Ok-clause-ok g c =
    let fits : SFits w32 c.args.what.id = search rules in
    ok_along c.do_call.result _ _ _
    (call_is_taken_at (parts_in (λ b. (goal.Face-dyn g (b.vtable, b.value)).nodes b.value) c.args.self.now.exported) c.args.self.now.id c.args.self.now.known (envelope_at c.args.call.now) c.args.what c.requires.comes _ (to_z-of_z w32 c.args.what.id fits) (happened c.in-Ok.told) c.requires.answered (λ f e. c.in-Ok.ensures f (e ∙ sym (ap (λ (t : TreeShape). t.rows) c.tree.ensures))))
    c.do_call.ensures.ok

pub returns-in-Ok-clause-spent : goal.returns-in-Ok-clause-spent
returns-in-Ok-clause-spent g c = λ h.
    let fits : SFits w32 c.args.what.id = search rules in
    spent_along _ _
    (call_is_taken_at (parts_in (λ b. (goal.Face-dyn g (b.vtable, b.value)).nodes b.value) c.args.self.now.exported) c.args.self.now.id c.args.self.now.known (envelope_at c.args.call.now) c.args.what c.requires.comes _ (to_z-of_z w32 c.args.what.id fits) (happened c.in-Ok.told) c.requires.answered (λ f e. c.in-Ok.ensures f (e ∙ sym (ap (λ (t : TreeShape). t.rows) c.tree.ensures))))
    (c.do_call.ensures.spent h)
