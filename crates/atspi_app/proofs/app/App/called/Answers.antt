use Rattle.std.proofs.Common.{rules, w32, SFits}
use Rattle.std.proofs.lemmas.Int.{to_z-of_z}
use Rattle.std.proofs.lemmas.Result.{IfOk-weaker}
use Rattle.atspi_message_in_place.specs.View.{envelope_at}
use Rattle.atspi_app_exported.specs.Boxed.{kinds_in, parts_in}
use Rattle.atspi_app.specs.called.Called.{answer_of}
use Rattle.atspi_app.proofs.OfCalls.{lent_answer_at, lent_kinds, lent_lawful}
use Rattle.atspi_app.proofs.app.App.called.Goals as goal

pub called-requires-clause-kinds : goal.called-requires-clause-kinds
called-requires-clause-kinds g c = lent_kinds (kinds_in (λ b. (goal.Face-dyn g (b.vtable, b.value)).of_kind b.value) c.args.self.now.exported.kit) _ _ _ c.chars.ensures.kind c.grid.ensures.kind c.deeds.ensures.kind c.requires.kinds

pub called-requires-clause-lawful : goal.called-requires-clause-lawful
called-requires-clause-lawful g c =
    lent_lawful (parts_in (λ b. (goal.Face-dyn g (b.vtable, b.value)).nodes b.value) c.args.self.now.exported) _ _ _ _ c.tree.ensures c.chars.ensures.nodes c.grid.ensures.nodes c.deeds.ensures.nodes c.requires.lawful

pub returns-clause-comes : goal.returns-clause-comes
returns-clause-comes g c =
    let fits : SFits w32 c.args.self.now.id = search rules in
    IfOk-weaker c.called.result _ _
    (λ x h. lent_answer_at (parts_in (λ b. (goal.Face-dyn g (b.vtable, b.value)).nodes b.value) c.args.self.now.exported) _ c.args.self.now.id c.args.self.now.known _ _ _ _ c.in_ok-bus.bus (envelope_at c.args.call.now) (answer_of x) (to_z-of_z w32 c.args.self.now.id fits) c.tree.ensures c.chars.ensures.nodes c.grid.ensures.nodes c.deeds.ensures.nodes c.in_ok-bus.ensures h)
    c.called.ensures.comes
