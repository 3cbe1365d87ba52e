use Rattle.atspi_app_exported.specs.Boxed.{faces_in}
use Rattle.std.proofs.Common.{sym, ◌∙◌}
use Rattle.atspi_app_exported.proofs.Known.{no_actions_there}
use Rattle.atspi_app_exported.proofs.exported.Exported.actions_of.Goals as goal

pub returns-clause-actions : goal.returns-clause-actions
returns-clause-actions g c = c.no_actions.ensures ∙ no_actions_there c.args.self.now.tree.rows (faces_in (λ b. (goal.Face-dyn g (b.vtable, b.value)).nodes b.value) c.args.self.now.kit) c.args.node (sym c.has.ensures.answer ∙ c.if-has.false)
