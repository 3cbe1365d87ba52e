use Rattle.atspi_app_exported.specs.Boxed.{faces_in}
use Rattle.std.proofs.Common.{sym, ◌∙◌}
use Rattle.atspi_app_exported.proofs.Known.{no_text_there}
use Rattle.atspi_app_exported.proofs.exported.Exported.text_of.Goals as goal

pub returns-clause-text : goal.returns-clause-text
returns-clause-text g c = c.no_actions.ensures ∙ no_text_there c.args.self.now.tree.rows (faces_in (λ b. (goal.Face-dyn g (b.vtable, b.value)).nodes b.value) c.args.self.now.kit) c.args.node (sym c.has.ensures.answer ∙ c.if-has.false)
