use Rattle.atspi_app_exported.specs.Boxed.{kinds_in, parts_in}
use Rattle.atspi_app_exported.proofs.Following.{small_texts, small_columns, small_actions}
use Rattle.atspi_app_exported.proofs.exported.Exported.swap_face.Goals as goal

pub exchange-requires-clause-small : goal.exchange-requires-clause-small
exchange-requires-clause-small g c = small_texts (kinds_in (λ b. (goal.Face-dyn g (b.vtable, b.value)).of_kind b.value) c.args.self.now.kit) (parts_in (λ b. (goal.Face-dyn g (b.vtable, b.value)).nodes b.value) c.args.self.now) c.requires.exported

pub exchange-requires-in-Grid-clause-small : goal.exchange-requires-in-Grid-clause-small
exchange-requires-in-Grid-clause-small g c = small_columns (kinds_in (λ b. (goal.Face-dyn g (b.vtable, b.value)).of_kind b.value) c.args.self.now.kit) (parts_in (λ b. (goal.Face-dyn g (b.vtable, b.value)).nodes b.value) c.args.self.now) c.requires.exported

pub exchange-requires-in-Deeds-clause-small : goal.exchange-requires-in-Deeds-clause-small
exchange-requires-in-Deeds-clause-small g c = small_actions (kinds_in (λ b. (goal.Face-dyn g (b.vtable, b.value)).of_kind b.value) c.args.self.now.kit) (parts_in (λ b. (goal.Face-dyn g (b.vtable, b.value)).nodes b.value) c.args.self.now) c.requires.exported
