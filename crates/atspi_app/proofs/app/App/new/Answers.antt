use Rattle.std.proofs.Common.{refl}
use Rattle.atspi_app_exported.specs.Boxed.{parts_in}
use Rattle.atspi_app.proofs.Shown.{seen_begins}
use Rattle.atspi_app.proofs.app.App.new.Goals as goal

pub returns-in-Ok-clause-begins : goal.returns-in-Ok-clause-begins
returns-in-Ok-clause-begins g c =
    seen_begins (parts_in (λ b. (goal.Face-dyn g (b.vtable, b.value)).nodes b.value) c.in-Ok.exported) _ c.new-known.result c.args.name c.in-Ok.ensures.root c.in-Ok.ensures.none_added refl c.new-known.ensures.name
    c.new-known.ensures.heard c.new-known.ensures.phase c.new-known.ensures.next c.new-known.ensures.out
