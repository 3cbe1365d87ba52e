use Rattle.std.proofs.Common.{sym, ap}
use Rattle.std.proofs.lemmas.Str.{encodes-chars}
use Rattle.atspi_protocol.specs.registering.Steps.{forgets}
use Rattle.atspi_registry.proofs.Does.{same_step}
use Rattle.atspi_registry.proofs.registry.Registry.lose.Goals as goal

pub returns : goal.returns
returns c = same_step _ _ _ _ _ (ap (forgets c.args.self.now.state) (sym (encodes-chars c.args.name.now c.utf8.name))) c.forget.ensures
