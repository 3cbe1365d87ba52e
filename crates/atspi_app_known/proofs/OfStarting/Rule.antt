-- The characters of the rule by which the registry's signals are asked for.
use Rattle.std.proofs.Common.{◌≡◌, refl}
use Rattle.std.specs.Str.{chars as characters}
use Rattle.atspi_protocol.specs.exporting.Starting.{registry_signals}

pub rule_chars : characters registry_signals ≡ registry_signals
unfolding characters
rule_chars = refl
