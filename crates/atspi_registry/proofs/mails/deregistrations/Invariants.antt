use Rattle.std.proofs.Common.{◌≡◌, take, map}
use Rattle.atspi_protocol.specs.registering.RegistryState.{pairs_of}
use Rattle.atspi_protocol.specs.registering.Told.{deregistered}
use Rattle.atspi_registry.proofs.mails.deregistrations.Given as goal

abbrev pub invariant-loop-pair : goal.invariant-loop-pair
invariant-loop-pair l = l.mail ≡ map deregistered (pairs_of (take l.pair-index l.pairs) l.name)
