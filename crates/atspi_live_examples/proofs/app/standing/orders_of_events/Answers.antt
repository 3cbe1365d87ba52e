use Rattle.std.proofs.Common.{[], ◌∷◌, refl}
use Rattle.atspi_protocol.specs.exporting.Exporter.{sends}
use Rattle.atspi_live_examples.proofs.app.standing.orders_of_events.Goals as goal

pub returns-clause-handed : goal.returns-clause-handed
returns-clause-handed c e s = (sends e ∷ [], refl, refl)

pub returns-clause-handed_first : goal.returns-clause-handed_first
returns-clause-handed_first c e f s = (sends e ∷ [], refl, refl)
