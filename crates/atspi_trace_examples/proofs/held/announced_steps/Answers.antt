use lib.Utf8.{encode}
use Rattle.std.proofs.Common.{[], ◌∷◌, refl}
use Rattle.atspi_trace.specs.Entry.{heard}
use Rattle.atspi_trace_laws.proofs.OfOrder.Parties.{false_true}
use Rattle.atspi_trace_examples.proofs.OfHeld.Unasked.{nobody_asked}
use Rattle.atspi_trace_examples.proofs.held.announced_steps.Goals as goal

pub returns-clause-announced : goal.returns-clause-announced
unfolding encode
returns-clause-announced c = record { early = heard 0 [] [] ∷ []; is_sent = refl; stands = refl; asked = refl }

pub returns-clause-unasked : goal.returns-clause-unasked
returns-clause-unasked c a = nobody_asked a

pub returns-clause-unsent : goal.returns-clause-unsent
returns-clause-unsent c a = false_true a.is_sent
