use Rattle.std.proofs.Common.{[], ◌∷◌, refl}
use Rattle.atspi_live_examples.specs.reader.Held.{name}
use Rattle.atspi_protocol.specs.following.ReaderState.{sends, speaks}
use Rattle.atspi_live_examples.proofs.reader.afters.queued_calls.Goals as goal

pub returns-clause-before : goal.returns-clause-before
returns-clause-before c r took e f whole few = record { done = sends e ∷ []; whole = whole; sent = refl; numbered = few }

pub returns-clause-spoke : goal.returns-clause-spoke
returns-clause-spoke c r took e text whole few = record { done = speaks name text ∷ sends e ∷ []; whole = whole; sent = refl; numbered = few }

pub returns-clause-order : goal.returns-clause-order
returns-clause-order c e f = refl
