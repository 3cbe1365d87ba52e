use Rattle.std.proofs.Common.{refl, inl, inr}
use Rattle.atspi_live_bus.proofs.Refusing.{has_to_be_taken}
use Rattle.atspi_live_bus.proofs.examples.next_messages.Goals as goal

pub returns-clause-taken : goal.returns-clause-taken
returns-clause-taken c = has_to_be_taken

pub returns-clause-malformed : goal.returns-clause-malformed
returns-clause-malformed c = λ x y rest place reason calls fault parts. inr (inr (inl refl, (place, reason, fault), parts))
