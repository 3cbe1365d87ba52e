use Rattle.std.proofs.Common.{inl, inr, refl}
use Rattle.atspi_protocol.specs.following.ReaderState.{start_calls}
use Rattle.atspi_trace_examples.specs.caches.Cases.{its_name}
use Rattle.atspi_trace_examples.specs.settled.Cases.{asked_all}
use Rattle.atspi_trace_examples.proofs.OfSettled.Settling_cases.{none_asked}
use Rattle.atspi_trace_examples.proofs.settled.what_is_asked.Goals as goal

pub returns-clause-children : goal.returns-clause-children
returns-clause-children c = inr (inr (inr (inr (inr (inr (inr (inr (inr (inl refl)))))))))

pub returns-clause-items : goal.returns-clause-items
returns-clause-items c h = none_asked its_name (asked_all start_calls) (refl, (refl, (refl, (refl, (refl, (refl, (refl, (refl, (refl, (refl, tt)))))))))) h
