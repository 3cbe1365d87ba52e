use Rattle.std.proofs.Common.{[], ◌++◌, refl, sym, subst, inl, lit≤, append-nil}
use Rattle.std.specs.Prelude.{ℕ, List, false, true}
use Rattle.atspi_live_host.specs.Calls.{taken}
use Rattle.atspi_live_bus.specs.Service.{IsSpeech}
use Rattle.atspi_live_host.specs.declared.call.Did.{Did}
use Rattle.atspi_live_host.specs.declared.call.Did.TheVariants.{NotYet, End}
use Rattle.atspi_live_host.specs.declared.call.Call.TheVariants.{Read}
use Rattle.atspi_live_bus.specs.Turns.{Converses}
use Rattle.atspi_live_bus.specs.inner.Turns.{Remains}
use Rattle.atspi_live_bus.proofs.Conversing.{speech_of}
use Rattle.atspi_live_bus.proofs.Worked.{not_none}
use Rattle.atspi_live_bus_examples.proofs.Facts.{few_read}
use Rattle.atspi_live_bus_examples.proofs.Kept.{ended_did, first_wrong, other_read, same_bytes}
use Rattle.atspi_live_bus_examples.proofs.keeping.reads_of_links.Goals as goal

pub returns-clause-waits : goal.returns-clause-waits
returns-clause-waits c l past on = ([], NotYet, lit≤ tt, refl, λ took handed g talks. subst (λ (w : List ℕ). Remains true NotYet took handed l w g) (sym (append-nil (taken 3 past))) (on, talks))

pub returns-clause-ended : goal.returns-clause-ended
returns-clause-ended c l past = ([], End, lit≤ tt, refl, λ took handed g talks. subst (λ (w : List ℕ). Remains false End took handed l w g) (sym (append-nil (taken 3 past))) (inl refl, speech_of took handed l (taken 3 past) g talks))

pub returns-clause-at_fault : goal.returns-clause-at_fault
returns-clause-at_fault c l m talks h = first_wrong [] [] [] m (subst (λ (w : List ℕ). Converses [] [] m ([] ++ w) []) (sym (same_bytes h.0 h.1 h.3)) (h.4 [] [] [] talks).1)

pub returns-clause-ended_goes_on : goal.returns-clause-ended_goes_on
returns-clause-ended_goes_on c l m talks h = (subst (λ (d : Did). Remains true d [] [] m ([] ++ h.0) []) (sym (ended_did h.0 h.1 h.3)) (h.4 [] [] [] talks)).0 (inl refl)

pub returns-clause-no_read : goal.returns-clause-no_read
returns-clause-no_read c l m h = not_none (Read 3 h.0 h.1) [] h.3

pub returns-clause-of_another : goal.returns-clause-of_another
returns-clause-of_another c l m h = other_read [] h.0 h.1 h.3

pub returns-clause-more : goal.returns-clause-more
returns-clause-more c l m bytes did many h = few_read [] [] bytes h.0 did h.1 many h.2 h.3

pub returns-clause-wanting : goal.returns-clause-wanting
returns-clause-wanting c l past = ([], NotYet, lit≤ tt, refl, λ took handed g talks. subst (λ (w : List ℕ). IsSpeech took handed w g) (sym (append-nil (taken 3 past))) (speech_of took handed l (taken 3 past) g talks))

pub returns-clause-wanting_none : goal.returns-clause-wanting_none
returns-clause-wanting_none c l h = not_none (Read 3 h.0 h.1) [] h.3

pub returns-clause-wanting_another : goal.returns-clause-wanting_another
returns-clause-wanting_another c l h = other_read [] h.0 h.1 h.3

pub returns-clause-wanting_more : goal.returns-clause-wanting_more
returns-clause-wanting_more c l bytes did many h = few_read [] [] bytes h.0 did h.1 many h.2 h.3
