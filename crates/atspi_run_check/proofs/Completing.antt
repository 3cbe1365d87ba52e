-- Where neither source nor sink fails, an input ends as is due.
use Rattle.std.proofs.Common.{◌≡◌, ◌⊎◌, ℕ, List, Option, Some, None, inl, inr}
use Rattle.atspi_stream.specs.Laws.{AreBytes}
use Rattle.atspi_run_check.specs.Causes.{Causes}
use Rattle.atspi_run_check.specs.Check.{Checked, IsCheckStatus}
use Rattle.atspi_run_check.specs.Complete.{EndsAsDue, EndsAsDueOf, NoneFailed}
use Rattle.atspi_run_check.specs.Laws.{HasOneEnd}
use Rattle.atspi_run_check.proofs.EndLemmas.{one_end}

-- the statuses that are left where neither fails
abbrev IsLeft : ℕ → Type 0
IsLeft status = (status ≡ 0) ⊎ ((status ≡ 5) ⊎ ((status ≡ 6) ⊎ (status ≡ 8)))

left_over : (status : ℕ) → IsCheckStatus status → (status ≡ 3 → ⊥) → (status ≡ 4 → ⊥) → IsLeft status
left_over status (inl e) three four = inl e
left_over status (inr (inl e)) three four = absurd (three e)
left_over status (inr (inr (inl e))) three four = absurd (four e)
left_over status (inr (inr (inr (inl e)))) three four = inr (inl e)
left_over status (inr (inr (inr (inr (inl e))))) three four = inr (inr (inl e))
left_over status (inr (inr (inr (inr (inr e))))) three four = inr (inr (inr e))

due : (limit status : ℕ) (input : List ℕ) (left' w w' : Option (List ℕ)) → HasOneEnd limit input → Checked limit status (Some input) left' w w' → IsLeft status → EndsAsDue limit status input
due limit status input left' w w' one c (inl e) =
    let it = c.checked e in
    record {
      whole = λ t a. inl e;
      fault = λ t f. absurd (one.whole_without_fault it.0 t it.1 f);
      past = λ t p. absurd (one.whole_within_limit it.0 t it.1 p);
    }
due limit status input left' w w' one c (inr (inl e)) = record { whole = λ t a. inr e; fault = λ t f. inr e; past = λ t p. inr e }
due limit status input left' w w' one c (inr (inr (inl e))) =
    let it = c.fault e in
    record {
      whole = λ t a. absurd (one.whole_without_fault t it.0 a it.1);
      fault = λ t f. inl e;
      past = λ t p. absurd (one.fault_within_limit it.0 t it.1 p);
    }
due limit status input left' w w' one c (inr (inr (inr e))) =
    let it = c.past e in
    record {
      whole = λ t a. absurd (one.whole_within_limit t it.0 a it.1);
      fault = λ t f. absurd (one.fault_within_limit t it.0 f it.1);
      past = λ t p. inl e;
    }

pub as_due : (limit status source source' sink sink' : ℕ) (left left' w w' : Option (List ℕ)) → Checked limit status left left' w w' → Causes status source source' sink sink' → NoneFailed source source' → NoneFailed sink sink' → EndsAsDueOf limit status left
as_due limit status source source' sink sink' None left' w w' c causes read written = tt
as_due limit status source source' sink sink' (Some input) left' w w' c causes read written = λ (bytes : AreBytes input).
    due limit status input left' w w' (one_end limit input bytes) c
    (left_over status c.known (λ e. read (causes.read e)) (λ e. written (causes.write e)))
