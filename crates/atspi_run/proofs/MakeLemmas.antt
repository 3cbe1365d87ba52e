-- Which statuses `make` leaves where the sink does not fail.
use Rattle.std.proofs.Common.{ℕ, List, Option, inl, inr}
use Rattle.atspi_run_check.specs.Complete.{NoneFailed}
use Rattle.atspi_run_replay.specs.Causes.{Causes}
use Rattle.atspi_run_replay.specs.Made.{IsMakeStatus, Made}
use Rattle.atspi_run.specs.Complete.{MakesWell}

pub makes_well : (count seed status source source' sink sink' : ℕ) (w w' : Option (List ℕ)) → Made count seed status w w' → Causes status source source' sink sink' → NoneFailed sink sink' → MakesWell count seed status
makes_well count seed status source source' sink sink' w w' m c none = by m.known
  where
    by : IsMakeStatus status → MakesWell count seed status
    by (inl e) = inl e
    by (inr (inl e)) = absurd (none (c.write e))
    by (inr (inr (inl e))) = inr (inr (inl (e, m.refused e)))
    by (inr (inr (inr (inl e)))) = inr (inl e)
    by (inr (inr (inr (inr (inl e))))) = inr (inr (inr (inl (e, m.lost e))))
    by (inr (inr (inr (inr (inr e))))) = inr (inr (inr (inr (e, m.spent e))))
