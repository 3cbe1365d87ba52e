-- How a run of the live application ends, put together.
use Rattle.std.proofs.Common.{◌≡◌, ℕ, List, [], ◌∷◌, Option, refl, sym, subst}
use Rattle.atspi_live_host.specs.declared.call.Call.{Call}
use Rattle.atspi_live_conversation.specs.Reports.{IsOnLink}
use Rattle.atspi_live_app.specs.Overs.{IsOver}
use Rattle.atspi_live_app.specs.Rounds.{RunsPaced}
use Rattle.atspi_live_app.specs.Runs.{OverReports, TextEnds}
use Rattle.atspi_live_app.specs.Turns.{InTurn}
use Rattle.atspi_live_app.specs.declared.over.Over.{Over}

pub ended : (lines : List (List ℕ)) (path ks : List ℕ) (k status rounds : ℕ) (over : Over) (calls : Option (List Call)) (w w' : Option (List ℕ)) → ks ≡ k ∷ [] → IsOver (InTurn k calls) lines k over rounds calls → IsOnLink path k calls (RunsPaced lines k over rounds)
    → OverReports over status w w' → TextEnds lines path ks status rounds calls w w'
ended lines path ks k status rounds over calls w w' e o run r =
    subst (λ (x : List ℕ). TextEnds lines path x status rounds calls w w') (sym e) (record { over = over; is = o; run = run; reports = r }, refl)
