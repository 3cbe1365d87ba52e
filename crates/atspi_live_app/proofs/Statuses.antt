-- With which statuses a run of an application ends, and where its source failed.
use Rattle.std.proofs.Common.{◌≡◌, ◌⊎◌, ℕ, List, [], ◌∷◌, Option, arith, inl, inr, refl}
use Rattle.atspi_base.specs.Outside.{Rose}
use Rattle.atspi_live_conversation.specs.Reports.{Reports, Writes}
use Rattle.atspi_live_conversation.specs.declared.ending.Ending.{Ending}
use Rattle.atspi_live_conversation.specs.declared.ending.Ending.TheVariants as endings
use Rattle.atspi_live_app.specs.Runs.{EndsKnown, IsEndStatus, OverReports}
use Rattle.atspi_live_app.specs.declared.live_app.Stop.TheVariants as stops
use Rattle.atspi_live_app.specs.declared.over.Over.{Over}
use Rattle.atspi_live_app.specs.declared.over.Over.TheVariants as overs

four_or_five : (status : ℕ) → (status ≡ 4) ⊎ (status ≡ 5) → IsEndStatus status
four_or_five status (inl e) = inr (inl e)
four_or_five status (inr e) = inr (inr (inl e))

written_known : (line : List ℕ) (status : ℕ) (w w' : Option (List ℕ)) → Writes line status w w' → IsEndStatus status
written_known line status w w' (inl (e, a)) = inr (inr (inr (inl e)))
written_known line status w w' (inr (e, a)) = four_or_five status e

reports_known : (ending : Ending) (status : ℕ) (w w' : Option (List ℕ)) → Reports ending status w w' → IsEndStatus status
reports_known endings.PeerEnded status w w' r = inl r.0
reports_known endings.NoMemory status w w' r = inr (inr (inl r.0))
reports_known (endings.Malformed start fault) status w w' r = written_known _ status w w' r
reports_known endings.HostFailed status w w' r = inr (inr (inr (inr (inl r.0))))
reports_known endings.RoundsDone status w w' r = inr (inr (inr (inr (inr (inl r.0)))))
reports_known endings.NotAuthenticated status w w' r = inr (inr (inr (inr (inr (inr (inl r.0))))))
reports_known endings.Spent status w w' r = inr (inr (inr (inr (inr (inr (inr r.0))))))

pub over_known : (over : Over) (status : ℕ) (w w' : Option (List ℕ)) → OverReports over status w w' → (status ≡ 1) ⊎ IsEndStatus status
over_known (overs.Ended ending) status w w' r = inr (reports_known ending status w w' r)
over_known (overs.Stopped (stops.Refused number why)) status w w' (inl (e, a)) = inl e
over_known (overs.Stopped (stops.Refused number why)) status w w' (inr (e, a)) = inr (four_or_five status e)
over_known (overs.Stopped stops.Spent) status w w' r = inr (inr (inr (inr (inr (inr (inr (inr r.0)))))))
over_known (overs.Stopped stops.NoMemory) status w w' r = inr (inr (inr (inl r.0)))

not_3 : (status : ℕ) → IsEndStatus status → status ≡ 3 → ⊥
not_3 status (inl e) three = omega (arith, e, three)
not_3 status (inr (inl e)) three = omega (arith, e, three)
not_3 status (inr (inr (inl e))) three = omega (arith, e, three)
not_3 status (inr (inr (inr (inl e)))) three = omega (arith, e, three)
not_3 status (inr (inr (inr (inr (inl e))))) three = omega (arith, e, three)
not_3 status (inr (inr (inr (inr (inr (inl e)))))) three = omega (arith, e, three)
not_3 status (inr (inr (inr (inr (inr (inr (inl e))))))) three = omega (arith, e, three)
not_3 status (inr (inr (inr (inr (inr (inr (inr e))))))) three = omega (arith, e, three)

not_3_here : (status : ℕ) → (status ≡ 1) ⊎ IsEndStatus status → status ≡ 3 → ⊥
not_3_here status (inl e) three = omega (arith, e, three)
not_3_here status (inr e) three = not_3 status e three

live : (status : ℕ) → (status ≡ 1) ⊎ IsEndStatus status → (status ≡ 1) ⊎ ((status ≡ 3) ⊎ IsEndStatus status)
live status (inl e) = inl e
live status (inr e) = inr (inr e)

-- the input was read, and the count of the source is the same
pub known_of : (status source source' : ℕ) → (status ≡ 1) ⊎ IsEndStatus status → source' ≡ source → EndsKnown status source source'
known_of status source source' is same = record { known = live status is; read = inr (not_3_here status is, same) }

pub known_5 : (source source' : ℕ) → source' ≡ source → EndsKnown 5 source source'
known_5 source source' same = known_of 5 source source' (inr (inr (inr (inl refl)))) same

pub known_8 : (source source' : ℕ) → source' ≡ source → EndsKnown 8 source source'
known_8 source source' same = known_of 8 source source' (inr (inr (inr (inr (inr (inr (inl refl))))))) same

pub known_3 : (source source' : ℕ) → Rose source source' → EndsKnown 3 source source'
known_3 source source' rose = record { known = inr (inl refl); read = inl (refl, rose) }
