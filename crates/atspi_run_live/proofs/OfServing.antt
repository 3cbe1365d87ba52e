-- With which statuses the live commands end, and which counts changed then.
use Rattle.std.proofs.Common.{◌≡◌, ◌⊎◌, ◌≤◌, ℕ, List, [], ◌∷◌, Option, arith, inl, inr}
use Rattle.atspi_base.specs.Outside.{Rose}
use Rattle.atspi_live_app.specs.Runs as application
use Rattle.atspi_live_bus.specs.Stops.{Ends}
use Rattle.atspi_live_conversation.specs.Reports.{Reports, Writes}
use Rattle.atspi_live_conversation.specs.declared.ending.Ending.{Ending}
use Rattle.atspi_live_conversation.specs.declared.ending.Ending.TheVariants as endings
use Rattle.atspi_live_host.specs.declared.call.Call.{Call}
use Rattle.atspi_live_reader.specs.Following.{WritesPart}
use Rattle.atspi_live_reader.specs.Runs as reader
use Rattle.atspi_live_registry.specs.Runs as registry
use Rattle.atspi_run_check.specs.Causes.{Causes}
use Rattle.atspi_run_live.specs.Statuses.{IsEndStatus, IsLiveStatus}

four_or_five : (status : ℕ) → (status ≡ 4) ⊎ (status ≡ 5) → IsEndStatus status
four_or_five status (inl e) = inr (inl e)
four_or_five status (inr e) = inr (inr (inl e))

seven_or_five : (status : ℕ) → (status ≡ 7) ⊎ (status ≡ 5) → IsEndStatus status
seven_or_five status (inl e) = inr (inr (inr (inr (inl e))))
seven_or_five status (inr e) = inr (inr (inl e))

pub bus_known : (status before after : ℕ) → Ends status before after → IsEndStatus status
bus_known status before after ends = by ends.status_is
  where
    by : (status ≡ 5) ⊎ ((status ≡ 7) ⊎ ((status ≡ 8) ⊎ (status ≡ 13))) → IsEndStatus status
    by (inl e) = inr (inr (inl e))
    by (inr (inl e)) = inr (inr (inr (inr (inl e))))
    by (inr (inr (inl e))) = inr (inr (inr (inr (inr (inl e)))))
    by (inr (inr (inr e))) = inr (inr (inr (inr (inr (inr (inr e))))))

written_known : (line : List ℕ) (status : ℕ) (w w' : Option (List ℕ)) → Writes line status w w' → IsEndStatus status
written_known line status w w' (inl (e, a)) = inr (inr (inr (inl e)))
written_known line status w w' (inr (e, a)) = four_or_five status e

reports_known : (ending : Ending) (status : ℕ) (w w' : Option (List ℕ)) → Reports ending status w w' → IsEndStatus status
reports_known endings.PeerEnded status w w' r = inl r.0
reports_known endings.NoMemory status w w' r = inr (inr (inl r.0))
reports_known (endings.Malformed start fault) status w w' r = written_known _ status w w' r
reports_known endings.HostFailed status w w' r = inr (inr (inr (inr (inl r.0))))
reports_known endings.RoundsDone status w w' r = inr (inr (inr (inr (inr (inl r.0)))))
reports_known endings.NotAuthenticated status w w' r = inr (inr (inr (inr (inr (inr (inl r.0))))))
reports_known endings.Spent status w w' r = inr (inr (inr (inr (inr (inr (inr r.0))))))

pub registry_known : (path links : List ℕ) (status rounds : ℕ) (calls : Option (List Call)) (w w' : Option (List ℕ)) → registry.RunEnds path links status rounds calls w w' → IsEndStatus status
registry_known path [] status rounds calls w w' r = seven_or_five status r.0
registry_known path (k ∷ ks) status rounds calls w w' r = reports_known r.0.ending status w w' r.0.reports

part_known : (words : List ℕ) (status : ℕ) (w w' : Option (List ℕ)) → WritesPart status words w w' → IsEndStatus status
part_known words status w w' p = four_or_five status p.0

last_known : (words : List ℕ) (ending : Ending) (status : ℕ) (w w' : Option (List ℕ)) → reader.ReportsLast words ending status w w' → IsEndStatus status
last_known words endings.PeerEnded status w w' (inl (e, a)) = inl e
last_known words endings.PeerEnded status w w' (inr p) = part_known _ status w w' p
last_known words endings.RoundsDone status w w' (inl (e, a)) = inr (inr (inr (inr (inr (inl e)))))
last_known words endings.RoundsDone status w w' (inr p) = part_known _ status w w' p
last_known words endings.HostFailed status w w' (inl (e, a)) = inr (inr (inr (inr (inl e))))
last_known words endings.HostFailed status w w' (inr p) = part_known _ status w w' p
last_known words endings.NotAuthenticated status w w' r = reports_known endings.NotAuthenticated status w w' r
last_known words (endings.Malformed start fault) status w w' (inl (e, a)) = inr (inr (inr (inl e)))
last_known words (endings.Malformed start fault) status w w' (inr p) = part_known _ status w w' p
last_known words endings.Spent status w w' (inl (e, a)) = inr (inr (inr (inr (inr (inr (inr e))))))
last_known words endings.Spent status w w' (inr p) = part_known _ status w w' p
last_known words endings.NoMemory status w w' r = reports_known endings.NoMemory status w w' r

pub reader_known : (path links : List ℕ) (status rounds : ℕ) (calls : Option (List Call)) (w w' : Option (List ℕ)) → reader.RunEnds path links status rounds calls w w' → IsEndStatus status
reader_known path [] status rounds calls w w' r = seven_or_five status r.0
reader_known path (k ∷ ks) status rounds calls w w' r = by r.0.so
  where
    by : reader.EndsSo path k status rounds r.0.spoken calls r.0.mid w' ⊎ reader.IsCutOff path k status rounds calls r.0.mid w' → IsEndStatus status
    by (inl so) = last_known so.words so.ending status r.0.mid w' so.reports
    by (inr cut) = inr (inl cut.status_is)

-- of an application: what its clause says
pub app_known : (status source source' : ℕ) → application.EndsKnown status source source' → IsLiveStatus status
app_known status source source' ends = ends.known

-- a source that was not read, or one of which the count rose with status 3
abbrev Blamed : ℕ → ℕ → ℕ → Type 0
Blamed status source source' = ((status ≡ 3) × Rose source source') ⊎ (((status ≡ 3) → ⊥) × (source' ≡ source))

not_3 : (status : ℕ) → IsEndStatus status → status ≡ 3 → ⊥
not_3 status (inl e) three = omega (arith, e, three)
not_3 status (inr (inl e)) three = omega (arith, e, three)
not_3 status (inr (inr (inl e))) three = omega (arith, e, three)
not_3 status (inr (inr (inr (inl e)))) three = omega (arith, e, three)
not_3 status (inr (inr (inr (inr (inl e))))) three = omega (arith, e, three)
not_3 status (inr (inr (inr (inr (inr (inl e)))))) three = omega (arith, e, three)
not_3 status (inr (inr (inr (inr (inr (inr (inl e))))))) three = omega (arith, e, three)
not_3 status (inr (inr (inr (inr (inr (inr (inr e))))))) three = omega (arith, e, three)

not_2 : (status : ℕ) → IsEndStatus status → status ≡ 2 → ⊥
not_2 status (inl e) two = omega (arith, e, two)
not_2 status (inr (inl e)) two = omega (arith, e, two)
not_2 status (inr (inr (inl e))) two = omega (arith, e, two)
not_2 status (inr (inr (inr (inl e)))) two = omega (arith, e, two)
not_2 status (inr (inr (inr (inr (inl e))))) two = omega (arith, e, two)
not_2 status (inr (inr (inr (inr (inr (inl e)))))) two = omega (arith, e, two)
not_2 status (inr (inr (inr (inr (inr (inr (inl e))))))) two = omega (arith, e, two)
not_2 status (inr (inr (inr (inr (inr (inr (inr e))))))) two = omega (arith, e, two)

-- status 2 is none of theirs
pub serving_is_not_2 : (status : ℕ) → IsLiveStatus status → status ≡ 2 → ⊥
serving_is_not_2 status (inl e) two = omega (arith, e, two)
serving_is_not_2 status (inr (inl e)) two = omega (arith, e, two)
serving_is_not_2 status (inr (inr end)) two = not_2 status end two

pub unread : (status source source' : ℕ) → IsEndStatus status → source' ≡ source → Blamed status source source'
unread status source source' end same = inr (not_3 status end, same)

pub app_blamed : (status source source' : ℕ) → application.EndsKnown status source source' → Blamed status source source'
app_blamed status source source' ends = ends.read

-- the counts of a source and a sink, by the status
pub causes : (status source source' sink sink' : ℕ) → source ≤ source' → sink ≤ sink' → Blamed status source source' → (status ≡ 4 → Rose sink sink') → (status ≡ 4) ⊎ (sink' ≡ sink) → Causes status source source' sink sink'
causes status source source' sink sink' s k blamed w n = record {
  source_later = s;
  sink_later = k;
  read = λ three. by_read blamed three;
  write = w;
  sink_first = n;
  source_next = by_source blamed;
}
  where
    by_read : Blamed status source source' → status ≡ 3 → Rose source source'
    by_read (inl (e, r)) three = r
    by_read (inr (other, same)) three = absurd (other three)

    by_source : Blamed status source source' → (status ≡ 3) ⊎ ((status ≡ 4) ⊎ ((status ≡ 1) ⊎ ((status ≡ 5) ⊎ (source' ≡ source))))
    by_source (inl (e, r)) = inl e
    by_source (inr (other, same)) = inr (inr (inr (inr same)))
