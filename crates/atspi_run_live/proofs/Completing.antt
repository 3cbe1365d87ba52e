-- Where no call fails and the peer does its part, only the statuses of a run that ends well are left.
use Rattle.std.proofs.Common.{◌≡◌, ◌⊎◌, ℕ, List, [], ◌∷◌, Option, None, Some, inl, inr}
use Rattle.atspi_base.specs.Outside.{Rose}
use Rattle.atspi_message.specs.Envelope.{Envelope}
use Rattle.atspi_live_conversation.specs.Reports.{Reports}
use Rattle.atspi_live_conversation.specs.Speech.{EndsBy}
use Rattle.atspi_live_conversation.specs.declared.ending.Ending.{Ending}
use Rattle.atspi_live_conversation.specs.declared.ending.Ending.TheVariants as endings
use Rattle.atspi_live_host.specs.declared.call.Call.{Call}
use Rattle.atspi_live_reader.specs.Runs as reader
use Rattle.atspi_live_registry.specs.Runs as registry
use Rattle.atspi_run_check.specs.Complete.{NoneFailed}
use Rattle.atspi_run_live.specs.Complete.{DoesItsPart, EndsWell, PeerDoes}
use Rattle.atspi_run_live.specs.Serves.{ServesBus, ServesReader, ServesRegistry}

pub bus_well : (path : List ℕ) (rounds status : ℕ) (calls calls' : Option (List Call)) (faults faults' : ℕ) → ServesBus path rounds status calls calls' faults faults' → NoneFailed faults faults' → EndsWell 8 status
bus_well path rounds status calls calls' faults faults' serves none = by serves.ends.status_is
  where
    by : (status ≡ 5) ⊎ ((status ≡ 7) ⊎ ((status ≡ 8) ⊎ (status ≡ 13))) → EndsWell 8 status
    by (inl e) = inr (inl e)
    by (inr (inl e)) = absurd (none (serves.ends.by_host e))
    by (inr (inr (inl e))) = inl e
    by (inr (inr (inr e))) = inr (inr e)

-- an ending that a peer which does its part leaves, by what is reported of it
abbrev IsEnding : Ending → ℕ → Type 0
IsEnding endings.PeerEnded status = status ≡ 0
IsEnding endings.NoMemory status = status ≡ 5
IsEnding (endings.Malformed start fault) status = (status ≡ 6) ⊎ ((status ≡ 4) ⊎ (status ≡ 5))
IsEnding endings.HostFailed status = status ≡ 7
IsEnding endings.RoundsDone status = status ≡ 8
IsEnding endings.NotAuthenticated status = status ≡ 10
IsEnding endings.Spent status = status ≡ 13

reported : (ending : Ending) (status : ℕ) (w w' : Option (List ℕ)) → Reports ending status w w' → IsEnding ending status
reported endings.PeerEnded status w w' r = r.0
reported endings.NoMemory status w w' r = r.0
reported (endings.Malformed start fault) status w w' (inl (e, a)) = inl e
reported (endings.Malformed start fault) status w w' (inr (e, a)) = inr e
reported endings.HostFailed status w w' r = r.0
reported endings.RoundsDone status w w' r = r.0
reported endings.NotAuthenticated status w w' r = r.0
reported endings.Spent status w w' r = r.0

ending_well : {E : Type 0} (Stands : E → List Envelope → List Envelope → Type 0) (IsSpent : E → Envelope → Type 0) (k : ℕ) (ending : Ending) (rounds status : ℕ) (cs : List Call) → EndsBy Stands IsSpent k ending rounds cs → IsEnding ending status
    → (status ≡ 7 → ⊥) → DoesItsPart k rounds cs → EndsWell 0 status
ending_well Stands IsSpent k endings.PeerEnded rounds status cs e r no_host part = inl r
ending_well Stands IsSpent k endings.NoMemory rounds status cs e r no_host part = inr (inl r)
ending_well Stands IsSpent k (endings.Malformed start fault) rounds status cs e r no_host part =
    absurd (part.sends e.0.messages e.0.rest fault.place fault.reason e.0.parted e.0.fault)
ending_well Stands IsSpent k endings.HostFailed rounds status cs e r no_host part = absurd (no_host r)
ending_well Stands IsSpent k endings.RoundsDone rounds status cs e r no_host part = absurd (part.ends e.1 e.2)
ending_well Stands IsSpent k endings.NotAuthenticated rounds status cs e r no_host part = absurd (e.0.at_fault part.authenticates)
ending_well Stands IsSpent k endings.Spent rounds status cs e r no_host part = inr (inr r)

not_host : (faults faults' link_faults link_faults' : ℕ) → NoneFailed faults faults' → NoneFailed link_faults link_faults' → Rose faults faults' ⊎ Rose link_faults link_faults' → ⊥
not_host faults faults' link_faults link_faults' none no_link (inl r) = none r
not_host faults faults' link_faults link_faults' none no_link (inr r) = no_link r

seven_or_five : (status : ℕ) → (status ≡ 7 → ⊥) → (status ≡ 7) ⊎ (status ≡ 5) → EndsWell 0 status
seven_or_five status no_host (inl e) = absurd (no_host e)
seven_or_five status no_host (inr e) = inr (inl e)

registry_ends : (path links : List ℕ) (status rounds : ℕ) (calls : Option (List Call)) (w w' : Option (List ℕ)) → registry.RunEnds path links status rounds calls w w' → (status ≡ 7 → ⊥) → PeerDoes links rounds calls → EndsWell 0 status
registry_ends path [] status rounds None w w' r no_host part = absurd part
registry_ends path (k ∷ ks) status rounds None w w' r no_host part = absurd part
registry_ends path [] status rounds (Some cs) w w' r no_host part = seven_or_five status no_host r.0
registry_ends path (k ∷ ks) status rounds (Some cs) w w' r no_host part =
    ending_well _ _ k r.0.ending rounds status cs r.0.ends (reported r.0.ending status w w' r.0.reports) no_host part

pub registry_well : (path links : List ℕ) (status rounds : ℕ) (calls : Option (List Call)) (faults faults' link_faults link_faults' : ℕ) (w w' : Option (List ℕ)) (sink sink' : ℕ)
    → ServesRegistry path rounds status links calls faults faults' link_faults link_faults' w w' sink sink' → NoneFailed sink sink' → NoneFailed faults faults' → NoneFailed link_faults link_faults' → PeerDoes links rounds calls → EndsWell 0 status
registry_well path links status rounds calls faults faults' link_faults link_faults' w w' sink sink' serves written none no_link part =
    registry_ends path links status rounds calls w w' serves.ends (λ e. not_host faults faults' link_faults link_faults' none no_link (serves.causes.by_host e)) part

-- a part of the last words comes from a sink that failed, or want of memory
of_last : (words : List ℕ) (meant status : ℕ) (w w' : Option (List ℕ)) → reader.WritesLast meant words status w w' → (status ≡ 4 → ⊥) → (status ≡ meant) ⊎ (status ≡ 5)
of_last words meant status w w' (inl (e, a)) written = inl e
of_last words meant status w w' (inr p) written = by p.0
  where
    by : (status ≡ 4) ⊎ (status ≡ 5) → (status ≡ meant) ⊎ (status ≡ 5)
    by (inl e) = absurd (written e)
    by (inr e) = inr e

last_reported : (words : List ℕ) (ending : Ending) (status : ℕ) (w w' : Option (List ℕ)) → reader.ReportsLast words ending status w w' → (status ≡ 4 → ⊥) → IsEnding ending status ⊎ (status ≡ 5)
last_reported words endings.PeerEnded status w w' r written = of_last words 0 status w w' r written
last_reported words endings.RoundsDone status w w' r written = of_last words 8 status w w' r written
last_reported words endings.HostFailed status w w' r written = of_last words 7 status w w' r written
last_reported words endings.NotAuthenticated status w w' r written = inl r.0
last_reported words (endings.Malformed start fault) status w w' r written = to_six (of_last _ 6 status w w' r written)
  where
    to_six : (status ≡ 6) ⊎ (status ≡ 5) → IsEnding (endings.Malformed start fault) status ⊎ (status ≡ 5)
    to_six (inl e) = inl (inl e)
    to_six (inr e) = inr e
last_reported words endings.Spent status w w' r written = of_last words 13 status w w' r written
last_reported words endings.NoMemory status w w' r written = inl r.0

reader_so : (path : List ℕ) (k status rounds : ℕ) (spoken : List ℕ) (cs : List Call) (w w' : Option (List ℕ)) → reader.EndsSo path k status rounds spoken (Some cs) w w' → (status ≡ 7 → ⊥) → (status ≡ 4 → ⊥) → DoesItsPart k rounds cs → EndsWell 0 status
reader_so path k status rounds spoken cs w w' so no_host written part = by (last_reported so.words so.ending status w w' so.reports written)
  where
    by : IsEnding so.ending status ⊎ (status ≡ 5) → EndsWell 0 status
    by (inl is) = ending_well _ _ k so.ending rounds status cs so.ends is no_host part
    by (inr e) = inr (inl e)

reader_ends : (path links : List ℕ) (status rounds : ℕ) (calls : Option (List Call)) (w w' : Option (List ℕ)) → reader.RunEnds path links status rounds calls w w' → (status ≡ 7 → ⊥) → (status ≡ 4 → ⊥) → PeerDoes links rounds calls → EndsWell 0 status
reader_ends path [] status rounds None w w' r no_host written part = absurd part
reader_ends path (k ∷ ks) status rounds None w w' r no_host written part = absurd part
reader_ends path [] status rounds (Some cs) w w' r no_host written part = seven_or_five status no_host r.0
reader_ends path (k ∷ ks) status rounds (Some cs) w w' r no_host written part = by r.0.so
  where
    by : reader.EndsSo path k status rounds r.0.spoken (Some cs) r.0.mid w' ⊎ reader.IsCutOff path k status rounds (Some cs) r.0.mid w' → EndsWell 0 status
    by (inl so) = reader_so path k status rounds r.0.spoken cs r.0.mid w' so no_host written part
    by (inr cut) = absurd (written cut.status_is)

pub reader_well : (path links : List ℕ) (status rounds : ℕ) (calls : Option (List Call)) (faults faults' link_faults link_faults' : ℕ) (w w' : Option (List ℕ)) (sink sink' : ℕ)
    → ServesReader path rounds status links calls faults faults' link_faults link_faults' w w' sink sink' → NoneFailed sink sink' → NoneFailed faults faults' → NoneFailed link_faults link_faults' → PeerDoes links rounds calls → EndsWell 0 status
reader_well path links status rounds calls faults faults' link_faults link_faults' w w' sink sink' serves unfailed none no_link part =
    reader_ends path links status rounds calls w w' serves.ends (λ e. not_host faults faults' link_faults link_faults' none no_link (serves.causes.by_host e)) (λ e. unfailed (serves.causes.by_sink e)) part
