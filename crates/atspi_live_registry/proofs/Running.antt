-- How a run of the live registry ends, put together.
use Rattle.std.proofs.Common.{◌≡◌, ℕ, List, [], ◌∷◌, ◌++◌, length, Option, None, Some, refl, sym, ap, subst, ◌∙◌, inl, inr, append-nil, arith}
use Rattle.std.specs.Prelude.{◌≢◌, ◌⊎◌}
use Rattle.atspi_base.specs.Outside.{AppendsPart, Rose}
use Rattle.atspi_message.specs.Envelope.{Envelope}
use Rattle.atspi_live_host.specs.declared.call.Did.{Did}
use Rattle.atspi_live_host.specs.declared.call.Did.TheVariants.{Done, NotYet, End, Failed}
use Rattle.atspi_live_host.specs.declared.call.Call.{Call}
use Rattle.atspi_live_host.specs.declared.call.Call.TheVariants.{Connect}
use Rattle.atspi_live_host.specs.Calls.{Adds, Counts, IsOpen, Opens, taken, given}
use Rattle.atspi_live_conversation.specs.Moved.{Tells, reads}
use Rattle.atspi_live_conversation.specs.Rounds.{IsRun, Makes}
use Rattle.atspi_live_conversation.specs.Speech.{Speaks, Ends}
use Rattle.atspi_live_conversation.specs.Talking.{Blames, HasNone}
use Rattle.atspi_live_conversation.specs.declared.ending.Ending.{Ending}
use Rattle.atspi_live_conversation.specs.declared.ending.Ending.TheVariants as endings
use Rattle.atspi_live_registry.specs.Standing.{IsAfter, IsEmpty, IsSpent}
use Rattle.atspi_live_registry.specs.Runs.{AllSpeak, RunEnds}
use Rattle.atspi_live_conversation.specs.Reports.{Begins, Causes, IsOnLink, Reports, SinkBlamed}
use Rattle.atspi_live_registry.specs.declared.live_registry.LiveRegistry.{LiveRegistry}
use Rattle.atspi_live_conversation.proofs.RoundLemmas.{makes_if, none_wait}
use Rattle.atspi_live_conversation.proofs.SeenLemmas.{ends_seen, run_seen, speaks_seen}
use Rattle.atspi_live_registry.proofs.Registering.{Stands'}

abbrev IsSpent' : LiveRegistry → Envelope → Type 0
IsSpent' l e = IsSpent l.registry e

abbrev pub queued' : LiveRegistry → ℕ
queued' l = length l.registry.out

-- the same of the registry itself
empty_in : (l : LiveRegistry) → HasNone queued' l → IsEmpty l.registry
empty_in l e = none_wait l.registry.out (queued' l) refl e

pub run_of : (k rounds : ℕ) (ending : Ending) (old new : Option (List Call)) → Makes old new (IsRun (λ _. Stands') (HasNone queued') k 4096 ending rounds) → Makes old new (IsRun (λ _. IsAfter) IsEmpty k 4096 ending rounds)
run_of k rounds ending old new m =
    makes_if old new (IsRun (λ _. Stands') (HasNone queued') k 4096 ending rounds) (IsRun (λ _. IsAfter) IsEmpty k 4096 ending rounds)
    (λ calls. run_seen (λ _. Stands') (λ _. IsAfter) (HasNone queued') IsEmpty (λ (l : LiveRegistry). l.registry) k 4096 ending rounds calls (λ begun end took said s. s) empty_in) m

-- where no link is open
pub none_speak : (ks : List ℕ) (calls : Option (List Call)) → ks ≡ [] → AllSpeak ks calls
none_speak ks calls e = subst (λ (w : List ℕ). AllSpeak w calls) (sym e) tt

pub none_ends : (path ks : List ℕ) (status rounds : ℕ) (calls : Option (List Call)) (w : Option (List ℕ)) → ks ≡ [] → (status ≡ 7) ⊎ (status ≡ 5) → RunEnds path ks status rounds calls w w
none_ends path ks status rounds calls w e s = subst (λ (x : List ℕ). RunEnds path x status rounds calls w w) (sym e) (s, refl)

-- where one link is
pub one_speaks : (ks : List ℕ) (k : ℕ) (calls : Option (List Call)) → ks ≡ k ∷ [] → Speaks Stands' k calls → AllSpeak ks calls
one_speaks ks k calls e s = subst (λ (w : List ℕ). AllSpeak w calls) (sym e) (speaks_seen Stands' IsAfter (λ (l : LiveRegistry). l.registry) k calls (λ end took said s. s) s, tt)

pub one_ends : (path ks : List ℕ) (k status rounds : ℕ) (ending : Ending) (calls : Option (List Call)) (w w' : Option (List ℕ)) → ks ≡ k ∷ []
    → Ends Stands' IsSpent' k ending rounds calls → IsOnLink path k calls (IsRun (λ _. IsAfter) IsEmpty k 4096 ending rounds) → Reports ending status w w' → RunEnds path ks status rounds calls w w'
one_ends path ks k status rounds ending calls w w' e s run r =
    subst (λ (x : List ℕ). RunEnds path x status rounds calls w w') (sym e) (
      record {
        ending = ending;
        ends = ends_seen Stands' IsAfter IsSpent' IsSpent (λ (l : LiveRegistry). l.registry) k rounds ending calls (λ end took said s. s) (λ end e s. s) s;
        run = run;
        reports = r;
      },
      refl,
    )
