-- How a run of the live launcher ends, put together.
use Rattle.std.proofs.Common.{◌≡◌, ℕ, List, [], ◌∷◌, Option, refl, sym, subst}
use Rattle.std.specs.Prelude.{◌⊎◌}
use Rattle.atspi_live_host.specs.declared.call.Call.{Call}
use Rattle.atspi_live_conversation.specs.Rounds.{IsRun, Makes}
use Rattle.atspi_live_conversation.specs.Speech.{Speaks, Ends}
use Rattle.atspi_live_conversation.specs.declared.ending.Ending.{Ending}
use Rattle.atspi_live_launcher.specs.Standing.{IsAfter, IsEmpty, IsSpent}
use Rattle.atspi_live_launcher.specs.Runs.{AllSpeak, RunEnds}
use Rattle.atspi_live_conversation.specs.Reports.{IsOnLink, Reports}
use Rattle.atspi_live_launcher.specs.declared.live_launcher.LiveLauncher.{LiveLauncher}
use Rattle.atspi_live_conversation.proofs.RoundLemmas.{makes_if, none_wait}
use Rattle.atspi_live_conversation.proofs.SeenLemmas.{ends_seen, run_seen, speaks_seen}
use Rattle.atspi_live_launcher.specs.inner.Talks.{HasNothing, IsSpentOf, StandsOf, queued_of}

-- the same of the launcher itself
empty_in : (l : LiveLauncher) → HasNothing l → IsEmpty l.launcher
empty_in l e = none_wait l.launcher.out (queued_of l) refl e

pub run_of : (address : List ℕ) (k rounds : ℕ) (ending : Ending) (old new : Option (List Call)) → Makes old new (IsRun (λ _. StandsOf address) HasNothing k 4096 ending rounds) → Makes old new (IsRun (λ _. IsAfter address) IsEmpty k 4096 ending rounds)
run_of address k rounds ending old new m =
    makes_if old new (IsRun (λ _. StandsOf address) HasNothing k 4096 ending rounds) (IsRun (λ _. IsAfter address) IsEmpty k 4096 ending rounds)
    (λ calls. run_seen (λ _. StandsOf address) (λ _. IsAfter address) HasNothing IsEmpty (λ (l : LiveLauncher). l.launcher) k 4096 ending rounds calls (λ begun end took said s. s) empty_in) m

-- where no link is open
pub none_speak : (address ks : List ℕ) (calls : Option (List Call)) → ks ≡ [] → AllSpeak address ks calls
none_speak address ks calls e = subst (λ (w : List ℕ). AllSpeak address w calls) (sym e) tt

pub none_ends : (path address ks : List ℕ) (status rounds : ℕ) (calls : Option (List Call)) (w : Option (List ℕ)) → ks ≡ [] → (status ≡ 7) ⊎ (status ≡ 5) → RunEnds path address ks status rounds calls w w
none_ends path address ks status rounds calls w e s = subst (λ (x : List ℕ). RunEnds path address x status rounds calls w w) (sym e) (s, refl)

-- where one link is
pub one_speaks : (address ks : List ℕ) (k : ℕ) (calls : Option (List Call)) → ks ≡ k ∷ [] → Speaks (StandsOf address) k calls → AllSpeak address ks calls
one_speaks address ks k calls e s = subst (λ (w : List ℕ). AllSpeak address w calls) (sym e) (speaks_seen (StandsOf address) (IsAfter address) (λ (l : LiveLauncher). l.launcher) k calls (λ end took said s. s) s, tt)

pub one_ends : (path address ks : List ℕ) (k status rounds : ℕ) (ending : Ending) (calls : Option (List Call)) (w w' : Option (List ℕ)) → ks ≡ k ∷ []
    → Ends (StandsOf address) IsSpentOf k ending rounds calls → IsOnLink path k calls (IsRun (λ _. IsAfter address) IsEmpty k 4096 ending rounds) → Reports ending status w w' → RunEnds path address ks status rounds calls w w'
one_ends path address ks k status rounds ending calls w w' e s run r =
    subst (λ (x : List ℕ). RunEnds path address x status rounds calls w w') (sym e) (
      record {
        ending = ending;
        ends = ends_seen (StandsOf address) (IsAfter address) IsSpentOf IsSpent (λ (l : LiveLauncher). l.launcher) k rounds ending calls (λ end took said s. s) (λ end e s. s) s;
        run = run;
        reports = r;
      },
      refl,
    )
