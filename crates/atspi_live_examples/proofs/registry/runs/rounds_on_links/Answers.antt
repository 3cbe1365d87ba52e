use Rattle.std.proofs.Common.{◌≡◌, ℕ, List, [], ◌∷◌, ◌++◌, length, Some, refl, sym, ap, subst, ◌∙◌, inr, append-nil, arith, lit<, lit≤}
use Rattle.std.specs.Prelude.{codes}
use Rattle.atspi_live_host.specs.declared.call.Call.{Call}
use Rattle.atspi_live_host.specs.declared.call.Call.TheVariants.{Connect, Read, Write}
use Rattle.atspi_live_host.specs.declared.call.Did.{Did}
use Rattle.atspi_live_host.specs.declared.call.Did.TheVariants.{Done, NotYet}
use Rattle.atspi_live_conversation.specs.Rounds.{IsRun}
use Rattle.atspi_live_conversation.specs.Speech.{IsRefused}
use Rattle.atspi_live_conversation.specs.declared.ending.Ending.{Ending}
use Rattle.atspi_live_conversation.specs.declared.ending.Ending.TheVariants as endings
use Rattle.atspi_live_registry.specs.Standing.{IsAfter, IsEmpty}
use Rattle.atspi_live_examples.specs.registry.Registries.{hail}
use Rattle.atspi_live_examples.proofs.OfRegistry.Running.{in_order, only_refused, says}
use Rattle.atspi_live_examples.proofs.registry.runs.rounds_on_links.Goals as goal

-- the last of some calls is the only one
last_read : (bytes bytes' : List ℕ) (did did' : Did) (done : List Call) → Read 0 bytes did ∷ [] ≡ done ++ Read 0 bytes' did' ∷ [] → bytes ≡ bytes'
last_read bytes bytes' did did' [] h = cc
last_read bytes bytes' did did' (c ∷ []) h = absurd cc
last_read bytes bytes' did did' (c ∷ (d ∷ done)) h = absurd cc

behind : (c d : Call) (calls : List Call) → c ∷ d ∷ [] ≡ c ∷ calls → calls ≡ d ∷ []
behind c d calls h = cc

too_long : (bytes : List ℕ) (did : Did) (calls : List Call) → length bytes ≡ 4097 → calls ≡ Read 0 bytes did ∷ [] → IsRun (λ _. IsAfter) IsEmpty 0 4096 endings.NotAuthenticated 5 calls → ⊥
too_long bytes did calls long are r =
    let read = r.ends.1 in
    let same : bytes ≡ read.0 = last_read bytes read.0 did read.1 r.done (sym are ∙ r.all ∙ ap (λ (last : List Call). r.done ++ last) read.4) in
    omega (arith, long, read.3, ap (λ (bytes : List ℕ). length bytes) same)

pub returns-clause-all_rounds : goal.returns-clause-all_rounds
returns-clause-all_rounds c = record {
  ending = endings.RoundsDone;
  ends = (in_order, (tt, tt), refl);
  run = (
    Read 0 [] NotYet ∷ Write 0 hail (Done 16) ∷ [],
    record {
      whole = 1;
      done = Read 0 [] NotYet ∷ Write 0 hail (Done 16) ∷ [];
      last = [];
      are = (
        [],
        Read 0 [] NotYet ∷ Write 0 hail (Done 16) ∷ [],
        refl,
        (
          Read 0 [] NotYet ∷ [],
          Write 0 hail (Done 16) ∷ [],
          ([], NotYet, tt, lit≤ tt, refl),
          inr (Done 16, tt, (hail, lit< tt, lit≤ tt, says hail [] (append-nil hail), refl)),
          refl,
        ),
        refl,
      );
      ends = (refl, refl);
      all = refl;
    },
    refl,
  );
  reports = (refl, refl);
}

pub returns-clause-longest_read : goal.returns-clause-longest_read
returns-clause-longest_read c bytes long refused = record {
  ending = endings.NotAuthenticated;
  ends = (subst (λ (t : List ℕ). IsRefused IsAfter t) (sym (append-nil bytes)) refused, (tt, tt));
  run = (
    Read 0 bytes (Done 4096) ∷ [],
    record { whole = 0; done = []; last = Read 0 bytes (Done 4096) ∷ []; are = refl; ends = (lit< tt, (bytes, Done 4096, tt, omega (arith, long), refl)); all = refl },
    refl,
  );
  reports = (refl, refl);
}

pub returns-clause-longer_read : goal.returns-clause-longer_read
returns-clause-longer_read c bytes long s =
    too_long bytes (Done 4097) s.run.0 long (behind (Connect (codes "/p") (Done 0)) (Read 0 bytes (Done 4097)) s.run.0 s.run.2)
    (subst (λ (ending : Ending). IsRun (λ _. IsAfter) IsEmpty 0 4096 ending 5 s.run.0) (only_refused s.ending (Some []) (Some []) s.reports) s.run.1)
