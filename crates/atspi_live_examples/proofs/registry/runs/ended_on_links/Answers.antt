use Rattle.std.proofs.Common.{◌≡◌, List, [], ◌∷◌, Some, refl, subst, arith, lit<, lit≤}
use Rattle.std.specs.Prelude.{codes}
use Rattle.atspi_live_host.specs.declared.call.Call.{Call}
use Rattle.atspi_live_host.specs.declared.call.Call.TheVariants.{Connect, Read}
use Rattle.atspi_live_host.specs.declared.call.Did.TheVariants.{Done}
use Rattle.atspi_live_conversation.specs.Rounds.{IsRun}
use Rattle.atspi_live_conversation.specs.Speech.{Ends}
use Rattle.atspi_live_conversation.specs.declared.ending.Ending.{Ending}
use Rattle.atspi_live_conversation.specs.declared.ending.Ending.TheVariants as endings
use Rattle.atspi_live_registry.specs.Standing.{IsAfter, IsEmpty, IsSpent}
use Rattle.atspi_live_examples.specs.registry.Registries.{granted, rejected}
use Rattle.atspi_live_examples.proofs.OfRegistry.Running.{not_refused, only_refused, peer_ended, quiet_refused, refused, tells_none}
use Rattle.atspi_live_examples.proofs.registry.runs.ended_on_links.Goals as goal

pub returns-clause-peer_ended : goal.returns-clause-peer_ended
returns-clause-peer_ended c = peer_ended

pub returns-clause-refused : goal.returns-clause-refused
returns-clause-refused c = record {
  ending = endings.NotAuthenticated;
  ends = (refused, (tt, tt));
  run = (
    Read 0 rejected (Done 19) ∷ [],
    record { whole = 0; done = []; last = Read 0 rejected (Done 19) ∷ []; are = refl; ends = (lit< tt, (rejected, Done 19, tt, lit≤ tt, refl)); all = refl },
    refl,
  );
  reports = (refl, refl);
}

pub returns-clause-let_in : goal.returns-clause-let_in
returns-clause-let_in c s = by s.ending (only_refused s.ending (Some []) (Some []) s.reports) s.ends
  where
    by : (ending : Ending) → ending ≡ endings.NotAuthenticated → Ends IsAfter IsSpent 0 ending 5 (Some (Connect (codes "/p") (Done 0) ∷ Read 0 granted (Done 43) ∷ [])) → ⊥
    by ending e ends =
        not_refused (subst (λ (ending : Ending). Ends IsAfter IsSpent 0 ending 5 (Some (Connect (codes "/p") (Done 0) ∷ Read 0 granted (Done 43) ∷ []))) e ends).0

pub returns-clause-not_connected : goal.returns-clause-not_connected
returns-clause-not_connected c s = by s.run.0 s.run.2
  where
    by : (calls : List Call) → Read 0 rejected (Done 19) ∷ [] ≡ Connect (codes "/p") (Done 0) ∷ calls → ⊥
    by calls h = cc

pub returns-clause-no_round : goal.returns-clause-no_round
returns-clause-no_round c s = by s.ending (only_refused s.ending (Some []) (Some []) s.reports) s.run.0 s.run.1
  where
    none : (calls : List Call) → IsRun (λ _. IsAfter) IsEmpty 0 4096 endings.NotAuthenticated 0 calls → ⊥
    none calls r = omega (arith, r.ends.0)

    by : (ending : Ending) → ending ≡ endings.NotAuthenticated → (calls : List Call) → IsRun (λ _. IsAfter) IsEmpty 0 4096 ending 0 calls → ⊥
    by ending e calls r = none calls (subst (λ (ending : Ending). IsRun (λ _. IsAfter) IsEmpty 0 4096 ending 0 calls) e r)

pub returns-clause-other_status : goal.returns-clause-other_status
returns-clause-other_status c s = tells_none s.ending (Some []) (Some []) s.reports

pub returns-clause-written : goal.returns-clause-written
returns-clause-written c s = quiet_refused s.ending s.reports
