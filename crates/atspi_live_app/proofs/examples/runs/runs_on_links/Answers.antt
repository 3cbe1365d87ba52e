use Rattle.std.proofs.Common.{◌≡◌, ◌<◌, ℕ, zero, suc, List, [], ◌∷◌, ◌++◌, refl, inl, arith, lit<}
use Rattle.std.specs.Prelude.{codes}
use Rattle.atspi_live_host.specs.declared.call.Call.{Call}
use Rattle.atspi_live_host.specs.declared.call.Call.TheVariants.{Read}
use Rattle.atspi_live_host.specs.declared.call.Did.TheVariants.{End, Failed, NotYet}
use Rattle.atspi_live_conversation.specs.Rounds.{AreRounds}
use Rattle.atspi_live_conversation.specs.declared.ending.Ending.TheVariants as endings
use Rattle.atspi_live_app.specs.Rounds.{IsAfterReads}
use Rattle.atspi_live_app.specs.Standing.{IsEmpty}
use Rattle.atspi_live_app.specs.Turns.{IsInTurn}
use Rattle.atspi_live_app.specs.declared.live_app.Stop.TheVariants as stops
use Rattle.atspi_live_app.specs.declared.naming.Refused.TheVariants as refused
use Rattle.atspi_live_app.specs.declared.over.Over.TheVariants as overs
use Rattle.atspi_live_app.proofs.Passed.{empty_takes}
use Rattle.atspi_live_app.proofs.Unstarted.{first_due, in_order, none_due, none_paced, nothing_said, stops_at, stops_first}
use Rattle.atspi_live_app.proofs.examples.runs.runs_on_links.Goals as goal

pub returns-clause-failed : goal.returns-clause-failed
returns-clause-failed c = record {
  over = overs.Ended endings.HostFailed;
  is = record { speaks = nothing_said (IsInTurn ([] ∷ [])) [] (none_due ([] ∷ [])); so = in_order (IsInTurn ([] ∷ [])) [] (none_due ([] ∷ [])) };
  run = (Read 0 [] Failed ∷ [], (record { whole = 0; done = []; last = Read 0 [] Failed ∷ []; are = refl; ends = (lit< tt, inl refl); all = refl }, none_paced), refl);
  reports = (refl, refl);
}

pub returns-clause-stopped : goal.returns-clause-stopped
returns-clause-stopped c = record {
  over = overs.Stopped (stops.Refused 1 refused.Form);
  is = record { speaks = nothing_said (IsInTurn []) (codes "wait 2" ∷ []) (first_due (codes "wait 2" ∷ [])); so = (stops_first, tt) };
  run = ([], (0, lit< tt, refl, stops_at (codes "wait 2" ∷ [])), refl);
  reports = inl (refl, refl);
}

pub returns-clause-untold : goal.returns-clause-untold
returns-clause-untold c = record { over = overs.Stopped stops.Spent; is = record { speaks = tt; so = tt }; run = tt; reports = (refl, refl) }

pub returns-clause-ended : goal.returns-clause-ended
returns-clause-ended c = (
  record { whole = 0; done = []; last = Read 0 [] Failed ∷ []; are = refl; ends = (lit< tt, inl refl); all = refl },
  record { done = ([], 1) ∷ []; left = []; all = refl; take = (empty_takes, tt); started = (lit< tt, tt); due = inl refl },
)

pub returns-clause-ended_uncalled : goal.returns-clause-ended_uncalled
returns-clause-ended_uncalled c r = by r.0.done r.0.last r.0.all r.0.ends.1
  where
    by : (done last : List Call) → [] ≡ done ++ last → last ≡ Read 0 [] End ∷ [] → ⊥
    by [] last h is = cc
    by (x ∷ done) last h is = cc

pub returns-clause-all_done : goal.returns-clause-all_done
returns-clause-all_done c = (
  record { whole = 0; done = []; last = []; are = refl; ends = (refl, refl); all = refl },
  record { done = []; left = []; all = refl; take = tt; started = tt; due = inl refl },
)

pub returns-clause-stopped_late : goal.returns-clause-stopped_late
returns-clause-stopped_late c calls r = omega (arith, r.1)

pub returns-clause-stopped_first : goal.returns-clause-stopped_first
returns-clause-stopped_first c = (0, lit< tt, refl, stops_at (codes "wait 2" ∷ []))

-- where no round was whole, no call was made
pub returns-clause-stopped_called : goal.returns-clause-stopped_called
returns-clause-stopped_called c r = by r.0 r.1 r.2
  where
    by : (n : ℕ) → n < 1 → AreRounds (IsAfterReads 0 [] (Read 0 [] NotYet ∷ [])) IsEmpty 0 4096 n (Read 0 [] NotYet ∷ []) → ⊥
    by zero few a = cc
    by (suc n) few a = omega (arith, few)

pub returns-clause-one_link : goal.returns-clause-one_link
returns-clause-one_link c = (record { over = overs.Stopped stops.Spent; is = record { speaks = tt; so = tt }; run = tt; reports = (refl, refl) }, refl)
