use Rattle.std.proofs.Common.{[], ◌∷◌, refl, inl, inr, lit<}
use Rattle.std.specs.Prelude.{codes}
use Rattle.atspi_live_host.specs.declared.call.Did.TheVariants.{Done, NotYet, Failed}
use Rattle.atspi_live_host.specs.declared.call.Call.TheVariants.{Accept, Listen}
use Rattle.atspi_live_bus.specs.Course.{start}
use Rattle.atspi_live_bus.specs.declared.stop.Stop.TheVariants as stops
use Rattle.atspi_live_bus.proofs.Worked.{empty_round, none_run, not_failed, nothing_passed}
use Rattle.atspi_live_bus.proofs.examples.runs.Goals as goal

pub returns-clause-done : goal.returns-clause-done
returns-clause-done c = inr (
  Done 0,
  Accept NotYet ∷ [],
  not_failed 0,
  record {
    whole = 1;
    done = Accept NotYet ∷ [];
    last = [];
    led = start;
    ended = start;
    are = (start, [], Accept NotYet ∷ [], (refl, refl), empty_round start (Listen (codes "/p") (Done 0) ∷ []) refl, refl);
    ends = inl (refl, refl, refl, refl);
    all = refl;
    fits = nothing_passed (Listen (codes "/p") (Done 0) ∷ Accept NotYet ∷ []) (λ k. refl) (λ k. refl);
  },
  refl,
)

pub returns-clause-accept_failed : goal.returns-clause-accept_failed
returns-clause-accept_failed c = inr (
  Done 0,
  Accept NotYet ∷ Accept Failed ∷ [],
  not_failed 0,
  record {
    whole = 1;
    done = Accept NotYet ∷ [];
    last = Accept Failed ∷ [];
    led = start;
    ended = start;
    are = (start, [], Accept NotYet ∷ [], (refl, refl), empty_round start (Listen (codes "/p") (Done 0) ∷ []) refl, refl);
    ends = inr (stops.HostFailed, refl, lit< tt, (refl, refl));
    all = refl;
    fits = nothing_passed (Listen (codes "/p") (Done 0) ∷ Accept NotYet ∷ Accept Failed ∷ []) (λ k. refl) (λ k. refl);
  },
  refl,
)

pub returns-clause-not_listened : goal.returns-clause-not_listened
returns-clause-not_listened c = inl (refl, refl)

pub returns-clause-none_done : goal.returns-clause-none_done
returns-clause-none_done c r = none_run (codes "/p") r
