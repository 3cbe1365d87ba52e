use Rattle.std.proofs.Common.{◌≡◌, ◌<◌, ◌≤◌, ℕ, zero, suc, List, [], ◌∷◌, ◌++◌, refl, ap, ◌∙◌, inl, inr, arith, lit<, lit≤}
use Rattle.atspi_live_host.specs.declared.call.Call.{Call}
use Rattle.atspi_live_host.specs.declared.call.Call.TheVariants.{Read, Write}
use Rattle.atspi_live_host.specs.declared.call.Did.TheVariants.{Done, End, NotYet}
use Rattle.atspi_live_conversation.specs.Rounds.{AreRounds, Breaks}
use Rattle.atspi_live_conversation.specs.declared.ending.Ending.TheVariants as endings
use Rattle.atspi_live_reader.specs.Spoken.{IsAfter, IsEmpty}
use Rattle.atspi_live_reader.specs.Cases.{hail}
use Rattle.atspi_live_reader.proofs.FirstRounds.{few_read, first_round, next_round, not_open, one_round, opens, read_opens, rounds_open}
use Rattle.atspi_live_reader.proofs.examples.overs.calls_of_runs.Goals as goal

pub returns-clause-turn : goal.returns-clause-turn
returns-clause-turn c = refl

pub returns-clause-turn_failed : goal.returns-clause-turn_failed
returns-clause-turn_failed c h = by h
  where
    by : Breaks IsAfter IsEmpty 0 4096 endings.HostFailed [] [] (Read 0 [] End ∷ []) → ⊥
    by (inl h) = cc
    by (inr h) = not_open 0 4096 [] End (λ goes. goes) (h.2.0, h.2.1, h.1, h.2.2, h.2.3, h.4 ∙ ap (λ (w : List Call). w ++ h.1) h.2.4)

pub returns-clause-turn_sink : goal.returns-clause-turn_sink
returns-clause-turn_sink c = first_round

pub returns-clause-turn_behind : goal.returns-clause-turn_behind
returns-clause-turn_behind c = next_round

pub returns-clause-turn_most : goal.returns-clause-turn_most
returns-clause-turn_most c t h = few_read 0 3 [] t (Done 3) (read_opens 0 3 (Read 0 t (Done 3) ∷ []) h)

pub returns-clause-turn_most_whole : goal.returns-clause-turn_most_whole
returns-clause-turn_most_whole c t h = few_read 0 3 [] t (Done 3) (opens 0 3 [] [] (Read 0 t (Done 3) ∷ []) h)

pub returns-clause-turn_cut : goal.returns-clause-turn_cut
returns-clause-turn_cut c h = not_open 0 4096 [] End (λ goes. goes) (opens 0 4096 [] [] (Read 0 [] End ∷ []) h)

pub returns-clause-run : goal.returns-clause-run
returns-clause-run c = record {
  whole = 1;
  done = Read 0 [] NotYet ∷ Write 0 hail (Done 16) ∷ [];
  last = Read 0 [] End ∷ [];
  are = one_round;
  ends = (lit< tt, refl);
  all = refl;
}

pub returns-clause-run_sink : goal.returns-clause-run_sink
returns-clause-run_sink c = (1, lit≤ tt, one_round)

pub returns-clause-run_none : goal.returns-clause-run_none
returns-clause-run_none c = (0, lit≤ tt, refl)

pub returns-clause-run_cut : goal.returns-clause-run_cut
returns-clause-run_cut c h = not_open 0 4096 [] End (λ goes. goes) (rounds_open 0 4096 h.0 (Read 0 [] End) [] h.2)

pub returns-clause-run_long : goal.returns-clause-run_long
returns-clause-run_long c h = by h.0 h.1 h.2
  where
    by : (n : ℕ) → n ≤ 0 → AreRounds (λ _. IsAfter) IsEmpty 0 4096 n (Read 0 [] NotYet ∷ Write 0 hail (Done 16) ∷ []) → ⊥
    by zero few a = cc
    by (suc n) few a = omega (arith, few)

pub returns-clause-run_short : goal.returns-clause-run_short
returns-clause-run_short c h = omega (arith, h.ends.0)

-- where no round was whole, the calls are those of the one in which the run ended
none_whole : (n : ℕ) (done : List Call) → n < 1 → AreRounds (λ _. IsAfter) IsEmpty 0 4096 n done → done ≡ []
none_whole zero done few a = a
none_whole (suc n) done few a = absurd (omega (arith, few))

pub returns-clause-most_read : goal.returns-clause-most_read
returns-clause-most_read c t h =
    let none = none_whole h.whole h.done h.ends.0 h.are in
    let o = read_opens 0 4096 h.last h.ends.1 in
    few_read 0 4096 [] t (Done 4096) (o.0, o.1, o.2, o.3, o.4, h.all ∙ ap (λ (w : List Call). w ++ h.last) none ∙ o.5)

pub returns-clause-read_all : goal.returns-clause-read_all
returns-clause-read_all c t is = record {
  whole = 0;
  done = [];
  last = Read 0 t (Done 4096) ∷ [];
  are = refl;
  ends = (lit< tt, (t, Done 4096, tt, omega (arith, is), refl));
  all = refl;
}

pub returns-clause-whole_round : goal.returns-clause-whole_round
returns-clause-whole_round c calls r = (1, lit≤ tt, ([], calls, refl, r, refl))

pub returns-clause-most_read_whole : goal.returns-clause-most_read_whole
returns-clause-most_read_whole c t h = few_read 0 4096 [] t (Done 4096) (rounds_open 0 4096 h.0 (Read 0 t (Done 4096)) [] h.2)
