-- Turns are few, along a lawful trace.
use Rattle.std.proofs.Common.{◌≡◌, ℕ, ◌<◌, ◌≤◌, List, ◌∷◌, ◌++◌, sym, subst, arith}
use Rattle.std.specs.Prelude.{◌*◌}
use Rattle.std.specs.List.{AllByRecursion}
use Rattle.atspi_script_lines.specs.declared.line.Line.{Line}
use Rattle.atspi_script_lines.specs.declared.line.Party.{Party}
use Rattle.atspi_script_lines.specs.declared.line.Party.TheVariants.{Bus as The_bus}
use Rattle.atspi_trace.specs.Entry.{Entry, got}
use Rattle.atspi_trace.specs.Due.{begins, Goes}
use Rattle.atspi_trace_laws.specs.order.Scripts.{CanAllStand}
use Rattle.atspi_trace_laws.specs.turns.Laws.{IsTakenInTurn}
use Rattle.atspi_trace_played.specs.Turns.{count_taken, IsUnspent}
use Rattle.atspi_trace_laws.proofs.OfOrder.Parties.{all_back}
use Rattle.atspi_trace_laws.proofs.OfDelivered.LawLinks.{links_hold}
use Rattle.atspi_trace_laws.proofs.OfTurns.LawTurns.{ends_take_in_turn}
use Rattle.atspi_trace_played.proofs.OwnTurns.{own_turns}
use Rattle.atspi_trace_played.proofs.Serials.{serials}
use Rattle.atspi_trace_played.proofs.Counting.{GotFits, count_between, count_all, all_counted, all_most}
use Rattle.atspi_trace_played.proofs.Parties.{all_got}
use Rattle.atspi_trace_played.proofs.Pairs.{earlier_below, fits_below, few_rise, all_rise, count_is, all_count}

module _ (lines : List Line) (trace : List Entry) (a : CanAllStand lines) (g : Goes (begins lines) trace) (u : AllByRecursion IsUnspent trace) where
  below_at : (before behind : List Entry) (who from : Party) (s : ℕ) → trace ≡ before ++ got who from s ∷ behind → s < 4294967296
  below_at before behind who from s h = (all_back GotFits before (got who from s ∷ behind) (subst (AllByRecursion GotFits) h (all_got lines trace a g u))).0.2

  -- what the bus takes of an end
  by_the_bus : (from : Party) → count_between trace The_bus from ≤ 4294967296
  by_the_bus from =
      subst (λ n. n ≤ 4294967296) (sym (count_is from trace))
      (all_count from 4294967296 trace (λ before behind s h. ((links_hold lines trace a g before (got The_bus from s) behind h).1, below_at before behind The_bus from s h)))

  -- what an end takes of the bus
  of_the_bus : (who : Party) → count_between trace who The_bus ≤ 4294967296
  of_the_bus who = let r = own_turns lines trace a g who in few_rise r.0 (serials who The_bus trace) (fits_below who The_bus trace (all_got lines trace a g u)) r.1

  -- and of another end
  of_an_end : (who from : Party)
      → ((before : List Entry) (s : ℕ) (behind : List Entry) → IsTakenInTurn before (got who from s) behind → AllByRecursion (λ x. x < s) (serials who from before)) → count_between trace who from ≤ 4294967296
  of_an_end who from f =
      few_rise 4294967296 (serials who from trace) (fits_below who from trace (all_got lines trace a g u))
      (all_rise who from 4294967296 trace (λ before behind s h. (f before s behind (ends_take_in_turn lines trace a g before (got who from s) behind h), below_at before behind who from s h)))

  each_pair : (who from : Party) → count_between trace who from ≤ 4294967296
  each_pair The_bus from = by_the_bus from
  each_pair who The_bus = of_the_bus who
  each_pair who from = of_an_end who from (λ before s behind t. earlier_below who from s before t)

  pub turns_are_few_in : count_taken trace ≤ 2078764171264
  turns_are_few_in =
      let counted : count_taken trace ≤ count_all trace = all_counted trace (all_got lines trace a g u) in
      let most : count_all trace ≤ 2078764171264 = all_most trace each_pair in
      up (count_taken trace) (count_all trace) counted most
    where
      up : (n m : ℕ) → n ≤ m → m ≤ 2078764171264 → n ≤ 2078764171264
      up n m p q = omega (arith, p, q)

pub turns_are_few : (lines : List Line) (trace : List Entry) → CanAllStand lines → Goes (begins lines) trace → AllByRecursion IsUnspent trace → count_taken trace ≤ 22 * 22 * 4294967296
turns_are_few lines trace a g u = turns_are_few_in lines trace a g u
