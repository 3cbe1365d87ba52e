-- Of one sender nobody takes more messages than there are serials.
use Rattle.std.proofs.Common.{◌≡◌, ℕ, suc, ◌+◌, ◌<◌, ◌≤◌, Bool, true, false, List, [], ◌∷◌, ◌++◌, length, refl, sym, ap, ◌∙◌, subst, arith}
use Rattle.std.specs.Prelude.{◌&&◌, if◌then◌else◌}
use Rattle.std.specs.List.{AllByRecursion}
use Rattle.std.proofs.lemmas.List.{append-nil, append_assoc}
use Rattle.atspi_script_lines.specs.declared.line.Party.{Party}
use Rattle.atspi_script_lines.specs.declared.line.Party.TheVariants.{Bus as The_bus}
use Rattle.atspi_trace.specs.Entry.{Entry, got}
use Rattle.atspi_trace.specs.Ends.{same_party}
use Rattle.atspi_trace_laws.specs.laws.NineLaws.{sent_before, count_got_by_bus}
use Rattle.atspi_trace_laws.specs.turns.Laws.{IsEarlier}
use Rattle.atspi_trace_laws.proofs.OfOrder.Parties.{same-party}
use Rattle.atspi_trace_laws.proofs.OfTurns.Rising.{Rises, higher, rises_last}
use Rattle.atspi_trace_laws.proofs.OfTurns.Turning.{add, count_more}
use Rattle.atspi_trace_played.proofs.Serials.{serial_if, serials, serials_more, rises_below, rises_length}
use Rattle.atspi_trace_played.proofs.Counting.{GotFits}

-- what was taken of it earlier has lower serials
pub earlier_below : (who from : Party) (s : ℕ) (es : List Entry) → AllByRecursion (IsEarlier who from s) es → AllByRecursion (λ x. x < s) (serials who from es)
earlier_below who from s [] a = tt
earlier_below who from s (got taker sender n ∷ es) a = by (same_party taker who) (same_party sender from) refl refl (earlier_below who from s es a.1)
  where
    by : (b c : Bool) → same_party taker who ≡ b → same_party sender from ≡ c → AllByRecursion (λ x. x < s) (serials who from es) → AllByRecursion (λ x. x < s) ((if b && c then n ∷ [] else []) ++ serials who from es)
    by true true p q rest = (a.0 (same-party taker who p) (same-party sender from q), rest)
    by true false p q rest = rest
    by false c p q rest = rest
earlier_below who from s (x ∷ es) a = earlier_below who from s es a.1

pub fits_below : (who from : Party) (es : List Entry) → AllByRecursion GotFits es → AllByRecursion (λ x. x < 4294967296) (serials who from es)
fits_below who from [] a = tt
fits_below who from (got taker sender n ∷ es) a = by (same_party taker who) (same_party sender from) (fits_below who from es a.1)
  where
    by : (b c : Bool) → AllByRecursion (λ x. x < 4294967296) (serials who from es) → AllByRecursion (λ x. x < 4294967296) ((if b && c then n ∷ [] else []) ++ serials who from es)
    by true true rest = (a.0.2, rest)
    by true false rest = rest
    by false c rest = rest
fits_below who from (x ∷ es) a = fits_below who from es a.1

pub few_rise : (high : ℕ) (xs : List ℕ) → AllByRecursion (λ x. x < 4294967296) xs → Rises 0 high xs → length xs ≤ 4294967296
few_rise high xs a r = let most : 0 + length xs ≤ 4294967296 = rises_length 0 4294967296 xs (omega arith) (rises_below 0 high 4294967296 xs a r) in omega (arith, most)

-- ENDS OF ENDS: each comes behind those that were taken before
module _ (who from : Party) (n : ℕ) (trace : List Entry)
    (next : (before behind : List Entry) (s : ℕ) → trace ≡ before ++ got who from s ∷ behind → AllByRecursion (λ x. x < s) (serials who from before) × (s < n)) where
  none_more : (early : List Entry) → Rises 0 n (serials who from early) → Rises 0 n (serials who from early ++ [])
  none_more early r = subst (Rises 0 n) (sym (append-nil (serials who from early))) r

  one_step : (early xs : List Entry) (x : Entry) → trace ≡ early ++ x ∷ xs → Rises 0 n (serials who from early) → Rises 0 n (serials who from early ++ serial_if who from x)
  one_step early xs (got taker sender s) h r = by (same_party taker who) (same_party sender from) refl refl
    where
      by : (b c : Bool) → same_party taker who ≡ b → same_party sender from ≡ c → Rises 0 n (serials who from early ++ (if b && c then s ∷ [] else []))
      by true true p q =
          let x = next early xs s (h ∙ ap (λ t. early ++ got t sender s ∷ xs) (same-party taker who p) ∙ ap (λ f. early ++ got who f s ∷ xs) (same-party sender from q)) in
          let less : s < n = x.1 in
          higher 0 (suc s) n (serials who from early ++ s ∷ []) (omega (arith, less)) (rises_last 0 s (serials who from early) (omega arith) (rises_below 0 n s (serials who from early) x.0 r))
      by true false p q = none_more early r
      by false c p q = none_more early r
  one_step early xs x h r = none_more early r

  along_rise : (early xs : List Entry) → trace ≡ early ++ xs → Rises 0 n (serials who from early) → Rises 0 n (serials who from trace)
  along_rise early [] h r = subst (λ l. Rises 0 n (serials who from l)) (sym (h ∙ append-nil early)) r
  along_rise early (x ∷ xs) h r =
      along_rise (early ++ x ∷ []) xs (h ∙ sym (append_assoc early (x ∷ []) xs))
      (subst (Rises 0 n) (sym (serials_more who from early (x ∷ []) ∙ ap (λ l. serials who from early ++ l) (append-nil (serial_if who from x)))) (one_step early xs x h r))

  pub all_rise : Rises 0 n (serials who from trace)
  all_rise = along_rise [] trace refl tt

-- THE BUS OF ENDS: it takes one behind the other, so as many as their serials say
pub count_is : (from : Party) (es : List Entry) → length (serials The_bus from es) ≡ count_got_by_bus es from
count_is from [] = refl
count_is from (got The_bus sender s ∷ es) = by (same_party sender from) (count_is from es)
  where
    by : (b : Bool) → length (serials The_bus from es) ≡ count_got_by_bus es from → length ((if b then s ∷ [] else []) ++ serials The_bus from es) ≡ add b (count_got_by_bus es from)
    by true h = ap suc h
    by false h = h
count_is from (x ∷ es) = count_is from es

module _ (from : Party) (n : ℕ) (trace : List Entry)
    (next : (before behind : List Entry) (s : ℕ) → trace ≡ before ++ got The_bus from s ∷ behind → (s ≡ suc (sent_before from + count_got_by_bus before from)) × (s < n)) where
  one_count : (early xs : List Entry) (x : Entry) → trace ≡ early ++ x ∷ xs → count_got_by_bus early from ≤ n → count_got_by_bus early from + count_got_by_bus (x ∷ []) from ≤ n
  one_count early xs (got The_bus sender s) h c = by (same_party sender from) refl
    where
      by : (b : Bool) → same_party sender from ≡ b → count_got_by_bus early from + add b 0 ≤ n
      by true e =
          let x = next early xs s (h ∙ ap (λ p. early ++ got The_bus p s ∷ xs) (same-party sender from e)) in
          let is : s ≡ suc (sent_before from + count_got_by_bus early from) = x.0 in
          let less : s < n = x.1 in
          omega (arith, is, less)
      by false e = omega (arith, c)
  one_count early xs x h c = none (count_got_by_bus early from) c
    where
      none : (k : ℕ) → k ≤ n → k + 0 ≤ n
      none k g = omega (arith, g)

  along_count : (early xs : List Entry) → trace ≡ early ++ xs → count_got_by_bus early from ≤ n → count_got_by_bus trace from ≤ n
  along_count early [] h c = subst (λ l. count_got_by_bus l from ≤ n) (sym (h ∙ append-nil early)) c
  along_count early (x ∷ xs) h c =
      along_count (early ++ x ∷ []) xs (h ∙ sym (append_assoc early (x ∷ []) xs)) (subst (λ k. k ≤ n) (sym (count_more early (x ∷ []) from)) (one_count early xs x h c))

  pub all_count : count_got_by_bus trace from ≤ n
  all_count = along_count [] trace refl (omega arith)
