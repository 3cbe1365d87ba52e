-- What each command does, as the top call says it.
use Rattle.std.proofs.Common.{◌≡◌, ◌⊎◌, ◌<◌, ℕ, List, [], ◌∷◌, Option, subst, arith, inl, inr}
use Rattle.atspi_trace_texts.specs.declared.options.TraceOptions.{TraceOptions}
use Rattle.atspi_run_check.specs.Causes as check
use Rattle.atspi_run_check.specs.Check.{Checked, IsCheckStatus}
use Rattle.atspi_run_hit.specs.Run.{HitDone, IsHitStatus}
use Rattle.atspi_run_input.specs.Causes as input
use Rattle.atspi_run_replay.specs.Causes.{Causes}
use Rattle.atspi_run_replay.specs.Made.{IsMakeStatus, Made}
use Rattle.atspi_run_replay.specs.Run.{IsReplayStatus, Replayed}
use Rattle.atspi_run.specs.Words.{IsMake, IsReplay}
use Rattle.atspi_run.proofs.WordLemmas.{same_numbers, same_options}

-- the words say which options are meant
pub replayed_as_asked : (words : List (List ℕ)) (options asked : TraceOptions) (limit status : ℕ) (left left' w w' : Option (List ℕ)) → IsReplay words options → Replayed options limit status left left' w w' → IsReplay words asked → Replayed asked limit status left left' w w'
replayed_as_asked words options asked limit status left left' w w' is r also = subst (λ (o : TraceOptions). Replayed o limit status left left' w w') (same_options words options asked is also) r

pub made_as_asked : (words : List (List ℕ)) (count seed n k status : ℕ) (w w' : Option (List ℕ)) → IsMake words count seed → Made count seed status w w' → IsMake words n k → Made n k status w w'
made_as_asked words count seed n k status w w' is m also =
    let same = same_numbers words count seed n k is also in
    subst (λ (c : ℕ). Made c k status w w') same.0 (subst (λ (s : ℕ). Made count s status w w') same.1 m)

-- status 2 is that of no command
replay_status : (status : ℕ) → IsReplayStatus status → status ≡ 2 → ⊥
replay_status status (inl e) two = absurd (omega (arith, e, two))
replay_status status (inr (inl e)) two = absurd (omega (arith, e, two))
replay_status status (inr (inr (inl e))) two = absurd (omega (arith, e, two))
replay_status status (inr (inr (inr (inl e)))) two = absurd (omega (arith, e, two))
replay_status status (inr (inr (inr (inr (inl e))))) two = absurd (omega (arith, e, two))
replay_status status (inr (inr (inr (inr (inr (inl e)))))) two = absurd (omega (arith, e, two))
replay_status status (inr (inr (inr (inr (inr (inr (inl e))))))) two = absurd (omega (arith, e, two))
replay_status status (inr (inr (inr (inr (inr (inr (inr e))))))) two = absurd (omega (arith, e, two))

pub replay_is_not_2 : (options : TraceOptions) (limit status : ℕ) (left left' w w' : Option (List ℕ)) → Replayed options limit status left left' w w' → status ≡ 2 → ⊥
replay_is_not_2 options limit status left left' w w' r two = replay_status status r.known two

make_status : (status : ℕ) → IsMakeStatus status → status ≡ 2 → ⊥
make_status status (inl e) two = absurd (omega (arith, e, two))
make_status status (inr (inl e)) two = absurd (omega (arith, e, two))
make_status status (inr (inr (inl e))) two = absurd (omega (arith, e, two))
make_status status (inr (inr (inr (inl e)))) two = absurd (omega (arith, e, two))
make_status status (inr (inr (inr (inr (inl e))))) two = absurd (omega (arith, e, two))
make_status status (inr (inr (inr (inr (inr e))))) two = absurd (omega (arith, e, two))

pub make_is_not_2 : (count seed status : ℕ) (w w' : Option (List ℕ)) → Made count seed status w w' → status ≡ 2 → ⊥
make_is_not_2 count seed status w w' m two = make_status status m.known two

-- of `check` no more statuses stand before a read fault than of a replay
source_next : (status a b : ℕ) → (status ≡ 3) ⊎ ((status ≡ 4) ⊎ ((status ≡ 1) ⊎ ((status ≡ 5) ⊎ (b ≡ a)))) → (status ≡ 3) ⊎ ((status ≡ 4) ⊎ (((status ≡ 1) ⊎ ((status ≡ 5) ⊎ ((status ≡ 9) ⊎ (status ≡ 13)))) ⊎ (b ≡ a)))
source_next status a b (inl e) = inl e
source_next status a b (inr (inl e)) = inr (inl e)
source_next status a b (inr (inr (inl e))) = inr (inr (inl (inl e)))
source_next status a b (inr (inr (inr (inl e)))) = inr (inr (inl (inr (inl e))))
source_next status a b (inr (inr (inr (inr e)))) = inr (inr (inr e))

pub causes_of_check : (status a b c d : ℕ) → check.Causes status a b c d → Causes status a b c d
causes_of_check status a b c d h = record {
  source_later = h.source_later;
  sink_later = h.sink_later;
  read = h.read;
  write = h.write;
  sink_first = h.sink_first;
  source_next = source_next status a b h.source_next;
}

check_status : (status : ℕ) → IsCheckStatus status → status ≡ 2 → ⊥
check_status status (inl e) two = absurd (omega (arith, e, two))
check_status status (inr (inl e)) two = absurd (omega (arith, e, two))
check_status status (inr (inr (inl e))) two = absurd (omega (arith, e, two))
check_status status (inr (inr (inr (inl e)))) two = absurd (omega (arith, e, two))
check_status status (inr (inr (inr (inr (inl e))))) two = absurd (omega (arith, e, two))
check_status status (inr (inr (inr (inr (inr e))))) two = absurd (omega (arith, e, two))

pub check_is_not_2 : (limit status : ℕ) (left left' w w' : Option (List ℕ)) → Checked limit status left left' w w' → status ≡ 2 → ⊥
check_is_not_2 limit status left left' w w' c two = check_status status c.known two

-- the same of `hit`
pub causes_of_hit : (status a b c d : ℕ) → input.Causes status a b c d → Causes status a b c d
causes_of_hit status a b c d h = record {
  source_later = h.source_later;
  sink_later = h.sink_later;
  read = h.read;
  write = h.write;
  sink_first = h.sink_first;
  source_next = h.source_next;
}

hit_status : (status : ℕ) → IsHitStatus status → status ≡ 2 → ⊥
hit_status status (inl e) two = absurd (omega (arith, e, two))
hit_status status (inr (inl e)) two = absurd (omega (arith, e, two))
hit_status status (inr (inr (inl e))) two = absurd (omega (arith, e, two))
hit_status status (inr (inr (inr (inl e)))) two = absurd (omega (arith, e, two))
hit_status status (inr (inr (inr (inr (inl e))))) two = absurd (omega (arith, e, two))
hit_status status (inr (inr (inr (inr (inr e))))) two = absurd (omega (arith, e, two))

pub hit_is_not_2 : (limit status : ℕ) (left left' w w' : Option (List ℕ)) → HitDone limit status left left' w w' → status ≡ 2 → ⊥
hit_is_not_2 limit status left left' w w' h two = hit_status status h.known two

-- the numbers of a script that is to be made
pub few_asked : (words : List (List ℕ)) (count seed : ℕ) → IsMake words count seed → (count < 4294967295) × (seed < 2147483648)
few_asked [] count seed is = absurd is
few_asked (a ∷ []) count seed is = absurd is
few_asked (a ∷ b ∷ []) count seed is = absurd is
few_asked (a ∷ b ∷ c ∷ []) count seed is = (omega (arith, is.1.few), omega (arith, is.1.small))
few_asked (a ∷ b ∷ c ∷ d ∷ ws) count seed is = absurd is
