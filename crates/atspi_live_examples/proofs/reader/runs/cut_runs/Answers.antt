use Rattle.std.proofs.Common.{◌≡◌, ◌≤◌, List, ℕ, zero, suc, [], ◌∷◌, Some, refl, subst, arith, lit≤}
use Rattle.std.specs.Prelude.{codes}
use Rattle.atspi_live_host.specs.declared.call.Call.{Call}
use Rattle.atspi_live_host.specs.declared.call.Call.TheVariants.{Connect, Read, Write}
use Rattle.atspi_live_host.specs.declared.call.Did.{Did}
use Rattle.atspi_live_host.specs.declared.call.Did.TheVariants.{Done, End, NotYet}
use Rattle.atspi_live_conversation.specs.Rounds.{AreRounds}
use Rattle.atspi_live_reader.specs.Spoken.{IsAfter, IsEmpty}
use Rattle.atspi_live_examples.specs.reader.Started.{hail}
use Rattle.atspi_live_examples.proofs.OfReader.Started.{first_is, tail_is}
use Rattle.atspi_live_examples.proofs.OfReader.FirstRounds.{few_read, not_open, one_round, rounds_open}
use Rattle.atspi_live_examples.proofs.reader.runs.cut_runs.Goals as goal

pub returns-clause-no_round : goal.returns-clause-no_round
returns-clause-no_round c = record { status_is = refl; none = refl; run = ([], (0, lit≤ tt, refl), refl) }

pub returns-clause-one_round : goal.returns-clause-one_round
returns-clause-one_round c = record { status_is = refl; none = refl; run = (Read 0 [] NotYet ∷ Write 0 hail (Done 16) ∷ [], (1, lit≤ tt, one_round), refl) }

pub returns-clause-whole_round : goal.returns-clause-whole_round
returns-clause-whole_round c calls r = record { status_is = refl; none = refl; run = (calls, (1, lit≤ tt, ([], calls, refl, r, refl)), refl) }

-- the calls behind the first
behind_first : {d : Call} {xs ys : List Call} → d ∷ xs ≡ d ∷ ys → ys ≡ xs
behind_first h = cc

pub returns-clause-most_read : goal.returns-clause-most_read
returns-clause-most_read c t h =
    let r = h.run in
    few_read 0 4096 [] t (Done 4096) (rounds_open 0 4096 r.1.0 (Read 0 t (Done 4096)) [] (subst (λ (cs : List Call). AreRounds (λ _. IsAfter) IsEmpty 0 4096 r.1.0 cs) (behind_first r.2) r.1.2))

pub returns-clause-untold : goal.returns-clause-untold
returns-clause-untold c = record { status_is = refl; none = refl; run = tt }

pub returns-clause-other_status : goal.returns-clause-other_status
returns-clause-other_status c h = omega (arith, h.status_is)

pub returns-clause-wrote : goal.returns-clause-wrote
returns-clause-wrote c h = by h.none
  where
    by : Some (codes "a") ≡ Some [] → ⊥
    by h = cc

pub returns-clause-not_connected : goal.returns-clause-not_connected
returns-clause-not_connected c h = by h.run.2
  where
    by : {d : Call} {calls : List Call} → [] ≡ d ∷ calls → ⊥
    by h = cc

pub returns-clause-other_path : goal.returns-clause-other_path
returns-clause-other_path c h = by (first_is (tail_is (path_is h.run.2)))
  where
    path_is : {p q : List ℕ} {d e : Did} {xs ys : List Call} → Connect p d ∷ xs ≡ Connect q e ∷ ys → p ≡ q
    path_is h = cc

    by : ◌≡◌ {A = ℕ} 112 113 → ⊥
    by h = omega (arith, h)

pub returns-clause-other_link : goal.returns-clause-other_link
returns-clause-other_link c h = by h.run.0 h.run.2
  where
    by : (calls : List Call) → Connect (codes "/p") (Done 0) ∷ [] ≡ Connect (codes "/p") (Done 1) ∷ calls → ⊥
    by calls h = cc

pub returns-clause-too_many : goal.returns-clause-too_many
returns-clause-too_many c h =
    let r = h.run in
    by r.1.0 r.1.1 (subst (λ (cs : List Call). AreRounds (λ _. IsAfter) IsEmpty 0 4096 r.1.0 cs) (behind_first r.2) r.1.2)
  where
    by : (n : ℕ) → n ≤ 0 → AreRounds (λ _. IsAfter) IsEmpty 0 4096 n (Read 0 [] NotYet ∷ Write 0 hail (Done 16) ∷ []) → ⊥
    by zero few a = cc
    by (suc n) few a = omega (arith, few)

pub returns-clause-not_whole : goal.returns-clause-not_whole
returns-clause-not_whole c h =
    let r = h.run in
    not_open 0 4096 [] End (λ goes. goes) (rounds_open 0 4096 r.1.0 (Read 0 [] End) [] (subst (λ (cs : List Call). AreRounds (λ _. IsAfter) IsEmpty 0 4096 r.1.0 cs) (behind_first r.2) r.1.2))
