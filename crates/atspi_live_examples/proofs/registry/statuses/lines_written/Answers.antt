use Rattle.std.proofs.Common.{◌≡◌, ℕ, List, [], length, length-append, Some, refl, ap, inl, inr, arith}
use Rattle.std.specs.Prelude.{codes}
use Rattle.atspi_base.specs.Outside.{AppendsPart}
use Rattle.atspi_live_conversation.specs.Reports.{Writes}
use Rattle.atspi_live_examples.proofs.registry.statuses.lines_written.Goals as goal

no_part : AppendsPart (Some (codes "x")) (Some (codes "xabc")) (codes "ab") → ⊥
no_part p = omega (arith, ap (λ (bytes : List ℕ). length bytes) p.2, ap (λ (bytes : List ℕ). length bytes) p.3, length-append p.0 p.1)

pub returns-clause-whole : goal.returns-clause-whole
returns-clause-whole c = inl (refl, refl)

pub returns-clause-untold : goal.returns-clause-untold
returns-clause-untold c = inl (refl, tt)

pub returns-clause-part_only : goal.returns-clause-part_only
returns-clause-part_only c = by
  where
    short : codes "xa" ≡ codes "xab" → ⊥
    short h = cc

    by : Writes (codes "ab") 6 (Some (codes "x")) (Some (codes "xa")) → ⊥
    by (inl all) = short all.1
    by (inr (inl e, part)) = omega (arith, e)
    by (inr (inr e, part)) = omega (arith, e)

pub returns-clause-sink_failed : goal.returns-clause-sink_failed
returns-clause-sink_failed c = inr (inl refl, (codes "a", codes "b", refl, refl))

pub returns-clause-no_memory : goal.returns-clause-no_memory
returns-clause-no_memory c = inr (inr refl, ([], codes "ab", refl, refl))

pub returns-clause-more_written : goal.returns-clause-more_written
returns-clause-more_written c = by
  where
    by : Writes (codes "ab") 4 (Some (codes "x")) (Some (codes "xabc")) → ⊥
    by (inl all) = omega (arith, all.0)
    by (inr (e, part)) = no_part part

pub returns-clause-more_written_too : goal.returns-clause-more_written_too
returns-clause-more_written_too c = by
  where
    by : Writes (codes "ab") 5 (Some (codes "x")) (Some (codes "xabc")) → ⊥
    by (inl all) = omega (arith, all.0)
    by (inr (e, part)) = no_part part

pub returns-clause-other_status : goal.returns-clause-other_status
returns-clause-other_status c = by
  where
    by : Writes (codes "ab") 0 (Some (codes "x")) (Some (codes "xab")) → ⊥
    by (inl all) = omega (arith, all.0)
    by (inr (inl e, part)) = omega (arith, e)
    by (inr (inr e, part)) = omega (arith, e)
