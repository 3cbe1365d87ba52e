use Rattle.std.proofs.Common.{◌≡◌, true, false, ℕ, [], refl, arith}
use Rattle.std.specs.Prelude.{codes}
use Rattle.atspi_live_reader.proofs.Started.{first_is, tail_is}
use Rattle.atspi_live_reader.proofs.examples.written.quiet_readers.Goals as goal

fed : true ≡ false → ⊥
fed h = cc

none_left : codes "a" ≡ [] → ⊥
none_left h = cc

pub returns-clause-quiet : goal.returns-clause-quiet
returns-clause-quiet c l = record { fed = refl; none = refl }

pub returns-clause-line_left : goal.returns-clause-line_left
returns-clause-line_left c l q = none_left q.none

pub returns-clause-line_lost : goal.returns-clause-line_lost
returns-clause-line_lost c l q = fed q.fed

pub returns-clause-spoke : goal.returns-clause-spoke
returns-clause-spoke c l = record { wrote = refl; fed = refl; same = refl; quiet = record { fed = refl; none = refl } }

pub returns-clause-other : goal.returns-clause-other
returns-clause-other c l s = by (first_is (tail_is s.wrote))
  where
    by : ◌≡◌ {A = ℕ} 99 98 → ⊥
    by h = omega (arith, h)

pub returns-clause-lost : goal.returns-clause-lost
returns-clause-lost c l s = fed s.fed

pub returns-clause-not_quiet : goal.returns-clause-not_quiet
returns-clause-not_quiet c l s = none_left s.quiet.none

pub returns-clause-other_reader : goal.returns-clause-other_reader
returns-clause-other_reader c l m other s = other s.same
