use Rattle.std.proofs.Common.{[], ◌∷◌, refl, arith}
use Rattle.std.specs.Prelude.{codes, Contains}
use Rattle.atspi_match.specs.RuleFaults.{IsUnknown, FirstRuleFault}
use Rattle.atspi_match.specs.declared.condition.Condition.TheVariants.{Kind}
use Rattle.atspi_match.specs.declared.condition.MessageType.TheVariants.{Signal}
use Rattle.atspi_match.proofs.FaultLemmas.{twice_first}
use Rattle.atspi_bus_examples.proofs.Faults.{behind, only, key_at, signal_rule, after_signal}
use Rattle.atspi_bus_examples.proofs.rules.twice.Goals as goal

known : IsUnknown (codes "type") → ⊥
known unknown = unknown (Kind Signal) tt refl

stands : Contains (codes "type" ∷ []) (codes "type")
stands = (0, omega arith, refl)

again : FirstRuleFault (codes "type=signal,type=error") 12 3
again =
    behind (codes "type=signal,type=error") 12 signal_rule 0 3 (after_signal (codes "type=error")) (omega arith) (omega arith)
    (twice_first (codes "type" ∷ []) (codes "type=error") [] (codes "type") (codes "error") (key_at (codes "type=error") 0 4 refl refl refl refl).key known stands)

pub returns-clause-again : goal.returns-clause-again
returns-clause-again c = again

pub returns-clause-same : goal.returns-clause-same
returns-clause-same c =
    behind (codes "type=signal, type=signal") 12 signal_rule 1 3 (after_signal (codes " type=signal")) (omega arith) (omega arith)
    (twice_first (codes "type" ∷ []) (codes " type=signal") (codes " ") (codes "type") (codes "signal")
    (key_at (codes " type=signal") 1 4 refl refl refl refl).key known stands)

pub returns-clause-before_its_value : goal.returns-clause-before_its_value
returns-clause-before_its_value c =
    behind (codes "type=signal,type='") 12 signal_rule 0 3 (after_signal (codes "type='")) (omega arith) (omega arith)
    (twice_first (codes "type" ∷ []) (codes "type='") [] (codes "type") (codes "'") (key_at (codes "type='") 0 4 refl refl refl refl).key known stands)

pub returns-clause-not_the_first : goal.returns-clause-not_the_first
returns-clause-not_the_first c = λ other. omega (arith, (only (codes "type=signal,type=error") 12 3 0 3 again other).0)
