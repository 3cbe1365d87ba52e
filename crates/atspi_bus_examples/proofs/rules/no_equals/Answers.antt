use Rattle.std.proofs.Common.{[], ◌∷◌, refl, arith}
use Rattle.std.specs.Prelude.{codes}
use Rattle.atspi_match.specs.RuleFaults.{FirstRuleFault}
use Rattle.atspi_match.proofs.ItemLemmas.{bare_here}
use Rattle.atspi_bus_examples.proofs.Faults.{at_first, behind, only, signal_rule, after_signal}
use Rattle.atspi_bus_examples.proofs.rules.no_equals.Goals as goal

key_alone : FirstRuleFault (codes "type") 0 1
key_alone = at_first (codes "type") 0 1 (omega arith) (bare_here [] (codes "type") 0 4 (omega arith) refl refl tt)

behind_blanks : FirstRuleFault (codes " \ttype") 2 1
behind_blanks = at_first (codes " \ttype") 2 1 (omega arith) (bare_here [] (codes " \ttype") 2 4 (omega arith) refl refl tt)

pub returns-clause-key_alone : goal.returns-clause-key_alone
returns-clause-key_alone c = key_alone

pub returns-clause-before_comma : goal.returns-clause-before_comma
returns-clause-before_comma c =
    at_first (codes "type,member=M") 0 1 (omega arith) (bare_here [] (codes "type,member=M") 0 4 (omega arith) refl refl refl)

pub returns-clause-behind_blanks : goal.returns-clause-behind_blanks
returns-clause-behind_blanks c = behind_blanks

pub returns-clause-blanks_alone : goal.returns-clause-blanks_alone
returns-clause-blanks_alone c = at_first (codes "  ") 2 1 (omega arith) (bare_here [] (codes "  ") 2 0 (omega arith) refl refl tt)

pub returns-clause-comma_first : goal.returns-clause-comma_first
returns-clause-comma_first c =
    at_first (codes ",type=signal") 0 1 (omega arith) (bare_here [] (codes ",type=signal") 0 0 (omega arith) refl refl refl)

pub returns-clause-two_commas : goal.returns-clause-two_commas
returns-clause-two_commas c =
    behind (codes "type=signal,,") 12 signal_rule 0 1 (after_signal (codes ",")) (omega arith) (omega arith)
    (bare_here (codes "type" ∷ []) (codes ",") 0 0 (omega arith) refl refl refl)

pub returns-clause-not_two : goal.returns-clause-not_two
returns-clause-not_two c = λ other. omega (arith, (only (codes "type") 0 1 0 2 key_alone other).1)

pub returns-clause-not_the_blank : goal.returns-clause-not_the_blank
returns-clause-not_the_blank c = λ other. omega (arith, (only (codes " \ttype") 2 1 0 1 behind_blanks other).0)
