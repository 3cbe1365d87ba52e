use Rattle.std.proofs.Common.{[], refl, arith}
use Rattle.std.specs.Prelude.{codes}
use Rattle.atspi_match.specs.RuleFaults.{FirstRuleFault}
use Rattle.atspi_match.specs.inner.Keys.{key_in, named_key, arg_key, index_in, digit_at}
use Rattle.atspi_match.proofs.ItemLemmas.{unknown_here}
use Rattle.atspi_bus_examples.proofs.Faults.{at_first, only, key_at}
use Rattle.atspi_bus_examples.proofs.rules.unknown_keys.Goals as goal

unknown : FirstRuleFault (codes "kind=signal") 0 2
unfolding key_in named_key
unknown =
    at_first (codes "kind=signal") 0 2 (omega arith)
    (unknown_here [] (codes "kind=signal") 0 4 (key_at (codes "kind=signal") 0 4 refl refl refl refl) refl)

pub returns-clause-unknown : goal.returns-clause-unknown
returns-clause-unknown c = unknown

pub returns-clause-behind_blanks : goal.returns-clause-behind_blanks
unfolding key_in named_key arg_key index_in digit_at
returns-clause-behind_blanks c =
    at_first (codes "  kind=signal") 2 2 (omega arith)
    (unknown_here [] (codes "  kind=signal") 2 4 (key_at (codes "  kind=signal") 2 4 refl refl refl refl) refl)

pub returns-clause-capital : goal.returns-clause-capital
unfolding key_in named_key arg_key index_in digit_at
returns-clause-capital c =
    at_first (codes "Type=signal") 0 2 (omega arith)
    (unknown_here [] (codes "Type=signal") 0 4 (key_at (codes "Type=signal") 0 4 refl refl refl refl) refl)

pub returns-clause-argument_64 : goal.returns-clause-argument_64
unfolding key_in named_key arg_key index_in digit_at
returns-clause-argument_64 c =
    at_first (codes "arg64=a") 0 2 (omega arith)
    (unknown_here [] (codes "arg64=a") 0 5 (key_at (codes "arg64=a") 0 5 refl refl refl refl) refl)

pub returns-clause-two_zeros : goal.returns-clause-two_zeros
unfolding key_in named_key arg_key index_in digit_at
returns-clause-two_zeros c =
    at_first (codes "arg00=a") 0 2 (omega arith)
    (unknown_here [] (codes "arg00=a") 0 5 (key_at (codes "arg00=a") 0 5 refl refl refl refl) refl)

pub returns-clause-namespace_1 : goal.returns-clause-namespace_1
unfolding key_in named_key arg_key index_in digit_at
returns-clause-namespace_1 c =
    at_first (codes "arg1namespace=a") 0 2 (omega arith)
    (unknown_here [] (codes "arg1namespace=a") 0 13 (key_at (codes "arg1namespace=a") 0 13 refl refl refl refl) refl)

pub returns-clause-empty : goal.returns-clause-empty
unfolding key_in named_key arg_key index_in digit_at
returns-clause-empty c =
    at_first (codes "=signal") 0 2 (omega arith)
    (unknown_here [] (codes "=signal") 0 0 (key_at (codes "=signal") 0 0 refl refl refl refl) refl)

pub returns-clause-blank_behind : goal.returns-clause-blank_behind
unfolding key_in named_key arg_key index_in digit_at
returns-clause-blank_behind c =
    at_first (codes "type =signal") 0 2 (omega arith)
    (unknown_here [] (codes "type =signal") 0 5 (key_at (codes "type =signal") 0 5 refl refl refl refl) refl)

pub returns-clause-before_its_value : goal.returns-clause-before_its_value
unfolding key_in named_key arg_key index_in digit_at
returns-clause-before_its_value c =
    at_first (codes "kind='signal") 0 2 (omega arith)
    (unknown_here [] (codes "kind='signal") 0 4 (key_at (codes "kind='signal") 0 4 refl refl refl refl) refl)

pub returns-clause-not_six : goal.returns-clause-not_six
returns-clause-not_six c = λ other. omega (arith, (only (codes "kind=signal") 0 2 0 6 unknown other).1)
