use Rattle.std.proofs.Common.{◌≡◌, ◌≢◌, true, false, ℕ, inr, refl, arith}
use Rattle.std.specs.Prelude.{codes}
use Rattle.atspi_bus_examples.proofs.Faults.{word}
use Rattle.atspi_bus_examples.proofs.rules.of_the_specification.Goals as goal

no_apostrophe : ◌≢◌ {A = ℕ} 92 39
no_apostrophe e = omega (arith, e)

no_comma : ◌≢◌ {A = ℕ} 92 44
no_comma e = omega (arith, e)

pub returns-clause-in_apostrophes : goal.returns-clause-in_apostrophes
returns-clause-in_apostrophes c = inr refl

pub returns-clause-without : goal.returns-clause-without
returns-clause-without c = inr refl

pub returns-clause-lawful : goal.returns-clause-lawful
returns-clause-lawful c = (
  record { blanks = tt; key = word (codes "arg0") refl refl; parts = (tt, (tt, (tt, tt))) },
  (
    record { blanks = tt; key = word (codes "arg1") refl refl; parts = ((refl, tt), tt) },
    (
      record { blanks = tt; key = word (codes "arg2") refl refl; parts = ((refl, tt), tt) },
      (record { blanks = tt; key = word (codes "arg3") refl refl; parts = ((refl, (refl, tt)), tt) }, tt),
    ),
  ),
)

pub returns-clause-lawful_without : goal.returns-clause-lawful_without
returns-clause-lawful_without c = (
  record { blanks = tt; key = word (codes "arg0") refl refl; parts = (tt, tt) },
  (
    record { blanks = tt; key = word (codes "arg1") refl refl; parts = ((no_apostrophe, no_comma, λ e x. x), tt) },
    (
      record { blanks = tt; key = word (codes "arg2") refl refl; parts = ((refl, tt), tt) },
      (
        record {
          blanks = tt;
          key = word (codes "arg3") refl refl;
          parts = ((no_apostrophe, no_comma, λ e x. let no : false ≡ true = x in absurd cc), ((no_apostrophe, no_comma, λ e x. x), tt));
        },
        tt,
      ),
    ),
  ),
)

pub returns-clause-values : goal.returns-clause-values
returns-clause-values c = refl

pub returns-clause-values_without : goal.returns-clause-values_without
returns-clause-values_without c = refl
