use Rattle.std.proofs.Common.{◌≡◌, [], refl, lit≤}
use Rattle.atspi_run_examples.proofs.texts.spelled.Goals as goal

pub returns-clause-blank : goal.returns-clause-blank
returns-clause-blank c = (
  record { short = lit≤ tt; utf8 = ([], (refl, refl)); form = tt },
  (record { short = lit≤ tt; utf8 = ([], (refl, refl)); form = tt }, tt),
)

pub returns-clause-not_blank : goal.returns-clause-not_blank
returns-clause-not_blank c = λ h. let clash : 100 ≡ 35 = h.0.form in absurd cc
