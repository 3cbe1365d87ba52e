use Rattle.std.proofs.Common.{refl, rules, arith}
use Rattle.std.specs.Fmt.{digits}
use Rattle.atspi_live_app.specs.declared.asking.Ask.TheVariants as asks
use Rattle.atspi_live_examples.proofs.app.paces.rounds_of_lines.Goals as goal

pub returns-clause-waits : goal.returns-clause-waits
unfolding digits
returns-clause-waits c = (asks.Wait 2, (omega arith, refl), refl)

pub returns-clause-waits_one : goal.returns-clause-waits_one
unfolding digits
returns-clause-waits_one c = (asks.Wait 0, (omega arith, refl), refl)

pub returns-clause-blank : goal.returns-clause-blank
returns-clause-blank c = (asks.Nothing, record { short = omega arith; utf8 = search rules; form = tt }, refl)
