use Rattle.std.proofs.Common.{◌≡◌, true, false, refl}
use Rattle.atspi_examples.proofs.protocol.registering.asked_for.Goals as goal

pub returns-clause-both : goal.returns-clause-both
unfolding lib.Utf8.encode
returns-clause-both c = ((λ _. refl), ((λ _. refl), tt))

pub returns-clause-second : goal.returns-clause-second
unfolding lib.Utf8.encode
returns-clause-second c = λ all. let e : false ≡ true = all.1.0 refl in absurd cc
