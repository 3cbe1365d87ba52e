use Rattle.std.proofs.Common.{◌≡◌, true, false, refl}
use Rattle.atspi_protocol.proofs.registry_laws.examples.news_of_children.Goals as goal

pub returns-clause-asked : goal.returns-clause-asked
unfolding lib.Utf8.encode
returns-clause-asked c = ((λ _. refl), tt)

pub returns-clause-not_asked : goal.returns-clause-not_asked
unfolding lib.Utf8.encode
returns-clause-not_asked c = λ asked. let e : false ≡ true = asked.0 refl in absurd cc
