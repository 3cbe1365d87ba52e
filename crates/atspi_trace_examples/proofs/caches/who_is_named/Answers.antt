use Rattle.std.proofs.Common.{refl}
use lib.Utf8.{encode}
use Rattle.atspi_trace_examples.proofs.caches.who_is_named.Goals as goal

pub returns-clause-before : goal.returns-clause-before
unfolding encode
returns-clause-before c = refl

pub returns-clause-by_the_return : goal.returns-clause-by_the_return
unfolding encode
returns-clause-by_the_return c = refl

pub returns-clause-by_the_registry : goal.returns-clause-by_the_registry
unfolding encode
returns-clause-by_the_registry c = refl

pub returns-clause-by_another : goal.returns-clause-by_another
unfolding encode
returns-clause-by_another c = refl
