use Rattle.std.proofs.Common.{refl}
use lib.Utf8.{encode}
use Rattle.atspi_audit_examples.proofs.fitting.what_is_refused.Goals as goal

pub returns-clause-root : goal.returns-clause-root
unfolding encode
returns-clause-root c = refl

pub returns-clause-nothing : goal.returns-clause-nothing
unfolding encode
returns-clause-nothing c = refl

pub returns-clause-not_yet : goal.returns-clause-not_yet
unfolding encode
returns-clause-not_yet c = refl
