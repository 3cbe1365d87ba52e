use Rattle.std.proofs.Common.{refl}
use lib.Utf8.{encode}
use Rattle.atspi_audit_examples.proofs.fitting.what_is_due.Goals as goal

pub returns-clause-first : goal.returns-clause-first
unfolding encode
returns-clause-first c = refl

pub returns-clause-second : goal.returns-clause-second
unfolding encode
returns-clause-second c = refl

pub returns-clause-third : goal.returns-clause-third
unfolding encode
returns-clause-third c = refl

pub returns-clause-fourth : goal.returns-clause-fourth
unfolding encode
returns-clause-fourth c = refl

pub returns-clause-nothing : goal.returns-clause-nothing
unfolding encode
returns-clause-nothing c = refl
