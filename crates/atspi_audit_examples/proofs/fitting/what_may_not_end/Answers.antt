use Rattle.std.proofs.Common.{◌≡◌, None, Some}
use lib.Utf8.{encode}
use Rattle.atspi_audit_examples.specs.Cases.{focused}
use Rattle.atspi_audit_examples.proofs.fitting.what_may_not_end.Goals as goal

some_is_due : Some focused ≡ None → ⊥
some_is_due e = cc

pub returns : goal.returns
unfolding encode
returns c = λ k. some_is_due k.nothing_due
