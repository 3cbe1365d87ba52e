use Rattle.std.proofs.Common.{◌≡◌, [], refl, inl, inr}
use Rattle.std.proofs.lemmas.Bool.{false≢true}
use Rattle.atspi_match.specs.routing.Queues.{Bus}
use Rattle.atspi_audit_due.specs.Fits.{EndsIn}
use Rattle.atspi_audit_examples.specs.Cases.{one_exit, stuck}
use Rattle.atspi_audit_examples.proofs.ending.at_a_refused_line.Goals as goal

some_left : one_exit ≡ [] → ⊥
some_left e = cc

no_end : (b : Bus) → EndsIn (stuck b) → ⊥
no_end b (inl k) = some_left k.no_line_left
no_end b (inr e) = false≢true e

pub returns-clause-nothing : goal.returns-clause-nothing
returns-clause-nothing c = λ b. refl

pub returns-clause-refused : goal.returns-clause-refused
returns-clause-refused c = λ b. refl

pub returns-clause-not_yet : goal.returns-clause-not_yet
returns-clause-not_yet c = λ b. refl

pub returns-clause-no_end : goal.returns-clause-no_end
returns-clause-no_end c = no_end
