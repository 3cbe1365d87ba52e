use Rattle.std.proofs.Common.{refl}
use Rattle.std.specs.Prelude.{Bool, true, false}
use lib.Utf8.{encode}
use Rattle.atspi_tree_model.specs.declared.step.Step.TheVariants.{Add}
use Rattle.atspi_trace.specs.Entry.{Entry, changed, sent}
use Rattle.atspi_audit_due.specs.Fits.{scene_behind}
use Rattle.atspi_audit_examples.specs.Cases.{added, alone, alone_trace, focused, front, hello_of}
use Rattle.atspi_audit_examples.proofs.Fronts.{none_due, not_due}
use Rattle.atspi_audit_examples.proofs.fitting.what_does_not_fit.Goals as goal

abbrev is_added : Entry → Bool
is_added (changed app (Add n p i seed)) = true
is_added entry = false

abbrev is_sent : Entry → Bool
is_sent (sent who e) = true
is_sent entry = false

pub returns-clause-left_out : goal.returns-clause-left_out
unfolding encode
returns-clause-left_out c = not_due is_added (scene_behind alone (front 2)) added focused refl refl refl (λ k. k)

pub returns-clause-twice : goal.returns-clause-twice
unfolding encode
returns-clause-twice c = none_due (scene_behind alone alone_trace) focused refl (λ k. k)

pub returns-clause-exchanged : goal.returns-clause-exchanged
unfolding encode
returns-clause-exchanged c = not_due is_sent (scene_behind alone (front 1)) hello_of added refl refl refl (λ k. k)
