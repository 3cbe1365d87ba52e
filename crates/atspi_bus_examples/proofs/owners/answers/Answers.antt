use Rattle.std.proofs.Common.{refl, ◌≡◌, true, false}
use Rattle.atspi_bus_examples.proofs.owners.answers.Goals as goal

pub returns-clause-owner : goal.returns-clause-owner
returns-clause-owner c = record { new_owner = refl; already_owner = refl; waits = refl; stays_out = refl }

pub returns-clause-already : goal.returns-clause-already
returns-clause-already c = record { new_owner = refl; already_owner = refl; waits = refl; stays_out = refl }

pub returns-clause-waits : goal.returns-clause-waits
returns-clause-waits c = record { new_owner = refl; already_owner = refl; waits = refl; stays_out = refl }

pub returns-clause-stays_out : goal.returns-clause-stays_out
returns-clause-stays_out c = record { new_owner = refl; already_owner = refl; waits = refl; stays_out = refl }

pub returns-clause-owner_does_not_wait : goal.returns-clause-owner_does_not_wait
returns-clause-owner_does_not_wait c = λ a. let e : true ≡ false = a.waits in absurd cc

pub returns-clause-who_waits_is_no_owner : goal.returns-clause-who_waits_is_no_owner
returns-clause-who_waits_is_no_owner c = λ a. let e : true ≡ false = a.new_owner in absurd cc
