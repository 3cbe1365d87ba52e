use Rattle.atspi_types.proofs.SignatureLaws.{no_fault_of_signature, signature_or_first_fault}
use Rattle.atspi_types.proofs.laws.signature_or_fault.Goals as goal

pub returns-clause-either : goal.returns-clause-either
returns-clause-either c = signature_or_first_fault

pub returns-clause-never_both : goal.returns-clause-never_both
returns-clause-never_both c = no_fault_of_signature
