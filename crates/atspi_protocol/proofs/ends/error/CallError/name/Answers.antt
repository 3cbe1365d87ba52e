use Rattle.atspi_protocol.specs.declared.ends.error.CallError.TheVariants as errors
use Rattle.atspi_protocol.proofs.OfEnds.Words.{is_name}
use Rattle.atspi_protocol.proofs.ends.error.CallError.name.Goals as goal

pub returns-in-UnknownObject-clause-rule : goal.returns-in-UnknownObject-clause-rule
returns-in-UnknownObject-clause-rule c = is_name errors.UnknownObject

pub returns-in-UnknownInterface-clause-rule : goal.returns-in-UnknownInterface-clause-rule
returns-in-UnknownInterface-clause-rule c = is_name errors.UnknownInterface

pub returns-in-UnknownMethod-clause-rule : goal.returns-in-UnknownMethod-clause-rule
returns-in-UnknownMethod-clause-rule c = is_name errors.UnknownMethod

pub returns-in-InvalidArgs-clause-rule : goal.returns-in-InvalidArgs-clause-rule
returns-in-InvalidArgs-clause-rule c = is_name errors.InvalidArgs

pub returns-in-UnknownProperty-clause-rule : goal.returns-in-UnknownProperty-clause-rule
returns-in-UnknownProperty-clause-rule c = is_name errors.UnknownProperty

pub returns-in-PropertyReadOnly-clause-rule : goal.returns-in-PropertyReadOnly-clause-rule
returns-in-PropertyReadOnly-clause-rule c = is_name errors.PropertyReadOnly
