use Rattle.atspi_protocol.proofs.OfEnds.Words.{chars_word}
use Rattle.atspi_protocol.specs.declared.ends.error.CallError.TheVariants as errors
use Rattle.atspi_protocol.proofs.ends.error.CallError.word.Goals as goal

pub returns-in-UnknownObject-clause-characters : goal.returns-in-UnknownObject-clause-characters
returns-in-UnknownObject-clause-characters c = rw c.in-UnknownObject.is (chars_word errors.UnknownObject)

pub returns-in-UnknownInterface-clause-characters : goal.returns-in-UnknownInterface-clause-characters
returns-in-UnknownInterface-clause-characters c = rw c.in-UnknownInterface.is (chars_word errors.UnknownInterface)

pub returns-in-UnknownMethod-clause-characters : goal.returns-in-UnknownMethod-clause-characters
returns-in-UnknownMethod-clause-characters c = rw c.in-UnknownMethod.is (chars_word errors.UnknownMethod)

pub returns-in-InvalidArgs-clause-characters : goal.returns-in-InvalidArgs-clause-characters
returns-in-InvalidArgs-clause-characters c = rw c.in-InvalidArgs.is (chars_word errors.InvalidArgs)

pub returns-in-UnknownProperty-clause-characters : goal.returns-in-UnknownProperty-clause-characters
returns-in-UnknownProperty-clause-characters c = rw c.in-UnknownProperty.is (chars_word errors.UnknownProperty)

pub returns-in-PropertyReadOnly-clause-characters : goal.returns-in-PropertyReadOnly-clause-characters
returns-in-PropertyReadOnly-clause-characters c = rw c.in-PropertyReadOnly.is (chars_word errors.PropertyReadOnly)
