use Rattle.atspi_marshal_in_place.proofs.OfCodes.ParseAnswers.{found, within, only, first}
use Rattle.atspi_marshal_in_place.proofs.codes.types.TysRef.parse.Goals as goal

pub returns-clause-found : goal.returns-clause-found
returns-clause-found c = found c.args.bytes.now c.read.result c.read.ensures

pub returns-clause-within : goal.returns-clause-within
returns-clause-within c = within c.args.bytes.now c.read.result c.read.ensures

pub returns-clause-only : goal.returns-clause-only
returns-clause-only c = only c.args.bytes.now c.read.result c.read.ensures

pub returns-clause-first : goal.returns-clause-first
returns-clause-first c = first c.args.bytes.now c.read.result c.read.ensures
