use Rattle.atspi_marshal_in_place.proofs.OfCodes.Spelled.{all_is}
use Rattle.atspi_marshal_in_place.proofs.codes.types.TysRef.codes.Goals as goal

pub returns-clause-spelled : goal.returns-clause-spelled
returns-clause-spelled c = (all_is c.args.self.codes.now c.args.self.all).bytes

pub returns-clause-within : goal.returns-clause-within
returns-clause-within c = (all_is c.args.self.codes.now c.args.self.all).within
