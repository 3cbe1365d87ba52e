use Rattle.atspi_marshal_in_place.proofs.OfCodes.Spelled.{one_is}
use Rattle.atspi_marshal_in_place.proofs.codes.types.TyRef.codes.Goals as goal

pub returns-clause-spelled : goal.returns-clause-spelled
returns-clause-spelled c = (one_is c.args.self.codes.now c.args.self.one).bytes

pub returns-clause-within : goal.returns-clause-within
returns-clause-within c = (one_is c.args.self.codes.now c.args.self.one).within
