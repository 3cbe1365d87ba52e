use Rattle.atspi_marshal_in_place.proofs.OfCodes.ParseAnswers.{one_read}
use Rattle.atspi_marshal_in_place.proofs.codes.types.TyRef.known.Goals as goal

pub returns : goal.returns
returns c = one_read c.args.bytes.now c.requires
