use Rattle.std.proofs.Common.{sym}
use Rattle.atspi_marshal_in_place.proofs.OfCodes.ParseAnswers.{spelled_read}
use Rattle.atspi_marshal_in_place.proofs.codes.types.TysRef.known.Goals as goal

pub returns : goal.returns
returns c = sym (spelled_read c.args.bytes.now c.requires)
