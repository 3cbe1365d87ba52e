use Rattle.atspi_types.specs.Kinds.{kinds_of}
use Rattle.atspi_types.specs.KindView.{kinds_in}
use Rattle.atspi_types.proofs.SignatureLaws.{is_signature-from_IsSignature}
use Rattle.atspi_types.proofs.signature.Signature.of.Goals as goal

pub invariant_of-result : goal.invariant_of-result
invariant_of-result c = record {
  within = is_signature-from_IsSignature (kinds_of (kinds_in c.args.types)) (record { lawful = c.requires; fits = c.fits_signature.ensures.0 c.if-fits_signature.true });
}
