use Rattle.atspi_types.specs.Kinds.{kinds_of}
use Rattle.atspi_types.specs.KindView.{kinds_in}
use Rattle.atspi_types.proofs.SignatureLaws.{is_signature-from_IsSignature, signature_in-read}
use Rattle.atspi_types.proofs.signature.Signature.read.Goals as goal

pub invariant_of-result : goal.invariant_of-result
invariant_of-result c = record {
  within = is_signature-from_IsSignature (kinds_of (kinds_in c.in_ok-types.types)) (signature_in-read c.args.bytes.now (kinds_in c.in_ok-types.types) c.in_ok-types.ensures).is;
}
