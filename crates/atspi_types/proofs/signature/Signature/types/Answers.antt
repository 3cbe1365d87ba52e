use Rattle.atspi_types.specs.SignatureView.{signature_kinds}
use Rattle.atspi_types.proofs.SignatureLaws.{IsSignature-from_test}
use Rattle.atspi_types.proofs.signature.Signature.types.Goals as goal

pub returns-clause-within : goal.returns-clause-within
returns-clause-within c = IsSignature-from_test (signature_kinds c.args.self.now) c.args.self.now.within
