use Rattle.std.proofs.Common.{◌≡◌, None}
use Rattle.atspi_types.specs.inner.OpenView.{context_of}
use Rattle.atspi_types.specs.SignatureFaults.{token_of}
use Rattle.atspi_types.specs.SignatureReading.{refusal}
use Rattle.atspi_types.proofs.SignatureFronts.{goes_on}
use Rattle.atspi_types.proofs.parser.step.Goals as goal

pub returns-clause-begins : goal.returns-clause-begins
returns-clause-begins c =
    let none : refusal (context_of c.args.before) (token_of c.args.byte) ≡ None = cc in
    let after = goes_on (context_of c.args.before) c.args.byte c.requires none in
    rw (c.in_ok-with_token.ensures, c.read_token-token.ensures) after.begins
