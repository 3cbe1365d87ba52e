use Rattle.std.proofs.Common.{◌≡◌, drop, []}
use Rattle.atspi_types.specs.inner.OpenView.{context_of}
use Rattle.atspi_types.specs.SignatureFaults.{BeginsSignature, at_top}
use Rattle.atspi_types.specs.SignatureReading.{walk}
use Rattle.atspi_types.proofs.parser.walk.Given as goal

-- what is left to walk over leads to where all of the bytes do
abbrev pub invariant-loop-i : goal.invariant-loop-i
invariant-loop-i l = BeginsSignature (context_of l.open) × (walk (context_of l.open) l.i (drop l.i l.bytes) ≡ walk (at_top []) 0 l.bytes)
