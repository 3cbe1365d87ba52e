use Rattle.std.proofs.Common.{◌≡◌, drop}
use Rattle.std.specs.Prelude.{bytes_eq}
use Rattle.atspi_protocol.specs.ends.Covering.{compared}
use Rattle.atspi_protocol.proofs.ends.covering.is_same_word.Given as goal

abbrev pub invariant-loop-byte : goal.invariant-loop-byte
invariant-loop-byte l = bytes_eq (compared (drop l.byte-index l.part)) (compared l.rest) ≡ bytes_eq (compared l.part) (compared l.word)
