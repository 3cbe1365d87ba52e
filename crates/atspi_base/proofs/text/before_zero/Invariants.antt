use Rattle.std.proofs.Common.{◌≡◌, ◌+◌, drop}
use Rattle.atspi_base.specs.Text.{bytes_before_zero}
use Rattle.atspi_base.proofs.text.before_zero.Given as goal

abbrev pub invariant-loop-i : goal.invariant-loop-i
invariant-loop-i l = bytes_before_zero l.bytes ≡ l.i + bytes_before_zero (drop l.i l.bytes)
