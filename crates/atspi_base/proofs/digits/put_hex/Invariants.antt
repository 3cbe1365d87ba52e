use Rattle.std.proofs.Common.{◌≡◌, ◌++◌, drop, length}
use Rattle.atspi_base.specs.Digits.{hex_digits}
use Rattle.atspi_base.proofs.digits.put_hex.Given as goal

abbrev pub invariant-loop-i : goal.invariant-loop-i
invariant-loop-i l =
    record {
      so_far : hex_digits 16 l.fn.n ≡ hex_digits l.i l.rest ++ drop l.i l.digits;
      size : length l.digits ≡ 16;
    }
