use Rattle.std.proofs.Common.{refl, arith}
use Rattle.atspi_message_tests.proofs.passing.return_of.Goals as goal

pub returns : goal.returns
returns c = record {
  typed = omega arith;
  required = record {
    call = λ e. absurd (omega arith);
    return_ = λ e. refl;
    error = λ e. absurd (omega arith);
    signal = λ e. absurd (omega arith);
  };
  numbered = omega arith;
  replies = omega arith;
  body = c.requires;
}
