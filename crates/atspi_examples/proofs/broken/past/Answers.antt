use Rattle.std.proofs.Common.{arith}
use Rattle.atspi_examples.proofs.broken.past.Goals as goal

pub returns : goal.returns
returns c = record {
  last = λ h. omega (arith, h);
  past = omega arith;
  registry = omega arith;
  registry_not = λ h. omega (arith, h);
  application = omega arith;
  application_not = λ h. omega (arith, h);
  reader = λ h x. x;
}
