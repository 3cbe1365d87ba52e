use Rattle.atspi_types.proofs.SignatureLaws.{lawful_from, lawful_to}
use Rattle.atspi_types.proofs.TypedTests.{same_from, same_to, typed_from, typed_to, all_typed_from, all_typed_to}
use Rattle.atspi_types.proofs.laws.tests_decide.Goals as goal

pub returns : goal.returns
returns c = record {
  lawful = λ k. (lawful_from k, lawful_to k);
  same = λ k l. (same_from k l, same_to k l);
  typed = λ d. (typed_from d, typed_to d);
  all_typed = λ ds. (all_typed_from ds, all_typed_to ds);
}
