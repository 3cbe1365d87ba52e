use Rattle.std.proofs.Common.{refl, arith}
use Rattle.std.proofs.lemmas.Grind.{common_steps}
use Rattle.atspi_examples.specs.Room.{button}
use Rattle.atspi_examples.proofs.lawful.changes.Goals as goal

pub returns-clause-name : goal.returns-clause-name
returns-clause-name c = λ x e. record {
  row = button;
  there = refl;
  allowed = grind (arith, common_steps);
  lawful = grind (arith, common_steps);
  targets = tt;
}

pub returns-clause-state : goal.returns-clause-state
returns-clause-state c = record {
  row = button;
  there = refl;
  allowed = grind (arith, common_steps);
  lawful = grind (arith, common_steps);
  targets = tt;
}

pub returns-clause-first_kind : goal.returns-clause-first_kind
returns-clause-first_kind c = record {
  row = button;
  there = refl;
  allowed = grind (arith, common_steps);
  lawful = grind (arith, common_steps);
  targets = (refl, tt);
}

pub returns-clause-last_kind : goal.returns-clause-last_kind
returns-clause-last_kind c = record {
  row = button;
  there = refl;
  allowed = grind (arith, common_steps);
  lawful = grind (arith, common_steps);
  targets = (refl, tt);
}
