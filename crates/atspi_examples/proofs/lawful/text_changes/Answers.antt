use Rattle.std.proofs.Common.{refl, arith}
use Rattle.std.proofs.lemmas.Grind.{common_steps}
use Rattle.atspi_examples.specs.Room.{entry}
use Rattle.atspi_examples.proofs.lawful.text_changes.Goals as goal

pub returns-clause-insert : goal.returns-clause-insert
returns-clause-insert c = record {
  row = entry;
  there = refl;
  allowed = grind (arith, common_steps);
  lawful = grind (arith, common_steps);
  targets = tt;
}

pub returns-clause-delete : goal.returns-clause-delete
returns-clause-delete c = record {
  row = entry;
  there = refl;
  allowed = grind (arith, common_steps);
  lawful = grind (arith, common_steps);
  targets = tt;
}

pub returns-clause-caret : goal.returns-clause-caret
returns-clause-caret c = record {
  row = entry;
  there = refl;
  allowed = grind (arith, common_steps);
  lawful = grind (arith, common_steps);
  targets = tt;
}

pub returns-clause-select : goal.returns-clause-select
returns-clause-select c = record {
  row = entry;
  there = refl;
  allowed = grind (arith, common_steps);
  lawful = grind (arith, common_steps);
  targets = tt;
}
