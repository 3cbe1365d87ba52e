use Rattle.std.proofs.Common.{refl}
use Rattle.std.specs.Prelude.{codes}
use Rattle.atspi_base.specs.valid_names.Elements.{are_two_or_more, are_elements, parts_of}
use Rattle.atspi_base.specs.valid_names.Names.{is_bus_name}
use Rattle.atspi_protocol.specs.declared.following.question.Question.TheVariants.{GetItems, Hello}
use Rattle.atspi_trace.specs.World.{returned}
use Rattle.atspi_audit_examples.specs.Cases.{idle, reader, registering}
use Rattle.atspi_audit_examples.proofs.readers.may_stand.Goals as goal

pub returns-clause-first : goal.returns-clause-first
returns-clause-first c = λ b. record {
  conn = 0;
  asker = reader 0 idle;
  hearer = idle;
  question = Hello;
  nothing_owed = refl;
  free = refl;
  there = refl;
  whose = refl;
  standing = refl;
  role = refl;
  answered = refl;
  allowed = refl;
  spelled = refl;
  read = refl;
}

pub returns-clause-items : goal.returns-clause-items
unfolding is_bus_name are_two_or_more are_elements parts_of
returns-clause-items c = λ b. record {
  conn = 0;
  asker = reader 0 (registering returned);
  hearer = registering returned;
  question = GetItems (codes ":1.1");
  nothing_owed = refl;
  free = refl;
  there = refl;
  whose = refl;
  standing = refl;
  role = refl;
  answered = refl;
  allowed = refl;
  spelled = refl;
  read = refl;
}
