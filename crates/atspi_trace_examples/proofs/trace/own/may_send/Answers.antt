use Rattle.std.proofs.Common.{refl, [], ◌∷◌}
use Rattle.atspi_protocol.specs.declared.following.question.Question.TheVariants.{GetChildren, Hello}
use Rattle.atspi_trace.specs.World.{returned, failed}
use Rattle.atspi_trace_examples.specs.trace.Small.{asked, call, idle, reader}
use Rattle.atspi_trace_examples.proofs.trace.own.may_send.Goals as goal

pub returns-clause-first : goal.returns-clause-first
returns-clause-first c = λ b. record {
  conn = 0;
  asker = reader 0 idle;
  hearer = idle;
  question = Hello;
  nothing_owed = refl;
  free = refl;
  there = refl;
  whose = refl;
  standing = refl;
  reader = refl;
  answered = refl;
  allowed = refl;
  spelled = refl;
  read = refl;
}

pub returns-clause-another : goal.returns-clause-another
returns-clause-another c = λ b. record {
  conn = 0;
  asker = reader 0 (asked (call 4 Hello returned ∷ []));
  hearer = asked (call 4 Hello returned ∷ []);
  question = GetChildren;
  nothing_owed = refl;
  free = refl;
  there = refl;
  whose = refl;
  standing = refl;
  reader = refl;
  answered = refl;
  allowed = refl;
  spelled = refl;
  read = refl;
}

pub returns-clause-refused : goal.returns-clause-refused
returns-clause-refused c = λ b. record {
  conn = 0;
  asker = reader 0 (asked (call 4 Hello failed ∷ []));
  hearer = asked (call 4 Hello failed ∷ []);
  question = GetChildren;
  nothing_owed = refl;
  free = refl;
  there = refl;
  whose = refl;
  standing = refl;
  reader = refl;
  answered = refl;
  allowed = refl;
  spelled = refl;
  read = refl;
}

pub returns-clause-entry : goal.returns-clause-entry
returns-clause-entry c = λ b. record {
  conn = 0;
  asker = reader 3 idle;
  hearer = idle;
  question = Hello;
  nothing_owed = refl;
  free = refl;
  there = refl;
  whose = refl;
  standing = refl;
  reader = refl;
  answered = refl;
  allowed = refl;
  spelled = refl;
  read = refl;
}
