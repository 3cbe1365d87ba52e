use Rattle.std.proofs.Common.{[], ◌∷◌, refl, inl, inr}
use Rattle.atspi_match.specs.routing.Queues.{Bus}
use Rattle.atspi_script_lines.specs.declared.line.Line.TheVariants.{Drain}
use Rattle.atspi_protocol.specs.declared.following.question.Question.TheVariants.{Hello}
use Rattle.atspi_trace.specs.Due.{IsSettled}
use Rattle.atspi_trace.specs.Entry.{quiet}
use Rattle.atspi_audit_due.specs.Fits.{EndsIn, FitsIn}
use Rattle.atspi_audit_examples.specs.Cases.{idle, reader, unheld, unheld_world}
use Rattle.atspi_audit_examples.proofs.ending.where_nothing_is_held.Goals as goal

-- the reader, the third of the ends, holds nothing of the application, the second
not_settled : (b : Bus) → IsSettled (unheld_world b) → ⊥
not_settled b k = k.1.1.0.1.0

no_event : (b : Bus) → FitsIn (unheld b (Drain ∷ [])) quiet → ⊥
no_event b (inl k) = not_settled b k.truly
no_event b (inr free) = free

no_end : (b : Bus) → EndsIn (unheld b []) → ⊥
no_end b (inl k) = not_settled b k.all_rest.0
no_end b (inr e) = cc

pub returns-clause-next : goal.returns-clause-next
returns-clause-next c = λ b. refl

pub returns-clause-no_event : goal.returns-clause-no_event
returns-clause-no_event c = no_event

pub returns-clause-no_end : goal.returns-clause-no_end
returns-clause-no_end c = no_end

pub returns-clause-own_call : goal.returns-clause-own_call
returns-clause-own_call c = λ b. inr (record {
  conn = 2;
  asker = reader 0 idle;
  hearer = idle;
  question = Hello;
  nothing_owed = refl;
  free = refl;
  there = refl;
  whose = refl;
  standing = refl;
  role = refl;
  answered = refl;
  allowed = refl;
  spelled = refl;
  read = refl;
})
