use Rattle.std.proofs.Common.{◌≡◌, [], ◌∷◌, refl}
use Rattle.atspi_script_lines.specs.declared.line.Line.TheVariants.{Exit}
use Rattle.atspi_trace.specs.Entry.{quiet}
use Rattle.atspi_trace_examples.proofs.trace.settling.through.Goals as goal

pub returns-clause-done : goal.returns-clause-done
returns-clause-done c = λ b. record { nothing_owed = refl; no_line_left = refl; all_rest = ((tt, tt), tt) }

pub returns-clause-owed : goal.returns-clause-owed
returns-clause-owed c = λ b t. let owed : quiet ∷ [] ≡ [] = t.nothing_owed in absurd cc

pub returns-clause-left : goal.returns-clause-left
returns-clause-left c = λ b t. let left : Exit 7 ∷ [] ≡ [] = t.no_line_left in absurd cc

-- the reader, the third of the ends, would hold the application, the second
pub returns-clause-unsettled : goal.returns-clause-unsettled
returns-clause-unsettled c = λ b t. t.all_rest.0.1.1.0.1.0
