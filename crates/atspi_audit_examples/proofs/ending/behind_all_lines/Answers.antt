use Rattle.std.proofs.Common.{refl, inl}
use Rattle.atspi_audit_examples.proofs.ending.behind_all_lines.Goals as goal

pub returns-clause-nothing : goal.returns-clause-nothing
returns-clause-nothing c = λ b. refl

pub returns-clause-end : goal.returns-clause-end
returns-clause-end c = λ b. inl (record { no_line_left = refl; all_rest = (((tt, tt)), tt) })
