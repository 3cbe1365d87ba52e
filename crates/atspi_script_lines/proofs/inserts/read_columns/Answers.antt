use Rattle.atspi_script_lines.proofs.inserts.read_columns.Goals as goal

pub returns-in_default : goal.returns-in_default
returns-in_default c = λ t s. c.in_default.ensures t.0 (t.1, t.2) s.1

pub returns-in-None : goal.returns-in-None
returns-in-None c = λ t s. (rw c.in-None.is at c.in_ok-select.ensures) (t.1, t.2) (s.0, (c.in-Some.ensures.complete t.0 (t.1, t.2) s.1).1)
