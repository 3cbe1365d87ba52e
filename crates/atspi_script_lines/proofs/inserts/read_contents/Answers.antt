use Rattle.atspi_script_lines.proofs.inserts.read_contents.Goals as goal

pub returns-in_default : goal.returns-in_default
returns-in_default c = λ t s. (rw c.in_default.is at c.in_ok-text.ensures) t.text (t.columns, t.select, t.actions) s.spelled

pub returns-in-None : goal.returns-in-None
returns-in-None c = λ t s.
    let clause = rw c.in-Some.is at c.in_ok-text.ensures in
    (rw c.in-None.is at c.in_ok-columns.ensures) (t.columns, t.select, t.actions) (s.few, (clause.complete t.text (t.columns, t.select, t.actions) s.spelled).1)
