use Rattle.atspi_browse.proofs.reading.last_grain.Goals as goal

pub returns-in_default : goal.returns-in_default
returns-in_default c = λ grain s. c.in_default.ensures grain s.0 s.1
