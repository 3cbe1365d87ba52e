use Rattle.std.proofs.Common.{refl, inl, inr, arith}
use Rattle.atspi_live_app.proofs.rounds.do_due.Goals as goal

pub returns-then-takes-gt0-clause-ok : goal.returns-then-takes-gt0-clause-ok
returns-then-takes-gt0-clause-ok g c = λ text marks place took said f. (marks, inl (omega arith, refl, f.0, refl), (refl, f.1))

pub returns-in-Ok-clause-ok : goal.returns-in-Ok-clause-ok
returns-in-Ok-clause-ok g c = λ text marks place took said f.
    let h = c.in-Ok.ensures.ok text marks place took said f in
    (h.0, inr (omega arith, h.1), h.2)
