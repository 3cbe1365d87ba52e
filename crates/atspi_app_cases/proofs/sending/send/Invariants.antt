use Rattle.atspi_app_cases.proofs.sending.send.Given as goal

abbrev pub invariant-loop-line : goal.invariant-loop-line
invariant-loop-line g l = g.A.Application.is_app l.app
