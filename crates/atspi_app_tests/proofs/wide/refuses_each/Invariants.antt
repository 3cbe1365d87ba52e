use Rattle.atspi_app_tests.proofs.wide.refuses_each.Given as goal

abbrev pub invariant-loop-line : goal.invariant-loop-line
invariant-loop-line g l = g.A.Application.is_app l.app
