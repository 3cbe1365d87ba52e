use Rattle.atspi_app_tests.proofs.wide.refuses_all.Given as goal

abbrev pub invariant-loop-code : goal.invariant-loop-code
invariant-loop-code g l = g.A.Application.is_app l.app
