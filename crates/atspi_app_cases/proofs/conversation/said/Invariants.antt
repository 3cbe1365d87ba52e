use Rattle.atspi_app_cases.proofs.conversation.said.Given as goal

abbrev pub invariant-loop-event : goal.invariant-loop-event
invariant-loop-event g l = g.A.Application.is_app l.app
