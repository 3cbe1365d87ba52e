use Rattle.atspi_trace_texts.proofs.steps.put_step.Goals as goal

pub returns-in-SetDescription-clause-ok : goal.returns-in-SetDescription-clause-ok
returns-in-SetDescription-clause-ok c = rw c.in-SetDescription.is c.put_node_text-in-SetDescription.ensures.ok
