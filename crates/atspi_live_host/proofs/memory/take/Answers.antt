use Rattle.atspi_live_host.proofs.memory.take.Goals as goal

pub returns-in-Some-clause-cause : goal.returns-in-Some-clause-cause
returns-in-Some-clause-cause c = c.send.ensures.no_fault c.args.link_faults.now
