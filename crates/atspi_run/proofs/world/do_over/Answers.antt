use Rattle.atspi_run.proofs.world.do_over.Goals as goal

pub returns-in-Make-clause-causes : goal.returns-in-Make-clause-causes
returns-in-Make-clause-causes g c = c.make.ensures.causes (g.S.Source.faults c.args.source.now)
