use Rattle.atspi_run_live.proofs.Completing.{reader_well, registry_well}
use Rattle.atspi_run_live.proofs.serving.serve.Goals as goal

pub returns-in-Registry-clause-complete : goal.returns-in-Registry-clause-complete
returns-in-Registry-clause-complete g c = λ no_bus no_app written none no_link part.
    registry_well _ _ _ _ _ _ _ _ _ _ _ _ _
    (record { speech = c.registry.ensures.speech; ends = c.registry.ensures.ends; causes = c.registry.ensures.causes })
    written none no_link part

pub returns-clause-complete : goal.returns-clause-complete
returns-clause-complete g c = λ no_bus no_app written none no_link part.
    reader_well _ _ _ _ _ _ _ _ _ _ _ _ _
    (record {
      speech = c.read.ensures.speech;
      ends = c.read.ensures.ends;
      silent = c.read.ensures.silent;
      causes = c.read.ensures.causes;
    })
    written none no_link part
