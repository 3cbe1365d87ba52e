use Rattle.atspi_run.proofs.WordLemmas.{no_task}
use Rattle.atspi_run.proofs.words.asked_task.Goals as goal

pub returns-in-Some : goal.returns-in-Some
returns-in-Some c = c.in-Some.ensures

pub returns-in-Some-asked_script : goal.returns-in-Some-asked_script
returns-in-Some-asked_script c = c.in-Some-asked_script.ensures

pub returns-in-None-asked_script : goal.returns-in-None-asked_script
returns-in-None-asked_script c = no_task _ c.in-None.ensures c.in-None-asked_script.ensures
