use Rattle.atspi_speech.proofs.DueLemmas.{says_due, echoes_silent}
use Rattle.atspi_speech.proofs.laws.what_is_spoken_is_due.Goals as goal

pub returns-clause-steps : goal.returns-clause-steps
returns-clause-steps c bus told f k step t a u = says_due bus told f k step t a u

pub returns-clause-echoes : goal.returns-clause-echoes
returns-clause-echoes c = echoes_silent
