use Rattle.atspi_app_answers.proofs.CountLemmas as lemmas
use Rattle.atspi_app_answers.proofs.counts.faces_tell_counts.Goals as goal

pub returns : goal.returns
returns c = lemmas.faces_tell_counts
