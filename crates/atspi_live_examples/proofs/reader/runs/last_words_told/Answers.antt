use Rattle.atspi_live_examples.proofs.reader.runs.last_words_told.Goals as goal

pub returns-clause-peer : goal.returns-clause-peer
returns-clause-peer c cs all = all

pub returns-clause-not_peer : goal.returns-clause-not_peer
returns-clause-not_peer c cs never last = never last

pub returns-clause-malformed : goal.returns-clause-malformed
returns-clause-malformed c cs fault all = all

pub returns-clause-not_malformed : goal.returns-clause-not_malformed
returns-clause-not_malformed c cs fault never last = never last

pub returns-clause-spent : goal.returns-clause-spent
returns-clause-spent c cs all = all

pub returns-clause-not_spent : goal.returns-clause-not_spent
returns-clause-not_spent c cs never last = never last

pub returns-clause-failed : goal.returns-clause-failed
returns-clause-failed c cs all = all

pub returns-clause-all_done : goal.returns-clause-all_done
returns-clause-all_done c cs all = all

pub returns-clause-not_all_done : goal.returns-clause-not_all_done
returns-clause-not_all_done c cs never last = never last

pub returns-clause-wanting : goal.returns-clause-wanting
returns-clause-wanting c cs = tt
