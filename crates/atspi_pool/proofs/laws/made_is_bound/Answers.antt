use Rattle.atspi_pool.proofs.PoolLemmas as lemmas
use Rattle.atspi_pool.proofs.laws.made_is_bound.Goals as goal

pub returns : goal.returns
returns c = lemmas.made_is_bound
