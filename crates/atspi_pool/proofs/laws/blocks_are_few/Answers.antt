use Rattle.atspi_pool.proofs.PoolLemmas as lemmas
use Rattle.atspi_pool.proofs.laws.blocks_are_few.Goals as goal

pub returns : goal.returns
returns c = lemmas.few
