use Rattle.std.proofs.Common.{arith}
use Rattle.std.proofs.lemmas.Map.Text.{text_keys}
use Rattle.atspi_cache_arena.proofs.paths.put_root.Goals as goal

pub returns-clause-index : goal.returns-clause-index
returns-clause-index c = grind (arith, text_keys)
