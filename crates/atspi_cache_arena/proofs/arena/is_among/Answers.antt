use Rattle.std.proofs.Common.{◌∙◌}
use Rattle.atspi_cache_arena.proofs.Outside.{among_any}
use Rattle.atspi_cache_arena.proofs.arena.is_among.Goals as goal

pub returns : goal.returns
returns c = c.contains.ensures.value ∙ among_any c.args.key c.args.keys.now
