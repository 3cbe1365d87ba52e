use Rattle.std.proofs.Common.{sym, subst}
use Rattle.atspi_base.specs.Text.{HasNoZero}
use Rattle.atspi_cache.proofs.NameLemmas.{bus_name_positive}
use Rattle.atspi_cache.proofs.cache.held_of.Goals as goal

pub of-requires-clause-no_zero : goal.of-requires-clause-no_zero
of-requires-clause-no_zero c = subst HasNoZero (sym c.as_str.ensures.bytes) (bus_name_positive c.args.name.now c.as_str.ensures.rule)
