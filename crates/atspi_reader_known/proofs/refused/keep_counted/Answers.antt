use Rattle.std.proofs.Common.{rules}
use Rattle.std.proofs.lemmas.Fn.{filter_same}
use Rattle.atspi_reader_known.specs.Places.{place_in}
use Rattle.atspi_reader_known.specs.Refusals.{counts}
use Rattle.atspi_reader_known.specs.declared.refused.Entry.{Entry}
use Rattle.atspi_reader_known.proofs.refused.keep_counted.Goals as goal

pub returns : goal.returns
returns c = filter_same _ (λ (e : Entry). counts (place_in c.args.since.now e.path) e.number) _ (λ x b f' r. search rules) _ _ c.retain.ensures.filtered
