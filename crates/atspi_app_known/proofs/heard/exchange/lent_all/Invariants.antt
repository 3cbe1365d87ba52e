use Rattle.std.proofs.Common.{◌≡◌, ◌++◌, take, map, filter, not}
use Rattle.atspi_protocol.specs.exporting.Exporter.{hears, deaf}
use Rattle.atspi_protocol.specs.exporting.Hearing.{is_heard, firsts}
use Rattle.atspi_app_known.specs.happenings.View.{happened}
use Rattle.atspi_app_known.specs.hearing.Lent.{lent_pairs}
use Rattle.atspi_app_known.proofs.heard.exchange.lent_all.Given as goal

abbrev pub invariant-loop-pair : goal.invariant-loop-pair
invariant-loop-pair l = lent_pairs l.all.items ≡ take l.pair-index l.pairs
