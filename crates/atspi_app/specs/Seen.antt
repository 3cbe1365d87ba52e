-- What an application is seen as: the application of the definitions, whose tree is the whole that is exported.
use Rattle.std.specs.Prelude.{ℤ, []}
use Rattle.atspi_app_exported.specs.Parts.{Parts, whole_of}
use Rattle.atspi_protocol.specs.exporting.Exporter.{Exporter, begins}
use Rattle.atspi_app_known.specs.declared.starting.known.Known.{Known}
use Rattle.atspi_app_known.specs.starting.KnownView.{known_in}

-- the tree and the number that the registry gave
abbrev pub with_tree : Parts → ℤ → Exporter
with_tree p id = record (begins []) { tree = whole_of p; added = p.tree.added; id = id }

-- and beside them what is known
abbrev pub seen : Parts → ℤ → Known → Exporter
seen p id known = known_in known (with_tree p id)
