-- Worlds that so many ends joined.
use Rattle.std.specs.Prelude.{ℕ, List, [], ◌∷◌, replicate}
use Rattle.atspi_script_lines.specs.declared.limits.TheConstants.{QUOTA_MOST}
use Rattle.atspi_script_lines.specs.declared.line.Party.TheVariants.{App, Reader}
use Rattle.atspi_protocol.specs.exporting.Exporter.{begins}
use Rattle.atspi_trace.specs.World.{End, World, an_application, a_reader, newcomer, first_registry, first_world}
use Rattle.atspi_trace.specs.Causes.{first_hearer}

abbrev pub joined : List End → World
joined ends = record (first_world QUOTA_MOST) { ends = first_registry ∷ ends }

abbrev pub apps_joined : ℕ → World
apps_joined count = joined (replicate count (newcomer (App 0) (an_application (begins []))))

abbrev pub readers_joined : ℕ → World
readers_joined count = joined (replicate count (newcomer (Reader 0) (a_reader first_hearer)))

-- one application, and so many swaps
abbrev pub swapped : ℕ → World
swapped count = record (apps_joined 1) { swaps = count }
