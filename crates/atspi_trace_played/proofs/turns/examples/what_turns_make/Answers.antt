use Rattle.std.proofs.Common.{[], ◌∷◌, inl, refl}
use Rattle.atspi_script_lines.specs.declared.line.Party.TheVariants.{Bus, Registry}
use Rattle.atspi_trace.specs.Entry.{got}
use Rattle.atspi_trace.specs.Causes.{gets, does}
use Rattle.atspi_trace_played.specs.TurnCases.{one_waits}
use Rattle.atspi_trace_played.proofs.turns.examples.what_turns_make.Goals as goal

pub returns-clause-one : goal.returns-clause-one
returns-clause-one c = ((does one_waits (gets 0)).world, got Registry Bus 8 ∷ [], [], record { moves = gets 0; own = []; next = refl; asks = inl (refl, refl); wrote = refl }, refl, refl)
