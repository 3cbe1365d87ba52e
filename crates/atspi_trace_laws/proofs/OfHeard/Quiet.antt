-- Entries that tell nothing of any application's pairs, steps and signals.
use Rattle.std.proofs.Common.{ℕ, List, [], ◌∷◌, map, Option, None, Some}
use Rattle.std.specs.List.{AllByRecursion}
use Rattle.atspi_script_lines.specs.declared.line.Party.{Party}
use Rattle.atspi_script_lines.specs.declared.line.Party.TheVariants.{Bus as The_bus, Registry, App, Reader}
use Rattle.atspi_message.specs.Envelope.{Envelope}
use Rattle.atspi_match.specs.declared.routing.closing.Closing.{Closing}
use Rattle.atspi_trace.specs.Entry.{Entry, changed, sent, heard, unheard, spoke, gone, dropped}
use Rattle.atspi_trace.specs.World.{Hearer, Letter, End}
use Rattle.atspi_trace.specs.Ends.{party_at}
use Rattle.atspi_trace.specs.Hearing.{holding_of, app_ended, lines_if_held, last_lines, ended_entries, heard_entries}
use Rattle.atspi_trace.specs.Carrying.{bus_entries}
use Rattle.atspi_trace_laws.proofs.OfOrder.BusWords.{all_any, bus_all}

abbrev pub IsQuiet : Entry → Type 0
IsQuiet (changed app step) = ⊥
IsQuiet (sent (App app) e) = ⊥
IsQuiet (heard app listener pattern) = ⊥
IsQuiet (unheard app listener pattern) = ⊥
IsQuiet entry = Unit {0}

pub bus_quiet : (ends : List End) (own : List Envelope) (closings : List Closing) → AllByRecursion IsQuiet (bus_entries ends own closings)
bus_quiet ends own closings =
    bus_all IsQuiet (λ e. tt) ends own closings (all_any (λ (x : Closing). (queued len : ℕ) → IsQuiet (dropped (party_at ends x.conn) queued len)) (λ x queued len. tt) closings)

pub registry_quiet : (es : List Envelope) → AllByRecursion IsQuiet (map (sent Registry) es)
registry_quiet [] = tt
registry_quiet (e ∷ es) = (tt, registry_quiet es)

-- what a reader speaks and tells of ends, by any test that lets it pass
module _ (P : Entry → Type 0) (speaking : (r app : ℕ) (line : List ℕ) → P (spoke r app line)) (ending : (r app : ℕ) → P (gone r app)) where
  spoken_all : (r app : ℕ) (lines : List (List ℕ)) → AllByRecursion P (map (spoke r app) lines)
  spoken_all r app [] = tt
  spoken_all r app (line ∷ lines) = (speaking r app line, spoken_all r app lines)

  ended_all : (r : ℕ) (h : Hearer) (o : Option ℕ) → AllByRecursion P (ended_entries r h o)
  ended_all r h None = tt
  ended_all r h (Some app) = (ending r app, spoken_all r app (last_lines (holding_of app h.holds)))

  by_from : (r : ℕ) (h : Hearer) (ends : List End) (letter : Letter) (from : Party) → AllByRecursion P (heard_entries r h ends (record letter { from = from }))
  by_from r h ends letter (App app) = spoken_all r app (lines_if_held (holding_of app h.holds) letter.said)
  by_from r h ends letter The_bus = ended_all r h (app_ended ends (record letter { from = The_bus }))
  by_from r h ends letter Registry = ended_all r h (app_ended ends (record letter { from = Registry }))
  by_from r h ends letter (Reader q) = ended_all r h (app_ended ends (record letter { from = Reader q }))

  pub heard_all : (r : ℕ) (h : Hearer) (ends : List End) (letter : Letter) → AllByRecursion P (heard_entries r h ends letter)
  heard_all r h ends letter = by_from r h ends letter letter.from
