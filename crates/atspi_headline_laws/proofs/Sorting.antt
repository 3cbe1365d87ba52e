-- Which entries a line and a turn write: what holds of each sort of entries holds of all of them.
use Rattle.std.proofs.Common.{ℕ, List, [], ◌∷◌, length, map, Option, None, Some, sym, subst}
use Rattle.std.specs.List.{AllByRecursion}
use Rattle.atspi_tree_model.specs.declared.step.Step.{Step}
use Rattle.atspi_script_lines.specs.declared.line.Line.{Line}
use Rattle.atspi_script_lines.specs.declared.line.Party.{Party}
use Rattle.atspi_script_lines.specs.declared.line.Party.TheVariants.{Bus as The_bus, Registry, App, Reader}
use Rattle.atspi_message.specs.Envelope.{Envelope}
use Rattle.atspi_match.specs.declared.routing.closing.Closing.{Closing}
use Rattle.atspi_protocol.specs.declared.following.question.Question.TheVariants.{Hello}
use Rattle.atspi_protocol.specs.following.Calls.{asking}
use Rattle.atspi_protocol.specs.registering.Steps.{registry_takes}
use Rattle.atspi_protocol.specs.exporting.Exporter.{Happening, steps, sends, hears, deaf, begins}
use Rattle.atspi_protocol.specs.exporting.Starting.{starts}
use Rattle.atspi_protocol.specs.exporting.Taking.{app_takes}
use Rattle.atspi_trace_events.specs.declared.shown.ShownRow.{ShownRow}
use Rattle.atspi_trace.specs.Entry.{Entry, started, changed, sent, got, heard, unheard, spoke, showed as shows_rows, exited, gone, dropped, busy, quiet}
use Rattle.atspi_trace.specs.World.{an_application, End, World}
use Rattle.atspi_trace.specs.Ends.{number_of, party_at, app_count, reader_count}
use Rattle.atspi_trace.specs.Carrying as carrying
use Rattle.atspi_trace.specs.Carrying.{bus_entries}
use Rattle.atspi_trace.specs.Causes.{Cause, Done, did, joins}
use Rattle.atspi_trace_laws.proofs.OfOrder.BusWords.{all_any, bus_all}
use Rattle.atspi_trace_laws.proofs.OfOrder.Effects.{received}
use Rattle.atspi_trace_laws.proofs.OfHeard.Quiet.{heard_all}
use Rattle.atspi_headline_laws.proofs.Acting.{LineDid, renewed, app_began, reader_began, edited_app, called_app, swapped, app_stopped, reader_stopped, showed, TurnDid, told_busy, told_quiet, bus_took, bus_ended, registry_took, app_took, reader_took}

-- what an application did
pub did_all : (P : Entry → Type 0) (app : ℕ) → ((step : Step) → P (changed app step)) → ((e : Envelope) → P (sent (App app) e)) → ((listener pattern : List ℕ) → P (heard app listener pattern))
    → ((listener pattern : List ℕ) → P (unheard app listener pattern)) → (hs : List Happening) → AllByRecursion P (map (did app) hs)
did_all P app a b c d [] = tt
did_all P app a b c d (steps step ∷ hs) = (a step, did_all P app a b c d hs)
did_all P app a b c d (sends e ∷ hs) = (b e, did_all P app a b c d hs)
did_all P app a b c d (hears listener pattern ∷ hs) = (c listener pattern, did_all P app a b c d hs)
did_all P app a b c d (deaf listener pattern ∷ hs) = (d listener pattern, did_all P app a b c d hs)

pub sent_all : (P : Entry → Type 0) (who : Party) → ((e : Envelope) → P (sent who e)) → (es : List Envelope) → AllByRecursion P (map (sent who) es)
sent_all P who f [] = tt
sent_all P who f (e ∷ es) = (f e, sent_all P who f es)

-- what an application does, and what the bus does
pub record AppSorts (P : Entry → Type 0) : Type 0 where
  pub steps_ : (app : ℕ) (step : Step) → P (changed app step)
  pub sends_ : (app : ℕ) (e : Envelope) → P (sent (App app) e)
  pub hears_ : (app : ℕ) (listener pattern : List ℕ) → P (heard app listener pattern)
  pub deaf_ : (app : ℕ) (listener pattern : List ℕ) → P (unheard app listener pattern)

pub record BusSorts (P : Entry → Type 0) : Type 0 where
  pub says_ : (e : Envelope) → P (sent The_bus e)
  pub drops_ : (who : Party) (queued len : ℕ) → P (dropped who queued len)

pub app_all : (P : Entry → Type 0) → AppSorts P → (app : ℕ) (hs : List Happening) → AllByRecursion P (map (did app) hs)
app_all P s app hs = did_all P app (s.steps_ app) (s.sends_ app) (s.hears_ app) (s.deaf_ app) hs

pub of_bus_all : (P : Entry → Type 0) → BusSorts P → (ends : List End) (own : List Envelope) (closings : List Closing) → AllByRecursion P (bus_entries ends own closings)
of_bus_all P s ends own closings =
    bus_all P s.says_ ends own closings (all_any (λ (x : Closing). (queued len : ℕ) → P (dropped (party_at ends x.conn) queued len)) (λ x queued len. s.drops_ (party_at ends x.conn) queued len) closings)

-- the number of an application that starts
abbrev pub new_number : World → List ℕ → ℕ
new_number w name = number_of (party_at (joins w (App (app_count w.ends)) (an_application (begins name)) []).ends (length w.ends))

-- what lines write
pub record LineSorts (P : Entry → Type 0) : Type 0 where
  pub app : AppSorts P
  pub starts_ : (who : Party) (name : Option (List ℕ)) → P (started who name)
  pub calls_ : (who : Party) (e : Envelope) → P (sent who e)
  pub exits_ : (who : Party) → P (exited who)
  pub shows_ : (reader app : ℕ) (rows : Option (List ShownRow)) → P (shows_rows reader app rows)

pub line_all : (P : Entry → Type 0) → LineSorts P → (w : World) (line : Line) (d : Done) → LineDid w line d → AllByRecursion P d.entries
line_all P s w _ _ (renewed quota few) = tt
line_all P s w _ _ (app_began name short few) = (s.starts_ (App (app_count w.ends)) (Some name), app_all P s.app _ (starts (begins name)).out)
line_all P s w _ _ (reader_began few) = (s.starts_ (Reader (reader_count w.ends)) None, (s.calls_ (Reader (reader_count w.ends)) (asking 1 Hello), tt))
line_all P s w _ _ (edited_app app conn edit e before after h who role done_ can) = app_all P s.app _ after.out
line_all P s w _ _ (called_app reader app node conn deed e hearer h who role) = (s.calls_ (party_at w.ends conn) _, tt)
line_all P s w _ _ (swapped app) = tt
line_all P s w _ _ (app_stopped app d b who) = subst (λ (x : Done). AllByRecursion P x.entries) (sym b.is) (s.exits_ (party_at w.ends b.conn), tt)
line_all P s w _ _ (reader_stopped reader d b who) = subst (λ (x : Done). AllByRecursion P x.entries) (sym b.is) (s.exits_ (party_at w.ends b.conn), tt)
line_all P s w _ _ (showed reader app conn e hearer there who role) = (s.shows_ (number_of (party_at w.ends conn)) app _, tt)

-- what turns write
pub record TurnSorts (P : Entry → Type 0) : Type 0 where
  pub app : AppSorts P
  pub bus : BusSorts P
  pub busy_ : (turns : ℕ) → P (busy turns)
  pub quiet_ : P quiet
  pub takes_ : (taker sender : Party) (serial : ℕ) → P (got taker sender serial)
  pub registry_ : (e : Envelope) → P (sent Registry e)
  pub speaks_ : (reader app : ℕ) (line : List ℕ) → P (spoke reader app line)
  pub ends_ : (reader app : ℕ) → P (gone reader app)

pub turn_all : (P : Entry → Type 0) → TurnSorts P → (w : World) (c : Cause) (d : Done) → TurnDid w c d → AllByRecursion P d.entries
turn_all P s w _ _ (told_busy turns) = (s.busy_ turns, tt)
turn_all P s w _ _ (told_quiet none) = (s.quiet_, tt)
turn_all P s w _ _ (bus_took d b) =
    let c = carrying.takes (record { bus = w.bus; ends = w.ends }) b.conn b.e.who b.said in
    subst (λ (x : Done). AllByRecursion P x.entries) (sym b.is) (s.takes_ The_bus b.e.who b.said.message.serial, of_bus_all P s.bus c.ends c.bus.own c.bus.closings)
turn_all P s w _ _ (bus_ended d b) =
    let c = carrying.takes_end (record { bus = w.bus; ends = w.ends }) b.conn in
    subst (λ (x : Done). AllByRecursion P x.entries) (sym b.is) (of_bus_all P s.bus c.ends c.bus.own c.bus.closings)
turn_all P s w _ _ (registry_took d b) =
    subst (λ (x : Done). AllByRecursion P x.entries) (sym b.is) (
      s.takes_ b.e.who b.letter.from b.letter.said.message.serial,
      sent_all P b.e.who (λ e. subst (λ p. P (sent p e)) (sym b.whose) (s.registry_ e)) (registry_takes b.before b.letter.said.message).sent,
    )
turn_all P s w _ _ (app_took d b) =
    subst (λ (x : Done). AllByRecursion P x.entries) (sym b.is) (s.takes_ b.e.who b.letter.from b.letter.said.message.serial, app_all P s.app _ (app_takes b.before b.letter.said.message).out)
turn_all P s w _ _ (reader_took d b) =
    subst (λ (x : Done). AllByRecursion P x.entries) (sym b.is) (
      s.takes_ b.e.who b.letter.from b.letter.said.message.serial,
      heard_all P s.speaks_ s.ends_ (number_of b.e.who) b.hearer (received w b.conn b.e b.letter).ends b.letter,
    )
