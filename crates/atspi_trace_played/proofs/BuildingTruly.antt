-- What a cause writes is told truly, where all rests well as soon as nothing waits: only one cause tells that nothing waits.
use Rattle.std.proofs.Common.{◌≡◌, ℕ, List, [], ◌∷◌, ◌++◌, length, map, None, subst, sym}
use Rattle.std.specs.List.{AllByRecursion}
use Rattle.atspi_message.specs.Envelope.{Envelope}
use Rattle.atspi_script_lines.specs.declared.line.Party.{Party}
use Rattle.atspi_script_lines.specs.declared.line.Party.TheVariants.{App}
use Rattle.atspi_match.specs.declared.routing.closing.Closing.{Closing}
use Rattle.atspi_protocol.specs.exporting.Exporter.{Happening, steps, sends, hears, deaf, begins}
use Rattle.atspi_protocol.specs.exporting.Starting.{starts}
use Rattle.atspi_trace.specs.Entry.{Entry, started, changed, sent, got, heard, unheard, spoke, showed, exited, gone, dropped, busy, quiet}
use Rattle.atspi_trace.specs.World.{an_application, newcomer, End, World}
use Rattle.atspi_trace.specs.Ends.{number_of, party_at, app_count, put_up}
use Rattle.atspi_trace.specs.Carrying as carrying
use Rattle.atspi_trace.specs.Carrying.{bus_entries}
use Rattle.atspi_trace.specs.Causes.{Done, did}
use Rattle.atspi_trace.specs.Work.{next_turn}
use Rattle.atspi_trace.specs.Due.{IsSettled, TellsTruly}
use Rattle.atspi_trace_laws.proofs.OfOrder.BusWords.{all_any, bus_all}
use Rattle.atspi_trace_laws.proofs.OfOrder.Each.{all_map}
use Rattle.atspi_trace_laws.proofs.OfOrder.Effects.{received, Effect, resets, app_joins, reader_joins, app_edited, app_took, reader_called, swapped, exited_, showed_, told_busy, told_quiet, bus_took, bus_ended, registry_took, reader_took}
use Rattle.atspi_trace_laws.proofs.OfHeard.Quiet.{heard_all}

abbrev pub Untold : Entry → Type 0
Untold quiet = ⊥
Untold entry = Unit {0}

pub untold_truly : (w : World) (entry : Entry) → Untold entry → TellsTruly entry w
untold_truly w quiet u = absurd u
untold_truly w (started who name) u = tt
untold_truly w (changed app step) u = tt
untold_truly w (sent who e) u = tt
untold_truly w (got taker from serial) u = tt
untold_truly w (heard app listener pattern) u = tt
untold_truly w (unheard app listener pattern) u = tt
untold_truly w (spoke reader app text) u = tt
untold_truly w (showed reader app rows) u = tt
untold_truly w (exited who) u = tt
untold_truly w (gone reader app) u = tt
untold_truly w (dropped who queued len) u = tt
untold_truly w (busy turns) u = tt

did_untold : (app : ℕ) (hs : List Happening) → AllByRecursion Untold (map (did app) hs)
did_untold app [] = tt
did_untold app (steps step ∷ hs) = (tt, did_untold app hs)
did_untold app (sends e ∷ hs) = (tt, did_untold app hs)
did_untold app (hears listener pattern ∷ hs) = (tt, did_untold app hs)
did_untold app (deaf listener pattern ∷ hs) = (tt, did_untold app hs)

sent_untold : (who : Party) (es : List Envelope) → AllByRecursion Untold (map (sent who) es)
sent_untold who [] = tt
sent_untold who (e ∷ es) = (tt, sent_untold who es)

bus_untold : (ends : List End) (own : List Envelope) (closings : List Closing) → AllByRecursion Untold (bus_entries ends own closings)
bus_untold ends own closings =
    bus_all Untold (λ e. tt) ends own closings (all_any (λ (x : Closing). (queued len : ℕ) → Untold (dropped (party_at ends x.conn) queued len)) (λ x queued len. tt) closings)

abbrev AllTruly : Done → Type 0
AllTruly d = AllByRecursion (λ entry. TellsTruly entry d.world) d.entries

all_untold : (d c : Done) → d ≡ c → AllByRecursion Untold c.entries → AllTruly d
all_untold d c is a =
    all_map Untold (λ entry. TellsTruly entry d.world) d.entries (untold_truly d.world) (subst (λ (x : Done). AllByRecursion Untold x.entries) (sym is) a)

pub tells_truly : (w : World) (d : Done) → Effect w d → (next_turn w ≡ None → IsSettled w) → AllTruly d
tells_truly w d (resets quota few is) s = all_untold d _ is tt
tells_truly w d (app_joins name short is) s = all_untold d _ is (tt, did_untold (number_of (party_at (w.ends ++ put_up [] (newcomer (App (app_count w.ends)) (an_application (begins name))) ∷ []) (length w.ends))) (starts (begins name)).out)
tells_truly w d (reader_joins few is) s = all_untold d _ is (tt, (tt, tt))
tells_truly w d (app_edited b) s = all_untold d _ b.is (did_untold _ _)
tells_truly w d (app_took b) s = all_untold d _ b.is (tt, did_untold _ _)
tells_truly w d (reader_called b) s = all_untold d _ b.is (tt, tt)
tells_truly w d (swapped b) s = all_untold d _ b.is tt
tells_truly w d (exited_ b) s = all_untold d _ b.is (tt, tt)
tells_truly w d (showed_ b) s = all_untold d _ b.is (tt, tt)
tells_truly w d (told_busy turns is) s = all_untold d _ is (tt, tt)
tells_truly w d (told_quiet none is) s = subst (λ (x : Done). AllTruly x) (sym is) (s none, tt)
tells_truly w d (bus_took b) s = all_untold d _ b.is (let c = carrying.takes (record { bus = w.bus; ends = w.ends }) b.conn b.e.who b.said in (tt, bus_untold c.ends c.bus.own c.bus.closings))
tells_truly w d (bus_ended b) s = all_untold d _ b.is (let c = carrying.takes_end (record { bus = w.bus; ends = w.ends }) b.conn in bus_untold c.ends c.bus.own c.bus.closings)
tells_truly w d (registry_took b) s = all_untold d _ b.is (tt, sent_untold _ _)
tells_truly w d (reader_took b) s = all_untold d _ b.is (tt, heard_all Untold (λ r app line. tt) (λ r app. tt) (number_of b.e.who) b.hearer (received w b.conn b.e b.letter).ends b.letter)
