-- Who starts has sent nothing before, along a lawful trace.
use Rattle.std.proofs.Common.{◌≡◌, ℕ, ◌≤◌, List, [], ◌∷◌, ◌++◌, length, map, Option, Some, None, sym, ap, subst, arith}
use Rattle.std.specs.List.{AllByRecursion}
use Rattle.atspi_script_lines.specs.declared.line.Line.{Line}
use Rattle.atspi_script_lines.specs.declared.line.Party.{Party}
use Rattle.atspi_script_lines.specs.declared.line.Party.TheVariants.{App, Reader}
use Rattle.atspi_message.specs.Envelope.{Envelope}
use Rattle.atspi_match.specs.declared.routing.closing.Closing.{Closing}
use Rattle.atspi_protocol.specs.registering.Steps.{registry_takes}
use Rattle.atspi_protocol.specs.exporting.Exporter.{Happening, steps, sends, hears, deaf, begins as begins_app}
use Rattle.atspi_protocol.specs.exporting.Starting.{starts}
use Rattle.atspi_protocol.specs.exporting.Taking.{app_takes}
use Rattle.atspi_trace.specs.Entry.{Entry, started, sent, dropped}
use Rattle.atspi_trace.specs.World.{an_application, End, World, newcomer}
use Rattle.atspi_trace.specs.Ends.{number_of, party_at, app_count, reader_count, put_up}
use Rattle.atspi_trace.specs.Carrying as carrying
use Rattle.atspi_trace.specs.Carrying.{bus_entries}
use Rattle.atspi_trace.specs.Causes.{Done, did}
use Rattle.atspi_trace.specs.Due.{begins, Goes}
use Rattle.atspi_trace_laws.specs.laws.Words.{messages}
use Rattle.atspi_trace_laws.specs.laws.NineLaws.{Everywhere}
use Rattle.atspi_trace_laws.specs.order.Scripts.{CanAllStand}
use Rattle.atspi_trace_laws.proofs.OfOrder.BusWords.{all_any, bus_all}
use Rattle.atspi_trace_laws.proofs.OfOrder.Effects.{received, Effect, resets, app_joins, reader_joins, app_edited, app_took, reader_called, swapped, exited_, showed_, told_busy, told_quiet, bus_took, bus_ended, registry_took, reader_took}
use Rattle.atspi_trace_laws.proofs.OfOrder.Along.{Keeps, kept}
use Rattle.atspi_trace_laws.proofs.OfOrder.Growing.{Grows, Shaped, And, grown}
use Rattle.atspi_trace_laws.proofs.OfOrder.Each.{Each, everywhere, each_more, each_of}
use Rattle.atspi_trace_laws.proofs.OfSerials.Numbers.{Numbered}
use Rattle.atspi_trace_laws.proofs.OfLinks.TakenInOrder.{links_keep}
use Rattle.atspi_trace_laws.proofs.OfHeard.Quiet.{heard_all}
use Rattle.atspi_trace_laws.proofs.OfHeard.LawHeard.{Beneath}

abbrev pub StartsAnew : List Entry → Entry → List Entry → Type 0
StartsAnew before (started who name) behind = messages before who ≡ []
StartsAnew before entry behind = Unit {0}

abbrev NotStart : Entry → Type 0
NotStart (started who name) = ⊥
NotStart entry = Unit {0}

not_start_law : (before : List Entry) (entry : Entry) (behind : List Entry) → NotStart entry → StartsAnew before entry behind
not_start_law before (started who name) behind n = absurd n
not_start_law before entry behind n = tt

weaker : (ys before : List Entry) (entry : Entry) (behind : List Entry) → StartsAnew before entry behind → StartsAnew before entry (behind ++ ys)
weaker ys before (started who name) behind h = h
weaker ys before entry behind h = tt

all_weaker : (ys early xs : List Entry) → Each StartsAnew early xs → Each (λ before entry behind. StartsAnew before entry (behind ++ ys)) early xs
all_weaker ys early [] e = tt
all_weaker ys early (x ∷ xs) e = (weaker ys early x xs e.0, all_weaker ys (early ++ x ∷ []) xs e.1)

law_more : (es ys : List Entry) → Each StartsAnew [] es → Each StartsAnew es ys → Each StartsAnew [] (es ++ ys)
law_more es ys a b = each_more StartsAnew [] es ys (all_weaker ys [] es a) b

quietly : (es ys : List Entry) → Each StartsAnew [] es → AllByRecursion NotStart ys → Each StartsAnew [] (es ++ ys)
quietly es ys a n = law_more es ys a (each_of NotStart StartsAnew es ys not_start_law n)

did_no_start : (app : ℕ) (hs : List Happening) → AllByRecursion NotStart (map (did app) hs)
did_no_start app [] = tt
did_no_start app (steps step ∷ hs) = (tt, did_no_start app hs)
did_no_start app (sends e ∷ hs) = (tt, did_no_start app hs)
did_no_start app (hears listener pattern ∷ hs) = (tt, did_no_start app hs)
did_no_start app (deaf listener pattern ∷ hs) = (tt, did_no_start app hs)

sent_no_start : (who : Party) (es : List Envelope) → AllByRecursion NotStart (map (sent who) es)
sent_no_start who [] = tt
sent_no_start who (e ∷ es) = (tt, sent_no_start who es)

bus_no_start : (ends : List End) (own : List Envelope) (closings : List Closing) → AllByRecursion NotStart (bus_entries ends own closings)
bus_no_start ends own closings =
    bus_all NotStart (λ e. tt) ends own closings (all_any (λ (x : Closing). (queued len : ℕ) → NotStart (dropped (party_at ends x.conn) queued len)) (λ x queued len. tt) closings)

none_of : (d x : Done) → d ≡ x → AllByRecursion NotStart x.entries → AllByRecursion NotStart d.entries
none_of d x is a = subst (λ y. AllByRecursion NotStart y.entries) (sym is) a

-- a party that was not there before starts
starting : (es ys : List Entry) (who : Party) (rest : List Entry) → Each StartsAnew [] es → messages es who ≡ [] → (name : Option (List ℕ)) → ys ≡ started who name ∷ rest → AllByRecursion NotStart rest → Each StartsAnew [] (es ++ ys)
starting es ys who rest law none name is n =
    subst (λ l. Each StartsAnew [] (es ++ l)) (sym is)
    (law_more es (started who name ∷ rest) law (none, each_of NotStart StartsAnew (es ++ started who name ∷ []) rest not_start_law n))

abbrev Begun : List Entry → World → Type 0
Begun es w = Each StartsAnew [] es

least : (n : ℕ) → n ≤ n
least n = omega arith

caused : (es : List Entry) (w : World) (d : Done) → Numbered es w → Begun es w → Effect w d → Begun (es ++ d.entries) d.world
caused es w d m i (resets quota few is) = quietly es d.entries i (none_of d _ is tt)
caused es w d m i (app_joins name short is) =
    starting es d.entries (App (app_count w.ends)) _ i (m.2 (App (app_count w.ends)) (least (app_count w.ends))) (Some name) (ap (λ x. x.entries) is) (did_no_start (number_of (party_at (w.ends ++ put_up [] (newcomer (App (app_count w.ends)) (an_application (begins_app name))) ∷ []) (length w.ends))) (starts (begins_app name)).out)
caused es w d m i (reader_joins few is) =
    starting es d.entries (Reader (reader_count w.ends)) _ i (m.2 (Reader (reader_count w.ends)) (least (reader_count w.ends))) None (ap (λ x. x.entries) is) (tt, tt)
caused es w d m i (app_edited b) = quietly es d.entries i (none_of d _ b.is (did_no_start _ b.after.out))
caused es w d m i (app_took b) = quietly es d.entries i (none_of d _ b.is (tt, did_no_start _ (app_takes b.before b.letter.said.message).out))
caused es w d m i (reader_called b) = quietly es d.entries i (none_of d _ b.is (tt, tt))
caused es w d m i (swapped b) = quietly es d.entries i (none_of d _ b.is tt)
caused es w d m i (exited_ b) = quietly es d.entries i (none_of d _ b.is (tt, tt))
caused es w d m i (showed_ b) = quietly es d.entries i (none_of d _ b.is (tt, tt))
caused es w d m i (told_busy turns is) = quietly es d.entries i (none_of d _ is (tt, tt))
caused es w d m i (told_quiet none is) = quietly es d.entries i (none_of d _ is (tt, tt))
caused es w d m i (bus_took b) =
    let c = carrying.takes (record { bus = w.bus; ends = w.ends }) b.conn b.e.who b.said in
    quietly es d.entries i (none_of d _ b.is (tt, bus_no_start c.ends c.bus.own c.bus.closings))
caused es w d m i (bus_ended b) =
    let c = carrying.takes_end (record { bus = w.bus; ends = w.ends }) b.conn in
    quietly es d.entries i (none_of d _ b.is (bus_no_start c.ends c.bus.own c.bus.closings))
caused es w d m i (registry_took b) = quietly es d.entries i (none_of d _ b.is (tt, sent_no_start b.e.who (registry_takes b.before b.letter.said.message).sent))
caused es w d m i (reader_took b) =
    quietly es d.entries i
    (none_of d _ b.is (tt, heard_all NotStart (λ r app line. tt) (λ r app. tt) (number_of b.e.who) b.hearer (received w b.conn b.e b.letter).ends b.letter))

starts_grow : Grows Beneath Begun
starts_grow = record {
  begins = tt;
  caused = λ es w d s a i e after b. caused es w d a.0.1 i e;
  moved = λ es w v s a i m. i;
  asked = λ es w conn r m question s a i asks. quietly es (sent (Reader r) m ∷ []) i (tt, tt);
}

starts_keep : Keeps (Shaped (And Beneath Begun))
starts_keep = grown Beneath Begun links_keep starts_grow

each_front : (xs ys : List Entry) (early : List Entry) → Each StartsAnew early (xs ++ ys) → Each StartsAnew early xs
each_front [] ys early e = tt
each_front (x ∷ xs) ys early e = (fewer x e.0, each_front xs ys (early ++ x ∷ []) e.1)
  where
    fewer : (entry : Entry) → StartsAnew early entry (xs ++ ys) → StartsAnew early entry xs
    fewer (started who name) law = law
    fewer entry law = tt

pub starts_anew : (lines : List Line) (trace : List Entry) → CanAllStand lines → Goes (begins lines) trace → Everywhere StartsAnew trace
starts_anew lines trace a g =
    let k = kept (Shaped (And Beneath Begun)) starts_keep lines trace a g in
    everywhere StartsAnew trace (each_front trace _ [] k.state.1.1)
