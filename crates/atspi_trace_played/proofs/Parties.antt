-- Who takes a message, and whose it is, is the bus or one of the ends that a script can start; and its serial is that of a message that was sent.
use Rattle.std.proofs.Common.{◌≡◌, ℕ, ◌<◌, Bool, true, false, List, [], ◌∷◌, ◌++◌, map, None, Some, refl, sym, ◌∙◌, subst, is_some}
use Rattle.std.specs.Prelude.{◌==◌, ◌&&◌, ◌||◌, not, if◌then◌else◌}
use Rattle.std.specs.List.{AllByRecursion, list_any, cons_option}
use Rattle.std.proofs.lemmas.Bool.{leb-false, eqb-true}
use Rattle.std.proofs.lemmas.List.{append_assoc}
use Rattle.atspi_script_lines.specs.declared.limits.TheConstants.{APP_COUNT, READER_COUNT}
use Rattle.atspi_script_lines.specs.declared.line.Line.{Line}
use Rattle.atspi_script_lines.specs.declared.line.Party.{Party}
use Rattle.atspi_script_lines.specs.declared.line.Party.TheVariants.{Bus as The_bus, Registry, App, Reader}
use Rattle.atspi_message.specs.Envelope.{Envelope}
use Rattle.atspi_protocol.specs.exporting.Exporter.{Happening, steps, sends, hears, deaf}
use Rattle.atspi_protocol.specs.exporting.Taking.{app_takes}
use Rattle.atspi_protocol.specs.registering.Steps.{registry_takes}
use Rattle.atspi_match.specs.declared.routing.closing.Closing.{Closing}
use Rattle.atspi_trace.specs.Entry.{Entry, started, sent, got, dropped}
use Rattle.atspi_trace.specs.World.{End, World}
use Rattle.atspi_trace.specs.Ends.{same_party, number_of, party_at, app_count, reader_count}
use Rattle.atspi_trace.specs.Carrying as carrying
use Rattle.atspi_trace.specs.Carrying.{bus_entries}
use Rattle.atspi_trace.specs.Causes.{Done, did}
use Rattle.atspi_trace.specs.Due.{begins, Goes}
use Rattle.atspi_trace_laws.specs.order.Scripts.{CanAllStand}
use Rattle.atspi_trace_laws.specs.laws.Words.{messages, with_serial, starts_it, stops_it, is_live}
use Rattle.atspi_trace_laws.specs.laws.NineLaws.{WasSent}
use Rattle.atspi_trace_laws.specs.living.Laws.{ActsAlive}
use Rattle.atspi_trace_played.specs.Turns.{IsUnspent}
use Rattle.atspi_trace_laws.proofs.OfOrder.Parties.{false_true, same-party, all_append, all_front, all_back}
use Rattle.atspi_trace_laws.proofs.OfOrder.Effects.{received, Effect, resets, app_joins, reader_joins, app_edited, app_took, reader_called, swapped, exited_, showed_, told_busy, told_quiet, bus_took, bus_ended, registry_took, reader_took}
use Rattle.atspi_trace_laws.proofs.OfOrder.Along.{kept}
use Rattle.atspi_trace_laws.proofs.OfOrder.Growing.{Grows, Shaped, Nothing, And, shaped_keeps, grown}
use Rattle.atspi_trace_laws.proofs.OfOrder.BusWords.{bus_all, all_any}
use Rattle.atspi_trace_laws.proofs.OfHeard.Quiet.{heard_all}
use Rattle.atspi_trace_laws.proofs.OfLiving.Living.{who_acts_is_live}
use Rattle.atspi_trace_laws.proofs.OfDelivered.LawLinks.{links_hold}
use Rattle.atspi_trace_played.proofs.Counting.{IsParty, GotFits}

-- WHO IS STARTED
abbrev pub StartsParty : Entry → Type 0
StartsParty (started who name) = IsParty who
StartsParty entry = Unit {0}

abbrev pub AllStart : List Entry → World → Type 0
AllStart es w = AllByRecursion StartsParty es

did_start : (app : ℕ) (hs : List Happening) → AllByRecursion StartsParty (map (did app) hs)
did_start app [] = tt
did_start app (steps step ∷ hs) = (tt, did_start app hs)
did_start app (sends e ∷ hs) = (tt, did_start app hs)
did_start app (hears listener pattern ∷ hs) = (tt, did_start app hs)
did_start app (deaf listener pattern ∷ hs) = (tt, did_start app hs)

sent_start : (who : Party) (ms : List Envelope) → AllByRecursion StartsParty (map (sent who) ms)
sent_start who [] = tt
sent_start who (m ∷ ms) = (tt, sent_start who ms)

bus_start : (ends : List End) (own : List Envelope) (closings : List Closing) → AllByRecursion StartsParty (bus_entries ends own closings)
bus_start ends own closings = bus_all StartsParty (λ e. tt) ends own closings (all_any (λ (x : Closing). (queued len : ℕ) → StartsParty (dropped (party_at ends x.conn) queued len)) (λ x queued len. tt) closings)

caused_start : (w : World) (d : Done) → Effect w d → AllByRecursion StartsParty d.entries
caused_start w d (resets quota few is) = subst (λ x. AllByRecursion StartsParty x.entries) (sym is) tt
caused_start w d (app_joins name few is) = subst (λ x. AllByRecursion StartsParty x.entries) (sym is) (leb-false APP_COUNT (app_count w.ends) few.1, (tt, tt))
caused_start w d (reader_joins few is) = subst (λ x. AllByRecursion StartsParty x.entries) (sym is) (leb-false READER_COUNT (reader_count w.ends) few, (tt, tt))
caused_start w d (app_edited b) = subst (λ x. AllByRecursion StartsParty x.entries) (sym b.is) (did_start _ b.after.out)
caused_start w d (app_took b) = subst (λ x. AllByRecursion StartsParty x.entries) (sym b.is) (tt, did_start _ (app_takes b.before b.letter.said.message).out)
caused_start w d (reader_called b) = subst (λ x. AllByRecursion StartsParty x.entries) (sym b.is) (tt, tt)
caused_start w d (swapped b) = subst (λ x. AllByRecursion StartsParty x.entries) (sym b.is) tt
caused_start w d (exited_ b) = subst (λ x. AllByRecursion StartsParty x.entries) (sym b.is) (tt, tt)
caused_start w d (showed_ b) = subst (λ x. AllByRecursion StartsParty x.entries) (sym b.is) (tt, tt)
caused_start w d (told_busy turns is) = subst (λ x. AllByRecursion StartsParty x.entries) (sym is) (tt, tt)
caused_start w d (told_quiet none is) = subst (λ x. AllByRecursion StartsParty x.entries) (sym is) (tt, tt)
caused_start w d (bus_took b) =
    let c = carrying.takes (record { bus = w.bus; ends = w.ends }) b.conn b.e.who b.said in
    subst (λ x. AllByRecursion StartsParty x.entries) (sym b.is) (tt, bus_start c.ends c.bus.own c.bus.closings)
caused_start w d (bus_ended b) =
    let c = carrying.takes_end (record { bus = w.bus; ends = w.ends }) b.conn in
    subst (λ x. AllByRecursion StartsParty x.entries) (sym b.is) (bus_start c.ends c.bus.own c.bus.closings)
caused_start w d (registry_took b) = subst (λ x. AllByRecursion StartsParty x.entries) (sym b.is) (tt, sent_start b.e.who (registry_takes b.before b.letter.said.message).sent)
caused_start w d (reader_took b) =
    subst (λ x. AllByRecursion StartsParty x.entries) (sym b.is)
    (tt, heard_all StartsParty (λ r app line. tt) (λ r app. tt) (number_of b.e.who) b.hearer (received w b.conn b.e b.letter).ends b.letter)

start_grows : Grows Nothing AllStart
start_grows = record {
  begins = tt;
  caused = λ es w d s a i e after b. all_append StartsParty es d.entries i (caused_start w d e);
  moved = λ es w v s a i m. i;
  asked = λ es w conn r m question s a i asks. all_append StartsParty es (sent (Reader r) m ∷ []) i (tt, tt);
}

all_start : (lines : List Line) (trace : List Entry) → CanAllStand lines → Goes (begins lines) trace → AllByRecursion StartsParty trace
all_start lines trace a g = all_front StartsParty trace _ (kept (Shaped (And Nothing AllStart)) (grown Nothing AllStart shaped_keeps start_grows) lines trace a g).state.1.1

-- WHO IS LIVE WAS STARTED
left_true : (b c : Bool) → (b && c) ≡ true → b ≡ true
left_true true c h = refl
left_true false c h = absurd (false_true h)

any_start : (who : Party) (es : List Entry) → AllByRecursion StartsParty es → list_any (starts_it who) es ≡ true → IsParty who
any_start who [] a h = absurd (false_true h)
any_start who (started other name ∷ es) a h = by (same_party other who) refl (any_start who es a.1) h
  where
    by : (b : Bool) → same_party other who ≡ b → (list_any (starts_it who) es ≡ true → IsParty who) → (b || list_any (starts_it who) es) ≡ true → IsParty who
    by true p f g = subst IsParty (same-party other who p) a.0
    by false p f g = f g
any_start who (x ∷ es) a h = any_start who es a.1 h

live_party : (who : Party) (es : List Entry) → AllByRecursion StartsParty es → is_live es who ≡ true → IsParty who
live_party The_bus es a h = tt
live_party Registry es a h = tt
live_party (App n) es a h = any_start (App n) es a (left_true (list_any (starts_it (App n)) es) (not (list_any (stops_it (App n)) es)) h)
live_party (Reader n) es a h = any_start (Reader n) es a (left_true (list_any (starts_it (Reader n)) es) (not (list_any (stops_it (Reader n)) es)) h)

-- WHAT IS SENT
abbrev SentFits : Entry → Type 0
SentFits (sent who e) = IsParty who × (e.serial < 4294967296)
SentFits entry = Unit {0}

abbrev Fits : Party → Envelope → Type 0
Fits who e = IsParty who × (e.serial < 4294967296)

messages_fit : (who : Party) (es : List Entry) → AllByRecursion SentFits es → AllByRecursion (Fits who) (messages es who)
messages_fit who [] a = tt
messages_fit who (sent other e ∷ es) a = by (same_party other who) refl (messages_fit who es a.1)
  where
    by : (b : Bool) → same_party other who ≡ b → AllByRecursion (Fits who) (messages es who) → AllByRecursion (Fits who) (cons_option (if b then Some e else None) (messages es who))
    by true p f = (subst (λ w. Fits w e) (same-party other who p) a.0, f)
    by false p f = f
messages_fit who (x ∷ es) a = messages_fit who es a.1

found_fits : (who : Party) (s : ℕ) (ms : List Envelope) → AllByRecursion (Fits who) ms → is_some (with_serial s ms) ≡ true → IsParty who × (s < 4294967296)
found_fits who s [] a h = absurd (false_true h)
found_fits who s (m ∷ ms) a h = by (m.serial == s) refl (found_fits who s ms a.1) h
  where
    by : (b : Bool) → (m.serial == s) ≡ b → (is_some (with_serial s ms) ≡ true → IsParty who × (s < 4294967296)) → is_some (if b then Some m else with_serial s ms) ≡ true → IsParty who × (s < 4294967296)
    by true p f g = (a.0.0, subst (λ n. n < 4294967296) (eqb-true m.serial s p) a.0.1)
    by false p f g = f g

-- a fact of each place is one of each entry
each_entry : (P : Entry → Type 0) (trace : List Entry) → ((before : List Entry) (entry : Entry) (behind : List Entry) → trace ≡ before ++ entry ∷ behind → P entry) → AllByRecursion P trace
each_entry P trace f = on [] trace refl
  where
    on : (early xs : List Entry) → trace ≡ early ++ xs → AllByRecursion P xs
    on early [] h = tt
    on early (x ∷ xs) h = (f early x xs h, on (early ++ x ∷ []) xs (h ∙ sym (append_assoc early (x ∷ []) xs)))

module _ (lines : List Line) (trace : List Entry) (a : CanAllStand lines) (g : Goes (begins lines) trace) (u : AllByRecursion IsUnspent trace) where
  started_before : (before : List Entry) (entry : Entry) (behind : List Entry) → trace ≡ before ++ entry ∷ behind → AllByRecursion StartsParty before
  started_before before entry behind h = all_front StartsParty before (entry ∷ behind) (subst (AllByRecursion StartsParty) h (all_start lines trace a g))

  unspent_at : (before : List Entry) (entry : Entry) (behind : List Entry) → trace ≡ before ++ entry ∷ behind → IsUnspent entry
  unspent_at before entry behind h = (all_back IsUnspent before (entry ∷ behind) (subst (AllByRecursion IsUnspent) h u)).0

  sent_at : (before : List Entry) (entry : Entry) (behind : List Entry) → AllByRecursion StartsParty before → IsUnspent entry → ActsAlive before entry behind → SentFits entry
  sent_at before (sent The_bus e) behind s n live = (tt, n)
  sent_at before (sent Registry e) behind s n live = (tt, n)
  sent_at before (sent (App k) e) behind s n live = (live_party (App k) before s live, n)
  sent_at before (sent (Reader k) e) behind s n live = (live_party (Reader k) before s live, n)
  sent_at before entry behind s n live = tt

  all_sent : AllByRecursion SentFits trace
  all_sent = each_entry SentFits trace (λ before entry behind h. sent_at before entry behind (started_before before entry behind h) (unspent_at before entry behind h) (who_acts_is_live lines trace a g before entry behind h))

  got_at : (before : List Entry) (entry : Entry) (behind : List Entry) → AllByRecursion StartsParty before → AllByRecursion SentFits before → WasSent before entry behind → GotFits entry
  got_at before (got The_bus sender s) behind starts sends_ w = let x = found_fits sender s (messages before sender) (messages_fit sender before sends_) w.0 in (tt, x.0, x.1)
  got_at before (got Registry sender s) behind starts sends_ w = let x = found_fits sender s (messages before sender) (messages_fit sender before sends_) w.1 in (tt, x.0, x.1)
  got_at before (got (App k) sender s) behind starts sends_ w = let x = found_fits sender s (messages before sender) (messages_fit sender before sends_) w.1 in (live_party (App k) before starts w.0, x.0, x.1)
  got_at before (got (Reader k) sender s) behind starts sends_ w = let x = found_fits sender s (messages before sender) (messages_fit sender before sends_) w.1 in (live_party (Reader k) before starts w.0, x.0, x.1)
  got_at before entry behind starts sends_ w = tt

  pub all_got : AllByRecursion GotFits trace
  all_got =
      each_entry GotFits trace
      (λ before entry behind h. got_at before entry behind (started_before before entry behind h) (all_front SentFits before (entry ∷ behind) (subst (AllByRecursion SentFits) h all_sent)) (links_hold lines trace a g before entry behind h))
