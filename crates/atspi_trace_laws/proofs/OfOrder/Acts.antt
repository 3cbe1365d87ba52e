-- Whose entries a cause writes: the bus's, those of an end that is here, and those of one that joins; and who is dropped is gone.
use Rattle.std.proofs.Common.{◌≡◌, ◌⊎◌, inl, inr, ℕ, List, [], ◌∷◌, ◌++◌, length, map, None, Some, refl, sym, ap, ◌∙◌, subst}
use Rattle.std.specs.Prelude.{Option}
use Rattle.std.specs.List.{AllByRecursion}
use Rattle.atspi_script_lines.specs.declared.line.Party.{Party}
use Rattle.atspi_script_lines.specs.declared.line.Party.TheVariants.{Bus as The_bus, Registry, App, Reader}
use Rattle.atspi_message.specs.Envelope.{Envelope}
use Rattle.atspi_match.specs.declared.routing.closing.Closing.{Closing}
use Rattle.atspi_protocol.specs.exporting.Exporter.{Happening, steps, sends, hears, deaf, begins}
use Rattle.atspi_protocol.specs.exporting.Starting.{starts}
use Rattle.atspi_protocol.specs.exporting.Taking.{app_takes}
use Rattle.atspi_protocol.specs.registering.Steps.{registry_takes}
use Rattle.atspi_trace.specs.Entry.{Entry, started, changed, sent, got, spoke, exited, dropped}
use Rattle.atspi_trace.specs.World.{here, Hearer, Letter, End, World, an_application, newcomer}
use Rattle.atspi_trace.specs.Ends.{number_of, whose, party_at, end_at, app_count, put_up, taken_down}
use Rattle.atspi_trace.specs.Hearing.{holding_of, app_ended, lines_if_held, last_lines, ended_entries, heard_entries}
use Rattle.atspi_trace.specs.Carrying as carrying
use Rattle.atspi_trace.specs.Carrying.{sent_by_bus, is_upto, dropped_if, bus_entries}
use Rattle.atspi_trace.specs.Causes.{Done, did, bus_did}
use Rattle.atspi_trace_laws.proofs.OfOrder.BusWords.{bus_all}
use Rattle.atspi_trace_laws.proofs.OfOrder.Each.{all_map}
use Rattle.atspi_trace_laws.proofs.OfOrder.Shape.{Shape, IsNew}
use Rattle.atspi_trace_laws.proofs.OfOrder.Closed.{IsTold, IsDropped, closings_drop, takes_closes, ends_closes}
use Rattle.atspi_trace_laws.proofs.OfOrder.Effects.{Stopping, Effect, resets, app_joins, reader_joins, app_edited, app_took, reader_called, swapped, exited_, showed_, told_busy, told_quiet, bus_took, bus_ended, registry_took, reader_took}
use Rattle.atspi_trace_laws.proofs.OfOrder.Effects.{received}
use Rattle.atspi_trace_laws.proofs.OfOrder.Shaped.{received_at}

-- who acts in an entry, which is no exit and no drop
abbrev pub Act : (Party → Type 0) → Entry → Type 0
Act P (started who name) = P who
Act P (changed app step) = P (App app)
Act P (sent who e) = P who
Act P (got taker sender serial) = P taker
Act P (dropped who queued len) = ⊥
Act P (exited who) = ⊥
Act P entry = Unit {0}

-- a message of the bus's own, or the news that an end was dropped, which is gone then
abbrev pub OfBus : World → Entry → Type 0
OfBus w (sent who e) = who ≡ The_bus
OfBus w (dropped who queued len) = IsDropped w who
OfBus w entry = ⊥

pub record IsActive (w : World) (who : Party) : Type 0 where
  pub conn : ℕ
  pub e : End
  pub there : end_at w.ends conn ≡ Some e
  pub whose : e.who ≡ who
  pub standing : e.standing ≡ here

abbrev pub Actor : World → Party → Type 0
Actor w who = (who ≡ The_bus) ⊎ (IsActive w who ⊎ IsNew w who)

-- what is written of the bus
pub of_bus : (w : World) (ends : List End) (own : List Envelope) (closings : List Closing) → AllByRecursion (λ (c : Closing). IsDropped w (party_at ends c.conn)) closings
    → AllByRecursion (OfBus w) (bus_entries ends own closings)
of_bus w ends own closings g =
    bus_all (OfBus w) (λ e. refl) ends own closings
    (all_map (λ (c : Closing). IsDropped w (party_at ends c.conn)) (λ (c : Closing). (queued len : ℕ) → OfBus w (dropped (party_at ends c.conn) queued len)) closings (λ c x queued len. x) g)

module _ (P : Party → Type 0) where
  pub did_act : (app : ℕ) (hs : List Happening) → P (App app) → AllByRecursion (Act P) (map (did app) hs)
  did_act app [] p = tt
  did_act app (steps step ∷ hs) p = (p, did_act app hs p)
  did_act app (sends e ∷ hs) p = (p, did_act app hs p)
  did_act app (hears listener pattern ∷ hs) p = (tt, did_act app hs p)
  did_act app (deaf listener pattern ∷ hs) p = (tt, did_act app hs p)

  pub sent_act : (who : Party) (es : List Envelope) → P who → AllByRecursion (Act P) (map (sent who) es)
  sent_act who [] p = tt
  sent_act who (e ∷ es) p = (p, sent_act who es p)

  spoken_act : (reader app : ℕ) (lines : List (List ℕ)) → AllByRecursion (Act P) (map (spoke reader app) lines)
  spoken_act reader app [] = tt
  spoken_act reader app (line ∷ lines) = (tt, spoken_act reader app lines)

  ended_act : (reader : ℕ) (h : Hearer) (o : Option ℕ) → AllByRecursion (Act P) (ended_entries reader h o)
  ended_act reader h None = tt
  ended_act reader h (Some app) = (tt, spoken_act reader app (last_lines (holding_of app h.holds)))

  pub heard_act : (reader : ℕ) (h : Hearer) (ends : List End) (letter : Letter) (from : Party) → letter.from ≡ from → AllByRecursion (Act P) (heard_entries reader h ends letter)
  heard_act reader h ends letter (App app) f = subst (λ p. AllByRecursion (Act P) (heard_entries reader h ends (record letter { from = p }))) (sym f) (spoken_act reader app (lines_if_held (holding_of app h.holds) letter.said))
  heard_act reader h ends letter The_bus f = subst (λ p. AllByRecursion (Act P) (heard_entries reader h ends (record letter { from = p }))) (sym f) (ended_act reader h (app_ended ends (record letter { from = The_bus })))
  heard_act reader h ends letter Registry f = subst (λ p. AllByRecursion (Act P) (heard_entries reader h ends (record letter { from = p }))) (sym f) tt
  heard_act reader h ends letter (Reader r) f = subst (λ p. AllByRecursion (Act P) (heard_entries reader h ends (record letter { from = p }))) (sym f) tt

pub last_at : (ends : List End) (n : End) → end_at (ends ++ n ∷ []) (length ends) ≡ Some n
last_at [] n = refl
last_at (x ∷ xs) n = last_at xs n

-- the number of an application, as it is written
pub number_at : (ends : List End) (conn app : ℕ) (e : End) → end_at ends conn ≡ Some e → e.who ≡ App app → number_of (party_at ends conn) ≡ app
number_at ends conn app e h who = ap (λ o. number_of (whose o)) h ∙ ap number_of who

-- what a cause writes: acts; acts and then words of the bus; or one exit
pub data Written (w : World) (d : Done) : Type 0 where
  acted : AllByRecursion (Act (Actor w)) d.entries → Written w d
  told : (front back : List Entry) → d.entries ≡ front ++ back → AllByRecursion (Act (Actor w)) front → AllByRecursion (OfBus d.world) back → Written w d
  stopped_ : Stopping w d → Written w d

here_acts : (w : World) (conn : ℕ) (e : End) (who : Party) → end_at w.ends conn ≡ Some e → e.standing ≡ here → e.who ≡ who → Actor w who
here_acts w conn e who h s i = inr (inl (record { conn = conn; e = e; there = h; whose = i; standing = s }))

-- each entry but that of an exit
pub acts : (w : World) (d : Done) → Shape w → IsTold w → Effect w d → Written w d
acts w d s t (resets quota few is) = acted (subst (λ x. AllByRecursion (Act (Actor w)) x.entries) (sym is) tt)
acts w d s t (app_joins name short is) =
    let first : number_of (party_at (w.ends ++ put_up [] (newcomer (App (app_count w.ends)) (an_application (begins name))) ∷ []) (length w.ends)) ≡ app_count w.ends =
    ap (λ o. number_of (whose o)) (last_at w.ends (put_up [] (newcomer (App (app_count w.ends)) (an_application (begins name))))) in
    acted (subst (λ x. AllByRecursion (Act (Actor w)) x.entries) (sym is) (inr (inr refl), subst (λ n. AllByRecursion (Act (Actor w)) (map (did n) (starts (begins name)).out)) (sym first) (did_act (Actor w) (app_count w.ends) (starts (begins name)).out (inr (inr refl)))))
acts w d s t (reader_joins few is) = acted (subst (λ x. AllByRecursion (Act (Actor w)) x.entries) (sym is) (inr (inr refl), (inr (inr refl), tt)))
acts w d s t (app_edited b) =
    acted (subst (λ x. AllByRecursion (Act (Actor w)) x.entries) (sym b.is)
    (subst (λ n. AllByRecursion (Act (Actor w)) (map (did n) b.after.out)) (sym (number_at w.ends b.conn b.app b.e b.is_here.there b.whose))
    (did_act (Actor w) b.app b.after.out (here_acts w b.conn b.e (App b.app) b.is_here.there b.is_here.standing b.whose))))
acts w d s t (app_took b) =
    acted (subst (λ x. AllByRecursion (Act (Actor w)) x.entries) (sym b.is) (
      here_acts w b.conn b.e b.e.who b.is_here.there b.is_here.standing refl,
      subst (λ n. AllByRecursion (Act (Actor w)) (map (did n) (app_takes b.before b.letter.said.message).out)) (sym (number_at (received w b.conn b.e b.letter).ends b.conn b.app (taken_down b.e) (received_at w b.conn b.e b.letter b.is_here.there) b.whose))
          (did_act (Actor w) b.app (app_takes b.before b.letter.said.message).out (here_acts w b.conn b.e (App b.app) b.is_here.there b.is_here.standing b.whose)),
    ))
acts w d s t (reader_called b) =
    acted (subst (λ x. AllByRecursion (Act (Actor w)) x.entries) (sym b.is)
    (here_acts w b.conn b.e (party_at w.ends b.conn) b.is_here.there b.is_here.standing (sym (ap whose b.is_here.there)), tt))
acts w d s t (swapped b) = acted (subst (λ x. AllByRecursion (Act (Actor w)) x.entries) (sym b.is) tt)
acts w d s t (exited_ b) = stopped_ b
acts w d s t (showed_ b) = acted (subst (λ x. AllByRecursion (Act (Actor w)) x.entries) (sym b.is) (tt, tt))
acts w d s t (told_busy turns is) = acted (subst (λ x. AllByRecursion (Act (Actor w)) x.entries) (sym is) (tt, tt))
acts w d s t (told_quiet none is) = acted (subst (λ x. AllByRecursion (Act (Actor w)) x.entries) (sym is) (tt, tt))
acts w d s t (bus_took b) =
    let c = carrying.takes (record { bus = w.bus; ends = w.ends }) b.conn b.e.who b.said in
    let after : World = (bus_did w (got The_bus b.e.who b.said.message.serial ∷ []) c).world in
    told (got The_bus b.e.who b.said.message.serial ∷ []) (bus_entries c.ends c.bus.own c.bus.closings) (ap (λ x. x.entries) b.is) (inl refl, tt)
    (subst (λ x. AllByRecursion (OfBus x.world) (bus_entries c.ends c.bus.own c.bus.closings)) (sym b.is)
    (of_bus after c.ends c.bus.own c.bus.closings
    (closings_drop after c.bus.closings (takes_closes (record { bus = w.bus; ends = w.ends }) b.conn b.e.who b.said t.closings))))
acts w d s t (bus_ended b) =
    let c = carrying.takes_end (record { bus = w.bus; ends = w.ends }) b.conn in
    let after : World = (bus_did w [] c).world in
    told [] (bus_entries c.ends c.bus.own c.bus.closings) (ap (λ x. x.entries) b.is) tt
    (subst (λ x. AllByRecursion (OfBus x.world) (bus_entries c.ends c.bus.own c.bus.closings)) (sym b.is)
    (of_bus after c.ends c.bus.own c.bus.closings (closings_drop after c.bus.closings (ends_closes (record { bus = w.bus; ends = w.ends }) b.conn t.closings))))
acts w d s t (registry_took b) =
    let a = here_acts w b.conn b.e b.e.who b.is_here.there b.is_here.standing refl in
    acted (subst (λ x. AllByRecursion (Act (Actor w)) x.entries) (sym b.is) (a, sent_act (Actor w) b.e.who (registry_takes b.before b.letter.said.message).sent a))
acts w d s t (reader_took b) =
    acted (subst (λ x. AllByRecursion (Act (Actor w)) x.entries) (sym b.is)
    (here_acts w b.conn b.e b.e.who b.is_here.there b.is_here.standing refl, heard_act (Actor w) (number_of b.e.who) b.hearer (received w b.conn b.e b.letter).ends b.letter b.letter.from refl))
