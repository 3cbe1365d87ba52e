-- Each message of the bus's own that is on a down link stands in the trace, as long as the registry lives.
use Rattle.std.proofs.Common.{◌≡◌, ◌⊎◌, inl, inr, ℕ, zero, suc, ◌+◌, ◌≤◌, Bool, true, false, List, [], ◌∷◌, ◌++◌, length, map, Option, None, Some, refl, sym, ap, ◌∙◌, subst, arith}
use Rattle.std.specs.Prelude.{◌==◌, ◌||◌, nat_lt, not, if◌then◌else◌}
use Rattle.std.specs.List.{AllByRecursion, list_any}
use Rattle.std.proofs.lemmas.Bool.{ltb-false}
use Rattle.std.proofs.lemmas.List.{append-nil, append_assoc}
use Rattle.atspi_script_lines.specs.declared.limits.TheConstants.{QUOTA_MOST}
use Rattle.atspi_script_lines.specs.declared.line.Party.{Party}
use Rattle.atspi_script_lines.specs.declared.line.Party.TheVariants.{Bus as The_bus, Registry, App, Reader}
use Rattle.atspi_message.specs.Envelope.{Envelope}
use Rattle.atspi_protocol.specs.registering.Steps.{registry_takes}
use Rattle.atspi_protocol.specs.exporting.Exporter.{Happening, steps, sends, hears, deaf, begins as begins_app}
use Rattle.atspi_protocol.specs.exporting.Starting.{starts}
use Rattle.atspi_protocol.specs.exporting.Taking.{app_takes}
use Rattle.atspi_protocol.specs.following.Calls.{user_call}
use Rattle.atspi_protocol.specs.declared.following.question.Question.{Question}
use Rattle.atspi_trace.specs.Entry.{Entry, sent, got}
use Rattle.atspi_trace.specs.World.{Role, the_registry, an_application, a_reader, Letter, first_registry, first_world, End, World, newcomer}
use Rattle.atspi_trace.specs.Ends.{same_party, number_of, whose, party_at, end_at, with_end, rest_of, taken_down, stops, app_count, put_up}
use Rattle.atspi_trace.specs.Carrying as carrying
use Rattle.atspi_trace.specs.Carrying.{Carried, bus_entries}
use Rattle.atspi_trace.specs.Hearing.{hears_letter}
use Rattle.atspi_trace.specs.Causes.{Done, at_end, did, has_done, reader_sends, registry_did}
use Rattle.atspi_trace.specs.Due.{asks_as, asks_at}
use Rattle.atspi_trace_laws.specs.laws.Words.{messages, with_serial, stops_it}
use Rattle.atspi_trace_laws.proofs.OfOrder.Parties.{no_none, same_some, false_true, all_back}
use Rattle.atspi_trace_laws.proofs.OfOrder.Allowed.{MovedUp, MovedDown}
use Rattle.atspi_trace_laws.proofs.OfOrder.Frame.{Over, over_same, over_both, over_with, joined_cases}
use Rattle.atspi_trace_laws.proofs.OfOrder.Shape.{Shape}
use Rattle.atspi_trace_laws.proofs.OfOrder.Effects.{received, BusTakes, BusEnds, Effect, resets, app_joins, reader_joins, app_edited, app_took, reader_called, swapped, exited_, showed_, told_busy, told_quiet, bus_took, bus_ended, registry_took, reader_took}
use Rattle.atspi_trace_laws.proofs.OfOrder.Shaped.{new_app, new_reader, app_joined}
use Rattle.atspi_trace_laws.proofs.OfOrder.Along.{Keeps}
use Rattle.atspi_trace_laws.proofs.OfOrder.Growing.{Grows, Shaped, And, grown}
use Rattle.atspi_trace_laws.proofs.OfOrder.Each.{all_map}
use Rattle.atspi_trace_laws.proofs.OfOrder.Closed.{IsTold}
use Rattle.atspi_trace_laws.proofs.OfSerials.Serial.{messages_more}
use Rattle.atspi_trace_laws.proofs.OfLinks.Ups.{From}
use Rattle.atspi_trace_laws.proofs.OfLinks.LawLinks.{no_bus}
use Rattle.atspi_trace_laws.proofs.OfHeard.Quiet.{heard_all}
use Rattle.atspi_trace_laws.proofs.OfOwn.Counting.{Counted, Regular, from_append, takes_counted, ends_counted, takes_regular, ends_regular}
use Rattle.atspi_trace_laws.proofs.OfOwn.Writing.{Lives, lived, next_own, IsFirst}
use Rattle.atspi_trace_laws.proofs.OfOwn.LawOwn.{State, Owned}
use Rattle.atspi_trace_laws.proofs.OfDelivered.LawLinks.{Under_links, Delivered, delivered_keeps}
use Rattle.atspi_trace_laws.proofs.OfReaders.BusSaid.{IsAmong, from_among, OwnIs, OwnAre, KeepsOwn, keeping_own, takes_own, ends_own, words_are}

-- THE STATE
pub record Told (es : List Entry) (w : World) : Type 0 where
  pub from : From 8 (messages es The_bus)
  pub links : (k : ℕ) (e : End) → end_at w.ends k ≡ Some e → OwnAre (messages es The_bus) e

abbrev pub Speaks_true : List Entry → World → Type 0
Speaks_true es w = Lives es → Told es w

-- nothing is said
same_told : (es ys : List Entry) (w v : World) → Speaks_true es w → messages ys The_bus ≡ [] → Over (KeepsOwn (messages es The_bus)) w.ends v.ends → Speaks_true (es ++ ys) v
same_told es ys w v i none o live = record {
  from = subst (From 8) (sym same) old.from;
  links = λ k e h. let x = o.back k e h in subst (λ l. OwnAre l e) (sym same) (x.2 (old.links k x.0 x.1));
}
  where
    old : Told es w
    old = i (lived es ys live)

    same : messages (es ++ ys) The_bus ≡ messages es The_bus
    same = messages_more es ys The_bus ∙ ap (λ l. messages es The_bus ++ l) none ∙ append-nil (messages es The_bus)

-- entries without the bus's messages
abbrev NoOwn : Entry → Type 0
NoOwn (sent The_bus e) = ⊥
NoOwn entry = Unit {0}

no_own_messages : (ys : List Entry) → AllByRecursion NoOwn ys → messages ys The_bus ≡ []
no_own_messages [] n = refl
no_own_messages (sent The_bus e ∷ ys) n = absurd n.0
no_own_messages (sent Registry e ∷ ys) n = no_own_messages ys n.1
no_own_messages (sent (App a) e ∷ ys) n = no_own_messages ys n.1
no_own_messages (sent (Reader r) e ∷ ys) n = no_own_messages ys n.1
no_own_messages (y ∷ ys) n = no_own_messages ys n.1

none_of : (d x : Done) → d ≡ x → AllByRecursion NoOwn x.entries → messages d.entries The_bus ≡ []
none_of d x is a = no_own_messages d.entries (subst (λ y. AllByRecursion NoOwn y.entries) (sym is) a)

did_no_own : (app : ℕ) (hs : List Happening) → AllByRecursion NoOwn (map (did app) hs)
did_no_own app [] = tt
did_no_own app (steps step ∷ hs) = (tt, did_no_own app hs)
did_no_own app (sends e ∷ hs) = (tt, did_no_own app hs)
did_no_own app (hears listener pattern ∷ hs) = (tt, did_no_own app hs)
did_no_own app (deaf listener pattern ∷ hs) = (tt, did_no_own app hs)

registry_no_own : (es : List Envelope) → AllByRecursion NoOwn (map (sent Registry) es)
registry_no_own [] = tt
registry_no_own (e ∷ es) = (tt, registry_no_own es)

sent_no_own : (who : Party) (es : List Envelope) → who ≡ Registry → AllByRecursion NoOwn (map (sent who) es)
sent_no_own who es h = subst (λ p. AllByRecursion NoOwn (map (sent p) es)) (sym h) (registry_no_own es)

-- CHANGES OF ENDS
down_keeps : (m : List Envelope) (e : End) → KeepsOwn m e (taken_down e)
down_keeps m e a = by e.down a
  where
    by : (l : List Letter) → AllByRecursion (OwnIs m) l → AllByRecursion (OwnIs m) (rest_of l)
    by [] h = tt
    by (x ∷ xs) h = h.1

module _ (es : List Entry) (w : World) (d : Done) (i : Speaks_true es w) (none : messages d.entries The_bus ≡ []) where
  by_over : Over (KeepsOwn (messages es The_bus)) w.ends d.world.ends → Speaks_true (es ++ d.entries) d.world
  by_over o = same_told es d.entries w d.world i none o

  by_end : (f : End → End) (conn : ℕ) → ((e : End) → KeepsOwn (messages es The_bus) e (f e)) → d.world.ends ≡ with_end conn f w.ends → Speaks_true (es ++ d.entries) d.world
  by_end f conn keeps is =
      by_over (subst (Over (KeepsOwn (messages es The_bus)) w.ends) (sym is) (over_with (KeepsOwn (messages es The_bus)) (keeping_own (messages es The_bus)) f keeps conn w.ends))

  by_both : (f : End → End) (conn : ℕ) → ((e : End) → KeepsOwn (messages es The_bus) e (f e)) → d.world.ends ≡ with_end conn f (with_end conn taken_down w.ends) → Speaks_true (es ++ d.entries) d.world
  by_both f conn keeps is =
      by_over
      (subst (Over (KeepsOwn (messages es The_bus)) w.ends) (sym is)
      (over_both (KeepsOwn (messages es The_bus)) (keeping_own (messages es The_bus)) w.ends (with_end conn taken_down w.ends) (with_end conn f (with_end conn taken_down w.ends))
      (over_with (KeepsOwn (messages es The_bus)) (keeping_own (messages es The_bus)) taken_down (down_keeps (messages es The_bus)) conn w.ends)
      (over_with (KeepsOwn (messages es The_bus)) (keeping_own (messages es The_bus)) f keeps conn (with_end conn taken_down w.ends))))

  by_same : d.world.ends ≡ w.ends → Speaks_true (es ++ d.entries) d.world
  by_same is = by_over (subst (Over (KeepsOwn (messages es The_bus)) w.ends) (sym is) (over_same (KeepsOwn (messages es The_bus)) (keeping_own (messages es The_bus)) w.ends))

  joined : (n : End) → d.world.ends ≡ w.ends ++ n ∷ [] → n.down ≡ [] → Speaks_true (es ++ d.entries) d.world
  joined n is down live = record {
    from = subst (From 8) (sym same) old.from;
    links = λ k e h. subst (λ l. OwnAre l e) (sym same) (by k e (joined_cases w.ends n k e (ap (λ l. end_at l k) (sym is) ∙ h)));
  }
    where
      old : Told es w
      old = i (lived es d.entries live)

      same : messages (es ++ d.entries) The_bus ≡ messages es The_bus
      same = messages_more es d.entries The_bus ∙ ap (λ l. messages es The_bus ++ l) none ∙ append-nil (messages es The_bus)

      by : (k : ℕ) (e : End) → ((end_at w.ends k ≡ Some e) ⊎ ((k ≡ length w.ends) × (e ≡ n))) → OwnAre (messages es The_bus) e
      by k e (inl h) = old.links k e h
      by k e (inr h) = subst (OwnAre (messages es The_bus)) (sym h.1) (subst (AllByRecursion (OwnIs (messages es The_bus))) (sym down) tt)

-- THE BUS
-- the registry stands first, and nobody else is it
first_alone : (w : World) → Shape w → IsFirst w.ends
first_alone w s conn h = by (end_at w.ends conn) refl h
  where
    no_party : The_bus ≡ Registry → ⊥
    no_party g = false_true (ap (λ p. same_party p Registry) g)

    first_of : (ends : List End) (k : ℕ) (e : End) → end_at ends k ≡ Some e → (x : End) × (end_at ends 0 ≡ Some x)
    first_of [] zero e g = absurd (no_none e g)
    first_of [] (suc k) e g = absurd (no_none e g)
    first_of (x ∷ xs) k e g = (x, refl)

    by : (o : Option End) → end_at w.ends conn ≡ o → whose (end_at w.ends conn) ≡ Registry → conn ≡ 0
    by None g p = absurd (no_party (sym (ap whose g) ∙ p))
    by (Some e) g p =
        let x = first_of w.ends conn e g in
        s.one conn 0 e x.0 g x.1 (sym (ap whose g) ∙ p ∙ sym (s.registry x.0 x.1))

nothing_yet : (w : World) → IsTold w → Counted w.bus.state.next (record { bus = w.bus; ends = w.ends })
nothing_yet w t = record { from = subst (From w.bus.state.next) (sym t.own) tt; next = sum (ap length t.own) }
  where
    sum : length w.bus.own ≡ 0 → w.bus.state.next ≡ w.bus.state.next + length w.bus.own
    sum h = omega (arith, h)

serial_front : (xs ys : List Envelope) (s : ℕ) (m : Envelope) → with_serial s xs ≡ Some m → with_serial s (xs ++ ys) ≡ Some m
serial_front [] ys s m h = absurd (no_none m h)
serial_front (x ∷ xs) ys s m h = by (x.serial == s) (λ g. serial_front xs ys s m g) h
  where
    by : (b : Bool) → (with_serial s xs ≡ Some m → with_serial s (xs ++ ys) ≡ Some m) → (if b then Some x else with_serial s xs) ≡ Some m → (if b then Some x else with_serial s (xs ++ ys)) ≡ Some m
    by true ih g = g
    by false ih g = ih g

own_more : (xs ys : List Envelope) (e : End) → OwnAre xs e → OwnAre (xs ++ ys) e
own_more xs ys e a = all_map (OwnIs xs) (OwnIs (xs ++ ys)) e.down (λ l h is. serial_front xs ys l.said.message.serial l.said.message (h is)) a

no_stops : (es words : List Entry) → Lives (es ++ words) → list_any (stops_it Registry) words ≡ false
no_stops es words live = by (list_any (stops_it Registry) es) (list_any (stops_it Registry) words) (ap not (sym (any_append es words)) ∙ live)
  where
    any_append : (xs ys : List Entry) → list_any (stops_it Registry) (xs ++ ys) ≡ (list_any (stops_it Registry) xs || list_any (stops_it Registry) ys)
    any_append [] ys = refl
    any_append (x ∷ xs) ys = step (stops_it Registry x) (any_append xs ys)
      where
        step : (b : Bool) → list_any (stops_it Registry) (xs ++ ys) ≡ (list_any (stops_it Registry) xs || list_any (stops_it Registry) ys)
            → (b || list_any (stops_it Registry) (xs ++ ys)) ≡ ((b || list_any (stops_it Registry) xs) || list_any (stops_it Registry) ys)
        step true h = refl
        step false h = h

    by : (a b : Bool) → not (a || b) ≡ true → b ≡ false
    by true b h = absurd (false_true h)
    by false true h = absurd (false_true h)
    by false false h = refl

-- what the bus did is written
bus_told : (es front : List Entry) (w v : World) (c : Carried) → Shape v → Speaks_true es w → Owned es w → messages front The_bus ≡ [] → v.ends ≡ c.ends → (State es w → Counted w.bus.state.next c × Regular c)
    → ((all : List Envelope) → AllByRecursion (IsAmong all) c.bus.own → Over (KeepsOwn all) w.ends c.ends) → Speaks_true (es ++ (front ++ bus_entries c.ends c.bus.own c.bus.closings)) v
bus_told es front w v c s i o none ends f puts live = record {
  from = subst (From 8) (sym all_is) all_from;
  links = λ k e h.
      let x = (puts (old_all ++ c.bus.own) among).back k e (ap (λ l. end_at l k) (sym ends) ∙ h) in
      subst (λ l. OwnAre l e) (sym all_is) (x.2 (own_more old_all c.bus.own x.0 (old.links k x.0 x.1)));
}
  where
    words : List Entry
    words = bus_entries c.ends c.bus.own c.bus.closings

    before : Lives es
    before = lived es (front ++ words) live

    old : Told es w
    old = i before

    st : State es w
    st = o.1 before

    counted : Counted w.bus.state.next c
    counted = (f st).0

    old_all : List Envelope
    old_all = messages es The_bus

    said_ : messages words The_bus ≡ c.bus.own
    said_ =
        words_are c.ends (subst IsFirst ends (first_alone v s)) w.bus.state.next c.bus.own c.bus.closings counted.from (f st).1.told
        (no_stops (es ++ front) words (subst Lives (sym (append_assoc es front words)) live))

    all_is : messages (es ++ (front ++ words)) The_bus ≡ old_all ++ c.bus.own
    all_is = messages_more es (front ++ words) The_bus ∙ ap (λ l. old_all ++ l) (messages_more front words The_bus ∙ ap (λ l. l ++ messages words The_bus) none ∙ said_)

    all_from : From 8 (old_all ++ c.bus.own)
    all_from = from_append 8 old_all c.bus.own old.from (subst (λ n. From n c.bus.own) st.next counted.from)

    among : AllByRecursion (IsAmong (old_all ++ c.bus.own)) c.bus.own
    among = all_back (IsAmong (old_all ++ c.bus.own)) old_all c.bus.own (from_among 8 (old_all ++ c.bus.own) all_from)

took_told : (es : List Entry) (w : World) (d : Done) → Shape w → Shape d.world → IsTold w → Owned es w → Delivered es w → Speaks_true es w → BusTakes w d → Speaks_true (es ++ d.entries) d.world
took_told es w d s after t o n i b =
    let c0 : Carried = record { bus = w.bus; ends = w.ends } in
    let c : Carried = carrying.takes c0 b.conn b.e.who b.said in
    subst (λ l. Speaks_true (es ++ l) d.world) (sym (ap (λ x. x.entries) b.is))
    (bus_told es (got The_bus b.e.who b.said.message.serial ∷ []) w d.world c after i o refl (ap (λ x. x.world.ends) b.is)
    (λ old. (takes_counted w.bus.state.next c0 b.conn b.e.who b.said (nothing_yet w t), takes_regular c0 b.conn b.e.who b.said old.due t.closings old.named))
    (λ all a. takes_own all c0 b.conn b.e.who b.said n.1.names (no_bus w b.conn b.e s b.is_here.there) a))

ended_told : (es : List Entry) (w : World) (d : Done) → Shape d.world → IsTold w → Owned es w → Speaks_true es w → BusEnds w d → Speaks_true (es ++ d.entries) d.world
ended_told es w d after t o i b =
    let c0 : Carried = record { bus = w.bus; ends = w.ends } in
    let c : Carried = carrying.takes_end c0 b.conn in
    subst (λ l. Speaks_true (es ++ l) d.world) (sym (ap (λ x. x.entries) b.is))
    (bus_told es [] w d.world c after i o refl (ap (λ x. x.world.ends) b.is)
    (λ old. (
      ends_counted w.bus.state.next c0 b.conn (nothing_yet w t),
      ends_regular c0 b.conn (λ zero_. old.stands b.e (ap (end_at w.ends) (sym zero_) ∙ b.there) b.standing) old.due t.closings old.named,
    ))
    (λ all a. ends_own all c0 b.conn a))

-- AT THE BEGINNING
first_told : (es : List Entry) (quota : ℕ) → messages es The_bus ≡ [] → Told es (first_world quota)
first_told es quota none = record { from = subst (From 8) (sym none) tt; links = λ k e h. by k e h }
  where
    by : (k : ℕ) (e : End) → end_at (first_world quota).ends k ≡ Some e → OwnAre (messages es The_bus) e
    by zero e h = subst (OwnAre (messages es The_bus)) (same_some first_registry e h) tt
    by (suc k) e h = absurd (no_none e h)

anew : (es : List Entry) (w : World) (d : Done) (quota : ℕ) → Shape w → Owned es w → nat_lt 1 (length w.ends) ≡ false → d ≡ record { world = first_world quota; entries = [] } → Speaks_true (es ++ d.entries) d.world
anew es w d quota s o few is =
    subst (λ x. Speaks_true (es ++ x.entries) x.world) (sym is)
    (λ live. first_told (es ++ []) quota (ap (λ l. messages l The_bus) (append-nil es) ∙ none (messages es The_bus) (by s.alone (o.1 (subst Lives (append-nil es) live)).next)))
  where
    by : ((2 ≤ length w.ends) ⊎ (w ≡ first_world w.bus.quota)) → w.bus.state.next ≡ next_own es → 8 ≡ next_own es
    by (inl two) h = let less : length w.ends ≤ 1 = ltb-false 1 (length w.ends) few in absurd (omega (arith, two, less))
    by (inr g) h = sym (ap (λ (v : World). v.bus.state.next) g) ∙ h

    none : (l : List Envelope) → 8 ≡ 8 + length l → l ≡ []
    none [] h = refl
    none (x ∷ xs) h = absurd (omega (arith, h))

-- EACH CAUSE
asks_down : (m : Envelope) (question : Question) (all : List Envelope) (e : End) → KeepsOwn all e (asks_at m question e)
asks_down m question all e a = by e.role
  where
    by : (role : Role) → OwnAre all (asks_as role m question e)
    by (a_reader h) = a
    by (the_registry x) = a
    by (an_application x) = a

caused : (es : List Entry) (w : World) (d : Done) → Shape w → Shape d.world → IsTold w → Owned es w → Delivered es w → Speaks_true es w → Effect w d → Speaks_true (es ++ d.entries) d.world
caused es w d s after t o n i (resets quota few is) = anew es w d quota s o few is
caused es w d s after t o n i (app_joins name short is) =
    joined es w d i
    (none_of d _ is (tt, did_no_own (number_of (party_at (w.ends ++ put_up [] (newcomer (App (app_count w.ends)) (an_application (begins_app name))) ∷ []) (length w.ends))) (starts (begins_app name)).out))
    (new_app w name) (ap (λ x. x.world.ends) is ∙ app_joined w name) refl
caused es w d s after t o n i (reader_joins few is) = joined es w d i (none_of d _ is (tt, (tt, tt))) (new_reader w) (ap (λ x. x.world.ends) is) refl
caused es w d s after t o n i (app_edited b) = by_end es w d i (none_of d _ b.is (did_no_own _ b.after.out)) (has_done b.before b.after) b.conn (λ e a. a) (ap (λ x. x.world.ends) b.is)
caused es w d s after t o n i (app_took b) =
    by_both es w d i (none_of d _ b.is (tt, did_no_own _ (app_takes b.before b.letter.said.message).out)) (has_done b.before (app_takes b.before b.letter.said.message)) b.conn (λ e a. a) (ap (λ x. x.world.ends) b.is)
caused es w d s after t o n i (reader_called b) =
    let m : Envelope = user_call b.hearer.next b.name b.node b.deed in
    by_end es w d i (none_of d _ b.is (subst (λ p. NoOwn (sent p m)) (sym (ap whose b.is_here.there ∙ b.whose)) tt, tt)) (reader_sends (record b.hearer { next = suc b.hearer.next }) m) b.conn (λ e a. a)
    (ap (λ x. x.world.ends) b.is)
caused es w d s after t o n i (swapped b) = by_same es w d i (none_of d _ b.is tt) (ap (λ x. x.world.ends) b.is)
caused es w d s after t o n i (exited_ b) = by_end es w d i (none_of d _ b.is (tt, tt)) stops b.conn (λ e a. a) (ap (λ x. x.world.ends) b.is)
caused es w d s after t o n i (showed_ b) = by_same es w d i (none_of d _ b.is (tt, tt)) (ap (λ x. x.world.ends) b.is)
caused es w d s after t o n i (told_busy turns is) = by_same es w d i (none_of d _ is (tt, tt)) (ap (λ x. x.world.ends) is)
caused es w d s after t o n i (told_quiet none is) = by_same es w d i (none_of d _ is (tt, tt)) (ap (λ x. x.world.ends) is)
caused es w d s after t o n i (bus_took b) = took_told es w d s after t o n i b
caused es w d s after t o n i (bus_ended b) = ended_told es w d after t o i b
caused es w d s after t o n i (registry_took b) =
    by_both es w d i (none_of d _ b.is (tt, sent_no_own b.e.who (registry_takes b.before b.letter.said.message).sent b.whose)) (registry_did (registry_takes b.before b.letter.said.message)) b.conn (λ e a. a)
    (ap (λ x. x.world.ends) b.is)
caused es w d s after t o n i (reader_took b) =
    let v : World = received w b.conn b.e b.letter in
    by_both es w d i (none_of d _ b.is (tt, heard_all NoOwn (λ r app line. tt) (λ r app. tt) (number_of b.e.who) b.hearer v.ends b.letter)) (λ x. record x { role = a_reader (hears_letter b.hearer v.ends b.letter) }) b.conn
    (λ e a. a) (ap (λ x. x.world.ends) b.is)

abbrev pub Below_told : List Entry → World → Type 0
Below_told es w = And Under_links Delivered es w

told_grows : Grows Below_told Speaks_true
told_grows = record {
  begins = λ live. first_told [] QUOTA_MOST refl;
  caused = λ es w d s a i e after b. caused es w d s after a.0.0.1 a.0.1 a.1 i e;
  moved = λ es w v s a i m. by es w v i m;
  asked = λ es w conn r m question s a i asks.
      same_told es (sent (Reader r) m ∷ []) w (at_end w conn (asks_at m question)) i refl
      (over_with (KeepsOwn (messages es The_bus)) (keeping_own (messages es The_bus)) (asks_at m question) (asks_down m question (messages es The_bus)) conn w.ends);
}
  where
    by : (es : List Entry) (w v : World) → Speaks_true es w → (MovedUp w v ⊎ MovedDown w v) → Speaks_true es v
    by es w v i (inl m) =
        subst (λ l. Speaks_true l v) (append-nil es) (same_told es [] w v i refl
        (subst (λ (x : World). Over (KeepsOwn (messages es The_bus)) w.ends x.ends) (sym m.after)
        (over_with (KeepsOwn (messages es The_bus)) (keeping_own (messages es The_bus)) (λ e. record e { up_moved = e.up_moved + m.count }) (λ e a. a) m.conn w.ends)))
    by es w v i (inr m) =
        subst (λ l. Speaks_true l v) (append-nil es) (same_told es [] w v i refl
        (subst (λ (x : World). Over (KeepsOwn (messages es The_bus)) w.ends x.ends) (sym m.after)
        (over_with (KeepsOwn (messages es The_bus)) (keeping_own (messages es The_bus)) (λ e. record e { down_moved = e.down_moved + m.count }) (λ e a. a) m.conn w.ends)))

pub told_keeps : Keeps (Shaped (And Below_told Speaks_true))
told_keeps = grown Below_told Speaks_true delivered_keeps told_grows
