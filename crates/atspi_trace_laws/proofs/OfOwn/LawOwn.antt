-- The serials of the bus's own messages, along a lawful trace.
use Rattle.std.proofs.Common.{◌≡◌, ◌⊎◌, inl, inr, ℕ, zero, suc, ◌+◌, ◌≤◌, Bool, true, false, List, [], ◌∷◌, ◌++◌, length, map, Option, None, Some, refl, sym, ap, ◌∙◌, subst, arith, is_some}
use Rattle.std.specs.Prelude.{◌||◌, not, filter, nat_lt, if◌then◌else◌}
use Rattle.std.specs.List.{AllByRecursion, list_any}
use Rattle.std.specs.FinMap.{get-from_sorted}
use Rattle.std.specs.Ordering.{nat_cmp}
use Rattle.std.proofs.lemmas.Bool.{ltb-false, eqb-true}
use Rattle.std.proofs.lemmas.List.{append-nil, append_assoc}
use Rattle.atspi_script_lines.specs.declared.limits.TheConstants.{QUOTA_MOST}
use Rattle.atspi_script_lines.specs.declared.line.Line.{Line}
use Rattle.atspi_script_lines.specs.declared.line.Party.{Party}
use Rattle.atspi_script_lines.specs.declared.line.Party.TheVariants.{Bus as The_bus, Registry, App, Reader}
use Rattle.atspi_message.specs.Envelope.{Envelope}
use Rattle.atspi_protocol.specs.registering.Steps.{registry_takes}
use Rattle.atspi_protocol.specs.exporting.Exporter.{Happening, steps, sends, hears, deaf}
use Rattle.atspi_protocol.specs.exporting.Taking.{app_takes}
use Rattle.atspi_match.specs.declared.routing.closing.Why.{Why}
use Rattle.atspi_match.specs.declared.routing.closing.Why.TheVariants.{NotHello, Quota}
use Rattle.atspi_match.specs.declared.routing.closing.Closing.{Closing}
use Rattle.atspi_match.specs.routing.BusState.{unique_of}
use Rattle.atspi_protocol.specs.following.Calls.{user_call}
use Rattle.atspi_protocol.specs.declared.following.question.Question.{Question}
use Rattle.atspi_trace.specs.Entry.{Entry, sent, got}
use Rattle.atspi_trace.specs.World.{Standing, here, stopped, away, Role, the_registry, an_application, a_reader, first_unique, first_registry, first_world, End, World}
use Rattle.atspi_trace.specs.Ends.{same_party, number_of, whose, party_at, end_at, with_end, taken_down, stops, leaves}
use Rattle.atspi_trace.specs.Carrying as carrying
use Rattle.atspi_trace.specs.Carrying.{Carried, named, sent_by_bus, is_upto, dropped_if, bus_entries}
use Rattle.atspi_trace.specs.Hearing.{hears_letter}
use Rattle.atspi_trace.specs.Causes.{Done, at_end, did, has_done, reader_sends, registry_did}
use Rattle.atspi_trace.specs.Due.{asks_as, asks_at, begins, Goes}
use Rattle.atspi_trace_laws.specs.laws.Words.{messages, stops_it, is_live}
use Rattle.atspi_trace_laws.specs.laws.NineLaws.{Everywhere}
use Rattle.atspi_trace_laws.specs.order.Scripts.{CanAllStand}
use Rattle.atspi_trace_laws.proofs.OfOrder.Parties.{no_none, same_some, false_true, same-party, party-same}
use Rattle.atspi_trace_laws.proofs.OfOrder.Allowed.{MovedUp, MovedDown}
use Rattle.atspi_trace_laws.proofs.OfOrder.Frame.{Over, IsOrder, over_same, over_both, over_with, takes_over, ends_over, joined_cases, with_cases}
use Rattle.atspi_trace_laws.proofs.OfOrder.Shape.{Shape}
use Rattle.atspi_trace_laws.proofs.OfOrder.Effects.{received, BusTakes, BusEnds, Stopping, Effect, resets, app_joins, reader_joins, app_edited, app_took, reader_called, swapped, exited_, showed_, told_busy, told_quiet, bus_took, bus_ended, registry_took, reader_took}
use Rattle.atspi_trace_laws.proofs.OfOrder.Shaped.{one_end, new_app, new_reader, app_joined}
use Rattle.atspi_trace_laws.proofs.OfOrder.Closed.{IsTold}
use Rattle.atspi_trace_laws.proofs.OfOrder.Along.{Keeps, kept}
use Rattle.atspi_trace_laws.proofs.OfOrder.Growing.{Grows, Shaped, Nothing, And, grown}
use Rattle.atspi_trace_laws.proofs.OfOrder.Told.{Tells, told_keeps}
use Rattle.atspi_trace_laws.proofs.OfOrder.Each.{Each, everywhere, each_of}
use Rattle.atspi_trace_laws.proofs.OfSerials.Serial.{messages_more}
use Rattle.atspi_trace_laws.proofs.OfLinks.Ups.{From}
use Rattle.atspi_trace_laws.proofs.OfHeard.Quiet.{heard_all}
use Rattle.atspi_trace_laws.specs.own.Laws.{HasNextOwn}
use Rattle.atspi_trace_laws.proofs.OfOwn.Counting.{Counted, takes_counted, ends_counted, is_quota, DueFine, ClosingFine, is_first, Named, Regular, takes_regular, ends_regular}
use Rattle.atspi_trace_laws.proofs.OfOwn.Writing.{next_own, own_more, Lives, stopped_not, lived, silent, IsFirst, words_law}

-- THE STATE, AS LONG AS THE REGISTRY LIVES
pub record State (es : List Entry) (w : World) : Type 0 where
  pub next : w.bus.state.next ≡ next_own es
  pub due : AllByRecursion DueFine w.bus.waiting.due
  pub named : is_some (unique_of w.bus.state.owners 0) ≡ true
  pub stands : (e : End) → end_at w.ends 0 ≡ Some e → e.standing ≡ stopped → ⊥

abbrev pub Owned : List Entry → World → Type 0
Owned es w = Each HasNextOwn [] es × (Lives es → State es w)

-- an end that did not stop does not stop
abbrev pub KeepsOn : End → End → Type 0
KeepsOn e d = (e.standing ≡ stopped → ⊥) → d.standing ≡ stopped → ⊥

pub keeping_on : IsOrder KeepsOn
keeping_on = record { same = λ e n. n; both = λ e d c f g n. g (f n) }

abbrev is_stopped : Standing → Bool
is_stopped stopped = true
is_stopped standing = false

not_away : away ≡ stopped → ⊥
not_away h = false_true (ap is_stopped h)

not_here : here ≡ stopped → ⊥
not_here h = false_true (ap is_stopped h)

leave_ : (e : End) → KeepsOn e (leaves e)
leave_ e n h = not_away h

first_stands : (w v : World) → Over KeepsOn w.ends v.ends → ((e : End) → end_at w.ends 0 ≡ Some e → e.standing ≡ stopped → ⊥) → (e : End) → end_at v.ends 0 ≡ Some e → e.standing ≡ stopped → ⊥
first_stands w v o f d h = let x = o.back 0 d h in x.2 (f x.0 x.1)

-- ENTRIES WITHOUT THE BUS'S MESSAGES
abbrev NoOwn : Entry → Type 0
NoOwn (sent The_bus e) = ⊥
NoOwn entry = Unit {0}

no_own_law : (before : List Entry) (entry : Entry) (behind : List Entry) → NoOwn entry → HasNextOwn before entry behind
no_own_law before (sent The_bus e) behind n = absurd n
no_own_law before entry behind n = tt

no_own_messages : (ys : List Entry) → AllByRecursion NoOwn ys → messages ys The_bus ≡ []
no_own_messages [] n = refl
no_own_messages (sent The_bus e ∷ ys) n = absurd n.0
no_own_messages (sent Registry e ∷ ys) n = no_own_messages ys n.1
no_own_messages (sent (App a) e ∷ ys) n = no_own_messages ys n.1
no_own_messages (sent (Reader r) e ∷ ys) n = no_own_messages ys n.1
no_own_messages (y ∷ ys) n = no_own_messages ys n.1

pub same_next : (es ys : List Entry) → AllByRecursion NoOwn ys → next_own (es ++ ys) ≡ next_own es
same_next es ys n = ap (λ l. 8 + length l) (messages_more es ys The_bus ∙ ap (λ l. messages es The_bus ++ l) (no_own_messages ys n) ∙ append-nil (messages es The_bus))

-- the bus does nothing but what leaves its numbers
quiet_owned : (es ys : List Entry) (w v : World) → Owned es w → AllByRecursion NoOwn ys → v.bus.state.next ≡ w.bus.state.next → v.bus.waiting.due ≡ w.bus.waiting.due → v.bus.state.owners ≡ w.bus.state.owners
    → (((e : End) → end_at w.ends 0 ≡ Some e → e.standing ≡ stopped → ⊥) → (e : End) → end_at v.ends 0 ≡ Some e → e.standing ≡ stopped → ⊥) → Owned (es ++ ys) v
quiet_owned es ys w v i n next due owners stands = (
  own_more [] es ys i.0 (each_of NoOwn HasNextOwn es ys no_own_law n),
  λ live.
      let s : State es w = i.1 (lived es ys live) in
      record {
        next = next ∙ s.next ∙ sym (same_next es ys n);
        due = subst (AllByRecursion DueFine) (sym due) s.due;
        named = ap (λ o. is_some (unique_of o 0)) owners ∙ s.named;
        stands = stands s.stands;
      },
)

over_quiet : (es : List Entry) (w : World) (d : Done) → Owned es w → AllByRecursion NoOwn d.entries → d.world.bus.state ≡ w.bus.state → d.world.bus.waiting.due ≡ w.bus.waiting.due → Over KeepsOn w.ends d.world.ends → Owned (es ++ d.entries) d.world
over_quiet es w d i n state due o = quiet_owned es d.entries w d.world i n (ap (λ s. s.next) state) due (ap (λ s. s.owners) state) (first_stands w d.world o)

no_own_of : (d x : Done) → d ≡ x → AllByRecursion NoOwn x.entries → AllByRecursion NoOwn d.entries
no_own_of d x is a = subst (λ y. AllByRecursion NoOwn y.entries) (sym is) a

did_no_own : (app : ℕ) (hs : List Happening) → AllByRecursion NoOwn (map (did app) hs)
did_no_own app [] = tt
did_no_own app (steps step ∷ hs) = (tt, did_no_own app hs)
did_no_own app (sends e ∷ hs) = (tt, did_no_own app hs)
did_no_own app (hears listener pattern ∷ hs) = (tt, did_no_own app hs)
did_no_own app (deaf listener pattern ∷ hs) = (tt, did_no_own app hs)

registry_no_own : (es : List Envelope) → AllByRecursion NoOwn (map (sent Registry) es)
registry_no_own [] = tt
registry_no_own (e ∷ es) = (tt, registry_no_own es)

sent_no_own : (who : Party) (es : List Envelope) → who ≡ Registry → AllByRecursion NoOwn (map (sent who) es)
sent_no_own who es h = subst (λ p. AllByRecursion NoOwn (map (sent p) es)) (sym h) (registry_no_own es)

changed_over : (w : World) (d : Done) (conn : ℕ) (f : End → End) (base : List End) → Over KeepsOn w.ends base → d.world.ends ≡ with_end conn f base → ((e : End) → KeepsOn e (f e)) → Over KeepsOn w.ends d.world.ends
changed_over w d conn f base o is keeps = subst (Over KeepsOn w.ends) (sym is) (over_both KeepsOn keeping_on w.ends base (with_end conn f base) o (over_with KeepsOn keeping_on f keeps conn base))

here_over : (w : World) → Over KeepsOn w.ends w.ends
here_over w = over_same KeepsOn keeping_on w.ends

same_over : (w : World) (d : Done) → d.world.ends ≡ w.ends → Over KeepsOn w.ends d.world.ends
same_over w d h = subst (Over KeepsOn w.ends) (sym h) (here_over w)

received_over : (w : World) (conn : ℕ) → Over KeepsOn w.ends (with_end conn taken_down w.ends)
received_over w conn = over_with KeepsOn keeping_on taken_down (λ e n. n) conn w.ends

-- another than the registry stops
stopping_owned : (es : List Entry) (w : World) (d : Done) → Shape w → Owned es w → Stopping w d → Owned (es ++ d.entries) d.world
stopping_owned es w d s i b =
    quiet_owned es d.entries w d.world i (no_own_of d _ b.is (tt, tt)) (ap (λ x. x.world.bus.state.next) b.is) (ap (λ x. x.world.bus.waiting.due) b.is) (ap (λ x. x.world.bus.state.owners) b.is)
    (λ f e h. by f e (with_cases stops w.ends b.conn 0 e (sym (ap (λ x. end_at x.world.ends 0) b.is) ∙ h)))
  where
    by : ((e : End) → end_at w.ends 0 ≡ Some e → e.standing ≡ stopped → ⊥) → (e : End)
        → ((x : End) × (end_at w.ends 0 ≡ Some x) × (((0 ≡ b.conn) × (e ≡ stops x)) ⊎ ((0 ≡ b.conn → ⊥) × (e ≡ x)))) → e.standing ≡ stopped → ⊥
    by f e g = at g.2
      where
        at : (((0 ≡ b.conn) × (e ≡ stops g.0)) ⊎ ((0 ≡ b.conn → ⊥) × (e ≡ g.0))) → e.standing ≡ stopped → ⊥
        at (inr c) h = f g.0 g.1 (ap (λ (x : End). x.standing) (sym c.1) ∙ h)
        at (inl c) h =
            let same : g.0 ≡ b.e = same_some g.0 b.e (sym g.1 ∙ ap (end_at w.ends) c.0 ∙ b.is_here.there) in
            false_true (sym b.no_registry ∙ ap (λ (x : End). same_party x.who Registry) (sym same) ∙ ap (λ p. same_party p Registry) (s.registry g.0 g.1))

-- an end joins
joined_owned : (es : List Entry) (w : World) (d : Done) (n : End) → Shape w → Owned es w → AllByRecursion NoOwn d.entries → d.world.ends ≡ w.ends ++ n ∷ [] → n.standing ≡ here → d.world.bus.state.next ≡ w.bus.state.next
    → d.world.bus.waiting.due ≡ w.bus.waiting.due → d.world.bus.state.owners ≡ w.bus.state.owners → Owned (es ++ d.entries) d.world
joined_owned es w d n s i quiet is standing next due owners =
    quiet_owned es d.entries w d.world i quiet next due owners (λ f e h. by f e (joined_cases w.ends n 0 e (ap (λ l. end_at l 0) (sym is) ∙ h)))
  where
    by : ((e : End) → end_at w.ends 0 ≡ Some e → e.standing ≡ stopped → ⊥) → (e : End) → ((end_at w.ends 0 ≡ Some e) ⊎ ((0 ≡ length w.ends) × (e ≡ n))) → e.standing ≡ stopped → ⊥
    by f e (inl h) g = f e h g
    by f e (inr h) g = not_here (sym standing ∙ ap (λ (x : End). x.standing) (sym h.1) ∙ g)

-- THE BUS
-- the registry stands first, and nobody else is it
first_alone : (w : World) → Shape w → IsFirst w.ends
first_alone w s conn h = by (end_at w.ends conn) refl h
  where
    no_party : The_bus ≡ Registry → ⊥
    no_party g = false_true (ap (λ p. same_party p Registry) g)

    first_of : (ends : List End) (k : ℕ) (e : End) → end_at ends k ≡ Some e → (x : End) × (end_at ends 0 ≡ Some x)
    first_of [] zero e g = absurd (no_none e g)
    first_of [] (suc k) e g = absurd (no_none e g)
    first_of (x ∷ xs) k e g = (x, refl)

    by : (o : Option End) → end_at w.ends conn ≡ o → whose (end_at w.ends conn) ≡ Registry → conn ≡ 0
    by None g p = absurd (no_party (sym (ap whose g) ∙ p))
    by (Some e) g p =
        let x = first_of w.ends conn e g in
        s.one conn 0 e x.0 g x.1 (sym (ap whose g) ∙ p ∙ sym (s.registry x.0 x.1))

-- where the first was closed the registry was dropped
closed_stops : (ends : List End) → party_at ends 0 ≡ Registry → IsFirst ends → (own : List Envelope) (closings : List Closing) → AllByRecursion ClosingFine closings → list_any is_first closings ≡ true
    → list_any (stops_it Registry) (bus_entries ends own closings) ≡ true
closed_stops ends reg alone own [] fine h = absurd (false_true h)
closed_stops ends reg alone own (c ∷ cs) fine h =
    behind (sent_by_bus (filter (is_upto c.after) own)) _ (by (same_party (party_at ends c.conn) Registry) refl (λ g. closed_stops ends reg alone (filter (λ e. not (is_upto c.after e)) own) cs fine.1 g))
  where
    behind : (xs ys : List Entry) → list_any (stops_it Registry) ys ≡ true → list_any (stops_it Registry) (xs ++ ys) ≡ true
    behind [] ys g = g
    behind (x ∷ xs) ys g = or_right (stops_it Registry x) (list_any (stops_it Registry) (xs ++ ys)) (behind xs ys g)
      where
        or_right : (a b : Bool) → b ≡ true → (a || b) ≡ true
        or_right true b k = refl
        or_right false b k = k

    dropped_first : (why : Why) (ys : List Entry) → is_quota why ≡ true → same_party (party_at ends c.conn) Registry ≡ true → list_any (stops_it Registry) (dropped_if (party_at ends c.conn) why ++ ys) ≡ true
    dropped_first (Quota queued len) ys q g = ap (λ b. b || list_any (stops_it Registry) ys) g
    dropped_first NotHello ys q g = absurd (false_true q)

    back : List Envelope
    back = filter (λ e. not (is_upto c.after e)) own

    is_the_first : c.conn ≡ 0 → same_party (party_at ends c.conn) Registry ≡ true
    is_the_first k = ap (λ p. same_party p Registry) (ap (party_at ends) k ∙ reg) ∙ party-same Registry

    by : (b : Bool) → same_party (party_at ends c.conn) Registry ≡ b → (list_any is_first cs ≡ true → list_any (stops_it Registry) (bus_entries ends back cs) ≡ true) → list_any (stops_it Registry) (dropped_if (party_at ends c.conn) c.why ++ (if b then [] else bus_entries ends back cs)) ≡ true
    by false g rest = behind (dropped_if (party_at ends c.conn) c.why) (bus_entries ends back cs) (rest (later (is_first c) refl h))
      where
        later : (b : Bool) → is_first c ≡ b → (b || list_any is_first cs) ≡ true → list_any is_first cs ≡ true
        later false k m = m
        later true k m = absurd (false_true (sym g ∙ is_the_first (eqb-true c.conn 0 k)))
    by true g rest = dropped_first c.why [] (fine.0 (alone c.conn (same-party (party_at ends c.conn) Registry g))) g

-- what the bus did is written
bus_owned : (es front : List Entry) (w v : World) (c : Carried) → Shape v → Owned es w → AllByRecursion NoOwn front → v.ends ≡ c.ends → v.bus.state ≡ c.bus.state → v.bus.waiting ≡ c.bus.waiting
    → (State es w → Counted w.bus.state.next c × Regular c) → Over KeepsOn w.ends v.ends → Owned (es ++ (front ++ bus_entries c.ends c.bus.own c.bus.closings)) v
bus_owned es front w v c s i quiet ends state waiting f o = by (is_live es Registry) refl
  where
    words : List Entry
    words = bus_entries c.ends c.bus.own c.bus.closings

    is_alone : IsFirst c.ends
    is_alone = subst IsFirst ends (first_alone v s)

    first_there : (ends : List End) → 1 ≤ length ends → (x : End) × (end_at ends 0 ≡ Some x)
    first_there [] h = absurd (omega (arith, h))
    first_there (x ∷ xs) h = (x, refl)

    reg : party_at c.ends 0 ≡ Registry
    reg =
        let x = first_there v.ends (one_end v s) in
        ap (λ l. party_at l 0) (sym ends) ∙ ap whose x.1 ∙ s.registry x.0 x.1

    by : (b : Bool) → is_live es Registry ≡ b → Owned (es ++ (front ++ words)) v
    by false dead = (
      own_more [] es (front ++ words) i.0 (silent es (λ live. false_true (sym dead ∙ live)) (front ++ words)),
      λ live. absurd (false_true (sym dead ∙ lived es (front ++ words) live)),
    )
    by true lives =
        let old : State es w = i.1 lives in
        let x = f old in
        let early : List Entry = es ++ front in
        let start : w.bus.state.next ≡ next_own early = old.next ∙ sym (same_next es front quiet) in
        let law = words_law c.ends is_alone early w.bus.state.next c.bus.own c.bus.closings start x.0.from x.1.told in
        let assoc : es ++ (front ++ words) ≡ early ++ words = sym (append_assoc es front words) in (
          own_more [] es (front ++ words) i.0 (own_more es front words (each_of NoOwn HasNextOwn es front no_own_law quiet) law.0),
          λ live.
              let live_now : Lives (early ++ words) = subst Lives assoc live in
              record {
                next = ap (λ s. s.next) state ∙ x.0.next ∙ law.1 live_now ∙ ap next_own (sym assoc);
                due = subst (λ q. AllByRecursion DueFine q.due) (sym waiting) x.1.due;
                named = ap (λ s. is_some (unique_of s.owners 0)) state ∙ named_still x.1.named (early ++ words) refl live_now;
                stands = first_stands w v o old.stands;
              },
        )
      where
        named_still : Named c → (all : List Entry) → all ≡ (es ++ front) ++ words → Lives all → is_some (unique_of c.bus.state.owners 0) ≡ true
        named_still (inl n) all h live = n
        named_still (inr g) all h live = absurd (stopped_not all (ap (list_any (stops_it Registry)) h ∙ stops_behind (es ++ front) words (closed_stops c.ends reg is_alone c.bus.own c.bus.closings (f (i.1 lives)).1.told g)) live)
          where
            stops_behind : (xs ys : List Entry) → list_any (stops_it Registry) ys ≡ true → list_any (stops_it Registry) (xs ++ ys) ≡ true
            stops_behind [] ys k = k
            stops_behind (x ∷ xs) ys k = or_right (stops_it Registry x) (list_any (stops_it Registry) (xs ++ ys)) (stops_behind xs ys k)
              where
                or_right : (a b : Bool) → b ≡ true → (a || b) ≡ true
                or_right true b m = refl
                or_right false b m = m

nothing_yet : (w : World) → IsTold w → Counted w.bus.state.next (record { bus = w.bus; ends = w.ends })
nothing_yet w t = record { from = subst (From w.bus.state.next) (sym t.own) tt; next = sum (ap length t.own) }
  where
    sum : length w.bus.own ≡ 0 → w.bus.state.next ≡ w.bus.state.next + length w.bus.own
    sum h = omega (arith, h)

took_owned : (es : List Entry) (w : World) (d : Done) → Shape d.world → IsTold w → Owned es w → BusTakes w d → Owned (es ++ d.entries) d.world
took_owned es w d s t i b =
    let c0 : Carried = record { bus = w.bus; ends = w.ends } in
    let c : Carried = carrying.takes c0 b.conn b.e.who b.said in
    subst (λ l. Owned (es ++ l) d.world) (sym (ap (λ x. x.entries) b.is))
    (bus_owned es (got The_bus b.e.who b.said.message.serial ∷ []) w d.world c s i (tt, tt) (ap (λ x. x.world.ends) b.is) (ap (λ x. x.world.bus.state) b.is) (ap (λ x. x.world.bus.waiting) b.is)
    (λ old. (takes_counted w.bus.state.next c0 b.conn b.e.who b.said (nothing_yet w t), takes_regular c0 b.conn b.e.who b.said old.due t.closings old.named))
    (subst (λ x. Over KeepsOn w.ends x.world.ends) (sym b.is)
    (takes_over KeepsOn keeping_on (λ m e n. n) leave_ (λ q conn e n. n) (λ e n. n) c0 b.conn b.e.who b.said (λ m e n. n))))

ended_owned : (es : List Entry) (w : World) (d : Done) → Shape d.world → IsTold w → Owned es w → BusEnds w d → Owned (es ++ d.entries) d.world
ended_owned es w d s t i b =
    let c0 : Carried = record { bus = w.bus; ends = w.ends } in
    let c : Carried = carrying.takes_end c0 b.conn in
    subst (λ l. Owned (es ++ l) d.world) (sym (ap (λ x. x.entries) b.is))
    (bus_owned es [] w d.world c s i tt (ap (λ x. x.world.ends) b.is) (ap (λ x. x.world.bus.state) b.is) (ap (λ x. x.world.bus.waiting) b.is)
    (λ old. (
      ends_counted w.bus.state.next c0 b.conn (nothing_yet w t),
      ends_regular c0 b.conn (λ zero_. old.stands b.e (ap (end_at w.ends) (sym zero_) ∙ b.there) b.standing) old.due t.closings old.named,
    ))
    (subst (λ x. Over KeepsOn w.ends x.world.ends) (sym b.is) (ends_over KeepsOn keeping_on (λ m e n. n) leave_ c0 b.conn)))

-- EACH CAUSE
first_state : (es : List Entry) (quota : ℕ) → 8 ≡ next_own es → State es (first_world quota)
first_state es quota h = record {
  next = h;
  due = tt;
  named = ap is_some (get-from_sorted nat_cmp first_unique 0 tt);
  stands = λ e g. λ is. not_here (ap (λ (x : End). x.standing) (same_some first_registry e g) ∙ is);
}

anew : (es : List Entry) (w : World) (d : Done) (quota : ℕ) → Shape w → Owned es w → nat_lt 1 (length w.ends) ≡ false → d ≡ record { world = first_world quota; entries = [] } → Owned (es ++ d.entries) d.world
anew es w d quota s i few is =
    subst (λ x. Owned (es ++ x.entries) x.world) (sym is) (subst (λ l. Owned l (first_world quota)) (sym (append-nil es)) (i.0, λ live. first_state es quota (by s.alone (i.1 live).next)))
  where
    by : ((2 ≤ length w.ends) ⊎ (w ≡ first_world w.bus.quota)) → w.bus.state.next ≡ next_own es → 8 ≡ next_own es
    by (inl two) h = let less : length w.ends ≤ 1 = ltb-false 1 (length w.ends) few in absurd (omega (arith, two, less))
    by (inr g) h = sym (ap (λ (v : World). v.bus.state.next) g) ∙ h

caused_owned : (es : List Entry) (w : World) (d : Done) → Shape w → Shape d.world → IsTold w → Owned es w → Effect w d → Owned (es ++ d.entries) d.world
caused_owned es w d s after t i (resets quota few is) = anew es w d quota s i few is
caused_owned es w d s after t i (app_joins name short is) =
    joined_owned es w d (new_app w name) s i (no_own_of d _ is (tt, (tt, tt))) (ap (λ x. x.world.ends) is ∙ app_joined w name) refl (ap (λ x. x.world.bus.state.next) is) (ap (λ x. x.world.bus.waiting.due) is) (ap (λ x. x.world.bus.state.owners) is)
caused_owned es w d s after t i (reader_joins few is) =
    joined_owned es w d (new_reader w) s i (no_own_of d _ is (tt, (tt, tt))) (ap (λ x. x.world.ends) is) refl (ap (λ x. x.world.bus.state.next) is) (ap (λ x. x.world.bus.waiting.due) is) (ap (λ x. x.world.bus.state.owners) is)
caused_owned es w d s after t i (app_edited b) =
    over_quiet es w d i (no_own_of d _ b.is (did_no_own _ b.after.out)) (ap (λ x. x.world.bus.state) b.is) (ap (λ x. x.world.bus.waiting.due) b.is)
    (changed_over w d b.conn (has_done b.before b.after) w.ends (here_over w) (ap (λ x. x.world.ends) b.is) (λ e n. n))
caused_owned es w d s after t i (app_took b) =
    over_quiet es w d i (no_own_of d _ b.is (tt, did_no_own _ (app_takes b.before b.letter.said.message).out)) (ap (λ x. x.world.bus.state) b.is) (ap (λ x. x.world.bus.waiting.due) b.is)
    (changed_over w d b.conn (has_done b.before (app_takes b.before b.letter.said.message)) (with_end b.conn taken_down w.ends) (received_over w b.conn) (ap (λ x. x.world.ends) b.is) (λ e n. n))
caused_owned es w d s after t i (reader_called b) =
    let m : Envelope = user_call b.hearer.next b.name b.node b.deed in
    over_quiet es w d i (no_own_of d _ b.is (subst (λ p. NoOwn (sent p m)) (sym (ap whose b.is_here.there ∙ b.whose)) tt, tt)) (ap (λ x. x.world.bus.state) b.is) (ap (λ x. x.world.bus.waiting.due) b.is)
    (changed_over w d b.conn (reader_sends (record b.hearer { next = suc b.hearer.next }) m) w.ends (here_over w) (ap (λ x. x.world.ends) b.is) (λ e n. n))
caused_owned es w d s after t i (swapped b) =
    over_quiet es w d i (no_own_of d _ b.is tt) (ap (λ x. x.world.bus.state) b.is) (ap (λ x. x.world.bus.waiting.due) b.is) (same_over w d (ap (λ x. x.world.ends) b.is))
caused_owned es w d s after t i (exited_ b) = stopping_owned es w d s i b
caused_owned es w d s after t i (showed_ b) =
    over_quiet es w d i (no_own_of d _ b.is (tt, tt)) (ap (λ x. x.world.bus.state) b.is) (ap (λ x. x.world.bus.waiting.due) b.is) (same_over w d (ap (λ x. x.world.ends) b.is))
caused_owned es w d s after t i (told_busy turns is) =
    over_quiet es w d i (no_own_of d _ is (tt, tt)) (ap (λ x. x.world.bus.state) is) (ap (λ x. x.world.bus.waiting.due) is) (same_over w d (ap (λ x. x.world.ends) is))
caused_owned es w d s after t i (told_quiet none is) =
    over_quiet es w d i (no_own_of d _ is (tt, tt)) (ap (λ x. x.world.bus.state) is) (ap (λ x. x.world.bus.waiting.due) is) (same_over w d (ap (λ x. x.world.ends) is))
caused_owned es w d s after t i (bus_took b) = took_owned es w d after t i b
caused_owned es w d s after t i (bus_ended b) = ended_owned es w d after t i b
caused_owned es w d s after t i (registry_took b) =
    over_quiet es w d i (no_own_of d _ b.is (tt, sent_no_own b.e.who (registry_takes b.before b.letter.said.message).sent b.whose)) (ap (λ x. x.world.bus.state) b.is) (ap (λ x. x.world.bus.waiting.due) b.is)
    (changed_over w d b.conn (registry_did (registry_takes b.before b.letter.said.message)) (with_end b.conn taken_down w.ends) (received_over w b.conn) (ap (λ x. x.world.ends) b.is) (λ e n. n))
caused_owned es w d s after t i (reader_took b) =
    let v : World = received w b.conn b.e b.letter in
    over_quiet es w d i (no_own_of d _ b.is (tt, heard_all NoOwn (λ r app line. tt) (λ r app. tt) (number_of b.e.who) b.hearer v.ends b.letter)) (ap (λ x. x.world.bus.state) b.is) (ap (λ x. x.world.bus.waiting.due) b.is)
    (changed_over w d b.conn (λ x. record x { role = a_reader (hears_letter b.hearer v.ends b.letter) }) (with_end b.conn taken_down w.ends) (received_over w b.conn) (ap (λ x. x.world.ends) b.is) (λ e n. n))

asks_keep : (m : Envelope) (question : Question) (e : End) → KeepsOn e (asks_at m question e)
asks_keep m question e n = by e.role
  where
    by : (role : Role) → (asks_as role m question e).standing ≡ stopped → ⊥
    by (a_reader h) = n
    by (the_registry x) = n
    by (an_application x) = n

own_grows : Grows (And Nothing Tells) Owned
own_grows = record {
  begins = (tt, λ live. first_state [] QUOTA_MOST refl);
  caused = λ es w d s a i e after b. caused_owned es w d s after a.1 i e;
  moved = λ es w v s a i m. by es w v i m;
  asked = λ es w conn r m question s a i asks.
      let v : World = at_end w conn (asks_at m question) in
      quiet_owned es (sent (Reader r) m ∷ []) w v i (tt, tt) refl refl refl (first_stands w v (over_with KeepsOn keeping_on (asks_at m question) (asks_keep m question) conn w.ends));
}
  where
    by : (es : List Entry) (w v : World) → Owned es w → (MovedUp w v ⊎ MovedDown w v) → Owned es v
    by es w v i (inl m) =
        subst (λ l. Owned l v) (append-nil es) (quiet_owned es [] w v i tt (ap (λ (x : World). x.bus.state.next) m.after) (ap (λ (x : World). x.bus.waiting.due) m.after) (ap (λ (x : World). x.bus.state.owners) m.after)
        (first_stands w v (subst (λ (x : World). Over KeepsOn w.ends x.ends) (sym m.after) (over_with KeepsOn keeping_on (λ e. record e { up_moved = e.up_moved + m.count }) (λ e n. n) m.conn w.ends))))
    by es w v i (inr m) =
        subst (λ l. Owned l v) (append-nil es) (quiet_owned es [] w v i tt (ap (λ (x : World). x.bus.state.next) m.after) (ap (λ (x : World). x.bus.waiting.due) m.after) (ap (λ (x : World). x.bus.state.owners) m.after)
        (first_stands w v (subst (λ (x : World). Over KeepsOn w.ends x.ends) (sym m.after) (over_with KeepsOn keeping_on (λ e. record e { down_moved = e.down_moved + m.count }) (λ e n. n) m.conn w.ends))))

pub own_keeps : Keeps (Shaped (And (And Nothing Tells) Owned))
own_keeps = grown (And Nothing Tells) Owned told_keeps own_grows

each_front : (xs ys : List Entry) (early : List Entry) → Each HasNextOwn early (xs ++ ys) → Each HasNextOwn early xs
each_front [] ys early e = tt
each_front (x ∷ xs) ys early e = (fewer x e.0, each_front xs ys (early ++ x ∷ []) e.1)
  where
    fewer : (entry : Entry) → HasNextOwn early entry (xs ++ ys) → HasNextOwn early entry xs
    fewer (sent The_bus m) law = law
    fewer (sent Registry m) law = tt
    fewer (sent (App a) m) law = tt
    fewer (sent (Reader r) m) law = tt
    fewer entry law = tt

pub own_numbers_rise : (lines : List Line) (trace : List Entry) → CanAllStand lines → Goes (begins lines) trace → Everywhere HasNextOwn trace
own_numbers_rise lines trace a g =
    let k = kept (Shaped (And (And Nothing Tells) Owned)) own_keeps lines trace a g in
    everywhere HasNextOwn trace (each_front trace _ [] k.state.1.1.0)
