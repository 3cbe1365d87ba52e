-- Who is live in the trace is here, along a lawful trace, as long as the registry lives.
use Rattle.std.proofs.Common.{◌≡◌, ◌⊎◌, inl, inr, ℕ, zero, suc, ◌+◌, ◌≤◌, ◌<◌, Bool, true, false, List, [], ◌∷◌, ◌++◌, length, map, Option, None, Some, refl, sym, ap, ◌∙◌, subst, arith, is_some}
use Rattle.std.specs.Prelude.{◌==◌, ◌||◌, ◌&&◌, nat_lt, not, filter, get_or, if◌then◌else◌}
use Rattle.std.specs.List.{AllByRecursion, list_any}
use Rattle.std.specs.FinMap.{get-from_sorted}
use Rattle.std.specs.Ordering.{nat_cmp}
use Rattle.std.proofs.lemmas.Bool.{ltb-false, eqb-true}
use Rattle.std.proofs.lemmas.List.{append-nil}
use Rattle.std.proofs.lemmas.Option.{slice_get-get_or}
use Rattle.atspi_script_lines.specs.declared.limits.TheConstants.{QUOTA_MOST}
use Rattle.atspi_script_lines.specs.declared.line.Party.{Party}
use Rattle.atspi_script_lines.specs.declared.line.Party.TheVariants.{Bus as The_bus, Registry, App, Reader}
use Rattle.atspi_message.specs.Envelope.{Envelope}
use Rattle.atspi_match.specs.declared.routing.closing.Why.{Why}
use Rattle.atspi_match.specs.declared.routing.closing.Why.TheVariants.{NotHello, Quota}
use Rattle.atspi_match.specs.declared.routing.closing.Closing.{Closing}
use Rattle.atspi_match.specs.routing.BusState.{unique_of}
use Rattle.atspi_match.specs.routing.Steps.{is_hello}
use Rattle.atspi_protocol.specs.registering.Steps.{registry_takes}
use Rattle.atspi_protocol.specs.exporting.Exporter.{Happening, steps, sends, hears, deaf, Exporter, begins as begins_app}
use Rattle.atspi_protocol.specs.exporting.Starting.{starts}
use Rattle.atspi_protocol.specs.exporting.Taking.{app_takes}
use Rattle.atspi_protocol.specs.following.Calls.{user_call}
use Rattle.atspi_protocol.specs.declared.following.question.Question.{Question}
use Rattle.atspi_trace.specs.Entry.{Entry, started, sent, got, exited, dropped}
use Rattle.atspi_trace.specs.World.{here, stopped, Role, the_registry, an_application, a_reader, Hearer, Said, first_unique, first_registry, first_world, End, World, newcomer}
use Rattle.atspi_trace.specs.Ends.{is_here, same_party, number_of, whose, party_at, end_at, with_end, put_up, taken_up, taken_down, stops, app_count}
use Rattle.atspi_trace.specs.Carrying as carrying
use Rattle.atspi_trace.specs.Carrying.{Carried, dropped_if, sent_by_bus, is_upto, bus_entries}
use Rattle.atspi_trace.specs.Hearing.{hears_letter}
use Rattle.atspi_trace.specs.Causes.{Done, only, at_end, did, has_done, saids, asks, reader_sends, registry_did}
use Rattle.atspi_trace.specs.Due.{asks_as, asks_at}
use Rattle.atspi_trace_laws.specs.laws.Words.{starts_it, stops_it, is_live}
use Rattle.atspi_trace_laws.proofs.OfOrder.Parties.{no_none, same_some, same-party, party-same, false_true}
use Rattle.atspi_trace_laws.proofs.OfOrder.BusWords.{all_any, bus_all}
use Rattle.atspi_trace_laws.proofs.OfOrder.Allowed.{MovedUp, MovedDown}
use Rattle.atspi_trace_laws.proofs.OfOrder.Frame.{Over, IsOrder, over_same, over_both, over_with, with_cases, joined_cases, at_below}
use Rattle.atspi_trace_laws.proofs.OfOrder.Shape.{Lasts, Shape}
use Rattle.atspi_trace_laws.proofs.OfOrder.Effects.{received, BusTakes, BusEnds, Stopping, Effect, resets, app_joins, reader_joins, app_edited, app_took, reader_called, swapped, exited_, showed_, told_busy, told_quiet, bus_took, bus_ended, registry_took, reader_took}
use Rattle.atspi_trace_laws.proofs.OfOrder.Shaped.{new_app, new_reader, app_joined, bus_takes_over, bus_ends_over}
use Rattle.atspi_trace_laws.proofs.OfOrder.Along.{Keeps}
use Rattle.atspi_trace_laws.proofs.OfOrder.Growing.{Grows, Shaped, Nothing, And, grown}
use Rattle.atspi_trace_laws.proofs.OfOrder.Gone.{at_front}
use Rattle.atspi_trace_laws.proofs.OfOrder.Closed.{IsTold, takes_closes, ends_closes}
use Rattle.atspi_trace_laws.proofs.OfOrder.Told.{Tells, told_keeps}
use Rattle.atspi_trace_laws.proofs.OfOrder.Acts.{IsActive, last_at}
use Rattle.atspi_trace_laws.proofs.OfHeard.Quiet.{heard_all}
use Rattle.atspi_trace_laws.proofs.OfOwn.Counting.{is_quota}
use Rattle.atspi_trace_laws.proofs.OfQuiet.Hello.{ForRoom, ToldForRoom, Greets, AsItWas, is_of, Since, Settling, NamedThen, Nobody, takes_settling, ends_settling}

-- LISTS
any_append : (p : Entry → Bool) (xs ys : List Entry) → list_any p (xs ++ ys) ≡ (list_any p xs || list_any p ys)
any_append p [] ys = refl
any_append p (x ∷ xs) ys = by (p x) (any_append p xs ys)
  where
    by : (b : Bool) → list_any p (xs ++ ys) ≡ (list_any p xs || list_any p ys) → (b || list_any p (xs ++ ys)) ≡ ((b || list_any p xs) || list_any p ys)
    by true h = refl
    by false h = h

or_left : (a b : Bool) → (a || b) ≡ false → a ≡ false
or_left true b h = h
or_left false b h = refl

or_right : (a b : Bool) → (a || b) ≡ false → b ≡ false
or_right true b h = absurd (false_true (sym h))
or_right false b h = h

and_left : (a b : Bool) → (a && b) ≡ true → a ≡ true
and_left true b h = refl
and_left false b h = absurd (false_true h)

and_right : (a b : Bool) → (a && b) ≡ true → b ≡ true
and_right true b h = h
and_right false b h = absurd (false_true h)

not_true : (a : Bool) → not a ≡ true → a ≡ false
not_true true h = absurd (false_true h)
not_true false h = refl

-- who is live was not stopped
no_stop : (es : List Entry) (who : Party) → is_live es who ≡ true → list_any (stops_it who) es ≡ false
no_stop es who h = not_true (list_any (stops_it who) es) (and_right (same_party who Registry || list_any (starts_it who) es) (not (list_any (stops_it who) es)) h)

-- of more entries: it was live before, or it started
pub record LiveMore (es ys : List Entry) (who : Party) : Type 0 where
  pub going : list_any (stops_it who) ys ≡ false
  pub since : (is_live es who ≡ true) ⊎ (list_any (starts_it who) ys ≡ true)

live_parts : (es ys : List Entry) (who : Party) → is_live (es ++ ys) who ≡ true → LiveMore es ys who
live_parts es ys who h = record {
  going = or_right (list_any (stops_it who) es) (list_any (stops_it who) ys) none;
  since = by (same_party who Registry) (list_any (starts_it who) es) refl refl begun;
}
  where
    none : (list_any (stops_it who) es || list_any (stops_it who) ys) ≡ false
    none = sym (any_append (stops_it who) es ys) ∙ no_stop (es ++ ys) who h

    begun : (same_party who Registry || (list_any (starts_it who) es || list_any (starts_it who) ys)) ≡ true
    begun =
        ap (λ b. same_party who Registry || b) (sym (any_append (starts_it who) es ys))
        ∙ and_left (same_party who Registry || list_any (starts_it who) (es ++ ys)) (not (list_any (stops_it who) (es ++ ys))) h

    still : not (list_any (stops_it who) es) ≡ true
    still = ap not (or_left (list_any (stops_it who) es) (list_any (stops_it who) ys) none)

    by : (a b : Bool) → same_party who Registry ≡ a → list_any (starts_it who) es ≡ b → (a || (b || list_any (starts_it who) ys)) ≡ true → (is_live es who ≡ true) ⊎ (list_any (starts_it who) ys ≡ true)
    by true b g k s = inl (ap (λ c. (c || list_any (starts_it who) es) && not (list_any (stops_it who) es)) g ∙ still)
    by false true g k s = inl (ap (λ c. (c || list_any (starts_it who) es) && not (list_any (stops_it who) es)) g ∙ ap (λ c. (false || c) && not (list_any (stops_it who) es)) k ∙ still)
    by false false g k s = inr s

-- entries without a start
abbrev NotStart : Entry → Type 0
NotStart (started who name) = ⊥
NotStart entry = Unit {0}

not_started : (who : Party) (ys : List Entry) → AllByRecursion NotStart ys → list_any (starts_it who) ys ≡ false
not_started who [] a = refl
not_started who (started other name ∷ ys) a = absurd a.0
not_started who (y ∷ ys) a = not_started who ys a.1

did_no_start : (app : ℕ) (hs : List Happening) → AllByRecursion NotStart (map (did app) hs)
did_no_start app [] = tt
did_no_start app (steps step ∷ hs) = (tt, did_no_start app hs)
did_no_start app (sends e ∷ hs) = (tt, did_no_start app hs)
did_no_start app (hears listener pattern ∷ hs) = (tt, did_no_start app hs)
did_no_start app (deaf listener pattern ∷ hs) = (tt, did_no_start app hs)

sent_no_start : (who : Party) (es : List Envelope) → AllByRecursion NotStart (map (sent who) es)
sent_no_start who [] = tt
sent_no_start who (e ∷ es) = (tt, sent_no_start who es)

bus_no_start : (ends : List End) (own : List Envelope) (closings : List Closing) → AllByRecursion NotStart (bus_entries ends own closings)
bus_no_start ends own closings =
    bus_all NotStart (λ e. tt) ends own closings (all_any (λ (x : Closing). (queued len : ℕ) → NotStart (dropped (party_at ends x.conn) queued len)) (λ x queued len. tt) closings)

none_of : (d x : Done) → d ≡ x → AllByRecursion NotStart x.entries → AllByRecursion NotStart d.entries
none_of d x is a = subst (λ y. AllByRecursion NotStart y.entries) (sym is) a

-- WHO IS LIVE IS HERE
abbrev pub LiveHere : List Entry → World → Type 0
LiveHere es w = (who : Party) → (who ≡ The_bus → ⊥) → is_live es Registry ≡ true → is_live es who ≡ true → IsActive w who

-- behind a cause each that was here is, or it or the registry was stopped
abbrev Remains : List Entry → World → World → Type 0
Remains ys w v = (who : Party) → IsActive w who → IsActive v who ⊎ ((list_any (stops_it who) ys ≡ true) ⊎ (list_any (stops_it Registry) ys ≡ true))

kept_live : (es ys : List Entry) (w v : World) → LiveHere es w → Remains ys w v → ((who : Party) → list_any (starts_it who) ys ≡ true → IsActive v who) → LiveHere (es ++ ys) v
kept_live es ys w v i r begins who differ reg live = by (live_parts es ys who live).since
  where
    of_registry : LiveMore es ys Registry
    of_registry = live_parts es ys Registry reg

    reg_before : ((is_live es Registry ≡ true) ⊎ (list_any (starts_it Registry) ys ≡ true)) → is_live es Registry ≡ true
    reg_before (inl h) = h
    reg_before (inr h) = ap (λ b. not b) (or_left (list_any (stops_it Registry) es) (list_any (stops_it Registry) ys) (sym (any_append (stops_it Registry) es ys) ∙ no_stop (es ++ ys) Registry reg))

    now : (IsActive v who ⊎ ((list_any (stops_it who) ys ≡ true) ⊎ (list_any (stops_it Registry) ys ≡ true))) → IsActive v who
    now (inl a) = a
    now (inr (inl h)) = absurd (false_true (sym (live_parts es ys who live).going ∙ h))
    now (inr (inr h)) = absurd (false_true (sym of_registry.going ∙ h))

    by : ((is_live es who ≡ true) ⊎ (list_any (starts_it who) ys ≡ true)) → IsActive v who
    by (inl h) = now (r who (i who differ (reg_before of_registry.since) h))
    by (inr h) = begins who h

-- ends that stay as they stood
pub record Standing_on (e d : End) : Type 0 where
  pub whose : d.who ≡ e.who
  pub on : e.standing ≡ here → d.standing ≡ here

standing_on : IsOrder Standing_on
standing_on = record {
  same = λ e. record { whose = refl; on = λ h. h };
  both = λ e d c f g. record { whose = g.whose ∙ f.whose; on = λ h. g.on (f.on h) };
}

pub forward : (R : End → End → Type 0) (a b : List End) (k : ℕ) (e : End) → Over R a b → end_at a k ≡ Some e → (d : End) × (end_at b k ≡ Some d) × R e d
forward R a b k e o h =
    let below : k < length b = subst (λ n. k < n) (sym o.size) (at_below a k e h) in
    let at : end_at b k ≡ Some (get_or b k e) = slice_get-get_or b k e below in
    let x = o.back k (get_or b k e) at in
    (get_or b k e, at, subst (λ y. R y (get_or b k e)) (same_some x.0 e (sym x.1 ∙ h)) x.2)

over_remains : (ys : List Entry) (w v : World) → Over Standing_on w.ends v.ends → Remains ys w v
over_remains ys w v o who a =
    let x = forward Standing_on w.ends v.ends a.conn a.e o a.there in
    inl (record { conn = a.conn; e = x.0; there = x.1; whose = x.2.whose ∙ a.whose; standing = x.2.on a.standing })

-- no start, and everybody stays
still_live : (es ys : List Entry) (w v : World) → LiveHere es w → AllByRecursion NotStart ys → Over Standing_on w.ends v.ends → LiveHere (es ++ ys) v
still_live es ys w v i n o = kept_live es ys w v i (over_remains ys w v o) (λ who h. absurd (false_true (sym (not_started who ys n) ∙ h)))

-- WHO SAYS HELLO
abbrev pub SaysHello : End → Type 0
SaysHello e = (said : Said) × (rest : List Said) × (e.up ≡ said ∷ rest) × (is_hello said.message ≡ true)

pub record Greeted (w : World) : Type 0 where
  pub hello : (k : ℕ) (e : End) → end_at w.ends k ≡ Some e → e.standing ≡ here → unique_of w.bus.state.owners k ≡ None → SaysHello e
  pub due : AllByRecursion ForRoom w.bus.waiting.due

-- what is in front of an up link stays there
pub record Fronts (e d : End) : Type 0 where
  pub was_here : d.standing ≡ here → e.standing ≡ here
  pub front : d.standing ≡ here → SaysHello e → SaysHello d

fronting : IsOrder Fronts
fronting = record {
  same = λ e. record { was_here = λ h. h; front = λ h s. s };
  both = λ e d c f g. record { was_here = λ h. f.was_here (g.was_here h); front = λ h s. g.front h (f.front (g.was_here h) s) };
}

longer : (e : End) (more : List Said) → SaysHello e → SaysHello (put_up more e)
longer e more s = (s.0, s.1 ++ more, ap (λ l. l ++ more) s.2, s.3)

still_greeted : (w v : World) → Greeted w → Over Fronts w.ends v.ends → v.bus.state.owners ≡ w.bus.state.owners → v.bus.waiting.due ≡ w.bus.waiting.due → Greeted v
still_greeted w v i o owners due = record {
  hello = λ k e h stands none.
      let x = o.back k e h in
      x.2.front stands (i.hello k x.0 x.1 (x.2.was_here stands) (ap (λ u. unique_of u k) (sym owners) ∙ none));
  due = subst (AllByRecursion ForRoom) (sym due) i.due;
}

-- THE BUS
-- who was closed is gone
abbrev GoneAt : List End → Closing → Type 0
GoneAt ends c = (d : End) → end_at ends c.conn ≡ Some d → is_here d.standing ≡ false

pub closed_gone : (ends : List End) (k : ℕ) (cs : List Closing) → AllByRecursion (GoneAt ends) cs → list_any (is_of k) cs ≡ true → (d : End) → end_at ends k ≡ Some d → is_here d.standing ≡ false
closed_gone ends k [] a h d at = absurd (false_true h)
closed_gone ends k (c ∷ cs) a h d at = by (c.conn == k) refl h (λ s. closed_gone ends k cs a.1 s d at)
  where
    by : (b : Bool) → (c.conn == k) ≡ b → (b || list_any (is_of k) cs) ≡ true → (list_any (is_of k) cs ≡ true → is_here d.standing ≡ false) → is_here d.standing ≡ false
    by true g s ih = a.0 d (ap (end_at ends) (eqb-true c.conn k g) ∙ at)
    by false g s ih = ih s

-- and told, or the registry was
or_true : (a b : Bool) → b ≡ true → (a || b) ≡ true
or_true true b h = refl
or_true false b h = h

any_behind : (p : Entry → Bool) (xs ys : List Entry) → list_any p ys ≡ true → list_any p (xs ++ ys) ≡ true
any_behind p xs ys h = any_append p xs ys ∙ or_true (list_any p xs) (list_any p ys) h

closed_told : (ends : List End) (own : List Envelope) (k : ℕ) (cs : List Closing) → AllByRecursion ToldForRoom cs → list_any (is_of k) cs ≡ true
    → (list_any (stops_it (party_at ends k)) (bus_entries ends own cs) ≡ true) ⊎ (list_any (stops_it Registry) (bus_entries ends own cs) ≡ true)
closed_told ends own k [] a h = absurd (false_true h)
closed_told ends own k (c ∷ cs) a h = by (c.conn == k) refl h (λ s. closed_told ends (filter (λ e. not (is_upto c.after e)) own) k cs a.1 s)
  where
    who : Party
    who = party_at ends c.conn

    front : List Entry
    front = sent_by_bus (filter (is_upto c.after) own)

    rest : List Entry
    rest = bus_entries ends (filter (λ e. not (is_upto c.after e)) own) cs

    told : (why : Why) → is_quota why ≡ true → (p : Party) → same_party who p ≡ true → list_any (stops_it p) (dropped_if who why ++ (if same_party who Registry then [] else rest)) ≡ true
    told (Quota queued len) q p same = ap (λ b. b || list_any (stops_it p) (if same_party who Registry then [] else rest)) same
    told NotHello q p same = absurd (false_true q)

    later : (why : Why) (p : Party) (b : Bool) → b ≡ false → list_any (stops_it p) rest ≡ true → list_any (stops_it p) (dropped_if who why ++ (if b then [] else rest)) ≡ true
    later why p true g s = absurd (false_true (sym g))
    later why p false g s = any_behind (stops_it p) (dropped_if who why) rest s

    other : (b : Bool) → same_party who Registry ≡ b → ((list_any (stops_it (party_at ends k)) rest ≡ true) ⊎ (list_any (stops_it Registry) rest ≡ true))
        → (list_any (stops_it (party_at ends k)) (front ++ (dropped_if who c.why ++ (if same_party who Registry then [] else rest))) ≡ true)
        ⊎ (list_any (stops_it Registry) (front ++ (dropped_if who c.why ++ (if same_party who Registry then [] else rest))) ≡ true)
    other true g s = inr (any_behind (stops_it Registry) front _ (told c.why a.0 Registry g))
    other false g (inl s) = inl (any_behind (stops_it (party_at ends k)) front _ (later c.why (party_at ends k) (same_party who Registry) g s))
    other false g (inr s) = inr (any_behind (stops_it Registry) front _ (later c.why Registry (same_party who Registry) g s))

    by : (b : Bool) → (c.conn == k) ≡ b → (b || list_any (is_of k) cs) ≡ true
        → (list_any (is_of k) cs ≡ true → (list_any (stops_it (party_at ends k)) rest ≡ true) ⊎ (list_any (stops_it Registry) rest ≡ true))
        → (list_any (stops_it (party_at ends k)) (front ++ (dropped_if who c.why ++ (if same_party who Registry then [] else rest))) ≡ true)
        ⊎ (list_any (stops_it Registry) (front ++ (dropped_if who c.why ++ (if same_party who Registry then [] else rest))) ≡ true)
    by true g s ih =
        inl (any_behind (stops_it (party_at ends k)) front _ (told c.why a.0 (party_at ends k) (ap (λ j. same_party who (party_at ends j)) (sym (eqb-true c.conn k g)) ∙ party-same who)))
    by false g s ih = other (same_party who Registry) refl (ih s)

-- what became of an end that was here
module _ (ys front : List Entry) (c : Carried) (v : World) (ends : v.ends ≡ c.ends) (wrote : ys ≡ front ++ bus_entries c.ends c.bus.own c.bus.closings) (told : AllByRecursion ToldForRoom c.bus.closings) where
  became : (k : ℕ) (d : End) (who : Party) → end_at c.ends k ≡ Some d → d.who ≡ who → (d.standing ≡ here) ⊎ (list_any (is_of k) c.bus.closings ≡ true)
      → IsActive v who ⊎ ((list_any (stops_it who) ys ≡ true) ⊎ (list_any (stops_it Registry) ys ≡ true))
  became k d who at is (inl h) = inl (record { conn = k; e = d; there = ap (λ l. end_at l k) ends ∙ at; whose = is; standing = h })
  became k d who at is (inr h) = inr (by (closed_told c.ends c.bus.own k c.bus.closings told h))
    where
      mine : party_at c.ends k ≡ who
      mine = ap whose at ∙ is

      by : ((list_any (stops_it (party_at c.ends k)) (bus_entries c.ends c.bus.own c.bus.closings) ≡ true) ⊎ (list_any (stops_it Registry) (bus_entries c.ends c.bus.own c.bus.closings) ≡ true))
          → (list_any (stops_it who) ys ≡ true) ⊎ (list_any (stops_it Registry) ys ≡ true)
      by (inl s) = inl (ap (list_any (stops_it who)) wrote ∙ any_behind (stops_it who) front _ (subst (λ p. list_any (stops_it p) (bus_entries c.ends c.bus.own c.bus.closings) ≡ true) mine s))
      by (inr s) = inr (ap (list_any (stops_it Registry)) wrote ∙ any_behind (stops_it Registry) front _ s)

  stands_on : (base : List End) (named_ : ℕ → Type 0) (k : ℕ) (x d : End) (who : Party) → end_at base k ≡ Some x → x.standing ≡ here → end_at c.ends k ≡ Some d → d.who ≡ who → Since base named_ c k
      → IsActive v who ⊎ ((list_any (stops_it who) ys ≡ true) ⊎ (list_any (stops_it Registry) ys ≡ true))
  stands_on base named_ k x d who at stands there is s = became k d who there is (by (s.stands d there))
    where
      by : (((y : End) × (end_at base k ≡ Some y) × AsItWas y d) ⊎ (list_any (is_of k) c.bus.closings ≡ true)) → (d.standing ≡ here) ⊎ (list_any (is_of k) c.bus.closings ≡ true)
      by (inl y) = inl (y.2.standing ∙ ap (λ (z : End). z.standing) (same_some y.0 x (sym y.1 ∙ at)) ∙ stands)
      by (inr h) = inr h

not_here : (d : End) → is_here d.standing ≡ false → d.standing ≡ here → ⊥
not_here d h g = false_true (sym h ∙ ap is_here g)

none_some : (o : Option (List ℕ)) → o ≡ None → is_some o ≡ true → ⊥
none_some o h g = false_true (ap is_some (sym h) ∙ g)

-- where it is to be said that nothing waits each end that is here and has no name says Hello
hello_after : (base : List End) (named_ : ℕ → Type 0) (leaver : ℕ → Type 0) (c : Carried) → Settling base named_ leaver c → AllByRecursion (GoneAt c.ends) c.bus.closings → (k : ℕ) (d : End) → (leaver k → ⊥) → end_at c.ends k ≡ Some d → d.standing ≡ here
    → unique_of c.bus.state.owners k ≡ None → ((named_ k → ⊥) → (x : End) → end_at base k ≡ Some x → x.standing ≡ here → SaysHello x) → SaysHello d
hello_after base named_ leaver c r gone k d stays at stands none f = by ((r.since k stays).stands d at)
  where
    not_closed : list_any (is_of k) c.bus.closings ≡ true → ⊥
    not_closed h = not_here d (closed_gone c.ends k c.bus.closings gone h d at) stands

    unnamed : named_ k → ⊥
    unnamed n = at_name ((r.since k stays).named n)
      where
        at_name : ((is_some (unique_of c.bus.state.owners k) ≡ true) ⊎ (list_any (is_of k) c.bus.closings ≡ true)) → ⊥
        at_name (inl g) = none_some (unique_of c.bus.state.owners k) none g
        at_name (inr g) = not_closed g

    by : (((y : End) × (end_at base k ≡ Some y) × AsItWas y d) ⊎ (list_any (is_of k) c.bus.closings ≡ true)) → SaysHello d
    by (inl y) = let s = f unnamed y.0 y.1 (sym y.2.standing ∙ stands) in (s.0, s.1, y.2.up ∙ s.2, s.3)
    by (inr h) = absurd (not_closed h)

-- THE STATE
abbrev pub Present : List Entry → World → Type 0
Present es w = Greeted w × LiveHere es w

module _ (es : List Entry) (w : World) (d : Done) (s : Shape w) (t : IsTold w) (i : Present es w) where
  -- the bus takes a message
  took_present : BusTakes w d → Over Lasts w.ends d.world.ends → Present (es ++ d.entries) d.world
  took_present b o = (
    record { hello = hello; due = subst (λ x. AllByRecursion ForRoom x.world.bus.waiting.due) (sym b.is) r.due },
    kept_live es d.entries w d.world i.1 remains (λ who h. absurd (false_true (sym (not_started who d.entries quiet) ∙ h))),
  )
    where
      c0 : Carried
      c0 = record { bus = w.bus; ends = w.ends }

      c : Carried
      c = carrying.takes c0 b.conn b.e.who b.said

      base : List End
      base = with_end b.conn taken_up w.ends

      greets : Greets w.bus.state b.conn b.said.message
      greets = by (unique_of w.bus.state.owners b.conn) refl
        where
          by : (o : Option (List ℕ)) → unique_of w.bus.state.owners b.conn ≡ o → Greets w.bus.state b.conn b.said.message
          by (Some name) h = inl (ap is_some h)
          by None h =
              let y = i.0.hello b.conn b.e b.is_here.there b.is_here.standing h in
              let same : y.0 ≡ b.said = ap (first_said b.said) (sym y.2 ∙ b.link) ∙ refl in
              inr (subst (λ (m : Said). is_hello m.message ≡ true) same y.3)
            where
              first_said : Said → List Said → Said
              first_said z [] = z
              first_said z (x ∷ xs) = x

      r : Settling base (NamedThen c0 b.conn) Nobody c
      r = takes_settling c0 b.conn b.e.who b.said i.0.due t.closings greets

      gone : AllByRecursion (GoneAt c.ends) c.bus.closings
      gone = takes_closes c0 b.conn b.e.who b.said t.closings

      ends : d.world.ends ≡ c.ends
      ends = ap (λ x. x.world.ends) b.is

      wrote : d.entries ≡ (got The_bus b.e.who b.said.message.serial ∷ []) ++ bus_entries c.ends c.bus.own c.bus.closings
      wrote = ap (λ x. x.entries) b.is

      quiet : AllByRecursion NotStart d.entries
      quiet = none_of d _ b.is (tt, bus_no_start c.ends c.bus.own c.bus.closings)

      -- an end behind that message
      base_at : (k : ℕ) (x : End) → end_at w.ends k ≡ Some x → x.standing ≡ here → (y : End) × (end_at base k ≡ Some y) × (y.standing ≡ here)
      base_at k x at stands =
          let y = forward Standing_on w.ends base k x (over_with Standing_on standing_on taken_up (λ z. record { whose = refl; on = λ h. h }) b.conn w.ends) at in (y.0, y.1, y.2.on stands)

      remains : Remains d.entries w d.world
      remains who a =
          let y = base_at a.conn a.e a.there a.standing in
          let z = forward Lasts w.ends d.world.ends a.conn a.e o a.there in
          stands_on d.entries (got The_bus b.e.who b.said.message.serial ∷ []) c d.world ends wrote r.told base (NamedThen c0 b.conn) a.conn y.0 z.0 who y.1 y.2 (ap (λ l. end_at l a.conn) (sym ends) ∙ z.1)
          (z.2.whose ∙ a.whose) (r.since a.conn (λ x. x))

      hello : (k : ℕ) (e : End) → end_at d.world.ends k ≡ Some e → e.standing ≡ here → unique_of d.world.bus.state.owners k ≡ None → SaysHello e
      hello k e at stands none =
          hello_after base (NamedThen c0 b.conn) Nobody c r gone k e (λ x. x) (ap (λ l. end_at l k) (sym ends) ∙ at) stands (ap (λ x. unique_of x.world.bus.state.owners k) (sym b.is) ∙ none) before
        where
          before : (NamedThen c0 b.conn k → ⊥) → (x : End) → end_at base k ≡ Some x → x.standing ≡ here → SaysHello x
          before unnamed x there on = by (with_cases taken_up w.ends b.conn k x there)
            where
              not_some : (o : Option (List ℕ)) → (is_some o ≡ true → ⊥) → o ≡ None
              not_some None f = refl
              not_some (Some name) f = absurd (f refl)

              by : ((y : End) × (end_at w.ends k ≡ Some y) × (((k ≡ b.conn) × (x ≡ taken_up y)) ⊎ ((k ≡ b.conn → ⊥) × (x ≡ y)))) → SaysHello x
              by g = at_case g.2
                where
                  at_case : (((k ≡ b.conn) × (x ≡ taken_up g.0)) ⊎ ((k ≡ b.conn → ⊥) × (x ≡ g.0))) → SaysHello x
                  at_case (inl h) = absurd (unnamed (inr h.0))
                  at_case (inr h) =
                      subst SaysHello (sym h.1)
                      (i.0.hello k g.0 g.1 (ap (λ (z : End). z.standing) (sym h.1) ∙ on) (not_some (unique_of w.bus.state.owners k) (λ n. unnamed (inl n))))

  -- it takes the end of one that stopped
  ended_present : BusEnds w d → Over Lasts w.ends d.world.ends → Present (es ++ d.entries) d.world
  ended_present b o = (
    record { hello = hello; due = subst (λ x. AllByRecursion ForRoom x.world.bus.waiting.due) (sym b.is) r.due },
    kept_live es d.entries w d.world i.1 remains (λ who h. absurd (false_true (sym (not_started who d.entries quiet) ∙ h))),
  )
    where
      c0 : Carried
      c0 = record { bus = w.bus; ends = w.ends }

      c : Carried
      c = carrying.takes_end c0 b.conn

      Had_name : ℕ → Type 0
      Had_name k = is_some (unique_of w.bus.state.owners k) ≡ true

      Leaver : ℕ → Type 0
      Leaver k = b.conn ≡ k

      r : Settling w.ends Had_name Leaver c
      r = ends_settling c0 b.conn i.0.due t.closings

      gone : AllByRecursion (GoneAt c.ends) c.bus.closings
      gone = ends_closes c0 b.conn t.closings

      ends : d.world.ends ≡ c.ends
      ends = ap (λ x. x.world.ends) b.is

      wrote : d.entries ≡ [] ++ bus_entries c.ends c.bus.own c.bus.closings
      wrote = ap (λ x. x.entries) b.is

      quiet : AllByRecursion NotStart d.entries
      quiet = none_of d _ b.is (bus_no_start c.ends c.bus.own c.bus.closings)

      -- the one that stopped is not here
      no_leaver : (k : ℕ) (e : End) → end_at w.ends k ≡ Some e → e.standing ≡ here → b.conn ≡ k → ⊥
      no_leaver k e at stands same =
          let one : b.e ≡ e = same_some b.e e (sym b.there ∙ ap (end_at w.ends) same ∙ at) in
          false_true (ap is_here (sym b.standing ∙ ap (λ (z : End). z.standing) one ∙ stands))

      -- and does not come back
      gone_leaver : (k : ℕ) (e : End) → end_at d.world.ends k ≡ Some e → e.standing ≡ here → b.conn ≡ k → ⊥
      gone_leaver k e at stands same =
          let x = o.back k e at in
          let one : b.e ≡ x.0 = same_some b.e x.0 (sym b.there ∙ ap (end_at w.ends) same ∙ x.1) in
          not_here e (x.2.gone (ap (λ (z : End). is_here z.standing) (sym one) ∙ ap is_here b.standing)) stands

      remains : Remains d.entries w d.world
      remains who a =
          let z = forward Lasts w.ends d.world.ends a.conn a.e o a.there in
          stands_on d.entries [] c d.world ends wrote r.told w.ends Had_name a.conn a.e z.0 who a.there a.standing (ap (λ l. end_at l a.conn) (sym ends) ∙ z.1)
          (z.2.whose ∙ a.whose) (r.since a.conn (no_leaver a.conn a.e a.there a.standing))

      hello : (k : ℕ) (e : End) → end_at d.world.ends k ≡ Some e → e.standing ≡ here → unique_of d.world.bus.state.owners k ≡ None → SaysHello e
      hello k e at stands none =
          hello_after w.ends Had_name Leaver c r gone k e (gone_leaver k e at stands) (ap (λ l. end_at l k) (sym ends) ∙ at) stands (ap (λ x. unique_of x.world.bus.state.owners k) (sym b.is) ∙ none)
          (λ unnamed x there on. i.0.hello k x there on (not_some (unique_of w.bus.state.owners k) unnamed))
        where
          not_some : (o : Option (List ℕ)) → (is_some o ≡ true → ⊥) → o ≡ None
          not_some None f = refl
          not_some (Some name) f = absurd (f refl)

  -- an end joins
  joined_present : (n : End) (name : Option (List ℕ)) (rest : List Entry) → d.world.ends ≡ w.ends ++ n ∷ [] → d.entries ≡ started n.who name ∷ rest → AllByRecursion NotStart rest → n.standing ≡ here → SaysHello n
      → d.world.bus.state.owners ≡ w.bus.state.owners → d.world.bus.waiting.due ≡ w.bus.waiting.due → Present (es ++ d.entries) d.world
  joined_present n name rest is wrote quiet stands says owners due = (
    record {
      hello = λ k e at on none. hello k e on (ap (λ u. unique_of u k) (sym owners) ∙ none) (joined_cases w.ends n k e (ap (λ l. end_at l k) (sym is) ∙ at));
      due = subst (AllByRecursion ForRoom) (sym due) i.0.due;
    },
    kept_live es d.entries w d.world i.1 (λ who a. inl (record { conn = a.conn; e = a.e; there = ap (λ l. end_at l a.conn) is ∙ at_front w.ends n a.conn a.e a.there; whose = a.whose; standing = a.standing })) begins,
  )
    where
      hello : (k : ℕ) (e : End) → e.standing ≡ here → unique_of w.bus.state.owners k ≡ None → ((end_at w.ends k ≡ Some e) ⊎ ((k ≡ length w.ends) × (e ≡ n))) → SaysHello e
      hello k e on none (inl h) = i.0.hello k e h on none
      hello k e on none (inr h) = subst SaysHello (sym h.1) says

      begins : (who : Party) → list_any (starts_it who) d.entries ≡ true → IsActive d.world who
      begins who h = by (same_party n.who who) refl (sym (ap (list_any (starts_it who)) wrote) ∙ h)
        where
          by : (b : Bool) → same_party n.who who ≡ b → (same_party n.who who || list_any (starts_it who) rest) ≡ true → IsActive d.world who
          by true g k = record { conn = length w.ends; e = n; there = ap (λ l. end_at l (length w.ends)) is ∙ last_at w.ends n; whose = same-party n.who who g; standing = stands }
          by false g k = absurd (false_true (sym (ap (λ b. b || list_any (starts_it who) rest) g ∙ not_started who rest quiet) ∙ k))

  -- ends that stay
  stay_present : Over Fronts w.ends d.world.ends → Over Standing_on w.ends d.world.ends → AllByRecursion NotStart d.entries → d.world.bus.state.owners ≡ w.bus.state.owners → d.world.bus.waiting.due ≡ w.bus.waiting.due
      → Present (es ++ d.entries) d.world
  stay_present f o n owners due = (still_greeted w d.world i.0 f owners due, still_live es d.entries w d.world i.1 n o)

-- CHANGES OF ONE END
pub record Steady (e d : End) : Type 0 where
  pub fronts : Fronts e d
  pub on : Standing_on e d

steady : IsOrder Steady
steady = record {
  same = λ e. record { fronts = fronting.same e; on = standing_on.same e };
  both = λ e d c f g. record { fronts = fronting.both e d c f.fronts g.fronts; on = standing_on.both e d c f.on g.on };
}

alike : (e d : End) → d.who ≡ e.who → d.standing ≡ e.standing → (SaysHello e → SaysHello d) → Steady e d
alike e d who standing f = record { fronts = record { was_here = λ h. sym standing ∙ h; front = λ h s. f s }; on = record { whose = who; on = λ h. standing ∙ h } }

down_steady : (e : End) → Steady e (taken_down e)
down_steady e = alike e (taken_down e) refl refl (λ s. s)

done_steady : (s t : Exporter) (e : End) → Steady e (has_done s t e)
done_steady s t e = alike e (has_done s t e) refl refl (longer e (saids s s.tree None t.out))

sends_steady : (h : Hearer) (m : Envelope) (e : End) → Steady e (reader_sends h m e)
sends_steady h m e = alike e (reader_sends h m e) refl refl (longer e _)

fronts_of : (a b : List End) → Over Steady a b → Over Fronts a b
fronts_of a b o = record { size = o.size; back = λ k d h. let x = o.back k d h in (x.0, x.1, x.2.fronts) }

on_of : (a b : List End) → Over Steady a b → Over Standing_on a b
on_of a b o = record { size = o.size; back = λ k d h. let x = o.back k d h in (x.0, x.1, x.2.on) }

asks_steady : (m : Envelope) (question : Question) (e : End) → Steady e (asks_at m question e)
asks_steady m question e = by e.role
  where
    by : (role : Role) → Steady e (asks_as role m question e)
    by (a_reader h) = sends_steady (asks question h) m e
    by (the_registry s) = steady.same e
    by (an_application s) = steady.same e

module _ (es : List Entry) (w : World) (d : Done) (s : Shape w) (t : IsTold w) (i : Present es w) where
  by_steady : Over Steady w.ends d.world.ends → AllByRecursion NotStart d.entries → d.world.bus.state.owners ≡ w.bus.state.owners → d.world.bus.waiting.due ≡ w.bus.waiting.due → Present (es ++ d.entries) d.world
  by_steady o n owners due = stay_present es w d s t i (fronts_of w.ends d.world.ends o) (on_of w.ends d.world.ends o) n owners due

  by_end : (f : End → End) (conn : ℕ) → ((e : End) → Steady e (f e)) → d.world.ends ≡ with_end conn f w.ends → AllByRecursion NotStart d.entries → d.world.bus.state.owners ≡ w.bus.state.owners → d.world.bus.waiting.due ≡ w.bus.waiting.due
      → Present (es ++ d.entries) d.world
  by_end f conn k is n owners due = by_steady (subst (Over Steady w.ends) (sym is) (over_with Steady steady f k conn w.ends)) n owners due

  by_both : (f : End → End) (conn : ℕ) → ((e : End) → Steady e (f e)) → d.world.ends ≡ with_end conn f (with_end conn taken_down w.ends) → AllByRecursion NotStart d.entries → d.world.bus.state.owners ≡ w.bus.state.owners
      → d.world.bus.waiting.due ≡ w.bus.waiting.due → Present (es ++ d.entries) d.world
  by_both f conn k is n owners due =
      by_steady
      (subst (Over Steady w.ends) (sym is)
      (over_both Steady steady w.ends (with_end conn taken_down w.ends) (with_end conn f (with_end conn taken_down w.ends)) (over_with Steady steady taken_down down_steady conn w.ends)
      (over_with Steady steady f k conn (with_end conn taken_down w.ends)))) n owners due

  by_same : d.world.ends ≡ w.ends → AllByRecursion NotStart d.entries → d.world.bus.state.owners ≡ w.bus.state.owners → d.world.bus.waiting.due ≡ w.bus.waiting.due → Present (es ++ d.entries) d.world
  by_same is n owners due = by_steady (subst (Over Steady w.ends) (sym is) (over_same Steady steady w.ends)) n owners due

  -- an end stops
  stopping_present : Stopping w d → Present (es ++ d.entries) d.world
  stopping_present b = (
    still_greeted w d.world i.0 (subst (Over Fronts w.ends) (sym is) (over_with Fronts fronting stops stop_fronts b.conn w.ends)) (ap (λ x. x.world.bus.state.owners) b.is) (ap (λ x. x.world.bus.waiting.due) b.is),
    kept_live es d.entries w d.world i.1 remains (λ who h. absurd (false_true (sym (not_started who d.entries (none_of d _ b.is (tt, tt))) ∙ h))),
  )
    where
      is : d.world.ends ≡ with_end b.conn stops w.ends
      is = ap (λ x. x.world.ends) b.is

      wrote : d.entries ≡ exited b.e.who ∷ []
      wrote = ap (λ x. x.entries) b.is ∙ ap (λ o. exited (whose o) ∷ []) b.is_here.there

      no_stopped : stopped ≡ here → ⊥
      no_stopped h = false_true (ap is_here h)

      stop_fronts : (e : End) → Fronts e (stops e)
      stop_fronts e = record { was_here = λ h. absurd (no_stopped h); front = λ h g. absurd (no_stopped h) }

      remains : Remains d.entries w d.world
      remains who a = by (same_party b.e.who who) refl
        where
          by : (t : Bool) → same_party b.e.who who ≡ t → IsActive d.world who ⊎ ((list_any (stops_it who) d.entries ≡ true) ⊎ (list_any (stops_it Registry) d.entries ≡ true))
          by true g = inr (inl (ap (list_any (stops_it who)) wrote ∙ ap (λ x. x || false) g))
          by false g =
              let x = forward (λ e y. (y ≡ e) ⊎ (y ≡ stops e)) w.ends (with_end b.conn stops w.ends) a.conn a.e either a.there in
              inl (other x.0 x.1)
            where
              either : Over (λ e y. (y ≡ e) ⊎ (y ≡ stops e)) w.ends (with_end b.conn stops w.ends)
              either = record {
                size = (over_with Standing_any any_order stops (λ e. tt) b.conn w.ends).size;
                back = λ k y h. let g = with_cases stops w.ends b.conn k y h in (g.0, g.1, at g.0 k y g.2);
              }
                where
                  Standing_any : End → End → Type 0
                  Standing_any e y = Unit {0}

                  any_order : IsOrder Standing_any
                  any_order = record { same = λ e. tt; both = λ e y c f g. tt }

                  at : (e : End) (k : ℕ) (y : End) → (((k ≡ b.conn) × (y ≡ stops e)) ⊎ ((k ≡ b.conn → ⊥) × (y ≡ e))) → (y ≡ e) ⊎ (y ≡ stops e)
                  at e k y (inl h) = inr h.1
                  at e k y (inr h) = inl h.1

              other : (y : End) → end_at (with_end b.conn stops w.ends) a.conn ≡ Some y → IsActive d.world who
              other y there = at (with_cases stops w.ends b.conn a.conn y there)
                where
                  at : ((e : End) × (end_at w.ends a.conn ≡ Some e) × (((a.conn ≡ b.conn) × (y ≡ stops e)) ⊎ ((a.conn ≡ b.conn → ⊥) × (y ≡ e)))) → IsActive d.world who
                  at z = one z.2
                    where
                      one : (((a.conn ≡ b.conn) × (y ≡ stops z.0)) ⊎ ((a.conn ≡ b.conn → ⊥) × (y ≡ z.0))) → IsActive d.world who
                      one (inl h) =
                          let same : a.e ≡ b.e = same_some a.e b.e (sym a.there ∙ ap (end_at w.ends) h.0 ∙ b.is_here.there) in
                          absurd (false_true (sym g ∙ ap (λ p. same_party p who) (ap (λ (n : End). n.who) (sym same) ∙ a.whose) ∙ party-same who))
                      one (inr h) =
                          let same : y ≡ a.e = h.1 ∙ same_some z.0 a.e (sym z.1 ∙ a.there) in
                          record {
                            conn = a.conn;
                            e = y;
                            there = ap (λ l. end_at l a.conn) is ∙ there;
                            whose = ap (λ (n : End). n.who) same ∙ a.whose;
                            standing = ap (λ (n : End). n.standing) same ∙ a.standing;
                          }

-- AT THE BEGINNING
first_registry_named : (quota : ℕ) → is_some (unique_of (first_world quota).bus.state.owners 0) ≡ true
first_registry_named quota = ap is_some (get-from_sorted nat_cmp first_unique 0 tt)

first_present : (es : List Entry) (quota : ℕ) → ((who : Party) → (who ≡ The_bus → ⊥) → is_live es Registry ≡ true → is_live es who ≡ true → who ≡ Registry) → Present es (first_world quota)
first_present es quota only_it = (
  record { hello = λ k e at stands none. by k e at none; due = tt },
  λ who differ reg live. record { conn = 0; e = first_registry; there = refl; whose = sym (only_it who differ reg live); standing = refl },
)
  where
    by : (k : ℕ) (e : End) → end_at (first_world quota).ends k ≡ Some e → unique_of (first_world quota).bus.state.owners k ≡ None → SaysHello e
    by zero e h none = absurd (none_some (unique_of (first_world quota).bus.state.owners 0) none (first_registry_named quota))
    by (suc k) e h none = absurd (no_none e h)

begins_present : Present [] (first_world QUOTA_MOST)
begins_present = first_present [] QUOTA_MOST (λ who differ reg live. by (same_party who Registry) refl (sym live))
  where
    by : {who : Party} → (b : Bool) → same_party who Registry ≡ b → true ≡ is_live [] who → who ≡ Registry
    by {who} true g h = same-party who Registry g
    by {who} false g h = absurd (false_true (sym (h ∙ ap (λ b. (b || false) && true) g)))

anew : (es : List Entry) (w : World) (d : Done) (quota : ℕ) → Shape w → Present es w → nat_lt 1 (length w.ends) ≡ false → d ≡ only (first_world quota) [] → Present (es ++ d.entries) d.world
anew es w d quota s i few is =
    subst (λ x. Present (es ++ x.entries) x.world) (sym is)
    (first_present (es ++ []) quota (λ who differ reg live. by who (i.1 who differ (subst (λ l. is_live l Registry ≡ true) (append-nil es) reg) (subst (λ l. is_live l who ≡ true) (append-nil es) live)) s.alone))
  where
    by : (who : Party) → IsActive w who → ((2 ≤ length w.ends) ⊎ (w ≡ first_world w.bus.quota)) → who ≡ Registry
    by who a (inl two) = let less : length w.ends ≤ 1 = ltb-false 1 (length w.ends) few in absurd (omega (arith, two, less))
    by who a (inr h) = sym a.whose ∙ at a.conn a.e (ap (λ (v : World). end_at v.ends a.conn) (sym h) ∙ a.there)
      where
        at : (k : ℕ) (e : End) → end_at (first_registry ∷ []) k ≡ Some e → e.who ≡ Registry
        at zero e g = ap (λ (x : End). x.who) (sym (same_some first_registry e g))
        at (suc k) e g = absurd (no_none e g)

-- EACH CAUSE
app_hello : (w : World) (name : List ℕ) → SaysHello (new_app w name)
app_hello w name = (record { message = _; tree = _; announces = None }, [], refl, refl)

reader_hello : (w : World) → SaysHello (new_reader w)
reader_hello w = (_, [], refl, refl)

caused : (es : List Entry) (w : World) (d : Done) → Shape w → IsTold w → Present es w → Effect w d → Present (es ++ d.entries) d.world
caused es w d s t i (resets quota few is) = anew es w d quota s i few is
caused es w d s t i (app_joins name short is) =
    joined_present es w d s t i (new_app w name) (Some name) _ (ap (λ x. x.world.ends) is ∙ app_joined w name) (ap (λ x. x.entries) is) (did_no_start (number_of (party_at (w.ends ++ put_up [] (newcomer (App (app_count w.ends)) (an_application (begins_app name))) ∷ []) (length w.ends))) (starts (begins_app name)).out) refl (app_hello w name)
    (ap (λ x. x.world.bus.state.owners) is) (ap (λ x. x.world.bus.waiting.due) is)
caused es w d s t i (reader_joins few is) =
    joined_present es w d s t i (new_reader w) None _ (ap (λ x. x.world.ends) is) (ap (λ x. x.entries) is) (tt, tt) refl (reader_hello w)
    (ap (λ x. x.world.bus.state.owners) is) (ap (λ x. x.world.bus.waiting.due) is)
caused es w d s t i (app_edited b) =
    by_end es w d s t i (has_done b.before b.after) b.conn (done_steady b.before b.after) (ap (λ x. x.world.ends) b.is) (none_of d _ b.is (did_no_start _ b.after.out)) (ap (λ x. x.world.bus.state.owners) b.is) (ap (λ x. x.world.bus.waiting.due) b.is)
caused es w d s t i (app_took b) =
    let after : Exporter = app_takes b.before b.letter.said.message in
    by_both es w d s t i (has_done b.before after) b.conn (done_steady b.before after) (ap (λ x. x.world.ends) b.is) (none_of d _ b.is (tt, did_no_start _ after.out)) (ap (λ x. x.world.bus.state.owners) b.is)
    (ap (λ x. x.world.bus.waiting.due) b.is)
caused es w d s t i (reader_called b) =
    by_end es w d s t i (reader_sends (record b.hearer { next = suc b.hearer.next }) (user_call b.hearer.next b.name b.node b.deed)) b.conn (sends_steady _ _) (ap (λ x. x.world.ends) b.is) (none_of d _ b.is (tt, tt))
    (ap (λ x. x.world.bus.state.owners) b.is) (ap (λ x. x.world.bus.waiting.due) b.is)
caused es w d s t i (swapped b) = by_same es w d s t i (ap (λ x. x.world.ends) b.is) (none_of d _ b.is tt) (ap (λ x. x.world.bus.state.owners) b.is) (ap (λ x. x.world.bus.waiting.due) b.is)
caused es w d s t i (exited_ b) = stopping_present es w d s t i b
caused es w d s t i (showed_ b) = by_same es w d s t i (ap (λ x. x.world.ends) b.is) (none_of d _ b.is (tt, tt)) (ap (λ x. x.world.bus.state.owners) b.is) (ap (λ x. x.world.bus.waiting.due) b.is)
caused es w d s t i (told_busy turns is) = by_same es w d s t i (ap (λ x. x.world.ends) is) (none_of d _ is (tt, tt)) (ap (λ x. x.world.bus.state.owners) is) (ap (λ x. x.world.bus.waiting.due) is)
caused es w d s t i (told_quiet none is) = by_same es w d s t i (ap (λ x. x.world.ends) is) (none_of d _ is (tt, tt)) (ap (λ x. x.world.bus.state.owners) is) (ap (λ x. x.world.bus.waiting.due) is)
caused es w d s t i (bus_took b) = took_present es w d s t i b (bus_takes_over w d b)
caused es w d s t i (bus_ended b) = ended_present es w d s t i b (bus_ends_over w d b)
caused es w d s t i (registry_took b) =
    by_both es w d s t i (registry_did (registry_takes b.before b.letter.said.message)) b.conn (λ e. alike e (registry_did (registry_takes b.before b.letter.said.message) e) refl refl (longer e _)) (ap (λ x. x.world.ends) b.is)
    (none_of d _ b.is (tt, sent_no_start b.e.who (registry_takes b.before b.letter.said.message).sent)) (ap (λ x. x.world.bus.state.owners) b.is) (ap (λ x. x.world.bus.waiting.due) b.is)
caused es w d s t i (reader_took b) =
    let v : World = received w b.conn b.e b.letter in
    by_both es w d s t i (λ x. record x { role = a_reader (hears_letter b.hearer v.ends b.letter) }) b.conn (λ e. alike e (record e { role = a_reader (hears_letter b.hearer v.ends b.letter) }) refl refl (λ g. g)) (ap (λ x. x.world.ends) b.is)
    (none_of d _ b.is (tt, heard_all NotStart (λ r app line. tt) (λ r app. tt) (number_of b.e.who) b.hearer v.ends b.letter)) (ap (λ x. x.world.bus.state.owners) b.is) (ap (λ x. x.world.bus.waiting.due) b.is)

present_grows : Grows (And Nothing Tells) Present
present_grows = record {
  begins = begins_present;
  caused = λ es w d s a i e after b. caused es w d s a.1 i e;
  moved = λ es w v s a i m. by es w v i m;
  asked = λ es w conn r m question s a i asks.
      let v : World = at_end w conn (asks_at m question) in
      let o : Over Steady w.ends v.ends = over_with Steady steady (asks_at m question) (asks_steady m question) conn w.ends in
      (still_greeted w v i.0 (fronts_of w.ends v.ends o) refl refl, still_live es (sent (Reader r) m ∷ []) w v i.1 (tt, tt) (on_of w.ends v.ends o));
}
  where
    same_up : (n : ℕ) (e : End) → Steady e (record e { up_moved = e.up_moved + n })
    same_up n e = alike e (record e { up_moved = e.up_moved + n }) refl refl (λ g. g)

    same_down : (n : ℕ) (e : End) → Steady e (record e { down_moved = e.down_moved + n })
    same_down n e = alike e (record e { down_moved = e.down_moved + n }) refl refl (λ g. g)

    over : (es : List Entry) (w v : World) → Present es w → Over Steady w.ends v.ends → v.bus.state.owners ≡ w.bus.state.owners → v.bus.waiting.due ≡ w.bus.waiting.due → Present es v
    over es w v i o owners due =
        (still_greeted w v i.0 (fronts_of w.ends v.ends o) owners due, subst (λ l. LiveHere l v) (append-nil es) (still_live es [] w v i.1 tt (on_of w.ends v.ends o)))

    by : (es : List Entry) (w v : World) → Present es w → (MovedUp w v ⊎ MovedDown w v) → Present es v
    by es w v i (inl m) =
        over es w v i (subst (λ (x : World). Over Steady w.ends x.ends) (sym m.after) (over_with Steady steady (λ e. record e { up_moved = e.up_moved + m.count }) (same_up m.count) m.conn w.ends))
        (ap (λ (x : World). x.bus.state.owners) m.after) (ap (λ (x : World). x.bus.waiting.due) m.after)
    by es w v i (inr m) =
        over es w v i (subst (λ (x : World). Over Steady w.ends x.ends) (sym m.after) (over_with Steady steady (λ e. record e { down_moved = e.down_moved + m.count }) (same_down m.count) m.conn w.ends))
        (ap (λ (x : World). x.bus.state.owners) m.after) (ap (λ (x : World). x.bus.waiting.due) m.after)

pub present_keeps : Keeps (Shaped (And (And Nothing Tells) Present))
present_keeps = grown (And Nothing Tells) Present told_keeps present_grows
