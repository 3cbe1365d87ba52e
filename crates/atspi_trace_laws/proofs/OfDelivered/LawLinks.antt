-- The law of bus and links, along a lawful trace, as long as the registry lives.
use Rattle.std.proofs.Common.{◌≡◌, ◌⊎◌, inl, inr, ℕ, zero, suc, ◌+◌, ◌<◌, ◌≤◌, Bool, true, false, List, [], ◌∷◌, ◌++◌, length, None, Some, refl, sym, ap, ◌∙◌, subst, arith, cond, is_some, length-append}
use Rattle.std.specs.Prelude.{codes}
use Rattle.std.specs.List.{AllByRecursion}
use Rattle.std.specs.FinMap.{get-from_sorted}
use Rattle.std.specs.Ordering.{nat_cmp, eq_by_cmp}
use Rattle.std.proofs.lemmas.List.{append-nil, append_assoc}
use Rattle.atspi_script_lines.specs.declared.limits.TheConstants.{QUOTA_MOST}
use Rattle.atspi_script_lines.specs.declared.line.Line.{Line}
use Rattle.atspi_script_lines.specs.declared.line.Party.{Party}
use Rattle.atspi_script_lines.specs.declared.line.Party.TheVariants.{Bus as The_bus, Registry, App, Reader}
use Rattle.atspi_message.specs.Envelope.{Envelope}
use Rattle.atspi_names.specs.Owners.{own_name}
use Rattle.atspi_protocol.specs.registering.Steps.{registry_takes}
use Rattle.atspi_protocol.specs.exporting.Taking.{app_takes}
use Rattle.atspi_match.specs.routing.Members.{is_text}
use Rattle.atspi_protocol.specs.following.Calls.{user_call}
use Rattle.atspi_protocol.specs.declared.following.question.Question.{Question}
use Rattle.atspi_trace.specs.Entry.{Entry, sent, got}
use Rattle.atspi_trace.specs.World.{Role, the_registry, an_application, a_reader, Letter, first_unique, first_registry, first_world, End, World}
use Rattle.atspi_trace.specs.Ends.{number_of, end_at, with_end, rest_of, taken_down, stops}
use Rattle.atspi_trace.specs.Carrying as carrying
use Rattle.atspi_trace.specs.Carrying.{Carried, bus_entries}
use Rattle.atspi_trace.specs.Hearing.{hears_letter}
use Rattle.atspi_trace.specs.Causes.{Done, at_end, has_done, reader_sends, registry_did}
use Rattle.atspi_trace.specs.Due.{asks_as, asks_at, begins, Goes}
use Rattle.atspi_trace_laws.specs.laws.Words.{messages, message}
use Rattle.atspi_trace_laws.specs.laws.NineLaws.{Everywhere, HasNextSerial, WasSent, LawOfLinks}
use Rattle.atspi_trace_laws.specs.order.Scripts.{CanAllStand}
use Rattle.atspi_trace_laws.proofs.OfOrder.Parties.{no_none, same_some}
use Rattle.atspi_trace_laws.proofs.OfOrder.Allowed.{MovedUp, MovedDown}
use Rattle.atspi_trace_laws.proofs.OfOrder.Frame.{Over, over_same, over_both, over_with, joined_cases}
use Rattle.atspi_trace_laws.proofs.OfOrder.Shape.{Shape}
use Rattle.atspi_trace_laws.proofs.OfOrder.Effects.{received, BusTakes, BusEnds, Effect, resets, app_joins, reader_joins, app_edited, app_took, reader_called, swapped, exited_, showed_, told_busy, told_quiet, bus_took, bus_ended, registry_took, reader_took}
use Rattle.atspi_trace_laws.proofs.OfOrder.Shaped.{new_app, new_reader, app_joined}
use Rattle.atspi_trace_laws.proofs.OfOrder.Along.{Keeps, kept}
use Rattle.atspi_trace_laws.proofs.OfOrder.Growing.{Grows, Shaped, Nothing, And, grown}
use Rattle.atspi_trace_laws.proofs.OfOrder.Told.{Tells}
use Rattle.atspi_trace_laws.proofs.OfOrder.Each.{Each, everywhere, each_more, each_of, all_map}
use Rattle.atspi_trace_laws.proofs.OfSerials.Serial.{messages_more}
use Rattle.atspi_trace_laws.specs.serials.Laws.{HasNextNumber}
use Rattle.atspi_trace_laws.proofs.OfSerials.LawNumbers.{numbers_rise}
use Rattle.atspi_trace_laws.specs.links.Laws.{IsTakenInOrder}
use Rattle.atspi_trace_laws.proofs.OfLinks.Ups.{From, found_serial}
use Rattle.atspi_trace_laws.proofs.OfLinks.LawLinks.{no_bus}
use Rattle.atspi_trace_laws.proofs.OfLinks.TakenInOrder.{bus_takes_in_order}
use Rattle.atspi_trace_laws.specs.living.Laws.{ActsAlive}
use Rattle.atspi_trace_laws.proofs.OfLiving.Living.{who_acts_is_live}
use Rattle.atspi_trace_laws.proofs.OfHeard.Quiet.{heard_all}
use Rattle.atspi_trace_laws.specs.taken.Laws.{IsTakenAsSent}
use Rattle.atspi_trace_laws.proofs.OfTaken.LawTaken.{NotGot, did_not_got, sent_not_got, bus_not_got, not_got_of, taken_was_sent}
use Rattle.atspi_trace_laws.specs.own.Laws.{HasNextOwn}
use Rattle.atspi_trace_laws.proofs.OfOwn.Writing.{next_own, Lives, lived}
use Rattle.atspi_trace_laws.proofs.OfOwn.LawOwn.{Owned, own_keeps, own_numbers_rise}
use Rattle.atspi_trace_laws.proofs.OfLost.Alive.{registry_lives}
use Rattle.atspi_trace_laws.specs.delivered.Laws.{IsOfTheBus}
use Rattle.atspi_trace_laws.proofs.OfDelivered.Bounds.{NoneIsBus}
use Rattle.atspi_trace_laws.proofs.OfDelivered.Handed.{Bounded, AllBounded, Bounds, bounding, takes_bounded, ends_bounded, takes_more, ends_more, takes_names, ends_names}

at_most : (n : ℕ) → n ≤ n
at_most n = omega arith

-- an entry that is no message of the bus
behind : (early : List Entry) (y : Entry) (ys : List Entry) → messages (y ∷ []) The_bus ≡ [] → From (next_own (early ++ y ∷ [])) (messages ys The_bus) → From (next_own early) (messages ys The_bus)
behind early y ys none f =
    subst (λ n. From n (messages ys The_bus)) (ap (λ l. 8 + length l) (messages_more early (y ∷ []) The_bus ∙ ap (λ l. messages early The_bus ++ l) none ∙ append-nil (messages early The_bus))) f

-- what the bus sent has the numbers from its first on
own_from : (early ys : List Entry) → Each HasNextOwn early ys → Lives (early ++ ys) → From (next_own early) (messages ys The_bus)
own_from early [] e live = tt
own_from early (sent The_bus m ∷ ys) e live =
    let first : m.serial ≡ suc (7 + length (messages early The_bus)) = e.0 (lived early (sent The_bus m ∷ ys) live) in
    let one : length (messages (early ++ sent The_bus m ∷ []) The_bus) ≡ length (messages early The_bus) + 1 =
    ap length (messages_more early (sent The_bus m ∷ []) The_bus) ∙ length-append (messages early The_bus) (m ∷ []) in
    let next : next_own (early ++ sent The_bus m ∷ []) ≡ next_own early + 1 = omega (arith, one) in (
      omega (arith, first),
      subst (λ n. From n (messages ys The_bus)) next (own_from (early ++ sent The_bus m ∷ []) ys e.1 (subst Lives (sym (append_assoc early (sent The_bus m ∷ []) ys)) live)),
    )
own_from early (sent Registry m ∷ ys) e live = behind early (sent Registry m) ys refl (own_from (early ++ sent Registry m ∷ []) ys e.1 (subst Lives (sym (append_assoc early (sent Registry m ∷ []) ys)) live))
own_from early (sent (App a) m ∷ ys) e live = behind early (sent (App a) m) ys refl (own_from (early ++ sent (App a) m ∷ []) ys e.1 (subst Lives (sym (append_assoc early (sent (App a) m ∷ []) ys)) live))
own_from early (sent (Reader r) m ∷ ys) e live = behind early (sent (Reader r) m) ys refl (own_from (early ++ sent (Reader r) m ∷ []) ys e.1 (subst Lives (sym (append_assoc early (sent (Reader r) m ∷ []) ys)) live))
own_from early (y ∷ ys) e live = behind early y ys refl (own_from (early ++ y ∷ []) ys e.1 (subst Lives (sym (append_assoc early (y ∷ []) ys)) live))

-- THE STATE
pub record Fine (w : World) : Type 0 where
  pub low : 8 ≤ w.bus.state.next
  pub names : NoneIsBus w.bus.state.owners
  pub links : (k : ℕ) (e : End) → end_at w.ends k ≡ Some e → AllBounded w.bus.state.next e

abbrev pub Delivered : List Entry → World → Type 0
Delivered es w = Each IsOfTheBus [] es × Fine w

fine_over : (w v : World) → Fine w → v.bus.state.next ≡ w.bus.state.next → v.bus.state.owners ≡ w.bus.state.owners → Over (Bounds w.bus.state.next) w.ends v.ends → Fine v
fine_over w v f next owners o = record {
  low = subst (λ n. 8 ≤ n) (sym next) f.low;
  names = subst NoneIsBus (sym owners) f.names;
  links = λ k e h. let x = o.back k e h in subst (λ n. AllBounded n e) (sym next) (x.2 (f.links k x.0 x.1));
}

wider : (a b : ℕ) (ls : List Letter) → a ≤ b → AllByRecursion (Bounded a) ls → AllByRecursion (Bounded b) ls
wider a b ls h all = all_map (Bounded a) (Bounded b) ls (λ l f is. ((f is).0, less l.said.message.serial (f is).1)) all
  where
    less : (s : ℕ) → s < a → s < b
    less s g = omega (arith, g, h)

-- THE LAW OF LISTS
not_got_law : (before : List Entry) (entry : Entry) (behind : List Entry) → NotGot entry → IsOfTheBus before entry behind
not_got_law before (got taker sender serial) behind n = absurd n
not_got_law before entry behind n = tt

weaker : (ys before : List Entry) (entry : Entry) (behind : List Entry) → IsOfTheBus before entry behind → IsOfTheBus before entry (behind ++ ys)
weaker ys before (got taker The_bus serial) behind h = h
weaker ys before (got taker Registry serial) behind h = tt
weaker ys before (got taker (App a) serial) behind h = tt
weaker ys before (got taker (Reader r) serial) behind h = tt
weaker ys before entry behind h = tt

all_weaker : (ys early xs : List Entry) → Each IsOfTheBus early xs → Each (λ before entry behind. IsOfTheBus before entry (behind ++ ys)) early xs
all_weaker ys early [] e = tt
all_weaker ys early (x ∷ xs) e = (weaker ys early x xs e.0, all_weaker ys (early ++ x ∷ []) xs e.1)

law_more : (es ys : List Entry) → Each IsOfTheBus [] es → Each IsOfTheBus es ys → Each IsOfTheBus [] (es ++ ys)
law_more es ys a b = each_more IsOfTheBus [] es ys (all_weaker ys [] es a) b

quietly : (es ys : List Entry) → Each IsOfTheBus [] es → AllByRecursion NotGot ys → Each IsOfTheBus [] (es ++ ys)
quietly es ys a n = law_more es ys a (each_of NotGot IsOfTheBus es ys not_got_law n)

of_bus : (es behind : List Entry) (who from : Party) (s : ℕ) → (from ≡ The_bus → Lives es → is_some (message es The_bus s) ≡ true) → IsOfTheBus es (got who from s) behind
of_bus es behind who The_bus s f = f refl
of_bus es behind who Registry s f = tt
of_bus es behind who (App a) s f = tt
of_bus es behind who (Reader r) s f = tt

-- a number that the bus gave was sent
given : (es : List Entry) (w : World) (s : ℕ) → Owned es w → 8 ≤ s → s < w.bus.state.next → Lives es → is_some (message es The_bus s) ≡ true
given es w s owned low high live =
    let next : w.bus.state.next ≡ 8 + length (messages es The_bus) = (owned.1 live).next in
    let from : From 8 (messages es The_bus) = own_from [] es owned.0 live in
    found_serial 8 s (messages es The_bus) from low (omega (arith, high, next))

-- AN END TAKES
taking : (es : List Entry) (w v : World) (conn : ℕ) (e : End) (letter : Letter) (rest : List Letter) (who : Party) (f : End → End) (zs : List Entry) → Owned es w → Delivered es w → end_at w.ends conn ≡ Some e → e.down ≡ letter ∷ rest
    → AllByRecursion NotGot zs → v.ends ≡ with_end conn f (with_end conn taken_down w.ends) → ((x : End) → (f x).down ≡ x.down) → v.bus.state.next ≡ w.bus.state.next → v.bus.state.owners ≡ w.bus.state.owners
    → Delivered (es ++ got who letter.from letter.said.message.serial ∷ zs) v
taking es w v conn e letter rest who f zs owned i there link quiet is down_ next owners = (
  law_more es (got who letter.from letter.said.message.serial ∷ zs) i.0 (
    of_bus es zs who letter.from letter.said.message.serial (λ bus live. given es w letter.said.message.serial owned (mine.0 bus).0 (mine.0 bus).1 live),
    each_of NotGot IsOfTheBus (es ++ got who letter.from letter.said.message.serial ∷ []) zs not_got_law quiet,
  ),
  fine_over w v i.1 next owners
      (subst (Over (Bounds w.bus.state.next) w.ends) (sym is)
      (over_both (Bounds w.bus.state.next) (bounding w.bus.state.next) w.ends (with_end conn taken_down w.ends) (with_end conn f (with_end conn taken_down w.ends))
      (over_with (Bounds w.bus.state.next) (bounding w.bus.state.next) taken_down (λ x a. rest_bounded x.down a) conn w.ends)
      (over_with (Bounds w.bus.state.next) (bounding w.bus.state.next) f (λ x a. subst (AllByRecursion (Bounded w.bus.state.next)) (sym (down_ x)) a) conn (with_end conn taken_down w.ends)))),
)
  where
    mine : AllByRecursion (Bounded w.bus.state.next) (letter ∷ rest)
    mine = subst (AllByRecursion (Bounded w.bus.state.next)) link (i.1.links conn e there)

    rest_bounded : (ls : List Letter) → AllByRecursion (Bounded w.bus.state.next) ls → AllByRecursion (Bounded w.bus.state.next) (rest_of ls)
    rest_bounded [] a = tt
    rest_bounded (l ∷ ls) a = a.1

-- one end changed, and not its down link
changed : (es : List Entry) (w : World) (d : Done) (conn : ℕ) (f : End → End) → Delivered es w → AllByRecursion NotGot d.entries → d.world.ends ≡ with_end conn f w.ends → ((x : End) → AllBounded w.bus.state.next x → AllBounded w.bus.state.next (f x))
    → d.world.bus.state.next ≡ w.bus.state.next → d.world.bus.state.owners ≡ w.bus.state.owners → Delivered (es ++ d.entries) d.world
changed es w d conn f i n is keeps next owners = (
  quietly es d.entries i.0 n,
  fine_over w d.world i.1 next owners (subst (Over (Bounds w.bus.state.next) w.ends) (sym is) (over_with (Bounds w.bus.state.next) (bounding w.bus.state.next) f keeps conn w.ends)),
)

same : (es : List Entry) (w : World) (d : Done) → Delivered es w → AllByRecursion NotGot d.entries → d.world.ends ≡ w.ends → d.world.bus.state ≡ w.bus.state → Delivered (es ++ d.entries) d.world
same es w d i n is state = (
  quietly es d.entries i.0 n,
  fine_over w d.world i.1 (ap (λ s. s.next) state) (ap (λ s. s.owners) state) (subst (Over (Bounds w.bus.state.next) w.ends) (sym is) (over_same (Bounds w.bus.state.next) (bounding w.bus.state.next) w.ends)),
)

-- an end joins
joins : (es : List Entry) (w : World) (d : Done) (n : End) → Delivered es w → AllByRecursion NotGot d.entries → d.world.ends ≡ w.ends ++ n ∷ [] → n.down ≡ [] → d.world.bus.state.next ≡ w.bus.state.next → d.world.bus.state.owners ≡ w.bus.state.owners
    → Delivered (es ++ d.entries) d.world
joins es w d n i quiet is down next owners = (
  quietly es d.entries i.0 quiet,
  record {
    low = subst (λ k. 8 ≤ k) (sym next) i.1.low;
    names = subst NoneIsBus (sym owners) i.1.names;
    links = λ k e h. subst (λ m. AllBounded m e) (sym next) (by k e (joined_cases w.ends n k e (ap (λ l. end_at l k) (sym is) ∙ h)));
  },
)
  where
    by : (k : ℕ) (e : End) → ((end_at w.ends k ≡ Some e) ⊎ ((k ≡ length w.ends) × (e ≡ n))) → AllBounded w.bus.state.next e
    by k e (inl h) = i.1.links k e h
    by k e (inr h) = subst (AllBounded w.bus.state.next) (sym h.1) (subst (AllByRecursion (Bounded w.bus.state.next)) (sym down) tt)

-- THE BUS
took : (es : List Entry) (w : World) (d : Done) → Shape w → Delivered es w → BusTakes w d → Delivered (es ++ d.entries) d.world
took es w d s i b =
    let c0 : Carried = record { bus = w.bus; ends = w.ends } in
    let c : Carried = carrying.takes c0 b.conn b.e.who b.said in
    let other : b.e.who ≡ The_bus → ⊥ = no_bus w b.conn b.e s b.is_here.there in
    let x = takes_bounded c.bus.state.next c0 b.conn b.e.who b.said i.1.low i.1.names other (at_most c.bus.state.next) in
    let ends : d.world.ends ≡ c.ends = ap (λ y. y.world.ends) b.is in
    let next : d.world.bus.state.next ≡ c.bus.state.next = ap (λ y. y.world.bus.state.next) b.is in (
      subst (λ l. Each IsOfTheBus [] (es ++ l)) (sym (ap (λ y. y.entries) b.is))
          (law_more es (got The_bus b.e.who b.said.message.serial ∷ bus_entries c.ends c.bus.own c.bus.closings) i.0 (
            of_bus es (bus_entries c.ends c.bus.own c.bus.closings) The_bus b.e.who b.said.message.serial (λ is. absurd (other is)),
            each_of NotGot IsOfTheBus (es ++ got The_bus b.e.who b.said.message.serial ∷ []) (bus_entries c.ends c.bus.own c.bus.closings) not_got_law (bus_not_got c.ends c.bus.own c.bus.closings),
          )),
      record {
        low = subst (λ k. 8 ≤ k) (sym next) x.1;
        names = subst NoneIsBus (sym (ap (λ y. y.world.bus.state.owners) b.is)) (takes_names c0 b.conn b.e.who b.said i.1.names);
        links = λ k e h.
            let y = x.0.back k e (ap (λ l. end_at l k) (sym ends) ∙ h) in
            subst (λ m. AllBounded m e) (sym next) (y.2 (wider w.bus.state.next c.bus.state.next y.0.down (takes_more c0 b.conn b.e.who b.said) (i.1.links k y.0 y.1)));
      },
    )

ended : (es : List Entry) (w : World) (d : Done) → Delivered es w → BusEnds w d → Delivered (es ++ d.entries) d.world
ended es w d i b =
    let c0 : Carried = record { bus = w.bus; ends = w.ends } in
    let c : Carried = carrying.takes_end c0 b.conn in
    let x = ends_bounded c.bus.state.next c0 b.conn i.1.low (at_most c.bus.state.next) in
    let ends : d.world.ends ≡ c.ends = ap (λ y. y.world.ends) b.is in
    let next : d.world.bus.state.next ≡ c.bus.state.next = ap (λ y. y.world.bus.state.next) b.is in (
      quietly es d.entries i.0 (not_got_of d _ b.is (bus_not_got c.ends c.bus.own c.bus.closings)),
      record {
        low = subst (λ k. 8 ≤ k) (sym next) x.1;
        names = subst NoneIsBus (sym (ap (λ y. y.world.bus.state.owners) b.is)) (ends_names c0 b.conn i.1.names);
        links = λ k e h.
            let y = x.0.back k e (ap (λ l. end_at l k) (sym ends) ∙ h) in
            subst (λ m. AllBounded m e) (sym next) (y.2 (wider w.bus.state.next c.bus.state.next y.0.down (ends_more c0 b.conn) (i.1.links k y.0 y.1)));
      },
    )

-- EACH CAUSE
first_names : (quota : ℕ) → NoneIsBus (first_world quota).bus.state.owners
first_names quota conn name h = by (eq_by_cmp nat_cmp conn 0) (sym (get-from_sorted nat_cmp first_unique conn tt) ∙ h)
  where
    by : (b : Bool) → cond b (Some (codes ":1.0")) None ≡ Some name → is_text (Some name) own_name ≡ false
    by true g = ap (λ n. is_text n own_name) (sym g)
    by false g = absurd (no_none name g)

first_fine : (quota : ℕ) → Fine (first_world quota)
first_fine quota = record {
  low = at_most 8;
  names = first_names quota;
  links = λ k e h. by k e h;
}
  where
    by : (k : ℕ) (e : End) → end_at (first_world quota).ends k ≡ Some e → AllBounded 8 e
    by zero e h = subst (AllBounded 8) (same_some first_registry e h) tt
    by (suc k) e h = absurd (no_none e h)

caused : (es : List Entry) (w : World) (d : Done) → Shape w → Owned es w → Delivered es w → Effect w d → Delivered (es ++ d.entries) d.world
caused es w d s o i (resets quota few is) = (quietly es d.entries i.0 (not_got_of d _ is tt), subst (λ x. Fine x.world) (sym is) (first_fine quota))
caused es w d s o i (app_joins name short is) =
    joins es w d (new_app w name) i (not_got_of d _ is (tt, (tt, tt))) (ap (λ x. x.world.ends) is ∙ app_joined w name) refl (ap (λ x. x.world.bus.state.next) is) (ap (λ x. x.world.bus.state.owners) is)
caused es w d s o i (reader_joins few is) = joins es w d (new_reader w) i (not_got_of d _ is (tt, (tt, tt))) (ap (λ x. x.world.ends) is) refl (ap (λ x. x.world.bus.state.next) is) (ap (λ x. x.world.bus.state.owners) is)
caused es w d s o i (app_edited b) =
    changed es w d b.conn (has_done b.before b.after) i (not_got_of d _ b.is (did_not_got _ b.after.out)) (ap (λ x. x.world.ends) b.is) (λ x a. a) (ap (λ x. x.world.bus.state.next) b.is) (ap (λ x. x.world.bus.state.owners) b.is)
caused es w d s o i (app_took b) =
    subst (λ ys. Delivered (es ++ ys) d.world) (sym (ap (λ x. x.entries) b.is))
    (taking es w d.world b.conn b.e b.letter b.rest b.e.who (has_done b.before (app_takes b.before b.letter.said.message)) _ o i b.is_here.there b.link (did_not_got _ (app_takes b.before b.letter.said.message).out) (ap (λ x. x.world.ends) b.is) (λ x. refl)
    (ap (λ x. x.world.bus.state.next) b.is) (ap (λ x. x.world.bus.state.owners) b.is))
caused es w d s o i (reader_called b) =
    changed es w d b.conn (reader_sends (record b.hearer { next = suc b.hearer.next }) (user_call b.hearer.next b.name b.node b.deed)) i (not_got_of d _ b.is (tt, tt)) (ap (λ x. x.world.ends) b.is) (λ x a. a)
    (ap (λ x. x.world.bus.state.next) b.is) (ap (λ x. x.world.bus.state.owners) b.is)
caused es w d s o i (swapped b) = same es w d i (not_got_of d _ b.is tt) (ap (λ x. x.world.ends) b.is) (ap (λ x. x.world.bus.state) b.is)
caused es w d s o i (exited_ b) =
    changed es w d b.conn stops i (not_got_of d _ b.is (tt, tt)) (ap (λ x. x.world.ends) b.is) (λ x a. a) (ap (λ x. x.world.bus.state.next) b.is) (ap (λ x. x.world.bus.state.owners) b.is)
caused es w d s o i (showed_ b) = same es w d i (not_got_of d _ b.is (tt, tt)) (ap (λ x. x.world.ends) b.is) (ap (λ x. x.world.bus.state) b.is)
caused es w d s o i (told_busy turns is) = same es w d i (not_got_of d _ is (tt, tt)) (ap (λ x. x.world.ends) is) (ap (λ x. x.world.bus.state) is)
caused es w d s o i (told_quiet none is) = same es w d i (not_got_of d _ is (tt, tt)) (ap (λ x. x.world.ends) is) (ap (λ x. x.world.bus.state) is)
caused es w d s o i (bus_took b) = took es w d s i b
caused es w d s o i (bus_ended b) = ended es w d i b
caused es w d s o i (registry_took b) =
    subst (λ ys. Delivered (es ++ ys) d.world) (sym (ap (λ x. x.entries) b.is))
    (taking es w d.world b.conn b.e b.letter b.rest b.e.who (registry_did (registry_takes b.before b.letter.said.message)) _ o i b.is_here.there b.link (sent_not_got b.e.who (registry_takes b.before b.letter.said.message).sent) (ap (λ x. x.world.ends) b.is) (λ x. refl)
    (ap (λ x. x.world.bus.state.next) b.is) (ap (λ x. x.world.bus.state.owners) b.is))
caused es w d s o i (reader_took b) =
    let v : World = received w b.conn b.e b.letter in
    subst (λ ys. Delivered (es ++ ys) d.world) (sym (ap (λ x. x.entries) b.is))
    (taking es w d.world b.conn b.e b.letter b.rest b.e.who (λ x. record x { role = a_reader (hears_letter b.hearer v.ends b.letter) }) _ o i b.is_here.there b.link
    (heard_all NotGot (λ r app line. tt) (λ r app. tt) (number_of b.e.who) b.hearer v.ends b.letter) (ap (λ x. x.world.ends) b.is) (λ x. refl)
    (ap (λ x. x.world.bus.state.next) b.is) (ap (λ x. x.world.bus.state.owners) b.is))

abbrev pub Under_links : List Entry → World → Type 0
Under_links es w = And (And Nothing Tells) Owned es w

asks_bounded : (high : ℕ) (m : Envelope) (question : Question) (e : End) → Bounds high e (asks_at m question e)
asks_bounded high m question e a = by e.role
  where
    by : (role : Role) → AllBounded high (asks_as role m question e)
    by (a_reader h) = a
    by (the_registry x) = a
    by (an_application x) = a

delivered_grows : Grows Under_links Delivered
delivered_grows = record {
  begins = (tt, first_fine QUOTA_MOST);
  caused = λ es w d s a i e after b. caused es w d s a.1 i e;
  moved = λ es w v s a i m. by es w v i m;
  asked = λ es w conn r m question s a i asks. (
    quietly es (sent (Reader r) m ∷ []) i.0 (tt, tt),
    fine_over w (at_end w conn (asks_at m question)) i.1 refl refl (over_with (Bounds w.bus.state.next) (bounding w.bus.state.next) (asks_at m question) (asks_bounded w.bus.state.next m question) conn w.ends),
  );
}
  where
    by : (es : List Entry) (w v : World) → Delivered es w → (MovedUp w v ⊎ MovedDown w v) → Delivered es v
    by es w v i (inl m) = (
      i.0,
      fine_over w v i.1 (ap (λ (x : World). x.bus.state.next) m.after) (ap (λ (x : World). x.bus.state.owners) m.after)
          (subst (λ (x : World). Over (Bounds w.bus.state.next) w.ends x.ends) (sym m.after) (over_with (Bounds w.bus.state.next) (bounding w.bus.state.next) (λ e. record e { up_moved = e.up_moved + m.count }) (λ e a. a) m.conn w.ends)),
    )
    by es w v i (inr m) = (
      i.0,
      fine_over w v i.1 (ap (λ (x : World). x.bus.state.next) m.after) (ap (λ (x : World). x.bus.state.owners) m.after)
          (subst (λ (x : World). Over (Bounds w.bus.state.next) w.ends x.ends) (sym m.after) (over_with (Bounds w.bus.state.next) (bounding w.bus.state.next) (λ e. record e { down_moved = e.down_moved + m.count }) (λ e a. a) m.conn w.ends)),
    )

pub delivered_keeps : Keeps (Shaped (And Under_links Delivered))
delivered_keeps = grown Under_links Delivered own_keeps delivered_grows

each_front : (xs ys : List Entry) (early : List Entry) → Each IsOfTheBus early (xs ++ ys) → Each IsOfTheBus early xs
each_front [] ys early e = tt
each_front (x ∷ xs) ys early e = (fewer x e.0, each_front xs ys (early ++ x ∷ []) e.1)
  where
    fewer : (entry : Entry) → IsOfTheBus early entry (xs ++ ys) → IsOfTheBus early entry xs
    fewer (got taker The_bus serial) law = law
    fewer (got taker Registry serial) law = tt
    fewer (got taker (App a) serial) law = tt
    fewer (got taker (Reader r) serial) law = tt
    fewer entry law = tt

pub of_the_bus : (lines : List Line) (trace : List Entry) → CanAllStand lines → Goes (begins lines) trace → Everywhere IsOfTheBus trace
of_the_bus lines trace a g =
    let k = kept (Shaped (And Under_links Delivered)) delivered_keeps lines trace a g in
    everywhere IsOfTheBus trace (each_front trace _ [] k.state.1.1.0)

-- THE WHOLE LAW
whole : (before : List Entry) (entry : Entry) (behind : List Entry) → IsTakenInOrder before entry behind → ActsAlive before entry behind → IsTakenAsSent before entry behind → IsOfTheBus before entry behind → Lives before
    → WasSent before entry behind
whole before (got The_bus sender serial) behind order alive as_sent bus live = order
whole before (got Registry The_bus serial) behind order alive as_sent bus live = (alive, bus live)
whole before (got Registry Registry serial) behind order alive as_sent bus live = (alive, as_sent)
whole before (got Registry (App a) serial) behind order alive as_sent bus live = (alive, as_sent)
whole before (got Registry (Reader r) serial) behind order alive as_sent bus live = (alive, as_sent)
whole before (got (App b) The_bus serial) behind order alive as_sent bus live = (alive, bus live)
whole before (got (App b) Registry serial) behind order alive as_sent bus live = (alive, as_sent)
whole before (got (App b) (App a) serial) behind order alive as_sent bus live = (alive, as_sent)
whole before (got (App b) (Reader r) serial) behind order alive as_sent bus live = (alive, as_sent)
whole before (got (Reader b) The_bus serial) behind order alive as_sent bus live = (alive, bus live)
whole before (got (Reader b) Registry serial) behind order alive as_sent bus live = (alive, as_sent)
whole before (got (Reader b) (App a) serial) behind order alive as_sent bus live = (alive, as_sent)
whole before (got (Reader b) (Reader r) serial) behind order alive as_sent bus live = (alive, as_sent)
whole before entry behind order alive as_sent bus live = tt

pub links_hold : (lines : List Line) (trace : List Entry) → CanAllStand lines → Goes (begins lines) trace → LawOfLinks trace
links_hold lines trace a g before entry behind h =
    whole before entry behind (bus_takes_in_order lines trace a g before entry behind h) (who_acts_is_live lines trace a g before entry behind h) (taken_was_sent lines trace a g before entry behind h)
    (of_the_bus lines trace a g before entry behind h) (registry_lives lines trace a g before entry behind h)

whole_number : (before : List Entry) (entry : Entry) (behind : List Entry) → HasNextNumber before entry behind → HasNextOwn before entry behind → Lives before → HasNextSerial before entry behind
whole_number before (sent The_bus e) behind end own live = own live
whole_number before (sent Registry e) behind end own live = end
whole_number before (sent (App a) e) behind end own live = end
whole_number before (sent (Reader r) e) behind end own live = end
whole_number before entry behind end own live = tt

pub serials_rise : (lines : List Line) (trace : List Entry) → CanAllStand lines → Goes (begins lines) trace → Everywhere HasNextSerial trace
serials_rise lines trace a g before entry behind h =
    whole_number before entry behind (numbers_rise lines trace a g before entry behind h) (own_numbers_rise lines trace a g before entry behind h) (registry_lives lines trace a g before entry behind h)
