-- What each end takes of the bus's own messages comes in the order of their serials, along a lawful trace.
use Rattle.std.proofs.Common.{◌≡◌, ◌⊎◌, inl, inr, ℕ, zero, suc, ◌+◌, ◌≤◌, Bool, true, false, List, [], ◌∷◌, ◌++◌, length, Some, refl, sym, ap, ◌∙◌, subst, arith}
use Rattle.std.specs.Prelude.{nat_lt}
use Rattle.std.specs.List.{AllByRecursion}
use Rattle.std.proofs.lemmas.Bool.{ltb-false}
use Rattle.std.proofs.lemmas.List.{append-nil, append_assoc}
use Rattle.atspi_script_lines.specs.declared.limits.TheConstants.{QUOTA_MOST}
use Rattle.atspi_script_lines.specs.declared.line.Line.{Line}
use Rattle.atspi_script_lines.specs.declared.line.Party.{Party}
use Rattle.atspi_script_lines.specs.declared.line.Party.TheVariants.{Bus as The_bus, Reader}
use Rattle.atspi_message.specs.Envelope.{Envelope}
use Rattle.atspi_protocol.specs.registering.Steps.{registry_takes}
use Rattle.atspi_protocol.specs.exporting.Taking.{app_takes}
use Rattle.atspi_protocol.specs.following.Calls.{user_call}
use Rattle.atspi_protocol.specs.declared.following.question.Question.{Question}
use Rattle.atspi_trace.specs.Entry.{Entry, sent, got}
use Rattle.atspi_trace.specs.World.{Role, the_registry, an_application, a_reader, Letter, first_registry, first_world, End, World}
use Rattle.atspi_trace.specs.Ends.{same_party, number_of, end_at, with_end, taken_down, rest_of, stops}
use Rattle.atspi_trace.specs.Carrying as carrying
use Rattle.atspi_trace.specs.Carrying.{Carried, bus_entries}
use Rattle.atspi_trace.specs.Hearing.{hears_letter}
use Rattle.atspi_trace.specs.Causes.{Done, at_end, has_done, reader_sends, registry_did}
use Rattle.atspi_trace.specs.Due.{asks_as, asks_at, begins, Goes}
use Rattle.atspi_trace_laws.specs.order.Scripts.{CanAllStand}
use Rattle.atspi_trace_laws.proofs.OfOrder.Parties.{no_none, same_some, same-party, party-same}
use Rattle.atspi_trace_laws.proofs.OfOrder.Allowed.{MovedUp, MovedDown}
use Rattle.atspi_trace_laws.proofs.OfOrder.Frame.{Over, over_same, over_with, joined_cases, with_cases}
use Rattle.atspi_trace_laws.proofs.OfOrder.Shape.{Shape}
use Rattle.atspi_trace_laws.proofs.OfOrder.Effects.{received, BusTakes, BusEnds, Effect, resets, app_joins, reader_joins, app_edited, app_took, reader_called, swapped, exited_, showed_}
use Rattle.atspi_trace_laws.proofs.OfOrder.Effects.{told_busy, told_quiet, bus_took, bus_ended, registry_took, reader_took}
use Rattle.atspi_trace_laws.proofs.OfOrder.Shaped.{new_app, new_reader, app_joined}
use Rattle.atspi_trace_laws.proofs.OfOrder.Along.{Keeps, kept}
use Rattle.atspi_trace_laws.proofs.OfOrder.Growing.{Grows, Shaped, And, grown}
use Rattle.atspi_trace_laws.proofs.OfLinks.LawLinks.{no_bus}
use Rattle.atspi_trace_laws.proofs.OfHeard.Quiet.{heard_all}
use Rattle.atspi_trace_laws.proofs.OfTaken.LawTaken.{NotGot, did_not_got, sent_not_got, bus_not_got, not_got_of}
use Rattle.atspi_trace_laws.proofs.OfDelivered.Handed.{takes_more, ends_more}
use Rattle.atspi_trace_laws.proofs.OfDelivered.Bounds.{NoneIsBus}
use Rattle.atspi_trace_laws.proofs.OfDelivered.LawLinks.{Under_links, Delivered, delivered_keeps}
use Rattle.atspi_trace_laws.proofs.OfTurns.Rising.{Rises, higher}
use Rattle.atspi_trace_laws.proofs.OfTurns.LawTurns.{Beneath_turns, Turned, Joined, turns_keep}
use Rattle.atspi_trace_laws.proofs.OfReaders.Fates.{both_keep}
use Rattle.atspi_trace_played.proofs.Serials.{serial_if, serials, coming, serials_more, no_serials, same_serials, other_taker, other_sender, rises_front}
use Rattle.atspi_trace_played.proofs.OwnLinks.{RisesTo, AllRise, KeepsRise, keeping_rise, rise_over, takes_rise, ends_rise}

pub record OwnTurns (es : List Entry) (w : World) : Type 0 where
  pub taken : (who : Party) → Rises 0 w.bus.state.next (serials who The_bus es)
  pub links : AllRise es w.bus.state.next w.ends

-- entries that take nothing of the bus
abbrev TakesNone : List Entry → Type 0
TakesNone ys = (who : Party) → serials who The_bus ys ≡ []

quiet_none : (ys : List Entry) → AllByRecursion NotGot ys → TakesNone ys
quiet_none ys n who = no_serials who The_bus ys n

more_rise : (es ys : List Entry) (n : ℕ) (ends : List End) → TakesNone ys → AllRise es n ends → AllRise (es ++ ys) n ends
more_rise es ys n ends none a k e h = subst (λ l. Rises 0 n (l ++ serials e.who The_bus (coming e.who e.down))) (sym (same_serials e.who The_bus es ys (none e.who))) (a k e h)

go_on : (es ys : List Entry) (w v : World) → OwnTurns es w → TakesNone ys → w.bus.state.next ≤ v.bus.state.next → AllRise es v.bus.state.next v.ends → OwnTurns (es ++ ys) v
go_on es ys w v i none more a = record {
  taken = λ who. subst (Rises 0 v.bus.state.next) (sym (same_serials who The_bus es ys (none who))) (higher 0 w.bus.state.next v.bus.state.next (serials who The_bus es) more (i.taken who));
  links = more_rise es ys v.bus.state.next v.ends none a;
}

same_next : (a b : ℕ) → b ≡ a → a ≤ b
same_next a b h = omega (arith, h)

over_turns : (es ys : List Entry) (w v : World) → OwnTurns es w → AllByRecursion NotGot ys → v.bus.state.next ≡ w.bus.state.next → Over (KeepsRise es w.bus.state.next) w.ends v.ends → OwnTurns (es ++ ys) v
over_turns es ys w v i n next o =
    go_on es ys w v i (quiet_none ys n) (same_next w.bus.state.next v.bus.state.next next) (subst (λ k. AllRise es k v.ends) (sym next) (rise_over es w.bus.state.next w.ends v.ends i.links o))

-- one end changed, and not its down link
changed_turns : (es : List Entry) (w : World) (d : Done) (conn : ℕ) (f : End → End) → OwnTurns es w → AllByRecursion NotGot d.entries → d.world.ends ≡ with_end conn f w.ends → ((e : End) → KeepsRise es w.bus.state.next e (f e))
    → d.world.bus.state.next ≡ w.bus.state.next → OwnTurns (es ++ d.entries) d.world
changed_turns es w d conn f i n is keeps next =
    over_turns es d.entries w d.world i n next (subst (Over (KeepsRise es w.bus.state.next) w.ends) (sym is) (over_with (KeepsRise es w.bus.state.next) (keeping_rise es w.bus.state.next) f keeps conn w.ends))

same_turns : (es : List Entry) (w : World) (d : Done) → OwnTurns es w → AllByRecursion NotGot d.entries → d.world.ends ≡ w.ends → d.world.bus.state.next ≡ w.bus.state.next → OwnTurns (es ++ d.entries) d.world
same_turns es w d i n is next =
    let k : ℕ = w.bus.state.next in
    over_turns es d.entries w d.world i n next (subst (Over (KeepsRise es k) w.ends) (sym is) (over_same (KeepsRise es k) (keeping_rise es k) w.ends))

-- an end joins
joins_turns : (es : List Entry) (w : World) (d : Done) (n : End) → OwnTurns es w → AllByRecursion NotGot d.entries → d.world.ends ≡ w.ends ++ n ∷ [] → n.down ≡ [] → d.world.bus.state.next ≡ w.bus.state.next
    → OwnTurns (es ++ d.entries) d.world
joins_turns es w d n i quiet is down next =
    go_on es d.entries w d.world i (quiet_none d.entries quiet) (same_next w.bus.state.next d.world.bus.state.next next)
    (subst (λ m. AllRise es m d.world.ends) (sym next) (λ k e h. by k e (joined_cases w.ends n k e (ap (λ l. end_at l k) (sym is) ∙ h))))
  where
    new : RisesTo es w.bus.state.next n
    new =
        subst (λ ls. Rises 0 w.bus.state.next (serials n.who The_bus es ++ serials n.who The_bus (coming n.who ls))) (sym down)
        (subst (Rises 0 w.bus.state.next) (sym (append-nil (serials n.who The_bus es))) (i.taken n.who))

    by : (k : ℕ) (e : End) → ((end_at w.ends k ≡ Some e) ⊎ ((k ≡ length w.ends) × (e ≡ n))) → RisesTo es w.bus.state.next e
    by k e (inl h) = i.links k e h
    by k e (inr h) = subst (RisesTo es w.bus.state.next) (sym h.1) new

-- AN END TAKES
taker_turns : (es : List Entry) (w v : World) (conn : ℕ) (e : End) (letter : Letter) (rest : List Letter) (f : End → End) (zs : List Entry) → Shape w → OwnTurns es w → end_at w.ends conn ≡ Some e → e.down ≡ letter ∷ rest
    → AllByRecursion NotGot zs → v.ends ≡ with_end conn f (with_end conn taken_down w.ends) → ((x : End) → (f x).who ≡ x.who) → ((x : End) → (f x).down ≡ x.down) → v.bus.state.next ≡ w.bus.state.next
    → OwnTurns (es ++ got e.who letter.from letter.said.message.serial ∷ zs) v
taker_turns es w v conn e letter rest f zs s i there link quiet is who_ down_ next = record {
  taken = λ who. subst (λ n. Rises 0 n (serials who The_bus (es ++ ys))) (sym next) (taken_now who);
  links = λ k x h. subst (λ n. RisesTo (es ++ ys) n x) (sym next) (by k x (with_cases f (with_end conn taken_down w.ends) conn k x (ap (λ l. end_at l k) (sym is) ∙ h)));
}
  where
    first : Entry
    first = got e.who letter.from letter.said.message.serial

    ys : List Entry
    ys = first ∷ zs

    n : ℕ
    n = w.bus.state.next

    one : List ℕ
    one = serial_if e.who The_bus first

    back : List ℕ
    back = serials e.who The_bus (coming e.who rest)

    old : List ℕ
    old = serials e.who The_bus es

    mine : Rises 0 n (old ++ (one ++ back))
    mine = subst (λ ls. Rises 0 n (old ++ serials e.who The_bus (coming e.who ls))) link (i.links conn e there)

    now : serials e.who The_bus (es ++ ys) ≡ old ++ one
    now = serials_more e.who The_bus es ys ∙ ap (λ l. old ++ (one ++ l)) (no_serials e.who The_bus zs quiet) ∙ ap (λ l. old ++ l) (append-nil one)

    mine_now : Rises 0 n (serials e.who The_bus (es ++ ys) ++ back)
    mine_now = subst (λ l. Rises 0 n (l ++ back)) (sym now) (subst (Rises 0 n) (sym (append_assoc old one back)) mine)

    others : (who : Party) → (e.who ≡ who → ⊥) → serials who The_bus (es ++ ys) ≡ serials who The_bus es
    others who differ =
        same_serials who The_bus es ys (ap (λ l. l ++ serials who The_bus zs) (other_taker who The_bus e.who letter.from letter.said.message.serial differ) ∙ no_serials who The_bus zs quiet)

    taken_now : (who : Party) → Rises 0 n (serials who The_bus (es ++ ys))
    taken_now who = at (same_party e.who who) refl
      where
        at : (b : Bool) → same_party e.who who ≡ b → Rises 0 n (serials who The_bus (es ++ ys))
        at true h = subst (λ p. Rises 0 n (serials p The_bus (es ++ ys))) (same-party e.who who h) (rises_front 0 n (serials e.who The_bus (es ++ ys)) back mine_now)
        at false h = subst (Rises 0 n) (sym (others who (λ same. no same h))) (i.taken who)
          where
            no : e.who ≡ who → same_party e.who who ≡ false → ⊥
            no same g = absurd (unlike (sym (party-same who) ∙ (ap (λ p. same_party p who) (sym same) ∙ g)))
              where
                unlike : true ≡ false → ⊥
                unlike c = cc

    taken_ : RisesTo (es ++ ys) n (taken_down e)
    taken_ = subst (λ ls. Rises 0 n (serials e.who The_bus (es ++ ys) ++ serials e.who The_bus (coming e.who ls))) (sym (ap rest_of link)) mine_now

    below : (k : ℕ) (y : End) → ((z : End) × (end_at w.ends k ≡ Some z) × (((k ≡ conn) × (y ≡ taken_down z)) ⊎ ((k ≡ conn → ⊥) × (y ≡ z)))) → RisesTo (es ++ ys) n y
    below k y g = at g.2
      where
        at : (((k ≡ conn) × (y ≡ taken_down g.0)) ⊎ ((k ≡ conn → ⊥) × (y ≡ g.0))) → RisesTo (es ++ ys) n y
        at (inl c) =
            let same : g.0 ≡ e = same_some g.0 e (sym g.1 ∙ ap (end_at w.ends) c.0 ∙ there) in
            subst (RisesTo (es ++ ys) n) (sym (c.1 ∙ ap taken_down same)) taken_
        at (inr c) =
            subst (RisesTo (es ++ ys) n) (sym c.1)
            (subst (λ l. Rises 0 n (l ++ serials g.0.who The_bus (coming g.0.who g.0.down))) (sym (others g.0.who (λ same. c.0 (s.one k conn g.0 e g.1 there (sym same))))) (i.links k g.0 g.1))

    keeps : (x : End) → RisesTo (es ++ ys) n x → RisesTo (es ++ ys) n (f x)
    keeps x t =
        subst (λ p. Rises 0 n (serials p The_bus (es ++ ys) ++ serials p The_bus (coming p (f x).down))) (sym (who_ x))
        (subst (λ ls. Rises 0 n (serials x.who The_bus (es ++ ys) ++ serials x.who The_bus (coming x.who ls))) (sym (down_ x)) t)

    by : (k : ℕ) (x : End) → ((y : End) × (end_at (with_end conn taken_down w.ends) k ≡ Some y) × (((k ≡ conn) × (x ≡ f y)) ⊎ ((k ≡ conn → ⊥) × (x ≡ y)))) → RisesTo (es ++ ys) n x
    by k x g = at g.2
      where
        before : RisesTo (es ++ ys) n g.0
        before = below k g.0 (with_cases taken_down w.ends conn k g.0 g.1)

        at : (((k ≡ conn) × (x ≡ f g.0)) ⊎ ((k ≡ conn → ⊥) × (x ≡ g.0))) → RisesTo (es ++ ys) n x
        at (inl c) = subst (RisesTo (es ++ ys) n) (sym c.1) (keeps g.0 before)
        at (inr c) = subst (RisesTo (es ++ ys) n) (sym c.1) before

-- THE BUS
took_turns : (es : List Entry) (w : World) (d : Done) → Shape w → Joined w → NoneIsBus w.bus.state.owners → OwnTurns es w → BusTakes w d → OwnTurns (es ++ d.entries) d.world
took_turns es w d s joined none i b =
    let c0 : Carried = record { bus = w.bus; ends = w.ends } in
    let c : Carried = carrying.takes c0 b.conn b.e.who b.said in
    let other : b.e.who ≡ The_bus → ⊥ = no_bus w b.conn b.e s b.is_here.there in
    let words : List Entry = bus_entries c.ends c.bus.own c.bus.closings in
    let next : d.world.bus.state.next ≡ c.bus.state.next = ap (λ y. y.world.bus.state.next) b.is in
    subst (λ l. OwnTurns (es ++ l) d.world) (sym (ap (λ y. y.entries) b.is))
    (go_on es (got The_bus b.e.who b.said.message.serial ∷ words) w d.world i
    (λ who. ap (λ l. l ++ serials who The_bus words) (other_sender who The_bus The_bus b.e.who b.said.message.serial other) ∙ no_serials who The_bus words (bus_not_got c.ends c.bus.own c.bus.closings))
    (subst (λ n. w.bus.state.next ≤ n) (sym next) (takes_more c0 b.conn b.e.who b.said))
    (subst (λ (x : World). AllRise es x.bus.state.next x.ends) (sym (ap (λ y. y.world) b.is)) (takes_rise es c0 b.conn (length w.ends) b.e.who b.said other none joined i.links)))

ended_turns : (es : List Entry) (w : World) (d : Done) → Joined w → OwnTurns es w → BusEnds w d → OwnTurns (es ++ d.entries) d.world
ended_turns es w d joined i b =
    let c0 : Carried = record { bus = w.bus; ends = w.ends } in
    let c : Carried = carrying.takes_end c0 b.conn in
    let next : d.world.bus.state.next ≡ c.bus.state.next = ap (λ y. y.world.bus.state.next) b.is in
    go_on es d.entries w d.world i (quiet_none d.entries (not_got_of d _ b.is (bus_not_got c.ends c.bus.own c.bus.closings)))
    (subst (λ n. w.bus.state.next ≤ n) (sym next) (ends_more c0 b.conn))
    (subst (λ (x : World). AllRise es x.bus.state.next x.ends) (sym (ap (λ y. y.world) b.is)) (ends_rise es c0 b.conn (length w.ends) joined i.links))

-- EACH CAUSE
anew : (es : List Entry) (w : World) (d : Done) (quota : ℕ) → Shape w → OwnTurns es w → nat_lt 1 (length w.ends) ≡ false → d ≡ record { world = first_world quota; entries = [] } → OwnTurns (es ++ d.entries) d.world
anew es w d quota s i few is =
    subst (λ x. OwnTurns (es ++ x.entries) x.world) (sym is) (subst (λ l. OwnTurns l (first_world quota)) (sym (append-nil es)) (by s.alone))
  where
    by : ((2 ≤ length w.ends) ⊎ (w ≡ first_world w.bus.quota)) → OwnTurns es (first_world quota)
    by (inl two) = let less : length w.ends ≤ 1 = ltb-false 1 (length w.ends) few in absurd (omega (arith, two, less))
    by (inr h) = let j : OwnTurns es (first_world w.bus.quota) = subst (OwnTurns es) h i in record { taken = j.taken; links = j.links }

caused_turns : (es : List Entry) (w : World) (d : Done) → Shape w → Joined w → NoneIsBus w.bus.state.owners → OwnTurns es w → Effect w d → OwnTurns (es ++ d.entries) d.world
caused_turns es w d s j n i (resets quota few is) = anew es w d quota s i few is
caused_turns es w d s j n i (app_joins name short is) =
    joins_turns es w d (new_app w name) i (not_got_of d _ is (tt, (tt, tt))) (ap (λ x. x.world.ends) is ∙ app_joined w name) refl (ap (λ x. x.world.bus.state.next) is)
caused_turns es w d s j n i (reader_joins few is) = joins_turns es w d (new_reader w) i (not_got_of d _ is (tt, (tt, tt))) (ap (λ x. x.world.ends) is) refl (ap (λ x. x.world.bus.state.next) is)
caused_turns es w d s j n i (app_edited b) =
    changed_turns es w d b.conn (has_done b.before b.after) i (not_got_of d _ b.is (did_not_got _ b.after.out)) (ap (λ x. x.world.ends) b.is) (λ e r. r) (ap (λ x. x.world.bus.state.next) b.is)
caused_turns es w d s j n i (app_took b) =
    subst (λ ys. OwnTurns (es ++ ys) d.world) (sym (ap (λ x. x.entries) b.is))
    (taker_turns es w d.world b.conn b.e b.letter b.rest (has_done b.before (app_takes b.before b.letter.said.message)) _ s i b.is_here.there b.link (did_not_got _ (app_takes b.before b.letter.said.message).out)
    (ap (λ x. x.world.ends) b.is) (λ x. refl) (λ x. refl) (ap (λ x. x.world.bus.state.next) b.is))
caused_turns es w d s j n i (reader_called b) =
    changed_turns es w d b.conn (reader_sends (record b.hearer { next = suc b.hearer.next }) (user_call b.hearer.next b.name b.node b.deed)) i (not_got_of d _ b.is (tt, tt)) (ap (λ x. x.world.ends) b.is) (λ e r. r)
    (ap (λ x. x.world.bus.state.next) b.is)
caused_turns es w d s j n i (swapped b) = same_turns es w d i (not_got_of d _ b.is tt) (ap (λ x. x.world.ends) b.is) (ap (λ x. x.world.bus.state.next) b.is)
caused_turns es w d s j n i (exited_ b) = changed_turns es w d b.conn stops i (not_got_of d _ b.is (tt, tt)) (ap (λ x. x.world.ends) b.is) (λ e r. r) (ap (λ x. x.world.bus.state.next) b.is)
caused_turns es w d s j n i (showed_ b) = same_turns es w d i (not_got_of d _ b.is (tt, tt)) (ap (λ x. x.world.ends) b.is) (ap (λ x. x.world.bus.state.next) b.is)
caused_turns es w d s j n i (told_busy turns is) = same_turns es w d i (not_got_of d _ is (tt, tt)) (ap (λ x. x.world.ends) is) (ap (λ x. x.world.bus.state.next) is)
caused_turns es w d s j n i (told_quiet none is) = same_turns es w d i (not_got_of d _ is (tt, tt)) (ap (λ x. x.world.ends) is) (ap (λ x. x.world.bus.state.next) is)
caused_turns es w d s j n i (bus_took b) = took_turns es w d s j n i b
caused_turns es w d s j n i (bus_ended b) = ended_turns es w d j i b
caused_turns es w d s j n i (registry_took b) =
    subst (λ ys. OwnTurns (es ++ ys) d.world) (sym (ap (λ x. x.entries) b.is))
    (taker_turns es w d.world b.conn b.e b.letter b.rest (registry_did (registry_takes b.before b.letter.said.message)) _ s i b.is_here.there b.link (sent_not_got b.e.who (registry_takes b.before b.letter.said.message).sent)
    (ap (λ x. x.world.ends) b.is) (λ x. refl) (λ x. refl) (ap (λ x. x.world.bus.state.next) b.is))
caused_turns es w d s j n i (reader_took b) =
    let v : World = received w b.conn b.e b.letter in
    subst (λ ys. OwnTurns (es ++ ys) d.world) (sym (ap (λ x. x.entries) b.is))
    (taker_turns es w d.world b.conn b.e b.letter b.rest (λ x. record x { role = a_reader (hears_letter b.hearer v.ends b.letter) }) _ s i b.is_here.there b.link
    (heard_all NotGot (λ r app line. tt) (λ r app. tt) (number_of b.e.who) b.hearer v.ends b.letter) (ap (λ x. x.world.ends) b.is) (λ x. refl) (λ x. refl) (ap (λ x. x.world.bus.state.next) b.is))

abbrev pub Under_own : List Entry → World → Type 0
Under_own es w = And (And Beneath_turns Turned) (And Under_links Delivered) es w

asks_rise : (es : List Entry) (n : ℕ) (m : Envelope) (question : Question) (e : End) → KeepsRise es n e (asks_at m question e)
asks_rise es n m question e r = by e.role
  where
    by : (role : Role) → RisesTo es n (asks_as role m question e)
    by (a_reader h) = r
    by (the_registry x) = r
    by (an_application x) = r

own_turns_grow : Grows Under_own OwnTurns
own_turns_grow = record {
  begins = record { taken = λ who. tt; links = first_rise };
  caused = λ es w d s a i e after b. caused_turns es w d s a.0.1.3 a.1.1.1.names i e;
  moved = λ es w v s a i m. by es w v i m;
  asked = λ es w conn r m question s a i asks.
      over_turns es (sent (Reader r) m ∷ []) w (at_end w conn (asks_at m question)) i (tt, tt) refl
      (over_with (KeepsRise es w.bus.state.next) (keeping_rise es w.bus.state.next) (asks_at m question) (asks_rise es w.bus.state.next m question) conn w.ends);
}
  where
    first_rise : AllRise [] 8 (first_world QUOTA_MOST).ends
    first_rise zero e h = subst (RisesTo [] 8) (same_some first_registry e h) tt
    first_rise (suc k) e h = absurd (no_none e h)

    moved_on : (es : List Entry) (w v : World) (conn : ℕ) (f : End → End) → OwnTurns es w → v.bus.state.next ≡ w.bus.state.next → v.ends ≡ with_end conn f w.ends → ((e : End) → KeepsRise es w.bus.state.next e (f e)) → OwnTurns es v
    moved_on es w v conn f i next is keeps =
        subst (λ l. OwnTurns l v) (append-nil es)
        (over_turns es [] w v i tt next (subst (Over (KeepsRise es w.bus.state.next) w.ends) (sym is) (over_with (KeepsRise es w.bus.state.next) (keeping_rise es w.bus.state.next) f keeps conn w.ends)))

    by : (es : List Entry) (w v : World) → OwnTurns es w → (MovedUp w v ⊎ MovedDown w v) → OwnTurns es v
    by es w v i (inl m) = moved_on es w v m.conn (λ e. record e { up_moved = e.up_moved + m.count }) i (ap (λ (x : World). x.bus.state.next) m.after) (ap (λ (x : World). x.ends) m.after) (λ e r. r)
    by es w v i (inr m) = moved_on es w v m.conn (λ e. record e { down_moved = e.down_moved + m.count }) i (ap (λ (x : World). x.bus.state.next) m.after) (ap (λ (x : World). x.ends) m.after) (λ e r. r)

own_turns_keep : Keeps (Shaped (And Under_own OwnTurns))
own_turns_keep = grown Under_own OwnTurns (both_keep (And Beneath_turns Turned) (And Under_links Delivered) turns_keep delivered_keeps) own_turns_grow

pub own_turns : (lines : List Line) (trace : List Entry) → CanAllStand lines → Goes (begins lines) trace → (who : Party) → (high : ℕ) × Rises 0 high (serials who The_bus trace)
own_turns lines trace a g who =
    let k = kept (Shaped (And Under_own OwnTurns)) own_turns_keep lines trace a g in
    let i = k.state.1.1 in
    (_, front trace _ _ (i.taken who))
  where
    front : (xs ys : List Entry) (high : ℕ) → Rises 0 high (serials who The_bus (xs ++ ys)) → Rises 0 high (serials who The_bus xs)
    front xs ys high r = rises_front 0 high (serials who The_bus xs) (serials who The_bus ys) (subst (Rises 0 high) (serials_more who The_bus xs ys) r)
