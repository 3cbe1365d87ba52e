-- Nothing of an application comes to a reader behind the news of its end, along a lawful trace.
use Rattle.std.proofs.Common.{◌≡◌, ◌⊎◌, inl, inr, ℕ, zero, suc, ◌+◌, ◌≤◌, Bool, true, false, List, [], ◌∷◌, ◌++◌, length, map, Option, None, Some, refl, sym, ap, ap₂, ◌∙◌, subst, arith, cond}
use Rattle.std.specs.Prelude.{◌==◌, ◌&&◌, codes, nat_lt, if◌then◌else◌}
use Rattle.std.specs.List.{AllByRecursion}
use Rattle.std.specs.FinMap.{get-from_sorted, nat_cmp-IsAntisymmetric}
use Rattle.std.specs.Ordering.{nat_cmp, eq_by_cmp}
use Rattle.std.proofs.lemmas.Bool.{ltb-false, eqb-true, eq-eqb}
use Rattle.std.proofs.lemmas.List.{append-nil, append_assoc}
use Rattle.atspi_tree_model.specs.Forest.{first_of}
use Rattle.atspi_script_lines.specs.declared.limits.TheConstants.{QUOTA_MOST}
use Rattle.atspi_script_lines.specs.declared.line.Line.{Line}
use Rattle.atspi_script_lines.specs.declared.line.Party.{Party}
use Rattle.atspi_script_lines.specs.declared.line.Party.TheVariants.{Bus as The_bus, Registry, App, Reader}
use Rattle.atspi_message.specs.Envelope.{Envelope}
use Rattle.atspi_match.specs.declared.routing.closing.Closing.{Closing}
use Rattle.atspi_match.specs.routing.BusState.{unique_of}
use Rattle.atspi_protocol.specs.registering.Steps.{registry_takes}
use Rattle.atspi_protocol.specs.exporting.Exporter.{Exporter, Happening, steps, sends, hears, deaf}
use Rattle.atspi_protocol.specs.exporting.Taking.{app_takes}
use Rattle.atspi_protocol.specs.declared.following.question.Question.{Question}
use Rattle.atspi_protocol.specs.following.Calls.{user_call}
use Rattle.atspi_protocol.specs.following.Known.{told_end}
use Rattle.atspi_trace.specs.Entry.{Entry, sent, spoke, gone, got, dropped}
use Rattle.atspi_trace.specs.World.{here, Role, the_registry, an_application, a_reader, Hearer, first_unique, first_registry, first_world, End, World}
use Rattle.atspi_trace.specs.Ends.{is_here, same_party, number_of, party_at, end_at, with_end, rest_of, taken_down, stops, number_if, app_named}
use Rattle.atspi_trace.specs.Carrying as carrying
use Rattle.atspi_trace.specs.Carrying.{Carried, settled, bus_entries}
use Rattle.atspi_trace.specs.Hearing.{holding_of, lines_if_held, last_lines, ended_entries, app_with, hears_letter, heard_entries}
use Rattle.atspi_trace.specs.Causes.{Done, at_end, did, has_done, reader_sends, asks, registry_did, app_starts, reader_starts}
use Rattle.atspi_trace.specs.Due.{asks_as, asks_at, begins, Goes}
use Rattle.atspi_trace_laws.specs.laws.Words.{message, answers_question, Kept, kept_with, kept_after, held_on, held}
use Rattle.atspi_trace_laws.specs.laws.NineLaws.{Everywhere}
use Rattle.atspi_trace_laws.specs.order.Scripts.{CanAllStand}
use Rattle.atspi_trace_laws.specs.exits.Laws.{IsNotEndOf, ComesBeforeEnd, HoldsNoMore}
use Rattle.atspi_trace_laws.proofs.OfOrder.Parties.{no_none, same_some, same-party, false_true, all_append, all_front, all_back}
use Rattle.atspi_trace_laws.proofs.OfOrder.BusWords.{all_any, bus_all}
use Rattle.atspi_trace_laws.proofs.OfOrder.Allowed.{MovedUp, MovedDown}
use Rattle.atspi_trace_laws.proofs.OfOrder.Frame.{Over, IsOrder, over_same, over_both, over_with, over_at, at_changed, joined_cases}
use Rattle.atspi_trace_laws.proofs.OfOrder.Shape.{Shape}
use Rattle.atspi_trace_laws.proofs.OfOrder.Effects.{received, BusTakes, BusEnds, ReaderTakes, Effect, resets, app_joins, reader_joins, app_edited, app_took, reader_called, swapped, exited_, showed_, told_busy, told_quiet, bus_took, bus_ended, registry_took, reader_took}
use Rattle.atspi_trace_laws.proofs.OfOrder.Shaped.{two_ends, received_at, new_app, new_reader, app_joined}
use Rattle.atspi_trace_laws.proofs.OfOrder.Along.{Keeps, kept}
use Rattle.atspi_trace_laws.proofs.OfOrder.Growing.{Grows, Shaped, And, grown}
use Rattle.atspi_trace_laws.proofs.OfOrder.Each.{Each, everywhere, each_more, each_of, all_map}
use Rattle.atspi_trace_laws.proofs.OfOrder.Gone.{at_front}
use Rattle.atspi_trace_laws.proofs.OfHeard.Quiet.{heard_all}
use Rattle.atspi_trace_laws.proofs.OfHeld.Keeping.{held_more}
use Rattle.atspi_trace_laws.proofs.OfLinks.LawLinks.{no_bus}
use Rattle.atspi_trace_laws.proofs.OfDelivered.Bounds.{NoneIsBus}
use Rattle.atspi_trace_laws.proofs.OfDelivered.LawLinks.{Under_links, Delivered, delivered_keeps}
use Rattle.atspi_trace_laws.proofs.OfReaders.Fates.{both_keep}
use Rattle.atspi_trace_laws.proofs.OfQuiet.Hello.{equal_of_tie}
use Rattle.atspi_trace_laws.proofs.OfNames.Places.{greeted, name_told}
use Rattle.atspi_trace_laws.proofs.OfNames.LawNames.{SameName, same_name, down_same, Named}
use Rattle.atspi_trace_laws.proofs.OfNames.LawEnds.{few_greeted, number_is}
use Rattle.atspi_trace_laws.proofs.OfSigned.Mail.{NameIs}
use Rattle.atspi_trace_laws.proofs.OfSigned.Self.{unique_told, one_named}
use Rattle.atspi_trace_laws.proofs.OfSigned.LawMail.{Mail, Under_mail, Known_mail, mail_keeps}
use Rattle.atspi_trace_laws.proofs.OfEnds.News.{IsPlain}
use Rattle.atspi_trace_laws.proofs.OfEnds.Ordered.{NotFrom, Ordered, ordered_of, Keeps_order, ordering, same_order, rest_order, AwayAs, Stays, staying, stays_as, away_over, Silent, Told_ends, transfer, HasName, HasNames, name_over, left_stays, settled_stays, left_order, left_names, settled_names, settled_order, now_named, named_stays, named_names, named_order}

-- WHAT IS KEPT
pub record Ends_told (es : List Entry) (w : World) : Type 0 where
  pub names : HasNames w.bus.state.owners w.ends
  pub told : Told_ends es w.ends
  pub law : Each ComesBeforeEnd [] es

-- entries that tell no end, and that are not what a reader takes of an application
abbrev Calm : Entry → Type 0
Calm (gone r a) = ⊥
Calm (got (Reader r) (App a) serial) = ⊥
Calm entry = Unit {0}

calm_silent : (ends : List End) (entry : Entry) → Calm entry → Silent ends entry
calm_silent ends (gone r a) c = absurd c
calm_silent ends entry c = tt

-- an entry that is not what a reader takes of an application
abbrev TakesNone : Entry → Type 0
TakesNone (got (Reader r) (App a) serial) = ⊥
TakesNone entry = Unit {0}

none_law : (before : List Entry) (entry : Entry) (behind : List Entry) → TakesNone entry → ComesBeforeEnd before entry behind
none_law before (got (Reader r) (App a) serial) behind c = absurd c
none_law before (got (Reader r) The_bus serial) behind c = tt
none_law before (got (Reader r) Registry serial) behind c = tt
none_law before (got (Reader r) (Reader q) serial) behind c = tt
none_law before (got The_bus from serial) behind c = tt
none_law before (got Registry from serial) behind c = tt
none_law before (got (App a) from serial) behind c = tt
none_law before entry behind c = tt

calm_none : (entry : Entry) → Calm entry → TakesNone entry
calm_none (gone r a) c = tt
calm_none (got (Reader r) (App a) serial) c = absurd c
calm_none (got (Reader r) The_bus serial) c = tt
calm_none (got (Reader r) Registry serial) c = tt
calm_none (got (Reader r) (Reader q) serial) c = tt
calm_none (got The_bus from serial) c = tt
calm_none (got Registry from serial) c = tt
calm_none (got (App a) from serial) c = tt
calm_none entry c = tt

calm_law : (before : List Entry) (entry : Entry) (behind : List Entry) → Calm entry → ComesBeforeEnd before entry behind
calm_law before entry behind c = none_law before entry behind (calm_none entry c)

any_behind : (ys before : List Entry) (entry : Entry) (behind : List Entry) → ComesBeforeEnd before entry behind → ComesBeforeEnd before entry (behind ++ ys)
any_behind ys before (got (Reader r) (App a) serial) behind h = h
any_behind ys before (got (Reader r) The_bus serial) behind h = tt
any_behind ys before (got (Reader r) Registry serial) behind h = tt
any_behind ys before (got (Reader r) (Reader q) serial) behind h = tt
any_behind ys before (got The_bus from serial) behind h = tt
any_behind ys before (got Registry from serial) behind h = tt
any_behind ys before (got (App a) from serial) behind h = tt
any_behind ys before entry behind h = tt

less_behind : (ys before : List Entry) (entry : Entry) (behind : List Entry) → ComesBeforeEnd before entry (behind ++ ys) → ComesBeforeEnd before entry behind
less_behind ys before (got (Reader r) (App a) serial) behind h = h
less_behind ys before (got (Reader r) The_bus serial) behind h = tt
less_behind ys before (got (Reader r) Registry serial) behind h = tt
less_behind ys before (got (Reader r) (Reader q) serial) behind h = tt
less_behind ys before (got The_bus from serial) behind h = tt
less_behind ys before (got Registry from serial) behind h = tt
less_behind ys before (got (App a) from serial) behind h = tt
less_behind ys before entry behind h = tt

all_behind : (ys early xs : List Entry) → Each ComesBeforeEnd early xs → Each (λ before entry behind. ComesBeforeEnd before entry (behind ++ ys)) early xs
all_behind ys early [] e = tt
all_behind ys early (x ∷ xs) e = (any_behind ys early x xs e.0, all_behind ys (early ++ x ∷ []) xs e.1)

law_more : (es ys : List Entry) → Each ComesBeforeEnd [] es → Each ComesBeforeEnd es ys → Each ComesBeforeEnd [] (es ++ ys)
law_more es ys a b = each_more ComesBeforeEnd [] es ys (all_behind ys [] es a) b

law_front : (xs ys early : List Entry) → Each ComesBeforeEnd early (xs ++ ys) → Each ComesBeforeEnd early xs
law_front [] ys early e = tt
law_front (x ∷ xs) ys early e = (less_behind ys early x xs e.0, law_front xs ys (early ++ x ∷ []) e.1)

-- more entries
more_told : (es ys : List Entry) (ends : List End) → Told_ends es ends → AllByRecursion (Silent ends) ys → Told_ends (es ++ ys) ends
more_told es ys ends t a = record { links = t.links; ended = all_append (Silent ends) es ys t.ended a }

calm_all : (ends : List End) (ys : List Entry) → AllByRecursion Calm ys → AllByRecursion (Silent ends) ys
calm_all ends ys a = all_map Calm (Silent ends) ys (calm_silent ends) a

calm_more : (es ys : List Entry) → Each ComesBeforeEnd [] es → AllByRecursion Calm ys → Each ComesBeforeEnd [] (es ++ ys)
calm_more es ys l a = law_more es ys l (each_of Calm ComesBeforeEnd es ys calm_law a)

-- ONE END CHANGES
pub record Calmly (P : Party → List ℕ → Type 0) (e d : End) : Type 0 where
  pub order : Keeps_order P e d
  pub stays : Stays e d

calming : (P : Party → List ℕ → Type 0) → IsOrder (Calmly P)
calming P = record {
  same = λ e. record { order = (ordering P).same e; stays = staying.same e };
  both = λ e d c f g. record { order = (ordering P).both e d c f.order g.order; stays = staying.both e d c f.stays g.stays };
}

over_order : (P : Party → List ℕ → Type 0) (a b : List End) → Over (Calmly P) a b → Over (Keeps_order P) a b
over_order P a b o = record { size = o.size; back = λ k d h. let x = o.back k d h in (x.0, x.1, x.2.order) }

over_stays : (P : Party → List ℕ → Type 0) (a b : List End) → Over (Calmly P) a b → Over Stays a b
over_stays P a b o = record { size = o.size; back = λ k d h. let x = o.back k d h in (x.0, x.1, x.2.stays) }

calm_same : (P : Party → List ℕ → Type 0) (e d : End) → d.who ≡ e.who → d.unique ≡ e.unique → d.standing ≡ e.standing → d.down ≡ e.down → Calmly P e d
calm_same P e d who unique standing down = record { order = same_order P e d who down; stays = stays_as e d who unique standing }

calm_down : (P : Party → List ℕ → Type 0) (e : End) → Calmly P e (taken_down e)
calm_down P e = record { order = rest_order P e; stays = stays_as e (taken_down e) refl refl refl }

same_names : (w v : World) → v.bus.state.owners ≡ w.bus.state.owners → Over Stays w.ends v.ends → HasNames w.bus.state.owners w.ends → HasNames v.bus.state.owners v.ends
same_names w v owners o names k name h = name_over w.ends v.ends o k name (names k name (ap (λ x. unique_of x k) (sym owners) ∙ h))

same_told : (es : List Entry) (w v : World) → Over (Calmly (AwayAs w.ends)) w.ends v.ends → Told_ends es w.ends → Told_ends es v.ends
same_told es w v o t = transfer es w.ends v.ends (AwayAs w.ends) (λ who name a. a) (away_over w.ends v.ends (over_stays (AwayAs w.ends) w.ends v.ends o)) (over_order (AwayAs w.ends) w.ends v.ends o) t

still : (es ys : List Entry) (w v : World) → Ends_told es w → v.bus.state.owners ≡ w.bus.state.owners → Over (Calmly (AwayAs w.ends)) w.ends v.ends → AllByRecursion Calm ys → Ends_told (es ++ ys) v
still es ys w v i owners o a = record {
  names = same_names w v owners (over_stays (AwayAs w.ends) w.ends v.ends o) i.names;
  told = more_told es ys v.ends (same_told es w v o i.told) (calm_all v.ends ys a);
  law = calm_more es ys i.law a;
}

both_over : (w : World) (f : End → End) (conn : ℕ) → ((e : End) → Calmly (AwayAs w.ends) e (f e)) → Over (Calmly (AwayAs w.ends)) w.ends (with_end conn f (with_end conn taken_down w.ends))
both_over w f conn k =
    over_both (Calmly (AwayAs w.ends)) (calming (AwayAs w.ends)) w.ends (with_end conn taken_down w.ends) (with_end conn f (with_end conn taken_down w.ends))
    (over_with (Calmly (AwayAs w.ends)) (calming (AwayAs w.ends)) taken_down (calm_down (AwayAs w.ends)) conn w.ends)
    (over_with (Calmly (AwayAs w.ends)) (calming (AwayAs w.ends)) f k conn (with_end conn taken_down w.ends))

module _ (es : List Entry) (w : World) (d : Done) (i : Ends_told es w) (owners : d.world.bus.state.owners ≡ w.bus.state.owners) where
  by_same : d.world.ends ≡ w.ends → AllByRecursion Calm d.entries → Ends_told (es ++ d.entries) d.world
  by_same is a = still es d.entries w d.world i owners (subst (Over (Calmly (AwayAs w.ends)) w.ends) (sym is) (over_same (Calmly (AwayAs w.ends)) (calming (AwayAs w.ends)) w.ends)) a

  by_end : (f : End → End) (conn : ℕ) → ((e : End) → Calmly (AwayAs w.ends) e (f e)) → d.world.ends ≡ with_end conn f w.ends → AllByRecursion Calm d.entries → Ends_told (es ++ d.entries) d.world
  by_end f conn k is a = still es d.entries w d.world i owners (subst (Over (Calmly (AwayAs w.ends)) w.ends) (sym is) (over_with (Calmly (AwayAs w.ends)) (calming (AwayAs w.ends)) f k conn w.ends)) a

  by_known : (f : End → End) (conn : ℕ) (e : End) → end_at w.ends conn ≡ Some e → Calmly (AwayAs w.ends) e (f e) → d.world.ends ≡ with_end conn f w.ends → AllByRecursion Calm d.entries → Ends_told (es ++ d.entries) d.world
  by_known f conn e there k is a = still es d.entries w d.world i owners (subst (Over (Calmly (AwayAs w.ends)) w.ends) (sym is) (over_at (Calmly (AwayAs w.ends)) (calming (AwayAs w.ends)) f conn w.ends e there k)) a

  by_both : (f : End → End) (conn : ℕ) → ((e : End) → Calmly (AwayAs w.ends) e (f e)) → d.world.ends ≡ with_end conn f (with_end conn taken_down w.ends) → AllByRecursion Calm d.entries → Ends_told (es ++ d.entries) d.world
  by_both f conn k is a = still es d.entries w d.world i owners (subst (Over (Calmly (AwayAs w.ends)) w.ends) (sym is) (both_over w f conn k)) a

  by_join : (n : End) → d.world.ends ≡ w.ends ++ n ∷ [] → n.down ≡ [] → AllByRecursion Calm d.entries → Ends_told (es ++ d.entries) d.world
  by_join n is down a = record {
    names = λ k name h. let x = i.names k name (ap (λ o. unique_of o k) (sym owners) ∙ h) in (x.0, ap (λ l. end_at l k) is ∙ at_front w.ends n k x.0 x.1, x.2);
    told = more_told es d.entries d.world.ends (record { links = λ k e h. link k e (cases k e h); ended = all_map (Silent w.ends) (Silent d.world.ends) es one i.told.ended }) (calm_all d.world.ends d.entries a);
    law = calm_more es d.entries i.law a;
  }
    where
      out : (who : Party) (name : List ℕ) → AwayAs w.ends who name → AwayAs d.world.ends who name
      out who name x = record { conn = x.conn; e = x.e; there = ap (λ l. end_at l x.conn) is ∙ at_front w.ends n x.conn x.e x.there; whose = x.whose; unique = x.unique; out = x.out }

      cases : (k : ℕ) (e : End) → end_at d.world.ends k ≡ Some e → (end_at w.ends k ≡ Some e) ⊎ ((k ≡ length w.ends) × (e ≡ n))
      cases k e h = joined_cases w.ends n k e (ap (λ l. end_at l k) (sym is) ∙ h)

      link : (k : ℕ) (e : End) → (end_at w.ends k ≡ Some e) ⊎ ((k ≡ length w.ends) × (e ≡ n)) → Ordered (AwayAs d.world.ends) e.down
      link k e (inl h) = ordered_of (AwayAs w.ends) (AwayAs d.world.ends) e.down out (i.told.links k e h)
      link k e (inr h) = subst (λ (x : End). Ordered (AwayAs d.world.ends) x.down) (sym h.1) (subst (Ordered (AwayAs d.world.ends)) (sym down) tt)

      one : (entry : Entry) → Silent w.ends entry → Silent d.world.ends entry
      one (gone r app) s = ((s.0.0, out (App app) s.0.0 s.0.1), λ k e h who. by k e who (cases k e h))
        where
          by : (k : ℕ) (e : End) → e.who ≡ Reader r → (end_at w.ends k ≡ Some e) ⊎ ((k ≡ length w.ends) × (e ≡ n)) → AllByRecursion (NotFrom (App app)) e.down
          by k e who (inl h) = s.1 k e h who
          by k e who (inr h) = subst (λ (x : End). AllByRecursion (NotFrom (App app)) x.down) (sym h.1) (subst (AllByRecursion (NotFrom (App app))) (sym down) tt)
      one entry s = tt

-- WHAT IS WRITTEN
did_calm : (app : ℕ) (hs : List Happening) → AllByRecursion Calm (map (did app) hs)
did_calm app [] = tt
did_calm app (steps step ∷ hs) = (tt, did_calm app hs)
did_calm app (sends e ∷ hs) = (tt, did_calm app hs)
did_calm app (hears listener pattern ∷ hs) = (tt, did_calm app hs)
did_calm app (deaf listener pattern ∷ hs) = (tt, did_calm app hs)

sent_calm : (who : Party) (es : List Envelope) → AllByRecursion Calm (map (sent who) es)
sent_calm who [] = tt
sent_calm who (e ∷ es) = (tt, sent_calm who es)

bus_calm : (ends : List End) (own : List Envelope) (closings : List Closing) → AllByRecursion Calm (bus_entries ends own closings)
bus_calm ends own closings =
    bus_all Calm (λ e. tt) ends own closings (all_any (λ (x : Closing). (queued len : ℕ) → Calm (dropped (party_at ends x.conn) queued len)) (λ x queued len. tt) closings)

got_app : (who from : Party) (serial a : ℕ) → who ≡ App a → Calm (got who from serial)
got_app who from serial a h = subst (λ p. Calm (got p from serial)) (sym h) tt

got_registry : (who from : Party) (serial : ℕ) → who ≡ Registry → Calm (got who from serial)
got_registry who from serial h = subst (λ p. Calm (got p from serial)) (sym h) tt

calm_as : (d x : Done) → d ≡ x → AllByRecursion Calm x.entries → AllByRecursion Calm d.entries
calm_as d x is a = subst (λ y. AllByRecursion Calm y.entries) (sym is) a

-- THE BUS
not_away : (w : World) (s : Shape w) (conn : ℕ) (e : End) → end_at w.ends conn ≡ Some e → e.standing ≡ here → (who : Party) (name : List ℕ) → AwayAs w.ends who name → e.who ≡ who → ⊥
not_away w s conn e there on who name x is =
    let at : x.conn ≡ conn = s.one x.conn conn x.e e x.there there (x.whose ∙ sym is) in
    let same : x.e ≡ e = same_some x.e e (sym x.there ∙ ap (end_at w.ends) at ∙ there) in
    false_true (sym (ap is_here x.out) ∙ ap (λ (y : End). is_here y.standing) same ∙ ap is_here on)

no_bus_away : (w : World) → Shape w → (ends : List End) → w.ends ≡ ends → (who : Party) (name : List ℕ) → AwayAs ends who name → who ≡ The_bus → ⊥
no_bus_away w s ends is who name x bus = no_bus w x.conn x.e s (ap (λ l. end_at l x.conn) is ∙ x.there) (x.whose ∙ bus)

-- it takes a message
module _ (es : List Entry) (w : World) (d : Done) (s : Shape w) (after : Shape d.world) (none : NoneIsBus w.bus.state.owners) (n : Named es w) (i : Ends_told es w) (b : BusTakes w d) where
  abbrev was : Carried
  was = record { bus = w.bus; ends = w.ends }

  abbrev then_ : Carried
  then_ = now_named was b.conn b.e.who b.said

  abbrev behind_ : Carried
  behind_ = settled (length w.bus.state.joined) then_

  then_told : Told_ends es then_.ends
  then_told =
      transfer es w.ends then_.ends (AwayAs w.ends) (λ who name a. a) (away_over w.ends then_.ends (named_stays was b.conn b.e.who b.said))
      (named_order was b.conn b.e.who b.said (AwayAs w.ends) none (no_bus w b.conn b.e s b.is_here.there) (no_bus_away w s w.ends refl) (not_away w s b.conn b.e b.is_here.there b.is_here.standing)) i.told

  then_names : HasNames then_.bus.state.owners then_.ends
  then_names = named_names was b.conn b.e.who b.said b.e b.is_here.there ((n.ends b.conn b.e b.is_here.there).owner b.is_here.standing) i.names

  behind_told : Told_ends es behind_.ends
  behind_told =
      transfer es then_.ends behind_.ends (AwayAs behind_.ends) (away_over then_.ends behind_.ends (settled_stays (length w.bus.state.joined) then_)) (λ who name a. a)
      (settled_order (AwayAs behind_.ends) (no_bus_away d.world after behind_.ends (ap (λ x. x.world.ends) b.is)) (length w.bus.state.joined) then_ then_names (λ who name a. a)) then_told

  abbrev words : List Entry
  words = got The_bus b.e.who b.said.message.serial ∷ bus_entries behind_.ends behind_.bus.own behind_.bus.closings

  calm_words : AllByRecursion Calm words
  calm_words = (tt, bus_calm behind_.ends behind_.bus.own behind_.bus.closings)

  took_told : Ends_told (es ++ d.entries) d.world
  took_told =
      subst (λ x. Ends_told (es ++ x.entries) x.world) (sym b.is)
      (record {
        names = settled_names (length w.bus.state.joined) then_ then_names;
        told = more_told es words behind_.ends behind_told (calm_all behind_.ends words calm_words);
        law = calm_more es words i.law calm_words;
      })

-- it takes an end
module _ (es : List Entry) (w : World) (d : Done) (after : Shape d.world) (i : Ends_told es w) (b : BusEnds w d) where
  abbrev start : Carried
  start = record { bus = w.bus; ends = w.ends }

  abbrev without_ : Carried
  without_ = carrying.left start b.conn

  abbrev last : Carried
  last = settled (length w.bus.state.joined) without_

  no_bus_last : (who : Party) (name : List ℕ) → AwayAs last.ends who name → who ≡ The_bus → ⊥
  no_bus_last = no_bus_away d.world after last.ends (ap (λ x. x.world.ends) b.is)

  without_told : Told_ends es without_.ends
  without_told =
      transfer es w.ends without_.ends (AwayAs without_.ends) (away_over w.ends without_.ends (left_stays start b.conn)) (λ who name a. a)
      (left_order (AwayAs without_.ends) (λ who name a. no_bus_last who name (away_over without_.ends last.ends (settled_stays (length w.bus.state.joined) without_) who name a)) start b.conn i.names (λ who name a. a))
      i.told

  without_names : HasNames without_.bus.state.owners without_.ends
  without_names = left_names start b.conn i.names

  last_told : Told_ends es last.ends
  last_told =
      transfer es without_.ends last.ends (AwayAs last.ends) (away_over without_.ends last.ends (settled_stays (length w.bus.state.joined) without_)) (λ who name a. a)
      (settled_order (AwayAs last.ends) no_bus_last (length w.bus.state.joined) without_ without_names (λ who name a. a)) without_told

  abbrev last_words : List Entry
  last_words = bus_entries last.ends last.bus.own last.bus.closings

  ended_told : Ends_told (es ++ d.entries) d.world
  ended_told =
      let calm : AllByRecursion Calm last_words = bus_calm last.ends last.bus.own last.bus.closings in
      subst (λ x. Ends_told (es ++ x.entries) x.world) (sym b.is)
      (record {
        names = settled_names (length w.bus.state.joined) without_ without_names;
        told = more_told es last_words last.ends last_told (calm_all last.ends last_words calm);
        law = calm_more es last_words i.law calm;
      })

-- A READER TAKES A MESSAGE
-- the end of the application that a name tells of
found_named : (name : List ℕ) (app : ℕ) (ends : List End) → app_named name ends ≡ Some app → (k : ℕ) × (e : End) × (end_at ends k ≡ Some e) × (e.who ≡ App app) × (e.unique ≡ Some name)
found_named name app [] h = absurd (no_none app h)
found_named name app (x ∷ xs) h = by (number_if name x.who x.unique) refl h (λ g. found_named name app xs g)
  where
    Found : List End → Type 0
    Found l = (k : ℕ) × (e : End) × (end_at l k ≡ Some e) × (e.who ≡ App app) × (e.unique ≡ Some name)

    by : (o : Option ℕ) → number_if name x.who x.unique ≡ o → first_of o (app_named name xs) ≡ Some app → (app_named name xs ≡ Some app → Found xs) → Found (x ∷ xs)
    by (Some a) g q rest = let y = number_is name x.who x.unique app (g ∙ q) in (0, x, refl, y.0, y.1)
    by None g q rest = let y = rest q in (suc y.0, y.1, y.2, y.3, y.4)

-- who left under a name is the party that the trace tells of under it
pub away_named : (es : List Entry) (w : World) → Named es w → Mail es w → (who : Party) (name : List ℕ) → AwayAs w.ends who name → NameIs es who name
away_named es w n m who name x = subst (λ p. NameIs es p name) x.whose (by (same_party x.e.who Registry) refl)
  where
    by : (b : Bool) → same_party x.e.who Registry ≡ b → NameIs es x.e.who name
    by true h = let r : x.e.who ≡ Registry = same-party x.e.who Registry h in inl (r, same_some name (codes ":1.0") (sym x.unique ∙ m.registry x.conn x.e x.there r))
    by false h = inr (sym ((n.ends x.conn x.e x.there).known (λ r. false_true (sym h ∙ ap (λ p. same_party p Registry) r))) ∙ x.unique)

no_registry : (a : ℕ) → App a ≡ Registry → ⊥
no_registry a h = false_true (ap (λ p. same_party p Registry) h)

module _ (es : List Entry) (w : World) (d : Done) (after : Shape d.world) (n : Named es w) (m : Mail es w) (few : length (greeted es) ≤ 1000) (i : Ends_told es w) (b : ReaderTakes w d) where
  abbrev v : World
  v = received w b.conn b.e b.letter

  abbrev hears_it : End → End
  hears_it e = record e { role = a_reader (hears_letter b.hearer v.ends b.letter) }

  abbrev rest_words : List Entry
  rest_words = heard_entries b.reader b.hearer v.ends b.letter

  abbrev taken_words : List Entry
  taken_words = got (Reader b.reader) b.letter.from b.letter.said.message.serial ∷ rest_words

  wrote : d.entries ≡ taken_words
  wrote = ap (λ x. x.entries) b.is ∙ ap₂ (λ p k. got p b.letter.from b.letter.said.message.serial ∷ heard_entries k b.hearer v.ends b.letter) b.whose (ap number_of b.whose)

  over : Over (Calmly (AwayAs w.ends)) w.ends d.world.ends
  over = subst (λ x. Over (Calmly (AwayAs w.ends)) w.ends x.world.ends) (sym b.is) (both_over w hears_it b.conn (λ e. calm_same (AwayAs w.ends) e (hears_it e) refl refl refl refl))

  stays_over : Over Stays w.ends d.world.ends
  stays_over = over_stays (AwayAs w.ends) w.ends d.world.ends over

  -- the application that a name tells of has it
  app_known : (name : List ℕ) (app : ℕ) → app_named name v.ends ≡ Some app → NameIs es (App app) name
  app_known name app h =
      let y = found_named name app v.ends h in
      let x = (over_with SameName same_name taken_down down_same b.conn w.ends).back y.0 y.1 y.2 in
      let who : x.0.who ≡ App app = sym x.2.whose ∙ y.3 in
      inr (ap (name_told es) (sym who) ∙ sym ((n.ends y.0 x.0 x.1).known (λ r. no_registry app (sym who ∙ r))) ∙ sym x.2.unique ∙ y.4)

  -- what is left for the reader
  quiet_down : (who : Party) → AllByRecursion (NotFrom who) b.rest → (k : ℕ) (e : End) → end_at d.world.ends k ≡ Some e → e.who ≡ Reader b.reader → AllByRecursion (NotFrom who) e.down
  quiet_down who a k e there is =
      let z : End = hears_it (taken_down b.e) in
      let at : end_at d.world.ends b.conn ≡ Some z = ap (λ x. end_at x.world.ends b.conn) b.is ∙ at_changed hears_it v.ends b.conn (taken_down b.e) (received_at w b.conn b.e b.letter b.is_here.there) in
      let same : k ≡ b.conn = after.one k b.conn e z there at (is ∙ sym b.whose) in
      let one : z ≡ e = same_some z e (sym at ∙ ap (end_at d.world.ends) (sym same) ∙ there) in
      subst (AllByRecursion (NotFrom who)) (sym (ap rest_of b.link) ∙ ap (λ (x : End). x.down) one) a

  -- the news of an end
  end_silent : (name : List ℕ) (app : ℕ) → b.letter.from ≡ The_bus → told_end b.letter.said.message ≡ Some name → app_named name v.ends ≡ Some app → Silent d.world.ends (gone b.reader app)
  end_silent name app from told h = by ((subst (Ordered (AwayAs w.ends)) b.link (i.told.links b.conn b.e b.is_here.there)).0 from name told)
    where
      known : NameIs es (App app) name
      known = app_known name app h

      by : IsPlain name ⊎ ((who : Party) × AwayAs w.ends who name × AllByRecursion (NotFrom who) b.rest) → Silent d.world.ends (gone b.reader app)
      by (inl plain) = absurd (false_true (sym plain ∙ unique_told es (App app) name known))
      by (inr x) =
          let who : x.0 ≡ App app = one_named es x.0 (App app) name few (away_named es w n m x.0 name x.1) known in (
            (name, away_over w.ends d.world.ends stays_over (App app) name (subst (λ p. AwayAs w.ends p name) who x.1)),
            quiet_down (App app) (subst (λ p. AllByRecursion (NotFrom p) b.rest) who x.2),
          )

  spoken_silent : (app : ℕ) (lines : List (List ℕ)) → AllByRecursion (Silent d.world.ends) (map (spoke b.reader app) lines)
  spoken_silent app [] = tt
  spoken_silent app (line ∷ lines) = (tt, spoken_silent app lines)

  told_silent : (o : Option ℕ) → ((app : ℕ) → o ≡ Some app → Silent d.world.ends (gone b.reader app)) → AllByRecursion (Silent d.world.ends) (ended_entries b.reader b.hearer o)
  told_silent None f = tt
  told_silent (Some app) f = (f app refl, spoken_silent app (last_lines (holding_of app b.hearer.holds)))

  heard_silent : (from : Party) → b.letter.from ≡ from → AllByRecursion (Silent d.world.ends) (heard_entries b.reader b.hearer v.ends (record b.letter { from = from }))
  heard_silent (App app) h = spoken_silent app (lines_if_held (holding_of app b.hearer.holds) b.letter.said)
  heard_silent The_bus h = told_silent (app_with v.ends (told_end b.letter.said.message)) (λ app g. by (told_end b.letter.said.message) refl app g)
    where
      by : (o : Option (List ℕ)) → told_end b.letter.said.message ≡ o → (app : ℕ) → app_with v.ends o ≡ Some app → Silent d.world.ends (gone b.reader app)
      by None g app q = absurd (no_none app q)
      by (Some name) g app q = end_silent name app h g q
  heard_silent Registry h = tt
  heard_silent (Reader q) h = tt

  -- nothing comes of one whose end it told
  none_before : (a : ℕ) → b.letter.from ≡ App a → AllByRecursion (IsNotEndOf b.reader a) es
  none_before a from = all_map (Silent w.ends) (IsNotEndOf b.reader a) es one i.told.ended
    where
      one : (entry : Entry) → Silent w.ends entry → IsNotEndOf b.reader a entry
      one (gone q x) s = λ of_reader of_app. (subst (AllByRecursion (NotFrom (App x))) b.link (s.1 b.conn b.e b.is_here.there (b.whose ∙ ap Reader (sym of_reader)))).0 (from ∙ ap App (sym of_app))
      one entry s = tt

  got_law : (from : Party) → b.letter.from ≡ from → (behind : List Entry) → ComesBeforeEnd es (got (Reader b.reader) from b.letter.said.message.serial) behind
  got_law (App a) h behind = none_before a h
  got_law The_bus h behind = tt
  got_law Registry h behind = tt
  got_law (Reader q) h behind = tt

  heard_told : Ends_told (es ++ d.entries) d.world
  heard_told =
      subst (λ ys. Ends_told (es ++ ys) d.world) (sym wrote)
      (record {
        names = same_names w d.world (ap (λ x. x.world.bus.state.owners) b.is) stays_over i.names;
        told = more_told es taken_words d.world.ends (same_told es w d.world over i.told) (tt, heard_silent b.letter.from refl);
        law =
            law_more es taken_words i.law (
              got_law b.letter.from refl rest_words,
              each_of TakesNone ComesBeforeEnd (es ++ got (Reader b.reader) b.letter.from b.letter.said.message.serial ∷ []) rest_words none_law (heard_all TakesNone (λ r app line. tt) (λ r app. tt) b.reader b.hearer v.ends b.letter),
            );
      })

-- AT THE BEGINNING
first_names : (quota : ℕ) → HasNames (first_world quota).bus.state.owners (first_world quota).ends
first_names quota zero name h = (first_registry, refl, sym (get-from_sorted nat_cmp first_unique 0 tt) ∙ h)
first_names quota (suc k) name h = by (eq_by_cmp nat_cmp (suc k) 0) refl (sym (get-from_sorted nat_cmp first_unique (suc k) tt) ∙ h)
  where
    by : (b : Bool) → eq_by_cmp nat_cmp (suc k) 0 ≡ b → cond b (Some (codes ":1.0")) None ≡ Some name → HasName (first_world quota).ends (suc k) name
    by true g q = let same : suc k ≡ 0 = nat_cmp-IsAntisymmetric (suc k) 0 (equal_of_tie _ g) in absurd (omega (arith, same))
    by false g q = absurd (no_none name q)

first_told : (es : List Entry) (quota : ℕ) → AllByRecursion (Silent (first_world quota).ends) es → Each ComesBeforeEnd [] es → Ends_told es (first_world quota)
first_told es quota a l = record {
  names = first_names quota;
  told = record { links = λ k e h. by k e h; ended = a };
  law = l;
}
  where
    by : (k : ℕ) (e : End) → end_at (first_registry ∷ []) k ≡ Some e → Ordered (AwayAs (first_registry ∷ [])) e.down
    by zero e h = subst (λ (x : End). Ordered (AwayAs (first_registry ∷ [])) x.down) (same_some first_registry e h) tt
    by (suc k) e h = absurd (no_none e h)

-- where the quota is another, no application has started
anew : (es : List Entry) (w : World) (quota : ℕ) → Shape w → nat_lt 1 (length w.ends) ≡ false → Ends_told es w → Ends_told es (first_world quota)
anew es w quota s few i = first_told es quota (all_map (Silent w.ends) (Silent (first_world quota).ends) es one i.told.ended) i.law
  where
    one : (entry : Entry) → Silent w.ends entry → Silent (first_world quota).ends entry
    one (gone r a) h =
        let x : AwayAs w.ends (App a) h.0.0 = h.0.1 in
        let two : 2 ≤ length w.ends = two_ends w x.conn x.e s x.there (λ g. no_registry a (sym x.whose ∙ ap (λ (y : End). y.who) g)) in
        let less : length w.ends ≤ 1 = ltb-false 1 (length w.ends) few in
        absurd (omega (arith, two, less))
    one entry h = tt

-- EACH CAUSE
stop_calm : (P : Party → List ℕ → Type 0) (e : End) → e.standing ≡ here → Calmly P e (stops e)
stop_calm P e on = record { order = same_order P e (stops e) refl refl; stays = record { whose = refl; keeps = λ name h. h; out = λ h. absurd (false_true (ap is_here (sym h ∙ on))) } }

done_calm : (P : Party → List ℕ → Type 0) (x y : Exporter) (e : End) → Calmly P e (has_done x y e)
done_calm P x y e = calm_same P e (has_done x y e) refl refl refl refl

sends_calm : (P : Party → List ℕ → Type 0) (h : Hearer) (m : Envelope) (e : End) → Calmly P e (reader_sends h m e)
sends_calm P h m e = calm_same P e (reader_sends h m e) refl refl refl refl

asks_calm : (P : Party → List ℕ → Type 0) (m : Envelope) (question : Question) (e : End) → Calmly P e (asks_at m question e)
asks_calm P m question e = by e.role
  where
    by : (role : Role) → Calmly P e (asks_as role m question e)
    by (a_reader h) = sends_calm P (asks question h) m e
    by (the_registry x) = (calming P).same e
    by (an_application x) = (calming P).same e

caused : (es : List Entry) (w : World) (d : Done) → Shape w → Shape d.world → NoneIsBus w.bus.state.owners → Named es w → Mail es w → length (greeted es) ≤ 1000 → Ends_told es w → Effect w d → Ends_told (es ++ d.entries) d.world
caused es w d s after none n m few i (resets quota old is) = subst (λ x. Ends_told (es ++ x.entries) x.world) (sym is) (subst (λ l. Ends_told l (first_world quota)) (sym (append-nil es)) (anew es w quota s old i))
caused es w d s after none n m few i (app_joins name short is) =
    by_join es w d i (ap (λ x. x.world.bus.state.owners) is) (new_app w name) (ap (λ x. x.world.ends) is ∙ app_joined w name) refl (calm_as d (app_starts w name) is (tt, (tt, tt)))
caused es w d s after none n m few i (reader_joins old is) =
    by_join es w d i (ap (λ x. x.world.bus.state.owners) is) (new_reader w) (ap (λ x. x.world.ends) is) refl (calm_as d (reader_starts w) is (tt, (tt, tt)))
caused es w d s after none n m few i (app_edited b) =
    by_end es w d i (ap (λ x. x.world.bus.state.owners) b.is) (has_done b.before b.after) b.conn (done_calm (AwayAs w.ends) b.before b.after) (ap (λ x. x.world.ends) b.is) (calm_as d _ b.is (did_calm _ b.after.out))
caused es w d s after none n m few i (app_took b) =
    let then_app : Exporter = app_takes b.before b.letter.said.message in
    by_both es w d i (ap (λ x. x.world.bus.state.owners) b.is) (has_done b.before then_app) b.conn (done_calm (AwayAs w.ends) b.before then_app) (ap (λ x. x.world.ends) b.is)
    (calm_as d _ b.is (got_app b.e.who b.letter.from b.letter.said.message.serial b.app b.whose, did_calm _ then_app.out))
caused es w d s after none n m few i (reader_called b) =
    by_end es w d i (ap (λ x. x.world.bus.state.owners) b.is) (reader_sends (record b.hearer { next = suc b.hearer.next }) (user_call b.hearer.next b.name b.node b.deed)) b.conn (sends_calm (AwayAs w.ends) _ _) (ap (λ x. x.world.ends) b.is)
    (calm_as d _ b.is (tt, tt))
caused es w d s after none n m few i (swapped b) = by_same es w d i (ap (λ x. x.world.bus.state.owners) b.is) (ap (λ x. x.world.ends) b.is) (calm_as d _ b.is tt)
caused es w d s after none n m few i (exited_ b) =
    by_known es w d i (ap (λ x. x.world.bus.state.owners) b.is) stops b.conn b.e b.is_here.there (stop_calm (AwayAs w.ends) b.e b.is_here.standing) (ap (λ x. x.world.ends) b.is) (calm_as d _ b.is (tt, tt))
caused es w d s after none n m few i (showed_ b) = by_same es w d i (ap (λ x. x.world.bus.state.owners) b.is) (ap (λ x. x.world.ends) b.is) (calm_as d _ b.is (tt, tt))
caused es w d s after none n m few i (told_busy turns is) = by_same es w d i (ap (λ x. x.world.bus.state.owners) is) (ap (λ x. x.world.ends) is) (calm_as d _ is (tt, tt))
caused es w d s after none n m few i (told_quiet nothing is) = by_same es w d i (ap (λ x. x.world.bus.state.owners) is) (ap (λ x. x.world.ends) is) (calm_as d _ is (tt, tt))
caused es w d s after none n m few i (bus_took b) = took_told es w d s after none n i b
caused es w d s after none n m few i (bus_ended b) = ended_told es w d after i b
caused es w d s after none n m few i (registry_took b) =
    let step = registry_takes b.before b.letter.said.message in
    by_both es w d i (ap (λ x. x.world.bus.state.owners) b.is) (registry_did step) b.conn (λ e. calm_same (AwayAs w.ends) e (registry_did step e) refl refl refl refl) (ap (λ x. x.world.ends) b.is)
    (calm_as d _ b.is (got_registry b.e.who b.letter.from b.letter.said.message.serial b.whose, sent_calm b.e.who step.sent))
caused es w d s after none n m few i (reader_took b) = heard_told es w d after n m few i b

abbrev pub Under_ends : List Entry → World → Type 0
Under_ends es w = And (And Under_mail Known_mail) (And Under_links Delivered) es w

ends_grow : Grows Under_ends Ends_told
ends_grow = record {
  begins = first_told [] QUOTA_MOST tt tt;
  caused = λ es w d s a i e after x. let n = a.0.0.1.1.1 in caused es w d s after a.1.1.1.names n a.0.1.0 (few_greeted es w n a.0.0.0.1) i e;
  moved = λ es w v s a i m. subst (λ l. Ends_told l v) (append-nil es) (by es w v i m);
  asked = λ es w conn r m question s a i asked.
      still es (sent (Reader r) m ∷ []) w (at_end w conn (asks_at m question)) i refl (over_with (Calmly (AwayAs w.ends)) (calming (AwayAs w.ends)) (asks_at m question) (asks_calm (AwayAs w.ends) m question) conn w.ends) (tt, tt);
}
  where
    by : (es : List Entry) (w v : World) → Ends_told es w → (MovedUp w v ⊎ MovedDown w v) → Ends_told (es ++ []) v
    by es w v i (inl m) =
        still es [] w v i (ap (λ (x : World). x.bus.state.owners) m.after)
        (subst (λ (x : World). Over (Calmly (AwayAs w.ends)) w.ends x.ends) (sym m.after)
        (over_with (Calmly (AwayAs w.ends)) (calming (AwayAs w.ends)) (λ e. record e { up_moved = e.up_moved + m.count }) (λ e. calm_same (AwayAs w.ends) e (record e { up_moved = e.up_moved + m.count }) refl refl refl refl) m.conn w.ends)) tt
    by es w v i (inr m) =
        still es [] w v i (ap (λ (x : World). x.bus.state.owners) m.after)
        (subst (λ (x : World). Over (Calmly (AwayAs w.ends)) w.ends x.ends) (sym m.after)
        (over_with (Calmly (AwayAs w.ends)) (calming (AwayAs w.ends)) (λ e. record e { down_moved = e.down_moved + m.count }) (λ e. calm_same (AwayAs w.ends) e (record e { down_moved = e.down_moved + m.count }) refl refl refl refl) m.conn w.ends)) tt

pub ends_keep : Keeps (Shaped (And Under_ends Ends_told))
ends_keep = grown Under_ends Ends_told (both_keep (And Under_mail Known_mail) (And Under_links Delivered) mail_keeps delivered_keeps) ends_grow

-- THE LAWS
pub nothing_comes : (lines : List Line) (trace : List Entry) → CanAllStand lines → Goes (begins lines) trace → Everywhere ComesBeforeEnd trace
nothing_comes lines trace a g =
    let k = kept (Shaped (And Under_ends Ends_told)) ends_keep lines trace a g in
    everywhere ComesBeforeEnd trace (law_front trace _ [] k.state.1.1.law)

-- what is held behind the news of an end, where nothing comes behind it
held_none : (trace : List Entry) → Everywhere ComesBeforeEnd trace → (r a : ℕ) (front rest early : List Entry) → (AllByRecursion (IsNotEndOf r a) early → ⊥) → trace ≡ early ++ (front ++ rest) → held_on early r a None front ≡ None
held_none trace law r a [] rest early told is = refl
held_none trace law r a (x ∷ front) rest early told is =
    ap (λ k. held_on (early ++ x ∷ []) r a k front) (at x (law early x (front ++ rest) is))
    ∙ held_none trace law r a front rest (early ++ x ∷ []) (λ all. told (all_front (IsNotEndOf r a) early (x ∷ []) all)) (is ∙ sym (append_assoc early (x ∷ []) (front ++ rest)))
  where
    at : (entry : Entry) → ComesBeforeEnd early entry (front ++ rest) → kept_after early r a None entry ≡ None
    at (got (Reader q) (App b) serial) c = by (q == r) refl (b == a) refl
      where
        by : (s : Bool) → (q == r) ≡ s → (t : Bool) → (b == a) ≡ t → (if s && t then kept_with serial (answers_question early r (message early (App a) serial)) None else None) ≡ None
        by true g true h = absurd (told (subst (λ z. AllByRecursion (IsNotEndOf r z) early) (eqb-true b a h) (subst (λ z. AllByRecursion (IsNotEndOf z b) early) (eqb-true q r g) c)))
        by true g false h = refl
        by false g t h = refl
    at (gone q b) c = by (q == r && b == a)
      where
        by : (t : Bool) → ◌≡◌ {A = Option Kept} (if t then None else None) None
        by true = refl
        by false = refl
    at entry c = refl

pub nothing_held : (lines : List Line) (trace : List Entry) → CanAllStand lines → Goes (begins lines) trace → Everywhere HoldsNoMore trace
nothing_held lines trace a g before (gone r b) behind h = λ front rest is.
    held_more before (gone r b ∷ front) r b
    ∙ ap (λ t. held_on (before ++ gone r b ∷ []) r b (if t then None else held before r b) front) (ap₂ (λ x y. x && y) (eq-eqb r r refl) (eq-eqb b b refl))
    ∙ held_none trace (nothing_comes lines trace a g) r b front rest (before ++ gone r b ∷ []) (λ all. (all_back (IsNotEndOf r b) before (gone r b ∷ []) all).0 refl refl)
    (h ∙ ap (λ l. before ++ gone r b ∷ l) is ∙ sym (append_assoc before (gone r b ∷ []) (front ++ rest)))
nothing_held lines trace a g before entry behind h = tt
