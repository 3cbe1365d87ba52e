-- What a cause does to readers and their down links, told apart in six forms: nothing; an end joins; the bus takes a message, or the end of an end; a reader takes a message; or all begins.
use Rattle.std.proofs.Common.{◌≡◌, inl, inr, ◌⊎◌, ℕ, suc, ◌+◌, true, false, Bool, [], ◌∷◌, ◌++◌, refl, sym, ap, ◌∙◌, subst}
use Rattle.std.specs.Prelude.{Some}
use Rattle.std.specs.List.{AllByRecursion}
use Rattle.atspi_message.specs.Envelope.{Envelope}
use Rattle.atspi_protocol.specs.exporting.Taking.{app_takes}
use Rattle.atspi_protocol.specs.registering.Steps.{registry_takes}
use Rattle.atspi_protocol.specs.following.Calls.{user_call}
use Rattle.atspi_trace.specs.World.{here, Hearer, Role, a_reader, End, World, first_world}
use Rattle.atspi_trace.specs.Ends.{is_here, end_at, with_end, taken_down, stops}
use Rattle.atspi_trace.specs.Causes.{Done, only, has_done, reader_sends, registry_did}
use Rattle.atspi_trace_laws.proofs.OfOrder.Parties.{false_true}
use Rattle.atspi_trace_laws.proofs.OfOrder.Allowed.{MovedUp, MovedDown}
use Rattle.atspi_trace_laws.proofs.OfOrder.Frame.{Over, IsOrder, over_same, over_both, over_with, over_at}
use Rattle.atspi_trace_laws.proofs.OfOrder.Shape.{Shape}
use Rattle.atspi_trace_laws.proofs.OfOrder.Shaped.{new_app, new_reader, app_joined}
use Rattle.atspi_trace_laws.proofs.OfOrder.Effects.{BusTakes, BusEnds, ReaderTakes, Effect, resets, app_joins, reader_joins, app_edited, app_took, reader_called, swapped, exited_, showed_, told_busy, told_quiet, bus_took, bus_ended, registry_took, reader_took}
use Rattle.atspi_trace_laws.proofs.OfLinks.LawLinks.{NotTaken, did_free, sent_free, got_free, no_bus}
use Rattle.atspi_trace_caches.proofs.OfSettled.TellingAsked.{IsWell, no_children}

-- A READER AFTERWARDS with the same calls, names and down link
pub record SameReader (e d : End) : Type 0 where
  pub whose : d.who ≡ e.who
  pub on : d.standing ≡ here → e.standing ≡ here
  pub same : (h : Hearer) → d.role ≡ a_reader h → (g : Hearer) × (e.role ≡ a_reader g) × (h.asked ≡ g.asked) × (h.named ≡ g.named) × (h.registry ≡ g.registry) × (d.down ≡ e.down)

pub same_reader : IsOrder SameReader
same_reader = record {
  same = λ e. record { whose = refl; on = λ h. h; same = λ h role. (h, role, refl, refl, refl, refl) };
  both = λ e d c f g. record {
    whose = g.whose ∙ f.whose;
    on = λ h. f.on (g.on h);
    same = λ h role. let x = g.same h role in let y = f.same x.0 x.1 in (y.0, y.1, x.2 ∙ y.2, x.3 ∙ y.3, x.4 ∙ y.4, x.5 ∙ y.5);
  };
}

abbrev is_reader_role : Role → Bool
is_reader_role (a_reader h) = true
is_reader_role role = false

not_reader : (e d : End) → d.who ≡ e.who → is_reader_role d.role ≡ false → (d.standing ≡ here → e.standing ≡ here) → SameReader e d
not_reader e d who none on = record { whose = who; on = on; same = λ h g. absurd (false_true (sym none ∙ ap is_reader_role g)) }

alike : (e d : End) → d.who ≡ e.who → d.role ≡ e.role → (d.standing ≡ here → e.standing ≡ here) → d.down ≡ e.down → SameReader e d
alike e d who role on down = record { whose = who; on = on; same = λ h g. (h, sym role ∙ g, refl, refl, refl, down) }

abbrev hearer_in : Role → Hearer → Hearer
hearer_in (a_reader h) g = h
hearer_in role g = g

pub same_hearer : (g h : Hearer) → a_reader g ≡ a_reader h → g ≡ h
same_hearer g h is = ap (λ r. hearer_in r g) is

no_stop : (e : End) → (stops e).standing ≡ here → e.standing ≡ here
no_stop e h = absurd (false_true (ap is_here h))

called_same : (e : End) (g : Hearer) (m : Envelope) → e.role ≡ a_reader g → SameReader e (reader_sends (record g { next = suc g.next }) m e)
called_same e g m was = record {
  whose = refl;
  on = λ h. h;
  same = λ h role. let is = same_hearer (record g { next = suc g.next }) h role in (g, was, ap (λ (x : Hearer). x.asked) (sym is), ap (λ (x : Hearer). x.named) (sym is), ap (λ (x : Hearer). x.registry) (sym is), refl);
}

pub record Calm (w : World) (d : Done) : Type 0 where
  pub ends : Over SameReader w.ends d.world.ends
  pub free : AllByRecursion NotTaken d.entries

pub data Resting (w : World) (d : Done) : Type 0 where
  calms : Calm w d → Resting w d
  joins : (nu : End) → d.world.ends ≡ w.ends ++ nu ∷ [] → ((h : Hearer) → nu.role ≡ a_reader h → (n : ℕ) → IsWell h.asked n → ⊥) → AllByRecursion NotTaken d.entries → Resting w d
  takes_ : BusTakes w d → Resting w d
  ends_ : BusEnds w d → Resting w d
  reads_ : ReaderTakes w d → Resting w d
  begins_ : (quota : ℕ) → d ≡ only (first_world quota) [] → Resting w d

module _ (w : World) (d : Done) where
  as_is : (x : Done) → d ≡ x → Over SameReader w.ends x.world.ends → AllByRecursion NotTaken x.entries → Resting w d
  as_is x is o n = calms (record { ends = subst (λ y. Over SameReader w.ends y.world.ends) (sym is) o; free = subst (λ y. AllByRecursion NotTaken y.entries) (sym is) n })

  -- one that is no reader takes a message
  two : (f : End → End) (conn : ℕ) (e : End) → end_at w.ends conn ≡ Some e → is_reader_role e.role ≡ false → ((x : End) → SameReader x (f x)) → Over SameReader w.ends (with_end conn f (with_end conn taken_down w.ends))
  two f conn e there none r =
      over_both SameReader same_reader w.ends (with_end conn taken_down w.ends) (with_end conn f (with_end conn taken_down w.ends)) (over_at SameReader same_reader taken_down conn w.ends e there (not_reader e (taken_down e) refl none (λ h. h)))
      (over_with SameReader same_reader f r conn (with_end conn taken_down w.ends))

  none_over : Over SameReader w.ends w.ends
  none_over = over_same SameReader same_reader w.ends

  pub resting : Shape w → Effect w d → Resting w d
  resting s (resets quota old is) = begins_ quota is
  resting s (app_joins name short is) = joins (new_app w name) (ap (λ x. x.world.ends) is ∙ app_joined w name) (λ h role. absurd (false_true (ap is_reader_role role))) (subst (λ y. AllByRecursion NotTaken y.entries) (sym is) (tt, (tt, tt)))
  resting s (reader_joins old is) =
      joins (new_reader w) (ap (λ x. x.world.ends) is) (λ h role n x. no_children n _ refl (subst (λ (g : Hearer). IsWell g.asked n) (sym (same_hearer _ h role)) x)) (subst (λ y. AllByRecursion NotTaken y.entries) (sym is) (tt, (tt, tt)))
  resting s (app_edited b) = as_is _ b.is (over_with SameReader same_reader (has_done b.before b.after) (λ e. not_reader e (has_done b.before b.after e) refl refl (λ h. h)) b.conn w.ends) (did_free _ b.after.out)
  resting s (app_took b) =
      let f : End → End = has_done b.before (app_takes b.before b.letter.said.message) in
      as_is _ b.is (two f b.conn b.e b.is_here.there (ap is_reader_role b.role) (λ e. not_reader e (f e) refl refl (λ h. h)))
      (got_free b.e.who b.letter.from b.letter.said.message.serial (no_bus w b.conn b.e s b.is_here.there), did_free _ (app_takes b.before b.letter.said.message).out)
  resting s (reader_called b) =
      as_is _ b.is
      (over_at SameReader same_reader (reader_sends (record b.hearer { next = suc b.hearer.next }) (user_call b.hearer.next b.name b.node b.deed)) b.conn w.ends b.e b.is_here.there (called_same b.e b.hearer (user_call b.hearer.next b.name b.node b.deed) b.role)) (tt, tt)
  resting s (swapped b) = as_is _ b.is none_over tt
  resting s (exited_ b) = as_is _ b.is (over_with SameReader same_reader stops (λ e. alike e (stops e) refl refl (no_stop e) refl) b.conn w.ends) (tt, tt)
  resting s (showed_ b) = as_is _ b.is none_over (tt, tt)
  resting s (told_busy turns is) = as_is _ is none_over (tt, tt)
  resting s (told_quiet quiet is) = as_is _ is none_over (tt, tt)
  resting s (bus_took b) = takes_ b
  resting s (bus_ended b) = ends_ b
  resting s (registry_took b) =
      let f : End → End = registry_did (registry_takes b.before b.letter.said.message) in
      as_is _ b.is (two f b.conn b.e b.is_here.there (ap is_reader_role b.role) (λ e. not_reader e (f e) refl refl (λ h. h)))
      (got_free b.e.who b.letter.from b.letter.said.message.serial (no_bus w b.conn b.e s b.is_here.there), sent_free b.e.who (registry_takes b.before b.letter.said.message).sent)
  resting s (reader_took b) = reads_ b

pub moved_same : (w v : World) → (MovedUp w v ⊎ MovedDown w v) → Over SameReader w.ends v.ends
moved_same w v (inl m) =
    subst (λ (x : World). Over SameReader w.ends x.ends) (sym m.after) (over_with SameReader same_reader (λ e. record e { up_moved = e.up_moved + m.count }) (λ e. alike e (record e { up_moved = e.up_moved + m.count }) refl refl (λ h. h) refl) m.conn w.ends)
moved_same w v (inr m) =
    subst (λ (x : World). Over SameReader w.ends x.ends) (sym m.after)
    (over_with SameReader same_reader (λ e. record e { down_moved = e.down_moved + m.count }) (λ e. alike e (record e { down_moved = e.down_moved + m.count }) refl refl (λ h. h) refl) m.conn w.ends)
