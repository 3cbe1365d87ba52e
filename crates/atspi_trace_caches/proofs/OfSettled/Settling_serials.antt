-- The serials of a reader's own calls rise, the first is 1, and it sent no more calls of AddMatch below a serial than own calls.
use Rattle.std.proofs.Common.{◌≡◌, ◌⊎◌, inl, inr, ℕ, suc, ◌+◌, ◌≤◌, Bool, true, false, List, [], ◌∷◌, ◌++◌, map, Some, refl, sym, ap, ◌∙◌, subst, arith}
use Rattle.std.specs.Prelude.{◌&&◌, if◌then◌else◌}
use Rattle.atspi_message.specs.Envelope.{Envelope}
use Rattle.atspi_match.specs.routing.Routing.{is_reply}
use Rattle.atspi_protocol.specs.following.Replied.{is_reply_to}
use Rattle.atspi_protocol.specs.following.Calls.{user_call}
use Rattle.atspi_protocol.specs.exporting.Taking.{app_takes}
use Rattle.atspi_protocol.specs.registering.Steps.{registry_takes}
use Rattle.atspi_trace.specs.World.{Asked, Hearer, Role, a_reader, End, World, first_world}
use Rattle.atspi_trace.specs.Ends.{end_at, with_end, taken_down, stops}
use Rattle.atspi_trace.specs.Hearing.{answered_by, fate_of, hears_letter}
use Rattle.atspi_trace.specs.Causes.{Done, only, has_done, reader_sends, registry_did, reader_starts}
use Rattle.atspi_trace_laws.proofs.OfOrder.Parties.{false_true}
use Rattle.atspi_trace_laws.proofs.OfOrder.Allowed.{MovedUp, MovedDown}
use Rattle.atspi_trace_laws.proofs.OfOrder.Frame.{Over, IsOrder, over_same, over_both, over_with, over_at}
use Rattle.atspi_trace_laws.proofs.OfOrder.Shaped.{received_at, new_app, app_joined}
use Rattle.atspi_trace_laws.proofs.OfOrder.Effects.{received, Effect, resets, app_joins, reader_joins, app_edited, app_took, reader_called, swapped, exited_, showed_, told_busy, told_quiet, bus_took, bus_ended, registry_took, reader_took}
use Rattle.atspi_trace_laws.proofs.OfMissed.Arriving.{Goes_on, took_goes, ended_goes}

-- SERIALS of its own calls
abbrev pub serials : Hearer → List ℕ
serials h = map (λ (a : Asked). a.serial) h.asked

-- EACH READER, BEHIND A CAUSE: its calls are those before, some answered now
pub record CallsBack (e d : End) : Type 0 where
  pub whose : d.who ≡ e.who
  pub calls : (h : Hearer) → d.role ≡ a_reader h → (g : Hearer) × (e.role ≡ a_reader g) × (serials h ≡ serials g) × (g.next ≤ h.next)

pub least : (n : ℕ) → n ≤ n
least n = omega arith

both_le : (a b c : ℕ) → a ≤ b → b ≤ c → a ≤ c
both_le a b c h g = omega (arith, h, g)

pub backing : IsOrder CallsBack
backing = record {
  same = λ e. record { whose = refl; calls = λ h role. (h, role, refl, least h.next) };
  both = λ e d c f g. record {
    whose = g.whose ∙ f.whose;
    calls = λ h role. let x = g.calls h role in let y = f.calls x.0 x.1 in (y.0, y.1, x.2 ∙ y.2, both_le y.0.next x.0.next h.next y.3 x.3);
  };
}

alike : (e d : End) → d.who ≡ e.who → d.role ≡ e.role → CallsBack e d
alike e d who role = record { whose = who; calls = λ h g. (h, sym role ∙ g, refl, least h.next) }

abbrev pub is_reader_role : Role → Bool
is_reader_role (a_reader h) = true
is_reader_role role = false

not_reader : (e d : End) → d.who ≡ e.who → is_reader_role d.role ≡ false → CallsBack e d
not_reader e d who none = record { whose = who; calls = λ h g. absurd (false_true (sym none ∙ ap is_reader_role g)) }

abbrev hearer_in : Role → Hearer → Hearer
hearer_in (a_reader h) g = h
hearer_in role g = g

pub same_hearer : (g h : Hearer) → a_reader g ≡ a_reader h → g ≡ h
same_hearer g h is = ap (λ r. hearer_in r g) is

-- its calls as they were, or answered
calls_same : (e d : End) (g h : Hearer) → d.who ≡ e.who → e.role ≡ a_reader g → d.role ≡ a_reader h → serials h ≡ serials g → g.next ≤ h.next → CallsBack e d
calls_same e d g h who was is asked next = record {
  whose = who;
  calls = λ x role.
      let same : h ≡ x = same_hearer h x (sym is ∙ role) in
      (g, was, ap serials (sym same) ∙ asked, subst (λ (y : Hearer). g.next ≤ y.next) same next);
}

answered_serial : (m : Envelope) (xs : List Asked) → map (λ (a : Asked). a.serial) (map (answered_by m) xs) ≡ map (λ (a : Asked). a.serial) xs
answered_serial m [] = refl
answered_serial m (x ∷ xs) = by (is_reply m && is_reply_to x.serial m.reply) (answered_serial m xs)
  where
    by : (b : Bool) → map (λ (a : Asked). a.serial) (map (answered_by m) xs) ≡ map (λ (a : Asked). a.serial) xs
        → (if b then record x { fate = fate_of m } else x).serial ∷ map (λ (a : Asked). a.serial) (map (answered_by m) xs) ≡ x.serial ∷ map (λ (a : Asked). a.serial) xs
    by true h = ap (λ l. x.serial ∷ l) h
    by false h = ap (λ l. x.serial ∷ l) h

pub data Reading (w : World) (d : Done) : Type 0 where
  reads_on : Over CallsBack w.ends d.world.ends → Reading w d
  joins : (nu : End) → d.world.ends ≡ w.ends ++ nu ∷ [] → is_reader_role nu.role ≡ false → Reading w d
  starts_ : d ≡ reader_starts w → Reading w d
  begins_ : (quota : ℕ) → d ≡ only (first_world quota) [] → Reading w d

goes_back : (xs zs : List End) → Over Goes_on xs zs → Over CallsBack xs zs
goes_back xs zs o = record { size = o.size; back = λ k d there. let x = o.back k d there in (x.0, x.1, alike x.0 d x.2.whose x.2.role) }

more : (n : ℕ) → n ≤ suc n
more n = omega arith

module _ (w : World) (d : Done) where
  as_is : (x : Done) → d ≡ x → Over CallsBack w.ends x.world.ends → Reading w d
  as_is x is o = reads_on (subst (λ y. Over CallsBack w.ends y.world.ends) (sym is) o)

  one : (f : End → End) → ((e : End) → CallsBack e (f e)) → (conn : ℕ) → Over CallsBack w.ends (with_end conn f w.ends)
  one f r conn = over_with CallsBack backing f r conn w.ends

  down_back : (e : End) → CallsBack e (taken_down e)
  down_back e = alike e (taken_down e) refl refl

  two : (f : End → End) (conn : ℕ) (e : End) → end_at w.ends conn ≡ Some e → end_at (with_end conn taken_down w.ends) conn ≡ Some (taken_down e) → CallsBack (taken_down e) (f (taken_down e))
      → Over CallsBack w.ends (with_end conn f (with_end conn taken_down w.ends))
  two f conn e there taken r =
      over_both CallsBack backing w.ends (with_end conn taken_down w.ends) (with_end conn f (with_end conn taken_down w.ends)) (over_with CallsBack backing taken_down down_back conn w.ends)
      (over_at CallsBack backing f conn (with_end conn taken_down w.ends) (taken_down e) taken r)

  none : Over CallsBack w.ends w.ends
  none = over_same CallsBack backing w.ends

  pub reading : Effect w d → Reading w d
  reading (resets quota old is) = begins_ quota is
  reading (app_joins name short is) = joins (new_app w name) (ap (λ x. x.world.ends) is ∙ app_joined w name) refl
  reading (reader_joins old is) = starts_ is
  reading (app_edited b) = as_is _ b.is (one (has_done b.before b.after) (λ e. not_reader e (has_done b.before b.after e) refl refl) b.conn)
  reading (app_took b) =
      let f : End → End = has_done b.before (app_takes b.before b.letter.said.message) in
      as_is _ b.is (two f b.conn b.e b.is_here.there (received_at w b.conn b.e b.letter b.is_here.there) (not_reader (taken_down b.e) (f (taken_down b.e)) refl refl))
  reading (reader_called b) =
      let g : Hearer = record b.hearer { next = suc b.hearer.next } in
      let m : Envelope = user_call b.hearer.next b.name b.node b.deed in
      as_is _ b.is (over_at CallsBack backing (reader_sends g m) b.conn w.ends b.e b.is_here.there (calls_same b.e (reader_sends g m b.e) b.hearer g refl b.role refl refl (more b.hearer.next)))
  reading (swapped b) = as_is _ b.is none
  reading (exited_ b) = as_is _ b.is (one stops (λ e. alike e (stops e) refl refl) b.conn)
  reading (showed_ b) = as_is _ b.is none
  reading (told_busy turns is) = as_is _ is none
  reading (told_quiet quiet is) = as_is _ is none
  reading (bus_took b) = as_is _ b.is (goes_back w.ends _ (took_goes (record { bus = w.bus; ends = w.ends }) b.conn b.e.who b.said))
  reading (bus_ended b) = as_is _ b.is (goes_back w.ends _ (ended_goes (record { bus = w.bus; ends = w.ends }) b.conn))
  reading (registry_took b) =
      let f : End → End = registry_did (registry_takes b.before b.letter.said.message) in
      as_is _ b.is (two f b.conn b.e b.is_here.there (received_at w b.conn b.e b.letter b.is_here.there) (not_reader (taken_down b.e) (f (taken_down b.e)) refl refl))
  reading (reader_took b) =
      let v : World = received w b.conn b.e b.letter in
      let f : End → End = λ x. record x { role = a_reader (hears_letter b.hearer v.ends b.letter) } in
      as_is _ b.is
      (two f b.conn b.e b.is_here.there (received_at w b.conn b.e b.letter b.is_here.there)
      (calls_same (taken_down b.e) (f (taken_down b.e)) b.hearer (hears_letter b.hearer v.ends b.letter) refl b.role refl (answered_serial b.letter.said.message b.hearer.asked) (least b.hearer.next)))

-- bytes that complete no message
pub moved_back : (w v : World) → (MovedUp w v ⊎ MovedDown w v) → Over CallsBack w.ends v.ends
moved_back w v (inl m) =
    subst (λ (x : World). Over CallsBack w.ends x.ends) (sym m.after) (over_with CallsBack backing (λ e. record e { up_moved = e.up_moved + m.count }) (λ e. alike e (record e { up_moved = e.up_moved + m.count }) refl refl) m.conn w.ends)
moved_back w v (inr m) =
    subst (λ (x : World). Over CallsBack w.ends x.ends) (sym m.after) (over_with CallsBack backing (λ e. record e { down_moved = e.down_moved + m.count }) (λ e. alike e (record e { down_moved = e.down_moved + m.count }) refl refl) m.conn w.ends)
