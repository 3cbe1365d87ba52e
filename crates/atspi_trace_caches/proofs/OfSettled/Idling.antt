-- What a cause does to the links, told apart in five forms: nothing new stands on a down link and the bus stays as it is; an end joins; the bus takes a message, or the end of an end; or all begins.
use Rattle.std.proofs.Common.{◌≡◌, ◌⊎◌, inl, inr, ℕ, suc, ◌+◌, true, false, List, [], ◌∷◌, ◌++◌, refl, sym, ap, ◌∙◌, subst}
use Rattle.atspi_message.specs.Envelope.{Envelope}
use Rattle.atspi_protocol.specs.declared.following.question.Question.{Question}
use Rattle.atspi_protocol.specs.exporting.Taking.{app_takes}
use Rattle.atspi_protocol.specs.registering.Steps.{registry_takes}
use Rattle.atspi_protocol.specs.following.Calls.{user_call}
use Rattle.atspi_trace.specs.World.{here, the_registry, an_application, a_reader, Role, Hearer, Letter, End, World, first_world}
use Rattle.atspi_trace.specs.Ends.{is_here, with_end, rest_of, taken_down, stops}
use Rattle.atspi_trace.specs.Hearing.{hears_letter}
use Rattle.atspi_trace.specs.Causes.{Done, only, at_end, has_done, reader_sends, registry_did}
use Rattle.atspi_trace.specs.Due.{asks_as, asks_at}
use Rattle.atspi_trace_laws.proofs.OfOrder.Allowed.{MovedUp, MovedDown}
use Rattle.atspi_trace_laws.proofs.OfOrder.Frame.{Over, IsOrder, over_same, over_both, over_with}
use Rattle.atspi_trace_laws.proofs.OfOrder.Shaped.{new_app, new_reader, app_joined}
use Rattle.atspi_trace_laws.proofs.OfOrder.Effects.{received, BusTakes, BusEnds, Effect, resets, app_joins, reader_joins, app_edited, app_took, reader_called, swapped, exited_, showed_, told_busy, told_quiet, bus_took, bus_ended, registry_took, reader_took}
use Rattle.atspi_trace_laws.proofs.OfMissed.Arriving.{On}

-- AN END AFTERWARDS on whose down link nothing new stands
pub record Stills (e d : End) : Type 0 where
  pub whose : d.who ≡ e.who
  pub gone : is_here e.standing ≡ false → is_here d.standing ≡ false
  pub on : d.standing ≡ here → e.standing ≡ here
  pub down : (l : Letter) → On l d.down → On l e.down

pub stilling : IsOrder Stills
stilling = record {
  same = λ e. record { whose = refl; gone = λ h. h; on = λ h. h; down = λ l o. o };
  both = λ e d c f g. record { whose = g.whose ∙ f.whose; gone = λ h. g.gone (f.gone h); on = λ h. f.on (g.on h); down = λ l o. f.down l (g.down l o) };
}

alike : (e d : End) → d.who ≡ e.who → d.standing ≡ e.standing → d.down ≡ e.down → Stills e d
alike e d who standing down = record { whose = who; gone = λ h. ap is_here standing ∙ h; on = λ h. sym standing ∙ h; down = λ l o. subst (On l) down o }

on_rest : (l : Letter) (ls : List Letter) → On l (rest_of ls) → On l ls
on_rest l [] o = o
on_rest l (x ∷ xs) o = inr o

takes_still : (e : End) → Stills e (taken_down e)
takes_still e = record { whose = refl; gone = λ h. h; on = λ h. h; down = λ l o. on_rest l e.down o }

no_stop : (e : End) → (stops e).standing ≡ here → e.standing ≡ here
no_stop e h = absurd (never (ap is_here h))
  where
    never : false ≡ true → ⊥
    never z = cc

stops_still : (e : End) → Stills e (stops e)
stops_still e = record { whose = refl; gone = λ h. refl; on = no_stop e; down = λ l o. o }

asks_still : (m : Envelope) (question : Question) (e : End) → Stills e (asks_at m question e)
asks_still m question e = by e.role
  where
    by : (role : Role) → Stills e (asks_as role m question e)
    by (a_reader h) = alike e (asks_as (a_reader h) m question e) refl refl refl
    by (the_registry s) = alike e e refl refl refl
    by (an_application s) = alike e e refl refl refl

-- THE FORMS
pub record Idle (w v : World) : Type 0 where
  pub calls : v.bus.state.calls ≡ w.bus.state.calls
  pub rules : v.bus.state.rules ≡ w.bus.state.rules
  pub owners : v.bus.state.owners ≡ w.bus.state.owners
  pub ends : Over Stills w.ends v.ends

pub record Joining (w v : World) : Type 0 where
  pub calls : v.bus.state.calls ≡ w.bus.state.calls
  pub rules : v.bus.state.rules ≡ w.bus.state.rules
  pub owners : v.bus.state.owners ≡ w.bus.state.owners
  pub nu : End
  pub ends : v.ends ≡ w.ends ++ nu ∷ []
  pub down : nu.down ≡ []

pub data Form (w : World) (d : Done) : Type 0 where
  idles : Idle w d.world → Form w d
  joins : Joining w d.world → Form w d
  takes_ : BusTakes w d → Form w d
  ends_ : BusEnds w d → Form w d
  begins_ : (quota : ℕ) → d ≡ only (first_world quota) [] → Form w d

module _ (w : World) (d : Done) where
  as_is : (x : Done) → d ≡ x → x.world.bus.state.calls ≡ w.bus.state.calls → x.world.bus.state.rules ≡ w.bus.state.rules → x.world.bus.state.owners ≡ w.bus.state.owners → Over Stills w.ends x.world.ends → Form w d
  as_is x is calls rules owners o =
      idles (record {
        calls = ap (λ y. y.world.bus.state.calls) is ∙ calls;
        rules = ap (λ y. y.world.bus.state.rules) is ∙ rules;
        owners = ap (λ y. y.world.bus.state.owners) is ∙ owners;
        ends = subst (λ y. Over Stills w.ends y.world.ends) (sym is) o;
      })

  one : (f : End → End) → ((e : End) → Stills e (f e)) → (conn : ℕ) → Over Stills w.ends (with_end conn f w.ends)
  one f r conn = over_with Stills stilling f r conn w.ends

  two : (f : End → End) → ((e : End) → Stills e (f e)) → (conn : ℕ) → Over Stills w.ends (with_end conn f (with_end conn taken_down w.ends))
  two f r conn =
      over_both Stills stilling w.ends (with_end conn taken_down w.ends) (with_end conn f (with_end conn taken_down w.ends)) (over_with Stills stilling taken_down takes_still conn w.ends) (over_with Stills stilling f r conn (with_end conn taken_down w.ends))

  none : Over Stills w.ends w.ends
  none = over_same Stills stilling w.ends

  pub form : Effect w d → Form w d
  form (resets quota old is) = begins_ quota is
  form (app_joins name short is) =
      joins (record {
        calls = ap (λ x. x.world.bus.state.calls) is;
        rules = ap (λ x. x.world.bus.state.rules) is;
        owners = ap (λ x. x.world.bus.state.owners) is;
        nu = new_app w name;
        ends = ap (λ x. x.world.ends) is ∙ app_joined w name;
        down = refl;
      })
  form (reader_joins old is) =
      joins (record {
        calls = ap (λ x. x.world.bus.state.calls) is;
        rules = ap (λ x. x.world.bus.state.rules) is;
        owners = ap (λ x. x.world.bus.state.owners) is;
        nu = new_reader w;
        ends = ap (λ x. x.world.ends) is;
        down = refl;
      })
  form (app_edited b) = as_is _ b.is refl refl refl (one (has_done b.before b.after) (λ e. alike e (has_done b.before b.after e) refl refl refl) b.conn)
  form (app_took b) =
      let f : End → End = has_done b.before (app_takes b.before b.letter.said.message) in
      as_is _ b.is refl refl refl (two f (λ e. alike e (f e) refl refl refl) b.conn)
  form (reader_called b) =
      let g : Hearer = record b.hearer { next = suc b.hearer.next } in
      let m : Envelope = user_call b.hearer.next b.name b.node b.deed in
      as_is _ b.is refl refl refl (one (reader_sends g m) (λ e. alike e (reader_sends g m e) refl refl refl) b.conn)
  form (swapped b) = as_is _ b.is refl refl refl none
  form (exited_ b) = as_is _ b.is refl refl refl (one stops stops_still b.conn)
  form (showed_ b) = as_is _ b.is refl refl refl none
  form (told_busy turns is) = as_is _ is refl refl refl none
  form (told_quiet quiet is) = as_is _ is refl refl refl none
  form (bus_took b) = takes_ b
  form (bus_ended b) = ends_ b
  form (registry_took b) =
      let f : End → End = registry_did (registry_takes b.before b.letter.said.message) in
      as_is _ b.is refl refl refl (two f (λ e. alike e (f e) refl refl refl) b.conn)
  form (reader_took b) =
      let f : End → End = λ x. record x { role = a_reader (hears_letter b.hearer (received w b.conn b.e b.letter).ends b.letter) } in
      as_is _ b.is refl refl refl (two f (λ e. alike e (f e) refl refl refl) b.conn)

-- bytes that complete no message, and a reader's own call
pub idle_moved : (w v : World) → (MovedUp w v ⊎ MovedDown w v) → Idle w v
idle_moved w v (inl m) = record {
  calls = ap (λ (x : World). x.bus.state.calls) m.after;
  rules = ap (λ (x : World). x.bus.state.rules) m.after;
  owners = ap (λ (x : World). x.bus.state.owners) m.after;
  ends = subst (λ (x : World). Over Stills w.ends x.ends) (sym m.after) (over_with Stills stilling (λ e. record e { up_moved = e.up_moved + m.count }) (λ e. alike e (record e { up_moved = e.up_moved + m.count }) refl refl refl) m.conn w.ends);
}
idle_moved w v (inr m) = record {
  calls = ap (λ (x : World). x.bus.state.calls) m.after;
  rules = ap (λ (x : World). x.bus.state.rules) m.after;
  owners = ap (λ (x : World). x.bus.state.owners) m.after;
  ends = subst (λ (x : World). Over Stills w.ends x.ends) (sym m.after) (over_with Stills stilling (λ e. record e { down_moved = e.down_moved + m.count }) (λ e. alike e (record e { down_moved = e.down_moved + m.count }) refl refl refl) m.conn w.ends);
}

pub idle_asked : (w : World) (conn : ℕ) (m : Envelope) (question : Question) → Idle w (at_end w conn (asks_at m question))
idle_asked w conn m question = record { calls = refl; rules = refl; owners = refl; ends = over_with Stills stilling (asks_at m question) (asks_still m question) conn w.ends }
