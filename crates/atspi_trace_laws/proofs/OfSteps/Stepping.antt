-- The law of steps along a lawful trace.
use Rattle.std.proofs.Common.{◌≡◌, ◌⊎◌, inl, inr, ℕ, suc, ◌+◌, Bool, true, false, List, [], ◌∷◌, length, map, Some, refl, sym, ap, ◌∙◌, subst}
use Rattle.std.specs.Prelude.{nat_lt, Ok}
use Rattle.std.specs.List.{AllByRecursion}
use Rattle.atspi_tree_model.specs.declared.edit.Edit.{Edit}
use Rattle.atspi_tree_model.specs.Edits.{is_long_name, IsEdit}
use Rattle.atspi_script_lines.specs.declared.line.Party.{Party}
use Rattle.atspi_script_lines.specs.declared.line.Party.TheVariants.{App}
use Rattle.atspi_message.specs.Envelope.{Envelope}
use Rattle.atspi_protocol.specs.registering.RegistryState.{RegistryState}
use Rattle.atspi_protocol.specs.registering.Steps.{registry_takes}
use Rattle.atspi_protocol.specs.exporting.Exporter.{Exporter}
use Rattle.atspi_protocol.specs.exporting.Taking.{app_edits, app_takes}
use Rattle.atspi_protocol.specs.exporting.Laws.{HasTree, HasTreeIfDone}
use Rattle.atspi_protocol.proofs.OfExporting.Staying.{trees_stay}
use Rattle.atspi_match.specs.routing.Queues.{Bus}
use Rattle.atspi_protocol.specs.following.Calls.{user_call}
use Rattle.atspi_trace.specs.Entry.{Entry, started, changed, got}
use Rattle.atspi_trace.specs.World.{Role, the_registry, an_application, a_reader, Letter, Hearer, End, World, first_world}
use Rattle.atspi_trace.specs.Ends.{number_of, end_at, with_end, put_down, taken_up, taken_down, stops, leaves}
use Rattle.atspi_trace.specs.Hearing.{hears_letter, heard_entries}
use Rattle.atspi_trace.specs.Carrying as carrying
use Rattle.atspi_trace.specs.Carrying.{own_letter, letter_of, named}
use Rattle.atspi_trace.specs.Causes.{Done, only, did, has_done, app_starts, reader_starts, reader_sends, registry_did}
use Rattle.atspi_trace_laws.proofs.OfOrder.Parties.{same_some, false_true}
use Rattle.atspi_trace_laws.proofs.OfOrder.Frame.{Over, over_same, over_both, over_with, with_cases, takes_over, ends_over}
use Rattle.atspi_trace_laws.proofs.OfOrder.Shape.{Lasts, lasting}
use Rattle.atspi_trace_laws.proofs.OfOrder.Each.{all_map}
use Rattle.atspi_trace_laws.proofs.OfOrder.Effects.{received, AppEdits, AppTakes, ReaderCalls, Stopping, BusTakes, BusEnds, RegistryTakes, ReaderTakes, Effect, resets, app_joins, reader_joins, app_edited, app_took, reader_called, swapped, exited_, showed_, told_busy, told_quiet, bus_took, bus_ended, registry_took, reader_took}
use Rattle.atspi_trace_laws.proofs.OfOrder.Shaped.{received_at, bus_takes_over, bus_ends_over, edits_over, app_takes_over, calls_over, stopping_over, registry_over, reader_over}
use Rattle.atspi_trace_laws.proofs.OfSteps.Doings.{edit_did}
use Rattle.atspi_trace_laws.proofs.OfSteps.Takings.{takes_did}
use Rattle.atspi_trace_laws.proofs.OfOrder.Acts.{Act, heard_act, number_at}
use Rattle.atspi_trace_laws.proofs.OfSteps.Trees.{NoStep}
use Rattle.atspi_trace_laws.proofs.OfSteps.Steps.{TreeIs, SameApp, same_app, bus_still, sent_still, Trees, ActsApp}

-- changes of an end that leave applications as they are
put_same : (letter : Letter) (e : End) → SameApp e (put_down letter e)
put_same letter e = record { whose = refl; role = λ s h. h }

leaves_same : (e : End) → SameApp e (leaves e)
leaves_same e = record { whose = refl; role = λ s h. h }

name_same : (b : Bus) (conn : ℕ) (e : End) → SameApp e (named b conn e)
name_same b conn e = record { whose = refl; role = λ s h. h }

up_same : (e : End) → SameApp e (taken_up e)
up_same e = record { whose = refl; role = λ s h. h }

down_same : (e : End) → SameApp e (taken_down e)
down_same e = record { whose = refl; role = λ s h. h }

stop_same : (e : End) → SameApp e (stops e)
stop_same e = record { whose = refl; role = λ s h. h }

abbrev is_app_role : Role → Bool
is_app_role (an_application s) = true
is_app_role role = false

pub no_reader : (h : Hearer) (s : Exporter) → a_reader h ≡ an_application s → ⊥
no_reader h s e = false_true (ap is_app_role e)

no_registry_role : (x : RegistryState) (s : Exporter) → the_registry x ≡ an_application s → ⊥
no_registry_role x s e = false_true (ap is_app_role e)

pub reader_same : (h : Hearer) (m : Envelope) (e : End) → SameApp e (reader_sends h m e)
reader_same h m e = record { whose = refl; role = λ s g. absurd (no_reader h s g) }

-- behind a message that went from a down link
received_same : (w : World) (conn : ℕ) (e : End) (letter : Letter) (f : End → End) → ((x : End) → SameApp x (f x)) → Over SameApp w.ends (with_end conn f (received w conn e letter).ends)
received_same w conn e letter f r =
    over_both SameApp same_app w.ends (with_end conn taken_down w.ends) _ (over_with SameApp same_app taken_down down_same conn w.ends)
    (over_with SameApp same_app f r conn (with_end conn taken_down w.ends))

-- applications as they were, and no step
pub record Still (w : World) (d : Done) : Type 0 where
  pub ends : Over SameApp w.ends d.world.ends
  pub quiet : AllByRecursion NoStep d.entries

still_of : (w : World) (d x : Done) → d ≡ x → Over SameApp w.ends x.world.ends → AllByRecursion NoStep x.entries → Still w d
still_of w d x h o n = subst (Still w) (sym h) (record { ends = o; quiet = n })

here_ : (w : World) → Over SameApp w.ends w.ends
here_ w = over_same SameApp same_app w.ends

abbrev NoApp : Party → Type 0
NoApp (App a) = ⊥
NoApp who = Unit {0}

pub bus_took_still : (w : World) (d : Done) → BusTakes w d → Still w d
bus_took_still w d b =
    let c = carrying.takes (record { bus = w.bus; ends = w.ends }) b.conn b.e.who b.said in
    still_of w d _ b.is
    (takes_over SameApp same_app (λ m e. put_same (own_letter m) e) leaves_same name_same up_same (record { bus = w.bus; ends = w.ends }) b.conn b.e.who b.said
    (λ m e. put_same (letter_of b.e.who b.said m) e))
    (tt, bus_still c.ends c.bus.own c.bus.closings)

pub bus_ended_still : (w : World) (d : Done) → BusEnds w d → Still w d
bus_ended_still w d b =
    let c = carrying.takes_end (record { bus = w.bus; ends = w.ends }) b.conn in
    still_of w d _ b.is (ends_over SameApp same_app (λ m e. put_same (own_letter m) e) leaves_same (record { bus = w.bus; ends = w.ends }) b.conn)
    (bus_still c.ends c.bus.own c.bus.closings)

pub called_still : (w : World) (d : Done) → ReaderCalls w d → Still w d
called_still w d b = still_of w d _ b.is (over_with SameApp same_app (reader_sends (record b.hearer { next = suc b.hearer.next }) (user_call b.hearer.next b.name b.node b.deed)) (λ e. reader_same (record b.hearer { next = suc b.hearer.next }) (user_call b.hearer.next b.name b.node b.deed) e) b.conn w.ends) (tt, tt)

pub stopping_still : (w : World) (d : Done) → Stopping w d → Still w d
stopping_still w d b = still_of w d _ b.is (over_with SameApp same_app stops stop_same b.conn w.ends) (tt, tt)

pub registry_still : (w : World) (d : Done) → RegistryTakes w d → Still w d
registry_still w d b =
    still_of w d _ b.is
    (received_same w b.conn b.e b.letter (registry_did (registry_takes b.before b.letter.said.message))
    (λ x. record { whose = refl; role = λ s h. absurd (no_registry_role (registry_takes b.before b.letter.said.message).state s h) }))
    (tt, sent_still b.e.who (registry_takes b.before b.letter.said.message).sent)

reader_took_still : (w : World) (d : Done) → ReaderTakes w d → Still w d
reader_took_still w d b =
    let hearer : Hearer = hears_letter b.hearer (received w b.conn b.e b.letter).ends b.letter in
    still_of w d _ b.is
    (received_same w b.conn b.e b.letter (λ x. record x { role = a_reader hearer }) (λ x. record { whose = refl; role = λ s h. absurd (no_reader hearer s h) }))
    (tt, all_map (Act NoApp) NoStep (heard_entries (number_of b.e.who) b.hearer (received w b.conn b.e b.letter).ends b.letter) spoken_still (heard_act NoApp (number_of b.e.who) b.hearer (received w b.conn b.e b.letter).ends b.letter b.letter.from refl))
  where
    spoken_still : (entry : Entry) → Act NoApp entry → NoStep entry
    spoken_still (started (App a) (Some name)) h = h
    spoken_still (changed a step) h = h
    spoken_still entry h = tt

-- what the cause is to applications
pub data OfApps (es : List Entry) (w : World) (d : Done) : Type 0 where
  still_ : Still w d → Over Lasts w.ends d.world.ends → OfApps es w d
  acts_ : ActsApp w d → Over Lasts w.ends d.world.ends → OfApps es w d
  app_new : (name : List ℕ) → is_long_name name ≡ false → d ≡ app_starts w name → OfApps es w d
  reader_new : d ≡ reader_starts w → OfApps es w d
  anew_ : (quota : ℕ) → nat_lt 1 (length w.ends) ≡ false → d ≡ only (first_world quota) [] → OfApps es w d

-- where one end changed
changed_at : (w : World) (conn : ℕ) (e : End) (s t : Exporter) (v : List End) → Over SameApp w.ends v → end_at v conn ≡ Some e
    → (k : ℕ) (x : End) → end_at (with_end conn (has_done s t) v) k ≡ Some x
    → ((k ≡ conn) × (x.who ≡ e.who) × (x.role ≡ an_application (record t { out = [] }))) ⊎ ((k ≡ conn → ⊥) × (y : End) × (end_at w.ends k ≡ Some y) × SameApp y x)
changed_at w conn e s t v o there k x h = by (with_cases (has_done s t) v conn k x h)
  where
    by : ((y : End) × (end_at v k ≡ Some y) × (((k ≡ conn) × (x ≡ has_done s t y)) ⊎ ((k ≡ conn → ⊥) × (x ≡ y))))
        → ((k ≡ conn) × (x.who ≡ e.who) × (x.role ≡ an_application (record t { out = [] }))) ⊎ ((k ≡ conn → ⊥) × (y : End) × (end_at w.ends k ≡ Some y) × SameApp y x)
    by g = at g.2
      where
        at : (((k ≡ conn) × (x ≡ has_done s t g.0)) ⊎ ((k ≡ conn → ⊥) × (x ≡ g.0)))
            → ((k ≡ conn) × (x.who ≡ e.who) × (x.role ≡ an_application (record t { out = [] }))) ⊎ ((k ≡ conn → ⊥) × (y : End) × (end_at w.ends k ≡ Some y) × SameApp y x)
        at (inl c) =
            let same : g.0 ≡ e = same_some g.0 e (sym g.1 ∙ ap (end_at v) c.0 ∙ there) in
            inl (c.0, ap (λ (z : End). z.who) c.1 ∙ ap (λ (z : End). z.who) same, ap (λ (z : End). z.role) c.1)
        at (inr c) =
            let y = o.back k g.0 g.1 in
            inr (c.0, y.0, y.1, subst (SameApp y.0) (sym c.1) y.2)

tree_of_done : (s t : Exporter) (edit : Edit) → HasTree s → IsEdit edit → app_edits s edit ≡ Ok t → HasTree t
tree_of_done s t edit has asked h = subst HasTreeIfDone h (trees_stay.edited s edit has asked)

edited_acts : (es : List Entry) (w : World) (d : Done) → Trees es w → AppEdits w d → ActsApp w d
edited_acts es w d f b =
    let old : TreeIs es b.app b.before = f b.conn b.app b.e b.before b.is_here.there b.whose b.role in
    subst (ActsApp w) (sym b.is) (record {
      conn = b.conn;
      app = b.app;
      e = b.e;
      before = b.before;
      after = b.after;
      front = [];
      there = b.is_here.there;
      whose = b.whose;
      role = b.role;
      did_ = edit_did b.before b.after b.edit old.is b.asked b.done;
      has = tree_of_done b.before b.after b.edit old.is b.asked b.done;
      ends = changed_at w b.conn b.e b.before b.after w.ends (here_ w) b.is_here.there;
      is_here = b.is_here.standing;
      entries = ap (λ n. map (did n) b.after.out) (number_at w.ends b.conn b.app b.e b.is_here.there b.whose);
      quiet = tt;
      no_stop = refl;
    })

took_acts : (es : List Entry) (w : World) (d : Done) → Trees es w → AppTakes w d → ActsApp w d
took_acts es w d f b =
    let old : TreeIs es b.app b.before = f b.conn b.app b.e b.before b.is_here.there b.whose b.role in
    let after : Exporter = app_takes b.before b.letter.said.message in
    let first : Entry = got b.e.who b.letter.from b.letter.said.message.serial in
    subst (ActsApp w) (sym b.is) (record {
      conn = b.conn;
      app = b.app;
      e = b.e;
      before = b.before;
      after = after;
      front = first ∷ [];
      there = b.is_here.there;
      whose = b.whose;
      role = b.role;
      did_ = takes_did b.before b.letter.said.message old.is;
      has = trees_stay.taken b.before b.letter.said.message old.is;
      ends = changed_at w b.conn (taken_down b.e) b.before after (with_end b.conn taken_down w.ends) (over_with SameApp same_app taken_down down_same b.conn w.ends) (received_at w b.conn b.e b.letter b.is_here.there);
      is_here = b.is_here.standing;
      entries = ap (λ n. first ∷ map (did n) after.out)
          (number_at (received w b.conn b.e b.letter).ends b.conn b.app (taken_down b.e) (received_at w b.conn b.e b.letter b.is_here.there) b.whose);
      quiet = (tt, tt);
      no_stop = refl;
    })

same_over : (w : World) (d : Done) → d.world.ends ≡ w.ends → Over Lasts w.ends d.world.ends
same_over w d h = subst (Over Lasts w.ends) (sym h) (over_same Lasts lasting w.ends)

pub of_apps : (es : List Entry) (w : World) (d : Done) → Trees es w → Effect w d → OfApps es w d
of_apps es w d f (resets quota few is) = anew_ quota few is
of_apps es w d f (app_joins name short is) = app_new name short.0 is
of_apps es w d f (reader_joins few is) = reader_new is
of_apps es w d f (app_edited b) = acts_ (edited_acts es w d f b) (edits_over w d b)
of_apps es w d f (app_took b) = acts_ (took_acts es w d f b) (app_takes_over w d b)
of_apps es w d f (reader_called b) = still_ (called_still w d b) (calls_over w d b)
of_apps es w d f (swapped b) = still_ (still_of w d _ b.is (here_ w) tt) (same_over w d (ap (λ x. x.world.ends) b.is))
of_apps es w d f (exited_ b) = still_ (stopping_still w d b) (stopping_over w d b)
of_apps es w d f (showed_ b) = still_ (still_of w d _ b.is (here_ w) (tt, tt)) (same_over w d (ap (λ x. x.world.ends) b.is))
of_apps es w d f (told_busy turns is) = still_ (still_of w d _ is (here_ w) (tt, tt)) (same_over w d (ap (λ x. x.world.ends) is))
of_apps es w d f (told_quiet none is) = still_ (still_of w d _ is (here_ w) (tt, tt)) (same_over w d (ap (λ x. x.world.ends) is))
of_apps es w d f (bus_took b) = still_ (bus_took_still w d b) (bus_takes_over w d b)
of_apps es w d f (bus_ended b) = still_ (bus_ended_still w d b) (bus_ends_over w d b)
of_apps es w d f (registry_took b) = still_ (registry_still w d b) (registry_over w d b)
of_apps es w d f (reader_took b) = still_ (reader_took_still w d b) (reader_over w d b)

pub up_moved_same : (count : ℕ) (e : End) → SameApp e (record e { up_moved = e.up_moved + count })
up_moved_same count e = record { whose = refl; role = λ s h. h }

pub down_moved_same : (count : ℕ) (e : End) → SameApp e (record e { down_moved = e.down_moved + count })
down_moved_same count e = record { whose = refl; role = λ s h. h }
