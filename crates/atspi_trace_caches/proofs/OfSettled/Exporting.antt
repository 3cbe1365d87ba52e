-- What is said of each application that is here and of the trace, kept where no application acts, where one starts, and where one takes a message or its user edits.
use Rattle.std.proofs.Common.{◌≡◌, ◌⊎◌, inl, inr, ℕ, zero, suc, ◌+◌, ◌<◌, Bool, true, false, List, [], ◌∷◌, ◌++◌, length, map, Some, refl, sym, ap, ◌∙◌, subst, arith}
use Rattle.std.specs.List.{AllByRecursion}
use Rattle.std.proofs.lemmas.Bool.{ne_eqb}
use Rattle.atspi_script_lines.specs.declared.line.Party.TheVariants.{Registry, App, Reader}
use Rattle.atspi_message.specs.Envelope.{Envelope}
use Rattle.atspi_protocol.specs.registering.Steps.{registry_takes}
use Rattle.atspi_protocol.specs.exporting.Exporter.{hello, Exporter, begins as begins_app}
use Rattle.atspi_protocol.specs.exporting.Starting.{start_call, starts}
use Rattle.atspi_protocol.specs.exporting.Taking.{app_takes}
use Rattle.atspi_protocol.specs.declared.following.question.Question.{Question}
use Rattle.atspi_protocol.specs.following.Calls.{user_call}
use Rattle.atspi_match.specs.declared.routing.closing.Closing.{Closing}
use Rattle.atspi_trace.specs.Entry.{Entry, started, sent, dropped}
use Rattle.atspi_trace.specs.World.{here, Role, the_registry, an_application, a_reader, Hearer, End, World, newcomer, first_registry, first_world}
use Rattle.atspi_trace.specs.Ends.{is_here, same_party, number_of, whose, party_at, end_at, with_end, is_app, app_count, put_up, taken_down, stops}
use Rattle.atspi_trace.specs.Hearing.{hears_letter}
use Rattle.atspi_trace.specs.Carrying as carrying
use Rattle.atspi_trace.specs.Carrying.{Carried}
use Rattle.atspi_trace.specs.Causes.{Done, did, only, at_end, has_done, reader_sends, registry_did, app_starts}
use Rattle.atspi_trace.specs.Due.{asks_as, asks_at}
use Rattle.atspi_trace_laws.proofs.OfOrder.Parties.{no_none, same_some, false_true}
use Rattle.atspi_trace_laws.proofs.OfOrder.Allowed.{MovedUp, MovedDown}
use Rattle.atspi_trace_laws.proofs.OfOrder.BusWords.{bus_all}
use Rattle.atspi_trace_laws.proofs.OfOrder.Frame.{Over, IsOrder, over_same, over_both, over_with, joined_cases}
use Rattle.atspi_trace_laws.proofs.OfOrder.Shape.{Shape}
use Rattle.atspi_trace_laws.proofs.OfOrder.Shaped.{new_app, new_reader, app_joined, received_at}
use Rattle.atspi_trace_laws.proofs.OfOrder.Acts.{number_at, last_at}
use Rattle.atspi_trace_laws.proofs.OfOrder.Effects.{received, AppEdits, AppTakes, Effect, resets, app_joins, reader_joins, app_edited, app_took, reader_called, swapped, exited_, showed_, told_busy, told_quiet, bus_took, bus_ended, registry_took, reader_took}
use Rattle.atspi_trace_laws.proofs.OfHeard.Quiet.{heard_all}
use Rattle.atspi_trace_laws.proofs.OfOwn.Writing.{Lives, lived}
use Rattle.atspi_trace_laws.proofs.OfMissed.Arriving.{Goes_on, took_goes, ended_goes}
use Rattle.atspi_trace_caches.proofs.OfServed.HearingTuned.{NotSaid, did_others, ChangedAt, changed_at, changed_both, same_exporter}

-- AN END AFTERWARDS that is the same application, if it is one
pub record SameApp (e d : End) : Type 0 where
  pub whose : d.who ≡ e.who
  pub same : d.standing ≡ here → (s : Exporter) → d.role ≡ an_application s → (e.role ≡ an_application s) × (e.standing ≡ here)

pub same_app : IsOrder SameApp
same_app = record {
  same = λ e. record { whose = refl; same = λ on s g. (g, on) };
  both = λ e d c f g. record { whose = g.whose ∙ f.whose; same = λ on s x. let y = g.same on s x in f.same y.1 s y.0 };
}

abbrev is_app_role : Role → Bool
is_app_role (an_application s) = true
is_app_role role = false

not_app : (e d : End) → d.who ≡ e.who → is_app_role d.role ≡ false → SameApp e d
not_app e d who none = record { whose = who; same = λ on s g. absurd (false_true (sym none ∙ ap is_app_role g)) }

alike : (e d : End) → d.who ≡ e.who → d.role ≡ e.role → d.standing ≡ e.standing → SameApp e d
alike e d who role standing = record { whose = who; same = λ on s g. (sym role ∙ g, sym standing ∙ on) }

stops_same : (e : End) → SameApp e (stops e)
stops_same e = record { whose = refl; same = λ on s g. absurd (false_true (ap is_here on)) }

goes_same : (xs zs : List End) → Over Goes_on xs zs → Over SameApp xs zs
goes_same xs zs o = record { size = o.size; back = λ k d there. let x = o.back k d there in (x.0, x.1, record { whose = x.2.whose; same = λ on s role. (sym x.2.role ∙ role, x.2.on on) }) }

asks_same : (m : Envelope) (question : Question) (e : End) → SameApp e (asks_at m question e)
asks_same m question e = by e.role refl
  where
    by : (role : Role) → e.role ≡ role → SameApp e (asks_as role m question e)
    by (a_reader h) is = not_app e (asks_as (a_reader h) m question e) refl refl
    by (the_registry x) is = alike e e refl refl refl
    by (an_application x) is = alike e e refl refl refl

-- WHAT A CAUSE DOES TO APPLICATIONS
abbrev pub Silent : List Entry → Type 0
Silent ys = (a : ℕ) → AllByRecursion (NotSaid (App a)) ys

pub data Acting (w : World) (d : Done) : Type 0 where
  quiet : Over SameApp w.ends d.world.ends → Silent d.entries → Acting w d
  joins : (nu : End) → d.world.ends ≡ w.ends ++ nu ∷ [] → is_app nu.who ≡ false → Silent d.entries → Acting w d
  starts_ : (name : List ℕ) → d ≡ app_starts w name → Acting w d
  edits_ : AppEdits w d → Acting w d
  takes_ : AppTakes w d → Acting w d
  begins_ : (quota : ℕ) → d ≡ only (first_world quota) [] → Acting w d

all_any : {X : Type 0} (P : X → Type 0) → ((x : X) → P x) → (xs : List X) → AllByRecursion P xs
all_any P f [] = tt
all_any P f (x ∷ xs) = (f x, all_any P f xs)

bus_silent : (a : ℕ) (c : Carried) → AllByRecursion (NotSaid (App a)) (carrying.bus_entries c.ends c.bus.own c.bus.closings)
bus_silent a c =
    bus_all (NotSaid (App a)) (λ e. refl) c.ends c.bus.own c.bus.closings
    (all_any (λ (x : Closing). (queued len : ℕ) → NotSaid (App a) (dropped (party_at c.ends x.conn) queued len)) (λ x queued len. tt) c.bus.closings)

registry_silent : (a : ℕ) (ms : List Envelope) → AllByRecursion (NotSaid (App a)) (map (sent Registry) ms)
registry_silent a [] = tt
registry_silent a (m ∷ ms) = (refl, registry_silent a ms)

module _ (w : World) (d : Done) where
  as_is : (x : Done) → d ≡ x → Over SameApp w.ends x.world.ends → Silent x.entries → Acting w d
  as_is x is o n = quiet (subst (λ y. Over SameApp w.ends y.world.ends) (sym is) o) (λ a. subst (λ y. AllByRecursion (NotSaid (App a)) y.entries) (sym is) (n a))

  one : (f : End → End) → ((e : End) → SameApp e (f e)) → (conn : ℕ) → Over SameApp w.ends (with_end conn f w.ends)
  one f r conn = over_with SameApp same_app f r conn w.ends

  two : (f : End → End) → ((e : End) → SameApp e (f e)) → (conn : ℕ) → Over SameApp w.ends (with_end conn f (with_end conn taken_down w.ends))
  two f r conn =
      over_both SameApp same_app w.ends (with_end conn taken_down w.ends) (with_end conn f (with_end conn taken_down w.ends)) (over_with SameApp same_app taken_down (λ e. alike e (taken_down e) refl refl refl) conn w.ends)
      (over_with SameApp same_app f r conn (with_end conn taken_down w.ends))

  none : Over SameApp w.ends w.ends
  none = over_same SameApp same_app w.ends

  pub acting : Effect w d → Acting w d
  acting (resets quota old is) = begins_ quota is
  acting (app_joins name short is) = starts_ name is
  acting (reader_joins old is) = joins (new_reader w) (ap (λ x. x.world.ends) is) refl (λ a. subst (λ y. AllByRecursion (NotSaid (App a)) y.entries) (sym is) (tt, (refl, tt)))
  acting (app_edited b) = edits_ b
  acting (app_took b) = takes_ b
  acting (reader_called b) =
      let g : Hearer = record b.hearer { next = suc b.hearer.next } in
      let m : Envelope = user_call b.hearer.next b.name b.node b.deed in
      as_is _ b.is (one (reader_sends g m) (λ e. not_app e (reader_sends g m e) refl refl) b.conn) (λ a. (ap (λ p. same_party p (App a)) (ap whose b.is_here.there ∙ b.whose), tt))
  acting (swapped b) = as_is _ b.is none (λ a. tt)
  acting (exited_ b) = as_is _ b.is (one stops stops_same b.conn) (λ a. (tt, tt))
  acting (showed_ b) = as_is _ b.is none (λ a. (tt, tt))
  acting (told_busy turns is) = as_is _ is none (λ a. (tt, tt))
  acting (told_quiet q is) = as_is _ is none (λ a. (tt, tt))
  acting (bus_took b) =
      let c0 : Carried = record { bus = w.bus; ends = w.ends } in
      as_is _ b.is (goes_same w.ends _ (took_goes c0 b.conn b.e.who b.said)) (λ a. (tt, bus_silent a (carrying.takes c0 b.conn b.e.who b.said)))
  acting (bus_ended b) =
      let c0 : Carried = record { bus = w.bus; ends = w.ends } in
      as_is _ b.is (goes_same w.ends _ (ended_goes c0 b.conn)) (λ a. bus_silent a (carrying.takes_end c0 b.conn))
  acting (registry_took b) =
      let step = registry_takes b.before b.letter.said.message in
      as_is _ b.is (two (registry_did step) (λ e. not_app e (registry_did step e) refl refl) b.conn)
      (λ a. (tt, subst (λ p. AllByRecursion (NotSaid (App a)) (map (sent p) step.sent)) (sym b.whose) (registry_silent a step.sent)))
  acting (reader_took b) =
      let v : World = received w b.conn b.e b.letter in
      let g : Hearer = hears_letter b.hearer v.ends b.letter in
      as_is _ b.is (two (λ x. record x { role = a_reader g }) (λ e. not_app e (record e { role = a_reader g }) refl refl) b.conn)
      (λ a. (tt, heard_all (NotSaid (App a)) (λ r app line. tt) (λ r app. tt) (number_of b.e.who) b.hearer v.ends b.letter))

-- WHAT IS SAID of each application that is here, as long as the registry lives; more that others say changes nothing of it
module _ (I : List Entry → ℕ → Exporter → Type 0) (more : (es ys : List Entry) (a : ℕ) (s : Exporter) → AllByRecursion (NotSaid (App a)) ys → I es a s → I (es ++ ys) a s) where
  abbrev pub AllApps : List Entry → World → Type 0
  AllApps es w = Lives es → (k a : ℕ) (e : End) (s : Exporter) → end_at w.ends k ≡ Some e → e.who ≡ App a → e.role ≡ an_application s → e.standing ≡ here → I es a s

  pub quiet_apps : (es ys : List Entry) (w v : World) → Over SameApp w.ends v.ends → Silent ys → AllApps es w → AllApps (es ++ ys) v
  quiet_apps es ys w v o n i live k a d s there who role on =
      let x = o.back k d there in
      let y = x.2.same on s role in
      more es ys a s (n a) (i (lived es ys live) k a x.0 s x.1 (sym x.2.whose ∙ who) y.0 y.1)

  joined_apps : (es ys : List Entry) (w v : World) (nu : End) → v.ends ≡ w.ends ++ nu ∷ [] → is_app nu.who ≡ false → Silent ys → AllApps es w → AllApps (es ++ ys) v
  joined_apps es ys w v nu is other n i live k a d s there who role on = by (joined_cases w.ends nu k d (ap (λ l. end_at l k) (sym is) ∙ there))
    where
      by : (end_at w.ends k ≡ Some d) ⊎ ((k ≡ length w.ends) × (d ≡ nu)) → I (es ++ ys) a s
      by (inl g) = more es ys a s (n a) (i (lived es ys live) k a d s g who role on)
      by (inr g) = absurd (false_true (sym other ∙ ap is_app (ap (λ (x : End). x.who) (sym g.1) ∙ who)))

  -- one acts
  one_apps : (es ys : List Entry) (w v : World) (conn app : ℕ) (e d : End) (t : Exporter) → Shape w → end_at w.ends conn ≡ Some e → e.who ≡ App app → ChangedAt w v conn d → ((a : ℕ) → (app ≡ a → ⊥) → AllByRecursion (NotSaid (App a)) ys)
      → d.who ≡ App app → d.role ≡ an_application t → (Lives es → I (es ++ ys) app t) → AllApps es w → AllApps (es ++ ys) v
  one_apps es ys w v conn app e d t sh at_e whose_ c none_ who role now i live k a x s there x_who x_role on = by (c k x there)
    where
      by : ((k ≡ conn) × (x ≡ d)) ⊎ ((k ≡ conn → ⊥) × (end_at w.ends k ≡ Some x)) → I (es ++ ys) a s
      by (inl y) =
          let number : app ≡ a = ap number_of (sym who ∙ ap (λ (z : End). z.who) (sym y.1) ∙ x_who) in
          let state : t ≡ s = same_exporter t s (sym role ∙ ap (λ (z : End). z.role) (sym y.1) ∙ x_role) in
          subst (λ n. I (es ++ ys) n s) number (subst (I (es ++ ys) app) state (now (lived es ys live)))
      by (inr y) =
          more es ys a s (none_ a (λ number. y.0 (sh.one k conn x e y.1 at_e (x_who ∙ ap App (sym number) ∙ sym whose_)))) (i (lived es ys live) k a x s y.1 x_who x_role on)

  started_apps : (es : List Entry) (w : World) (name : List ℕ) → Shape w → I (es ++ (app_starts w name).entries) (app_count w.ends) (record (starts (begins_app name)) { out = [] }) → AllApps es w → AllApps (es ++ (app_starts w name).entries) (app_starts w name).world
  started_apps es w name sh new i live k a e s there who role on = by (joined_cases w.ends (new_app w name) k e (ap (λ l. end_at l k) (sym (app_joined w name)) ∙ there))
    where
      n : ℕ
      n = app_count w.ends

      less : a < n → n ≡ a → ⊥
      less h q = absurd (omega (arith, h, q))

      first_call : Envelope
      first_call = record (start_call [] hello) { serial = 1 }

      wrote : (app_starts w name).entries ≡ started (App n) (Some name) ∷ (sent (App n) first_call ∷ [])
      wrote = ap (λ j. started (App n) (Some name) ∷ (sent (App j) first_call ∷ [])) (ap (λ o. number_of (whose o)) (last_at w.ends (put_up [] (newcomer (App n) (an_application (begins_app name))))))

      silent : (n ≡ a → ⊥) → AllByRecursion (NotSaid (App a)) (app_starts w name).entries
      silent other = subst (AllByRecursion (NotSaid (App a))) (sym wrote) (tt, (ne_eqb n a other, tt))

      by : (end_at w.ends k ≡ Some e) ⊎ ((k ≡ length w.ends) × (e ≡ new_app w name)) → I (es ++ (app_starts w name).entries) a s
      by (inl g) = more es (app_starts w name).entries a s (silent (less (sh.apps k a e g who))) (i (lived es (app_starts w name).entries live) k a e s g who role on)
      by (inr g) =
          let number : n ≡ a = ap number_of (ap (λ (x : End). x.who) (sym g.1) ∙ who) in
          let state : record (starts (begins_app name)) { out = [] } ≡ s = same_exporter (record (starts (begins_app name)) { out = [] }) s (ap (λ (x : End). x.role) (sym g.1) ∙ role) in
          subst (λ j. I (es ++ (app_starts w name).entries) j s) number (subst (I (es ++ (app_starts w name).entries) n) state new)

  no_app_first : (quota k a : ℕ) (x : End) → end_at (first_world quota).ends k ≡ Some x → x.who ≡ App a → ⊥
  no_app_first quota zero a x h who = false_true (ap is_app (ap (λ (y : End). y.who) (same_some first_registry x h) ∙ who))
  no_app_first quota (suc k) a x h who = no_none x h

  pub first_apps : (es : List Entry) (quota : ℕ) → AllApps es (first_world quota)
  first_apps es quota live k a e s there who role on = absurd (no_app_first quota k a e there who)

  -- EACH: what starts, what an edit makes and what a message makes of one
  pub apps_kept : (es : List Entry) (w : World) (d : Done) → Shape w → Acting w d
      → ((name : List ℕ) → d ≡ app_starts w name → I (es ++ (app_starts w name).entries) (app_count w.ends) (record (starts (begins_app name)) { out = [] }))
      → ((b : AppEdits w d) → d.entries ≡ map (did b.app) b.after.out → Lives es → I es b.app b.before → I (es ++ d.entries) b.app (record b.after { out = [] }))
      → ((b : AppTakes w d) → Lives es → I es b.app b.before → I (es ++ d.entries) b.app (record (app_takes b.before b.letter.said.message) { out = [] })) → AllApps es w → AllApps (es ++ d.entries) d.world
  apps_kept es w d sh (quiet o n) start edit take i = quiet_apps es d.entries w d.world o n i
  apps_kept es w d sh (joins nu is other n) start edit take i = joined_apps es d.entries w d.world nu is other n i
  apps_kept es w d sh (starts_ name is) start edit take i = subst (λ x. AllApps (es ++ x.entries) x.world) (sym is) (started_apps es w name sh (start name is) i)
  apps_kept es w d sh (begins_ quota is) start edit take i = subst (λ x. AllApps (es ++ x.entries) x.world) (sym is) (first_apps (es ++ []) quota)
  apps_kept es w d sh (edits_ b) start edit take i =
      let wrote : d.entries ≡ map (did b.app) b.after.out = ap (λ x. x.entries) b.is ∙ ap (λ n. map (did n) b.after.out) (number_at w.ends b.conn b.app b.e b.is_here.there b.whose) in
      one_apps es d.entries w d.world b.conn b.app b.e (has_done b.before b.after b.e) (record b.after { out = [] }) sh b.is_here.there b.whose
      (changed_at w d.world b.conn b.e (has_done b.before b.after) b.is_here.there (ap (λ x. x.world.ends) b.is)) (λ a differ. subst (AllByRecursion (NotSaid (App a))) (sym wrote) (did_others b.app a b.after.out differ)) b.whose refl
      (λ live. edit b wrote live (i live b.conn b.app b.e b.before b.is_here.there b.whose b.role b.is_here.standing)) i
  apps_kept es w d sh (takes_ b) start edit take i =
      let t : Exporter = app_takes b.before b.letter.said.message in
      let wrote = ap (λ x. x.entries) b.is in
      one_apps es d.entries w d.world b.conn b.app b.e (has_done b.before t (taken_down b.e)) (record t { out = [] }) sh b.is_here.there b.whose
      (changed_both w d.world b.conn b.e (has_done b.before t) b.is_here.there (ap (λ x. x.world.ends) b.is))
      (λ a differ. subst (AllByRecursion (NotSaid (App a))) (sym wrote)
      (tt, subst (λ n. AllByRecursion (NotSaid (App a)) (map (did n) t.out)) (sym (number_at (received w b.conn b.e b.letter).ends b.conn b.app (taken_down b.e) (received_at w b.conn b.e b.letter b.is_here.there) b.whose)) (did_others b.app a t.out differ))) b.whose refl
      (λ live. take b live (i live b.conn b.app b.e b.before b.is_here.there b.whose b.role b.is_here.standing)) i

  pub asked_apps : (es : List Entry) (w : World) (conn r : ℕ) (m : Envelope) (question : Question) → AllApps es w → AllApps (es ++ sent (Reader r) m ∷ []) (at_end w conn (asks_at m question))
  asked_apps es w conn r m question i = quiet_apps es (sent (Reader r) m ∷ []) w (at_end w conn (asks_at m question)) (over_with SameApp same_app (asks_at m question) (asks_same m question) conn w.ends) (λ a. (refl, tt)) i

  pub moved_apps : (es : List Entry) (w v : World) → (MovedUp w v ⊎ MovedDown w v) → AllApps es w → AllApps (es ++ []) v
  moved_apps es w v (inl m) i =
      quiet_apps es [] w v
      (subst (λ (x : World). Over SameApp w.ends x.ends) (sym m.after) (over_with SameApp same_app (λ e. record e { up_moved = e.up_moved + m.count }) (λ e. alike e (record e { up_moved = e.up_moved + m.count }) refl refl refl) m.conn w.ends)) (λ a. tt) i
  moved_apps es w v (inr m) i =
      quiet_apps es [] w v
      (subst (λ (x : World). Over SameApp w.ends x.ends) (sym m.after) (over_with SameApp same_app (λ e. record e { down_moved = e.down_moved + m.count }) (λ e. alike e (record e { down_moved = e.down_moved + m.count }) refl refl refl) m.conn w.ends)) (λ a. tt) i
