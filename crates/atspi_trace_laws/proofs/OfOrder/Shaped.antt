-- The shape of a world is kept along a lawful trace.
use Rattle.std.proofs.Common.{◌≡◌, ◌⊎◌, inl, inr, ℕ, zero, suc, ◌≤◌, ◌+◌, List, [], ◌∷◌, ◌++◌, length, Some, refl, sym, ap, ◌∙◌, subst, arith}
use Rattle.atspi_script_lines.specs.declared.limits.TheConstants.{QUOTA_MOST}
use Rattle.atspi_script_lines.specs.declared.line.Party.TheVariants.{Registry, App, Reader}
use Rattle.atspi_message.specs.Envelope.{Envelope}
use Rattle.atspi_protocol.specs.registering.Steps.{registry_takes}
use Rattle.atspi_protocol.specs.exporting.Exporter.{Exporter, begins}
use Rattle.atspi_protocol.specs.exporting.Starting.{starts}
use Rattle.atspi_protocol.specs.exporting.Taking.{app_takes}
use Rattle.atspi_match.specs.routing.Queues.{Bus}
use Rattle.atspi_protocol.specs.declared.following.question.Question.{Question}
use Rattle.atspi_protocol.specs.declared.following.question.Question.TheVariants.{Hello}
use Rattle.atspi_protocol.specs.following.Calls.{asking, user_call}
use Rattle.atspi_trace.specs.World.{stopped, Hearer, the_registry, an_application, a_reader, Said, Letter, End, World, newcomer, first_registry, first_world}
use Rattle.atspi_trace.specs.Ends.{is_here, same_party, end_at, with_end, app_count, reader_count, plain, put_up, taken_up, taken_down, stops}
use Rattle.atspi_trace.specs.Hearing.{hears_letter}
use Rattle.atspi_trace.specs.Carrying.{own_letter, letter_of, named}
use Rattle.atspi_trace.specs.Causes.{Done, at_end, has_done, app_starts, reader_sends, first_hearer, asks, reader_starts, registry_did}
use Rattle.atspi_trace.specs.Due.{asks_as, asks_at}
use Rattle.atspi_trace_laws.proofs.OfOrder.Parties.{no_none, same_some, false_true}
use Rattle.atspi_trace_laws.proofs.OfOrder.Allowed.{MovedUp, MovedDown, Asks}
use Rattle.atspi_trace_laws.proofs.OfOrder.Frame.{Over, over_at, over_with, over_same, over_both, at_changed, takes_over, ends_over}
use Rattle.atspi_trace_laws.proofs.OfOrder.Shape.{RoleFits, Lasts, lasting, put_lasts, leaves_lasts, Shape, shape_lasts, shape_joined}
use Rattle.atspi_trace_laws.proofs.OfOrder.Effects.{received, AppEdits, AppTakes, ReaderCalls, Stopping, BusTakes, BusEnds, RegistryTakes, ReaderTakes, Effect, resets, app_joins, reader_joins, app_edited, app_took, reader_called, swapped, exited_, showed_, told_busy, told_quiet, bus_took, bus_ended, registry_took, reader_took}

-- how many ends there are
pub one_end : (w : World) → Shape w → 1 ≤ length w.ends
one_end w s = by s.alone
  where
    by : ((2 ≤ length w.ends) ⊎ (w ≡ first_world w.bus.quota)) → 1 ≤ length w.ends
    by (inl h) = omega (arith, h)
    by (inr h) = let size : length w.ends ≡ 1 = ap (λ (v : World). length v.ends) h in omega (arith, size)

first_only : (k : ℕ) (e : End) → end_at (first_registry ∷ []) k ≡ Some e → e ≡ first_registry
first_only zero e h = sym (same_some first_registry e h)
first_only (suc k) e h = absurd (no_none e h)

pub two_ends : (w : World) (k : ℕ) (e : End) → Shape w → end_at w.ends k ≡ Some e → (e ≡ first_registry → ⊥) → 2 ≤ length w.ends
two_ends w k e s h differ = by s.alone
  where
    by : ((2 ≤ length w.ends) ⊎ (w ≡ first_world w.bus.quota)) → 2 ≤ length w.ends
    by (inl g) = g
    by (inr g) = absurd (differ (first_only k e (sym (ap (λ (v : World). end_at v.ends k) g) ∙ h)))

not_app : (e : End) (a : ℕ) → e.who ≡ App a → e ≡ first_registry → ⊥
not_app e a h g = false_true (ap (λ p. same_party p Registry) (sym h ∙ ap (λ (x : End). x.who) g))

not_reader : (e : End) (r : ℕ) → e.who ≡ Reader r → e ≡ first_registry → ⊥
not_reader e r h g = false_true (ap (λ p. same_party p Registry) (sym h ∙ ap (λ (x : End). x.who) g))

no_cons : {A : Type 0} (x : A) (xs : List A) → [] ≡ x ∷ xs → ⊥
no_cons x xs h = absurd (omega (arith, ap length h))

not_up : (e : End) (said : Said) (rest : List Said) → e.up ≡ said ∷ rest → e ≡ first_registry → ⊥
not_up e said rest h g = no_cons said rest (sym (ap (λ (x : End). x.up) g) ∙ h)

not_down : (e : End) (letter : Letter) (rest : List Letter) → e.down ≡ letter ∷ rest → e ≡ first_registry → ⊥
not_down e letter rest h g = no_cons letter rest (sym (ap (λ (x : End). x.down) g) ∙ h)

not_stopped : (e : End) → e.standing ≡ stopped → e ≡ first_registry → ⊥
not_stopped e h g = false_true (ap is_here (sym h ∙ ap (λ (x : End). x.standing) g))

-- changes of one end that last
done_lasts : (s t : Exporter) (e : End) (a : ℕ) → e.who ≡ App a → Lasts e (has_done s t e)
done_lasts s t e a who = record { whose = refl; role = λ r. subst (λ p. RoleFits p (an_application (record t { out = [] }))) (sym who) tt; gone = λ h. h }

sends_lasts : (h : Hearer) (m : Envelope) (e : End) (r : ℕ) → e.who ≡ Reader r → Lasts e (reader_sends h m e)
sends_lasts h m e r who = record { whose = refl; role = λ f. subst (λ p. RoleFits p (a_reader h)) (sym who) tt; gone = λ g. g }

takes_lasts : (e : End) → Lasts e (taken_down e)
takes_lasts e = record { whose = refl; role = λ r. r; gone = λ h. h }

up_lasts : (e : End) → Lasts e (taken_up e)
up_lasts e = record { whose = refl; role = λ r. r; gone = λ h. h }

name_lasts : (b : Bus) (conn : ℕ) (e : End) → Lasts e (named b conn e)
name_lasts b conn e = record { whose = refl; role = λ r. r; gone = λ h. h }

stop_lasts : (e : End) → Lasts e (stops e)
stop_lasts e = record { whose = refl; role = λ r. r; gone = λ h. refl }

-- where a message went from a down link, its receiver is as it was
pub received_at : (w : World) (conn : ℕ) (e : End) (letter : Letter) → end_at w.ends conn ≡ Some e → end_at (received w conn e letter).ends conn ≡ Some (taken_down e)
received_at w conn e letter h = at_changed taken_down w.ends conn e h

received_over : (w : World) (conn : ℕ) (e : End) (letter : Letter) (f : End → End) → end_at w.ends conn ≡ Some e → Lasts (taken_down e) (f (taken_down e))
    → Over Lasts w.ends (with_end conn f (received w conn e letter).ends)
received_over w conn e letter f h l =
    over_both Lasts lasting w.ends (with_end conn taken_down w.ends) _ (over_with Lasts lasting taken_down takes_lasts conn w.ends)
    (over_at Lasts lasting f conn (with_end conn taken_down w.ends) (taken_down e) (received_at w conn e letter h) l)

-- who joins stands last
last_changed : (f : End → End) (ends : List End) (n : End) → with_end (length ends) f (ends ++ n ∷ []) ≡ ends ++ f n ∷ []
last_changed f [] n = refl
last_changed f (x ∷ xs) n = ap (λ l. x ∷ l) (last_changed f xs n)

abbrev pub new_app : World → List ℕ → End
new_app w name = has_done (begins name) (starts (begins name)) (put_up [] (newcomer (App (app_count w.ends)) (an_application (begins name))))

abbrev pub new_reader : World → End
new_reader w = put_up (plain (asking 1 Hello) ∷ []) (newcomer (Reader (reader_count w.ends)) (a_reader (asks Hello first_hearer)))

pub app_joined : (w : World) (name : List ℕ) → (app_starts w name).world.ends ≡ w.ends ++ new_app w name ∷ []
app_joined w name = last_changed (has_done (begins name) (starts (begins name))) w.ends (put_up [] (newcomer (App (app_count w.ends)) (an_application (begins name))))

-- the ends after what the bus does
pub bus_takes_over : (w : World) (d : Done) (b : BusTakes w d) → Over Lasts w.ends d.world.ends
bus_takes_over w d b =
    subst (λ x. Over Lasts w.ends x.world.ends) (sym b.is)
    (takes_over Lasts lasting (λ m e. put_lasts (own_letter m) e) leaves_lasts name_lasts up_lasts (record { bus = w.bus; ends = w.ends }) b.conn b.e.who b.said
    (λ m e. put_lasts (letter_of b.e.who b.said m) e))

pub bus_ends_over : (w : World) (d : Done) (b : BusEnds w d) → Over Lasts w.ends d.world.ends
bus_ends_over w d b =
    subst (λ x. Over Lasts w.ends x.world.ends) (sym b.is)
    (ends_over Lasts lasting (λ m e. put_lasts (own_letter m) e) leaves_lasts (record { bus = w.bus; ends = w.ends }) b.conn)

pub edits_over : (w : World) (d : Done) (b : AppEdits w d) → Over Lasts w.ends d.world.ends
edits_over w d b =
    subst (λ x. Over Lasts w.ends x.world.ends) (sym b.is)
    (over_at Lasts lasting (has_done b.before b.after) b.conn w.ends b.e b.is_here.there (done_lasts b.before b.after b.e b.app b.whose))

pub app_takes_over : (w : World) (d : Done) (b : AppTakes w d) → Over Lasts w.ends d.world.ends
app_takes_over w d b =
    subst (λ x. Over Lasts w.ends x.world.ends) (sym b.is)
    (received_over w b.conn b.e b.letter (has_done b.before (app_takes b.before b.letter.said.message)) b.is_here.there
    (done_lasts b.before (app_takes b.before b.letter.said.message) (taken_down b.e) b.app b.whose))

pub calls_over : (w : World) (d : Done) (b : ReaderCalls w d) → Over Lasts w.ends d.world.ends
calls_over w d b =
    subst (λ x. Over Lasts w.ends x.world.ends) (sym b.is) (over_at Lasts lasting (reader_sends (record b.hearer { next = suc b.hearer.next }) (user_call b.hearer.next b.name b.node b.deed)) b.conn w.ends b.e b.is_here.there
    (sends_lasts (record b.hearer { next = suc b.hearer.next }) (user_call b.hearer.next b.name b.node b.deed) b.e b.reader b.whose))

pub stopping_over : (w : World) (d : Done) (b : Stopping w d) → Over Lasts w.ends d.world.ends
stopping_over w d b = subst (λ x. Over Lasts w.ends x.world.ends) (sym b.is) (over_with Lasts lasting stops stop_lasts b.conn w.ends)

pub registry_over : (w : World) (d : Done) (b : RegistryTakes w d) → Over Lasts w.ends d.world.ends
registry_over w d b =
    subst (λ x. Over Lasts w.ends x.world.ends) (sym b.is)
    (received_over w b.conn b.e b.letter (registry_did (registry_takes b.before b.letter.said.message)) b.is_here.there
    (record { whose = refl; role = λ r. subst (λ p. RoleFits p (the_registry (registry_takes b.before b.letter.said.message).state)) (sym b.whose) tt; gone = λ h. h }))

pub reader_over : (w : World) (d : Done) (b : ReaderTakes w d) → Over Lasts w.ends d.world.ends
reader_over w d b =
    subst (λ x. Over Lasts w.ends x.world.ends) (sym b.is)
    (received_over w b.conn b.e b.letter (λ x. record x { role = a_reader (hears_letter b.hearer (received w b.conn b.e b.letter).ends b.letter) }) b.is_here.there
    (record { whose = refl; role = λ r. subst (λ p. RoleFits p (a_reader (hears_letter b.hearer (received w b.conn b.e b.letter).ends b.letter))) (sym b.whose) tt; gone = λ h. h }))

first_shape : (quota : ℕ) → Shape (first_world quota)
first_shape quota = record {
  roles = λ k e h. subst (λ (x : End). RoleFits x.who x.role) (sym (first_only k e h)) tt;
  one = λ j k d e h g same. zeros j k d e h g;
  apps = λ k a e h who. absurd (not_app e a who (first_only k e h));
  readers = λ k r e h who. absurd (not_reader e r who (first_only k e h));
  registry = λ e h. ap (λ (x : End). x.who) (first_only 0 e h);
  alone = inr refl;
}
  where
    zeros : (j k : ℕ) (d e : End) → end_at (first_registry ∷ []) j ≡ Some d → end_at (first_registry ∷ []) k ≡ Some e → j ≡ k
    zeros zero zero d e h g = refl
    zeros (suc j) k d e h g = absurd (no_none d h)
    zeros zero (suc k) d e h g = absurd (no_none e g)

same_shape : (w : World) (d : Done) → Shape w → d.world ≡ w → Shape d.world
same_shape w d s h = subst Shape (sym h) s

-- a world with the same ends
ends_shape : (w v : World) → Shape w → v.ends ≡ w.ends → 2 ≤ length w.ends → Shape v
ends_shape w v s h two = shape_lasts w v s (subst (Over Lasts w.ends) (sym h) (over_same Lasts lasting w.ends)) (inl two)

pub shape_kept : (w : World) (d : Done) → Shape w → Effect w d → Shape d.world
shape_kept w d s (resets quota few is) = subst (λ x. Shape x.world) (sym is) (first_shape quota)
shape_kept w d s (app_joins name short is) =
    subst (λ x. Shape x.world) (sym is) (shape_joined w (app_starts w name).world s (new_app w name) tt refl (app_joined w name) (one_end w s))
shape_kept w d s (reader_joins few is) =
    subst (λ x. Shape x.world) (sym is) (shape_joined w (reader_starts w).world s (new_reader w) tt refl refl (one_end w s))
shape_kept w d s (app_edited b) = shape_lasts w d.world s (edits_over w d b) (inl (two_ends w b.conn b.e s b.is_here.there (not_app b.e b.app b.whose)))
shape_kept w d s (app_took b) = shape_lasts w d.world s (app_takes_over w d b) (inl (two_ends w b.conn b.e s b.is_here.there (not_app b.e b.app b.whose)))
shape_kept w d s (reader_called b) = shape_lasts w d.world s (calls_over w d b) (inl (two_ends w b.conn b.e s b.is_here.there (not_reader b.e b.reader b.whose)))
shape_kept w d s (swapped b) = ends_shape w d.world s (ap (λ x. x.world.ends) b.is) (two_ends w b.conn b.e s b.there (not_app b.e b.app b.whose))
shape_kept w d s (exited_ b) =
    shape_lasts w d.world s (stopping_over w d b)
    (inl (two_ends w b.conn b.e s b.is_here.there (λ g. false_true (sym b.no_registry ∙ ap (λ (x : End). same_party x.who Registry) g))))
shape_kept w d s (showed_ b) = same_shape w d s (ap (λ x. x.world) b.is)
shape_kept w d s (told_busy turns is) = same_shape w d s (ap (λ x. x.world) is)
shape_kept w d s (told_quiet none is) = same_shape w d s (ap (λ x. x.world) is)
shape_kept w d s (bus_took b) = shape_lasts w d.world s (bus_takes_over w d b) (inl (two_ends w b.conn b.e s b.is_here.there (not_up b.e b.said b.rest b.link)))
shape_kept w d s (bus_ended b) = shape_lasts w d.world s (bus_ends_over w d b) (inl (two_ends w b.conn b.e s b.there (not_stopped b.e b.standing)))
shape_kept w d s (registry_took b) = shape_lasts w d.world s (registry_over w d b) (inl (two_ends w b.conn b.e s b.is_here.there (not_down b.e b.letter b.rest b.link)))
shape_kept w d s (reader_took b) = shape_lasts w d.world s (reader_over w d b) (inl (two_ends w b.conn b.e s b.is_here.there (not_reader b.e b.reader b.whose)))

-- bytes that complete no message, and own calls
pub up_moved_over : (w v : World) → MovedUp w v → Over Lasts w.ends v.ends
up_moved_over w v m =
    subst (λ (x : World). Over Lasts w.ends x.ends) (sym m.after)
    (over_with Lasts lasting (λ e. record e { up_moved = e.up_moved + m.count }) (λ e. record { whose = refl; role = λ r. r; gone = λ h. h }) m.conn w.ends)

pub down_moved_over : (w v : World) → MovedDown w v → Over Lasts w.ends v.ends
down_moved_over w v m =
    subst (λ (x : World). Over Lasts w.ends x.ends) (sym m.after)
    (over_with Lasts lasting (λ e. record e { down_moved = e.down_moved + m.count }) (λ e. record { whose = refl; role = λ r. r; gone = λ h. h }) m.conn w.ends)

pub shape_moved : (w v : World) → Shape w → (MovedUp w v ⊎ MovedDown w v) → Shape v
shape_moved w v s (inl m) = shape_lasts w v s (up_moved_over w v m) (inl (two_ends w m.conn m.e s m.is_here.there (not_up m.e m.said m.rest m.link)))
shape_moved w v s (inr m) = shape_lasts w v s (down_moved_over w v m) (inl (two_ends w m.conn m.e s m.is_here.there (not_down m.e m.letter m.rest m.link)))

asks_lasts : (m : Envelope) (question : Question) (e : End) (r : ℕ) (h : Hearer) → e.who ≡ Reader r → e.role ≡ a_reader h → Lasts e (asks_at m question e)
asks_lasts m question e r h who role = subst (λ x. Lasts e (asks_as x m question e)) (sym role) (sends_lasts (asks question h) m e r who)

pub asked_over : (w : World) (conn r : ℕ) (m : Envelope) (question : Question) (a : Asks w conn r m question) → Over Lasts w.ends (at_end w conn (asks_at m question)).ends
asked_over w conn r m question a =
    over_at Lasts lasting (asks_at m question) conn w.ends a.asker a.is_here.there (asks_lasts m question a.asker r a.hearer a.whose a.reader)

pub shape_asked : (w : World) (conn r : ℕ) (m : Envelope) (question : Question) → Shape w → Asks w conn r m question → Shape (at_end w conn (asks_at m question))
shape_asked w conn r m question s a =
    shape_lasts w (at_end w conn (asks_at m question)) s (asked_over w conn r m question a) (inl (two_ends w conn a.asker s a.is_here.there (not_reader a.asker r a.whose)))

pub shape_first : Shape (first_world QUOTA_MOST)
shape_first = first_shape QUOTA_MOST
