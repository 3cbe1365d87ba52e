-- A reader's registrations reach an application before its call for items does, of every lawful trace.
use Rattle.std.proofs.Common.{◌≡◌, ◌⊎◌, inl, inr, ℕ, suc, ◌+◌, true, false, List, [], ◌∷◌, ◌++◌, length, Some, refl, sym, ap, ◌∙◌, subst}
use Rattle.std.specs.List.{AllByRecursion}
use Rattle.std.proofs.lemmas.List.{append-nil}
use Rattle.atspi_script_lines.specs.declared.limits.TheConstants.{QUOTA_MOST}
use Rattle.atspi_script_lines.specs.declared.line.Line.{Line}
use Rattle.atspi_script_lines.specs.declared.line.Party.{Party}
use Rattle.atspi_script_lines.specs.declared.line.Party.TheVariants.{Bus as The_bus, Registry, App, Reader}
use Rattle.atspi_protocol.specs.exporting.Exporter.{Exporter}
use Rattle.atspi_protocol.specs.exporting.Hearing.{is_heard}
use Rattle.atspi_protocol.specs.exporting.Taking.{app_takes}
use Rattle.atspi_protocol.specs.registering.Steps.{registry_takes}
use Rattle.atspi_protocol.specs.following.Calls.{user_call}
use Rattle.atspi_trace.specs.Entry.{Entry, sent, got}
use Rattle.atspi_trace.specs.World.{an_application, a_reader, Hearer, End, World}
use Rattle.atspi_trace.specs.Ends.{same_party, number_of, end_at, with_end, rest_of, taken_down, stops}
use Rattle.atspi_trace.specs.Carrying as carrying
use Rattle.atspi_trace.specs.Hearing.{hears_letter}
use Rattle.atspi_trace.specs.Causes.{Done, has_done, reader_sends, registry_did, at_end, app_starts, reader_starts}
use Rattle.atspi_trace.specs.Due.{begins, Goes, asks_at}
use Rattle.atspi_trace_laws.specs.laws.NineLaws.{Everywhere}
use Rattle.atspi_trace_laws.specs.order.Scripts.{CanAllStand}
use Rattle.atspi_trace_caches.specs.served.Laws.{IsHeardOfFirst}
use Rattle.atspi_trace_laws.proofs.OfOrder.Parties.{party-same, false_true}
use Rattle.atspi_trace_laws.proofs.OfOrder.Frame.{Over, over_same, over_both, over_with, over_at, joined_cases}
use Rattle.atspi_trace_laws.proofs.OfOrder.Shape.{Shape}
use Rattle.atspi_trace_laws.proofs.OfOrder.Shaped.{new_app, new_reader, app_joined}
use Rattle.atspi_trace_laws.proofs.OfOrder.Allowed.{MovedUp, MovedDown}
use Rattle.atspi_trace_laws.proofs.OfOrder.Effects.{received, AppEdits, AppTakes, Effect, resets, app_joins, reader_joins, app_edited, app_took, reader_called, swapped, exited_, showed_, told_busy, told_quiet, bus_took, bus_ended, registry_took, reader_took}
use Rattle.atspi_trace_laws.proofs.OfOrder.Along.{Keeps, kept}
use Rattle.atspi_trace_laws.proofs.OfOrder.Growing.{Grows, Shaped, And, grown}
use Rattle.atspi_trace_laws.proofs.OfOrder.Each.{Each, everywhere, each_more, each_of}
use Rattle.atspi_trace_laws.proofs.OfSteps.Steps.{Trees}
use Rattle.atspi_trace_laws.proofs.OfOwn.Writing.{Lives, lived}
use Rattle.atspi_trace_laws.proofs.OfLost.Alive.{registry_lives}
use Rattle.atspi_trace_laws.proofs.OfHeard.LawHeard.{Pairs}
use Rattle.atspi_trace_laws.proofs.OfHeard.Quiet.{heard_all}
use Rattle.atspi_trace_laws.proofs.OfTaken.Said.{Comes}
use Rattle.atspi_trace_laws.proofs.OfTaken.LawTaken.{Known, NotGot, did_not_got, sent_not_got, bus_not_got}
use Rattle.atspi_trace_laws.proofs.OfNames.Places.{told_is}
use Rattle.atspi_trace_caches.proofs.OfServed.Facts.{Carries}
use Rattle.atspi_trace_caches.proofs.OfServed.Entering.{carries}
use Rattle.atspi_trace_caches.proofs.OfServed.AskingFrame.{patterns, AllAsking}
use Rattle.atspi_trace_caches.proofs.OfServed.HearingCourse.{edit_course}
use Rattle.atspi_trace_caches.proofs.OfServed.HearingTuned.{Early, Late, AllTuned, SameTuned, same_tuned, is_app_role, not_app, gone_tuned, alike_tuned, ChangedAt, changed_at, changed_both, same_exporter}
use Rattle.atspi_trace_caches.proofs.OfServed.Hearing.{no_app_first, registry_same, reader_same, sends_same, asks_same, signals_of}
use Rattle.atspi_trace_caches.proofs.OfServed.LawServed.{Served_under, served_underlies, served_asking_keeps}
use Rattle.atspi_trace_caches.proofs.OfServed.Reaching.{Reaches, reaches_more, reaches_rest}
use Rattle.atspi_trace_caches.proofs.OfServed.ReachingBus.{Grounds, AllReached, bus_took_reaches, bus_ended_reaches}

-- NO APPLICATION ACTS
quiet_reached : (es ys : List Entry) (w v : World) → Known es w → Over SameTuned w.ends v.ends → AllReached es w → AllReached (es ++ ys) v
quiet_reached es ys w v known o i live k a z s there who role on =
    let x = o.back k z there in
    let y = x.2.same on s role in
    subst (Reaches (es ++ ys) a s.heard) (sym y.1) (reaches_more es ys a s.heard x.0.down (known k x.0 x.1).1 (i (lived es ys live) k a x.0 s x.1 (sym x.2.whose ∙ who) y.0 y.2))

-- one joins
joined_reached : (es ys : List Entry) (w v : World) (n : End) → Known es w → v.ends ≡ w.ends ++ n ∷ [] → n.down ≡ [] → AllReached es w → AllReached (es ++ ys) v
joined_reached es ys w v n known is empty i live k a z s there who role on = by (joined_cases w.ends n k z (ap (λ l. end_at l k) (sym is) ∙ there))
  where
    by : (end_at w.ends k ≡ Some z) ⊎ ((k ≡ length w.ends) × (z ≡ n)) → Reaches (es ++ ys) a s.heard z.down
    by (inl g) = reaches_more es ys a s.heard z.down (known k z g).1 (i (lived es ys live) k a z s g who role on)
    by (inr g) = subst (Reaches (es ++ ys) a s.heard) (sym (ap (λ (x : End). x.down) g.1 ∙ empty)) tt

-- ONE APPLICATION ACTS
one_reached : (es ys : List Entry) (w v : World) (conn app : ℕ) (d : End) (t : Exporter) → Known es w → AllReached es w → ChangedAt w v conn d → d.who ≡ App app → d.role ≡ an_application t
    → (Lives es → Reaches (es ++ ys) app t.heard d.down) → AllReached (es ++ ys) v
one_reached es ys w v conn app d t known i c who role now live k a x s there whose_ role_ on = by (c k x there)
  where
    by : ((k ≡ conn) × (x ≡ d)) ⊎ ((k ≡ conn → ⊥) × (end_at w.ends k ≡ Some x)) → Reaches (es ++ ys) a s.heard x.down
    by (inl y) =
        let number : app ≡ a = ap number_of (sym who ∙ ap (λ (z : End). z.who) (sym y.1) ∙ whose_) in
        let state : t ≡ s = same_exporter t s (sym role ∙ ap (λ (z : End). z.role) (sym y.1) ∙ role_) in
        subst (λ (z : End). Reaches (es ++ ys) a s.heard z.down) (sym y.1)
        (subst (λ n. Reaches (es ++ ys) n s.heard d.down) number (subst (λ (z : Exporter). Reaches (es ++ ys) app z.heard d.down) state (now (lived es ys live))))
    by (inr y) = reaches_more es ys a s.heard x.down (known k x y.1).1 (i (lived es ys live) k a x s y.1 whose_ role_ on)

edits_reached : (es : List Entry) (w : World) (d : Done) → Trees es w → Known es w → AllReached es w → AppEdits w d → AllReached (es ++ d.entries) d.world
edits_reached es w d trees known i b =
    one_reached es d.entries w d.world b.conn b.app (has_done b.before b.after b.e) (record b.after { out = [] }) known i
    (changed_at w d.world b.conn b.e (has_done b.before b.after) b.is_here.there (ap (λ x. x.world.ends) b.is)) b.whose refl
    (λ live.
    subst (λ pairs. Reaches (es ++ d.entries) b.app pairs b.e.down) (sym (edit_course b.before b.after b.edit b.done (trees b.conn b.app b.e b.before b.is_here.there b.whose b.role).empty).heard)
    (reaches_more es d.entries b.app b.before.heard b.e.down (known b.conn b.e b.is_here.there).1 (i live b.conn b.app b.e b.before b.is_here.there b.whose b.role b.is_here.standing)))

takes_reached : (es : List Entry) (w : World) (d : Done) → Known es w → AllTuned es w → AllReached es w → AppTakes w d → AllReached (es ++ d.entries) d.world
takes_reached es w d known tuned i b =
    one_reached es d.entries w d.world b.conn b.app (has_done b.before after (taken_down b.e)) (record after { out = [] }) known i
    (changed_both w d.world b.conn b.e (has_done b.before after) b.is_here.there (ap (λ x. x.world.ends) b.is)) b.whose refl
    (λ live.
    subst (Reaches (es ++ d.entries) b.app after.heard) (sym (ap rest_of b.link))
    (reaches_more es d.entries b.app after.heard b.rest (subst (AllByRecursion (Comes es)) b.link (known b.conn b.e b.is_here.there).1).1
    (reaches_rest es w.bus.state.rules b.conn b.app b.before b.letter b.rest
    (subst (λ ls. Early es w.bus.state.rules b.conn b.app b.before ls ⊎ Late es w.bus.state.rules b.conn b.before ls) b.link (tuned live b.conn b.app b.e b.before b.is_here.there b.whose b.role b.is_here.standing).stage)
    (subst (Reaches es b.app b.before.heard) b.link (i live b.conn b.app b.e b.before b.is_here.there b.whose b.role b.is_here.standing)))))
  where
    after : Exporter
    after = app_takes b.before b.letter.said.message

-- EACH CAUSE
module _ (es : List Entry) (w : World) (d : Done) (known : Known es w) (i : AllReached es w) where
  by_same : d.world.ends ≡ w.ends → AllReached (es ++ d.entries) d.world
  by_same is = quiet_reached es d.entries w d.world known (subst (Over SameTuned w.ends) (sym is) (over_same SameTuned same_tuned w.ends)) i

  by_end : (f : End → End) (conn : ℕ) → ((e : End) → SameTuned e (f e)) → d.world.ends ≡ with_end conn f w.ends → AllReached (es ++ d.entries) d.world
  by_end f conn same is = quiet_reached es d.entries w d.world known (subst (Over SameTuned w.ends) (sym is) (over_with SameTuned same_tuned f same conn w.ends)) i

  -- an end that is no application takes a message
  by_both : (f : End → End) (conn : ℕ) (e : End) → end_at w.ends conn ≡ Some e → SameTuned e (taken_down e) → ((x : End) → SameTuned x (f x)) → d.world.ends ≡ with_end conn f (with_end conn taken_down w.ends)
      → AllReached (es ++ d.entries) d.world
  by_both f conn e there first same is =
      quiet_reached es d.entries w d.world known
      (subst (Over SameTuned w.ends) (sym is)
      (over_both SameTuned same_tuned w.ends (with_end conn taken_down w.ends) (with_end conn f (with_end conn taken_down w.ends)) (over_at SameTuned same_tuned taken_down conn w.ends e there first)
      (over_with SameTuned same_tuned f same conn (with_end conn taken_down w.ends)))) i

caused_reached : (es : List Entry) (w : World) (d : Done) → Shape w → Grounds es w → Grounds (es ++ d.entries) d.world → Carries es (es ++ d.entries) w d.world → AllReached es w → Effect w d → AllReached (es ++ d.entries) d.world
caused_reached es w d s u v c i (resets quota old is) = subst (λ x. AllReached (es ++ x.entries) x.world) (sym is) (λ live k a e t there who role on. absurd (no_app_first quota k a e there who))
caused_reached es w d s u v c i (app_joins name short is) = joined_reached es d.entries w d.world (new_app w name) u.base.known (ap (λ x. x.world.ends) is ∙ app_joined w name) refl i
caused_reached es w d s u v c i (reader_joins old is) = joined_reached es d.entries w d.world (new_reader w) u.base.known (ap (λ x. x.world.ends) is) refl i
caused_reached es w d s u v c i (app_edited b) = edits_reached es w d u.base.trees u.base.known i b
caused_reached es w d s u v c i (app_took b) = takes_reached es w d u.base.known u.tuned i b
caused_reached es w d s u v c i (reader_called b) =
    let g : Hearer = record b.hearer { next = suc b.hearer.next } in
    by_end es w d u.base.known i (reader_sends g (user_call b.hearer.next b.name b.node b.deed)) b.conn (sends_same g (user_call b.hearer.next b.name b.node b.deed)) (ap (λ x. x.world.ends) b.is)
caused_reached es w d s u v c i (swapped b) = by_same es w d u.base.known i (ap (λ x. x.world.ends) b.is)
caused_reached es w d s u v c i (exited_ b) = by_end es w d u.base.known i stops b.conn (λ x. gone_tuned x (stops x) refl refl) (ap (λ x. x.world.ends) b.is)
caused_reached es w d s u v c i (showed_ b) = by_same es w d u.base.known i (ap (λ x. x.world.ends) b.is)
caused_reached es w d s u v c i (told_busy turns is) = by_same es w d u.base.known i (ap (λ x. x.world.ends) is)
caused_reached es w d s u v c i (told_quiet none is) = by_same es w d u.base.known i (ap (λ x. x.world.ends) is)
caused_reached es w d s u v c i (bus_took b) = λ live k a z t there who role on. bus_took_reaches es w d s u v c live i b k a z t there who role on
caused_reached es w d s u v c i (bus_ended b) = λ live k a z t there who role on. bus_ended_reaches es w d u v c live i b k a z t there who role on
caused_reached es w d s u v c i (registry_took b) =
    let step = registry_takes b.before b.letter.said.message in
    by_both es w d u.base.known i (registry_did step) b.conn b.e b.is_here.there (not_app b.e (taken_down b.e) refl (ap is_app_role b.role)) (registry_same step) (ap (λ x. x.world.ends) b.is)
caused_reached es w d s u v c i (reader_took b) =
    let g : Hearer = hears_letter b.hearer (received w b.conn b.e b.letter).ends b.letter in
    by_both es w d u.base.known i (λ x. record x { role = a_reader g }) b.conn b.e b.is_here.there (not_app b.e (taken_down b.e) refl (ap is_app_role b.role)) (reader_same g) (ap (λ x. x.world.ends) b.is)

moved_reached : (es : List Entry) (w v : World) → Known es w → AllReached es w → (MovedUp w v ⊎ MovedDown w v) → AllReached (es ++ []) v
moved_reached es w v known i (inl m) =
    quiet_reached es [] w v known
    (subst (λ (x : World). Over SameTuned w.ends x.ends) (sym m.after) (over_with SameTuned same_tuned (λ e. record e { up_moved = e.up_moved + m.count }) (λ e. alike_tuned e (record e { up_moved = e.up_moved + m.count }) refl refl refl refl) m.conn w.ends)) i
moved_reached es w v known i (inr m) =
    quiet_reached es [] w v known
    (subst (λ (x : World). Over SameTuned w.ends x.ends) (sym m.after) (over_with SameTuned same_tuned (λ e. record e { down_moved = e.down_moved + m.count }) (λ e. alike_tuned e (record e { down_moved = e.down_moved + m.count }) refl refl refl refl) m.conn w.ends)) i

-- WHERE AN APPLICATION TAKES A CALL
abbrev FirstWhere : List Entry → Entry → List Entry → Type 0
FirstWhere before entry behind = Lives before → IsHeardOfFirst before entry behind

weaker : (ys before : List Entry) (entry : Entry) (behind : List Entry) → IsHeardOfFirst before entry behind → IsHeardOfFirst before entry (behind ++ ys)
weaker ys before (got (App a) (Reader r) serial) behind h = h
weaker ys before (got (App a) The_bus serial) behind h = tt
weaker ys before (got (App a) Registry serial) behind h = tt
weaker ys before (got (App a) (App b) serial) behind h = tt
weaker ys before (got The_bus from serial) behind h = tt
weaker ys before (got Registry from serial) behind h = tt
weaker ys before (got (Reader r) from serial) behind h = tt
weaker ys before entry behind h = tt

fewer : (ys before : List Entry) (entry : Entry) (behind : List Entry) → IsHeardOfFirst before entry (behind ++ ys) → IsHeardOfFirst before entry behind
fewer ys before (got (App a) (Reader r) serial) behind h = h
fewer ys before (got (App a) The_bus serial) behind h = tt
fewer ys before (got (App a) Registry serial) behind h = tt
fewer ys before (got (App a) (App b) serial) behind h = tt
fewer ys before (got The_bus from serial) behind h = tt
fewer ys before (got Registry from serial) behind h = tt
fewer ys before (got (Reader r) from serial) behind h = tt
fewer ys before entry behind h = tt

all_weaker : (ys early xs : List Entry) → Each FirstWhere early xs → Each (λ before entry behind. FirstWhere before entry (behind ++ ys)) early xs
all_weaker ys early [] e = tt
all_weaker ys early (x ∷ xs) e = ((λ live. weaker ys early x xs (e.0 live)), all_weaker ys (early ++ x ∷ []) xs e.1)

each_front : (xs ys early : List Entry) → Each FirstWhere early (xs ++ ys) → Each FirstWhere early xs
each_front [] ys early e = tt
each_front (x ∷ xs) ys early e = ((λ live. fewer ys early x xs (e.0 live)), each_front xs ys (early ++ x ∷ []) e.1)

law_more : (es ys : List Entry) → Each FirstWhere [] es → Each FirstWhere es ys → Each FirstWhere [] (es ++ ys)
law_more es ys a b = each_more FirstWhere [] es ys (all_weaker ys [] es a) b

quiet_law : (before : List Entry) (entry : Entry) (behind : List Entry) → NotGot entry → FirstWhere before entry behind
quiet_law before (got taker sender serial) behind h = absurd h
quiet_law before entry behind h = λ live. tt

quietly : (es ys : List Entry) → Each FirstWhere [] es → AllByRecursion NotGot ys → Each FirstWhere [] (es ++ ys)
quietly es ys law q = law_more es ys law (each_of NotGot FirstWhere es ys quiet_law q)

quiet_of : (es : List Entry) (d x : Done) → d ≡ x → Each FirstWhere [] es → AllByRecursion NotGot x.entries → Each FirstWhere [] (es ++ d.entries)
quiet_of es d x is law a = quietly es d.entries law (subst (λ y. AllByRecursion NotGot y.entries) (sym is) a)

got_more : (who from : Party) (serial : ℕ) (es ys : List Entry) → Each FirstWhere [] es → FirstWhere es (got who from serial) ys → AllByRecursion NotGot ys → Each FirstWhere [] (es ++ got who from serial ∷ ys)
got_more who from serial es ys law first q = law_more es (got who from serial ∷ ys) law (first, each_of NotGot FirstWhere (es ++ got who from serial ∷ []) ys quiet_law q)

other_first : (who from : Party) (serial : ℕ) (es ys : List Entry) → ((a : ℕ) → who ≡ App a → ⊥) → FirstWhere es (got who from serial) ys
other_first The_bus from serial es ys never = λ live. tt
other_first Registry from serial es ys never = λ live. tt
other_first (Reader r) from serial es ys never = λ live. tt
other_first (App a) from serial es ys never = absurd (never a refl)

app_first : (es : List Entry) (w : World) (d : Done) → Pairs es w → AllReached es w → (b : AppTakes w d) (ys : List Entry) (from : Party) → b.letter.from ≡ from → FirstWhere es (got (App b.app) from b.letter.said.message.serial) ys
app_first es w d pairs i b ys The_bus is = λ live. tt
app_first es w d pairs i b ys Registry is = λ live. tt
app_first es w d pairs i b ys (App q) is = λ live. tt
app_first es w d pairs i b ys (Reader r) is = λ live name call.
    let x = (subst (Reaches es b.app b.before.heard) b.link (i live b.conn b.app b.e b.before b.is_here.there b.whose b.role b.is_here.standing)).0 r (record { from = is; name = name; call = call }) in
    record {
      name = x.1.name;
      is_its = told_is es (Reader r) ∙ x.1.known;
      heard = subst (λ ps. AllByRecursion (λ pattern. is_heard ps (x.1.name, pattern) ≡ true) patterns) (sym (pairs b.conn b.app b.e b.before b.is_here.there b.whose b.role)) x.1.heard;
    }

app_more : (es : List Entry) (w : World) (d : Done) → Pairs es w → AllReached es w → Each FirstWhere [] es → (b : AppTakes w d) (ys : List Entry) → AllByRecursion NotGot ys
    → Each FirstWhere [] (es ++ got b.e.who b.letter.from b.letter.said.message.serial ∷ ys)
app_more es w d pairs i law b ys q =
    got_more b.e.who b.letter.from b.letter.said.message.serial es ys law
    (subst (λ who. FirstWhere es (got who b.letter.from b.letter.said.message.serial) ys) (sym b.whose) (app_first es w d pairs i b ys b.letter.from refl)) q

abbrev Firsts : List Entry → World → Type 0
Firsts es w = Each FirstWhere [] es

no_app : (who : Party) (a : ℕ) → same_party who (App a) ≡ false → who ≡ App a → ⊥
no_app who a none is = false_true (sym none ∙ ap (λ p. same_party p (App a)) is ∙ party-same (App a))

caused_first : (es : List Entry) (w : World) (d : Done) → Pairs es w → AllReached es w → Firsts es w → Effect w d → Firsts (es ++ d.entries) d.world
caused_first es w d p r i (resets quota old is) = quiet_of es d _ is i tt
caused_first es w d p r i (app_joins name short is) = quiet_of es d (app_starts w name) is i (tt, (tt, tt))
caused_first es w d p r i (reader_joins old is) = quiet_of es d (reader_starts w) is i (tt, (tt, tt))
caused_first es w d p r i (app_edited b) = quiet_of es d _ b.is i (did_not_got _ b.after.out)
caused_first es w d p r i (app_took b) =
    subst (λ x. Firsts (es ++ x.entries) w) (sym b.is)
    (app_more es w d p r i b _ (did_not_got _ (app_takes b.before b.letter.said.message).out))
caused_first es w d p r i (reader_called b) = quiet_of es d _ b.is i (tt, tt)
caused_first es w d p r i (swapped b) = quiet_of es d _ b.is i tt
caused_first es w d p r i (exited_ b) = quiet_of es d _ b.is i (tt, tt)
caused_first es w d p r i (showed_ b) = quiet_of es d _ b.is i (tt, tt)
caused_first es w d p r i (told_busy turns is) = quiet_of es d _ is i (tt, tt)
caused_first es w d p r i (told_quiet none is) = quiet_of es d _ is i (tt, tt)
caused_first es w d p r i (bus_took b) =
    let c = carrying.takes (record { bus = w.bus; ends = w.ends }) b.conn b.e.who b.said in
    subst (λ x. Firsts (es ++ x.entries) w) (sym b.is) (got_more The_bus b.e.who b.said.message.serial es _ i (λ live. tt) (bus_not_got c.ends c.bus.own c.bus.closings))
caused_first es w d p r i (bus_ended b) = let c = carrying.takes_end (record { bus = w.bus; ends = w.ends }) b.conn in quiet_of es d _ b.is i (bus_not_got c.ends c.bus.own c.bus.closings)
caused_first es w d p r i (registry_took b) =
    subst (λ x. Firsts (es ++ x.entries) w) (sym b.is)
    (got_more b.e.who b.letter.from b.letter.said.message.serial es _ i (other_first b.e.who b.letter.from b.letter.said.message.serial es _ (λ a h. no_app Registry a refl (sym b.whose ∙ h)))
    (sent_not_got b.e.who (registry_takes b.before b.letter.said.message).sent))
caused_first es w d p r i (reader_took b) =
    subst (λ x. Firsts (es ++ x.entries) w) (sym b.is)
    (got_more b.e.who b.letter.from b.letter.said.message.serial es _ i (other_first b.e.who b.letter.from b.letter.said.message.serial es _ (λ a h. no_app (Reader b.reader) a refl (sym b.whose ∙ h)))
    (heard_all NotGot (λ r app line. tt) (λ r app. tt) (number_of b.e.who) b.hearer (received w b.conn b.e b.letter).ends b.letter))

-- ALONG A TRACE
grounds : (es : List Entry) (w : World) → And Served_under AllAsking es w → Grounds es w
grounds es w u =
    let h = u.0.1.1.0.0 in
    record { base = served_underlies es w u.0; asking_ = u.1; tuned = h.1; well = h.0.1; signals = signals_of es w h.0 }

reached_grows : Grows (And Served_under AllAsking) AllReached
reached_grows = record {
  begins = λ live k a e s there who role on. absurd (no_app_first QUOTA_MOST k a e there who);
  caused = λ es w d s u i e after v. caused_reached es w d s (grounds es w u) (grounds (es ++ d.entries) d.world v) (carries es w d s u.0.1.0.0 e) i e;
  moved = λ es w v s u i m. subst (λ l. AllReached l v) (append-nil es) (moved_reached es w v (grounds es w u).base.known i m);
  asked = λ es w conn r m question s u i a.
      quiet_reached es (sent (Reader r) m ∷ []) w (at_end w conn (asks_at m question)) (grounds es w u).base.known (over_with SameTuned same_tuned (asks_at m question) (asks_same m question) conn w.ends) i;
}

abbrev Under_first : List Entry → World → Type 0
Under_first es w = And (And Served_under AllAsking) AllReached es w

firsts_grow : Grows Under_first Firsts
firsts_grow = record {
  begins = tt;
  caused = λ es w d s u i e after v. caused_first es w d (grounds es w u.0).base.pairs u.1 i e;
  moved = λ es w v s u i m. i;
  asked = λ es w conn r m question s u i a. quietly es (sent (Reader r) m ∷ []) i (tt, tt);
}

firsts_keep : Keeps (Shaped (And Under_first Firsts))
firsts_keep = grown Under_first Firsts (grown (And Served_under AllAsking) AllReached served_asking_keeps reached_grows) firsts_grow

-- THE LAW
pub registrations_first : (lines : List Line) (trace : List Entry) → CanAllStand lines → Goes (begins lines) trace → Everywhere IsHeardOfFirst trace
registrations_first lines trace a g before entry behind at =
    everywhere FirstWhere trace (each_front trace _ [] (kept (Shaped (And Under_first Firsts)) firsts_keep lines trace a g).state.1.1) before entry behind at (registry_lives lines trace a g before entry behind at)
