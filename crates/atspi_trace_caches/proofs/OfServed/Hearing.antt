-- HEARD: an application that embedded has heard what one has who heard all that the registry sent up to some message of its, and each of the registry's news behind that which the bus took stands on
-- its down link, along a lawful trace.
use Rattle.std.proofs.Common.{◌≡◌, ◌⊎◌, inl, inr, ℕ, zero, suc, ◌+◌, ◌≤◌, false, List, [], ◌∷◌, ◌++◌, length, map, Some, refl, sym, ap, ◌∙◌, subst, arith}
use Rattle.std.specs.Prelude.{codes}
use Rattle.std.specs.List.{AllByRecursion}
use Rattle.std.proofs.lemmas.List.{append-nil}
use Rattle.atspi_script_lines.specs.declared.limits.TheConstants.{QUOTA_MOST}
use Rattle.atspi_script_lines.specs.declared.line.Party.TheVariants.{Bus as The_bus, Registry, App, Reader}
use Rattle.atspi_message.specs.Envelope.{Envelope}
use Rattle.atspi_match.specs.declared.condition.Condition.{Condition}
use Rattle.atspi_names.specs.Owners.{Owners}
use Rattle.atspi_names.specs.Queue.{owner_in}
use Rattle.atspi_match.specs.declared.routing.closing.Closing.{Closing}
use Rattle.atspi_match.specs.routing.BusState.{unique_of}
use Rattle.atspi_protocol.specs.ends.Places.{registry}
use Rattle.atspi_protocol.specs.registering.Steps.{RegistryStep, registry_takes}
use Rattle.atspi_protocol.specs.exporting.Exporter.{get_registered_events, awaits, Exporter}
use Rattle.atspi_protocol.specs.exporting.Starting.{start_call}
use Rattle.atspi_protocol.specs.exporting.Taking.{app_takes}
use Rattle.atspi_protocol.specs.following.Calls.{user_call}
use Rattle.atspi_protocol.specs.declared.following.question.Question.{Question}
use Rattle.atspi_trace.specs.Entry.{Entry, sent, got, dropped}
use Rattle.atspi_trace.specs.World.{here, Role, the_registry, an_application, a_reader, Hearer, Letter, End, World, first_registry, first_world}
use Rattle.atspi_trace.specs.Ends.{is_app, same_party, whose, party_at, number_of, end_at, with_end, rest_of, taken_down, stops}
use Rattle.atspi_trace.specs.Carrying as carrying
use Rattle.atspi_trace.specs.Carrying.{Carried}
use Rattle.atspi_trace.specs.Hearing.{hears_letter, heard_entries}
use Rattle.atspi_trace.specs.Causes.{Done, does, did, at_end, has_done, reader_sends, registry_did, app_starts, reader_starts}
use Rattle.atspi_trace.specs.Due.{asks_as, asks_at}
use Rattle.atspi_trace_laws.specs.laws.Words.{messages, message}
use Rattle.atspi_trace_laws.specs.laws.NineLaws.{sent_before, count_got_by_bus}
use Rattle.atspi_trace_laws.specs.serials.Laws.{HasNextNumber}
use Rattle.atspi_trace_laws.specs.missed.Laws.{ListIsAsTold}
use Rattle.atspi_trace_laws.proofs.OfOrder.Parties.{no_none, same_some, false_true}
use Rattle.atspi_trace_laws.proofs.OfOrder.Allowed.{MovedUp, MovedDown, Asks}
use Rattle.atspi_trace_laws.proofs.OfOrder.Acts.{Act, heard_act, number_at}
use Rattle.atspi_trace_laws.proofs.OfOrder.BusWords.{bus_all}
use Rattle.atspi_trace_laws.proofs.OfOrder.Frame.{Over, over_same, over_both, over_with, over_at, joined_cases}
use Rattle.atspi_trace_laws.proofs.OfOrder.Shape.{Shape}
use Rattle.atspi_trace_laws.proofs.OfOrder.Shaped.{new_reader, received_at}
use Rattle.atspi_trace_laws.proofs.OfOrder.Effects.{received, AppEdits, AppTakes, Effect, resets, app_joins, reader_joins, app_edited, app_took, reader_called, swapped, exited_, showed_, told_busy, told_quiet, bus_took, bus_ended, registry_took, reader_took}
use Rattle.atspi_trace_laws.proofs.OfOrder.Along.{Keeps}
use Rattle.atspi_trace_laws.proofs.OfOrder.Growing.{Grows, Shaped, And, grown}
use Rattle.atspi_trace_laws.proofs.OfOrder.Each.{Each, all_map}
use Rattle.atspi_trace_laws.proofs.OfSteps.Steps.{Trees}
use Rattle.atspi_trace_laws.proofs.OfSerials.Hushing.{own_speaks}
use Rattle.atspi_trace_laws.proofs.OfSerials.Numbers.{Numbered, spoken}
use Rattle.atspi_trace_laws.proofs.OfSerials.Speaking.{next_of}
use Rattle.atspi_trace_laws.proofs.OfLinks.LawLinks.{NotTaken, none_taken, did_free, sent_free, got_free, word_free, bus_free, no_bus, first_unread, Linked}
use Rattle.atspi_trace_laws.proofs.OfOwn.Writing.{lived}
use Rattle.atspi_trace_laws.proofs.OfHeard.Quiet.{heard_all}
use Rattle.atspi_trace_laws.proofs.OfHeard.Telling as telling
use Rattle.atspi_trace_laws.proofs.OfTaken.Said as told
use Rattle.atspi_trace_laws.proofs.OfTaken.LawTaken.{Known, not_sent_at}
use Rattle.atspi_trace_laws.proofs.OfTurns.Turning.{Turns, count_more}
use Rattle.atspi_trace_laws.proofs.OfTurns.LawTurns.{Turned}
use Rattle.atspi_trace_laws.proofs.OfReaders.Fates.{both_keep}
use Rattle.atspi_trace_laws.proofs.OfNames.LawNames.{Named}
use Rattle.atspi_trace_laws.proofs.OfNames.LawEnds.{few_greeted}
use Rattle.atspi_trace_laws.proofs.OfNames.Places.{greeted}
use Rattle.atspi_trace_laws.proofs.OfSigned.Mail.{IsMail}
use Rattle.atspi_trace_laws.proofs.OfSigned.Self.{Selves}
use Rattle.atspi_trace_laws.proofs.OfSigned.LawMail.{Mail, Under_mail, Known_mail}
use Rattle.atspi_trace_laws.proofs.OfMissed.Arriving.{On}
use Rattle.atspi_trace_laws.proofs.OfMissed.Resting.{Rested}
use Rattle.atspi_trace_laws.proofs.OfMissed.Delivering.{Delivers, all_on}
use Rattle.atspi_trace_laws.proofs.OfMissed.LawMissed.{Under_delivered, delivers_keep}
use Rattle.atspi_trace_laws.proofs.OfMissed.Registering.{AsTold, told_keeps}
use Rattle.atspi_trace_caches.proofs.OfServed.Facts.{IsNews, HearsAll, AllHear}
use Rattle.atspi_trace_caches.proofs.OfServed.Owning.{KeepsName}
use Rattle.atspi_trace_caches.proofs.OfServed.Returned.{Fits, Rightly, Under_rightly, rightly_keeps, returned_by}
use Rattle.atspi_trace_caches.proofs.OfServed.HearingCourse.{edit_course}
use Rattle.atspi_trace_caches.proofs.OfServed.HearingWords.{Well, words_grow}
use Rattle.atspi_trace_caches.proofs.OfServed.HearingNews.{IsOwner}
use Rattle.atspi_trace_caches.proofs.OfServed.HearingTuned.{IsAsked, Early, Hears, Late, Tuned, AllTuned, NotSaid, none_embed, tuned_more, SameTuned, same_tuned, is_app_role, not_app, gone_tuned, alike_tuned, quiet_tuned, changed_at, changed_both, did_others, one_tuned, started_tuned}
use Rattle.atspi_trace_caches.proofs.OfServed.HearingTakes.{retuned, edited_tuned, taken_tuned}
use Rattle.atspi_trace_caches.proofs.OfServed.HearingCarried.{took_tuned, ended_tuned}

-- ENTRIES in which the bus takes nothing
same_unread : (es ys : List Entry) → AllByRecursion NotTaken ys → first_unread (es ++ ys) Registry ≡ first_unread es Registry
same_unread es ys free =
    let sum : count_got_by_bus (es ++ ys) Registry ≡ count_got_by_bus es Registry + count_got_by_bus ys Registry = count_more es ys Registry in
    let none : count_got_by_bus ys Registry ≡ 0 = none_taken Registry ys free in
    omega (arith, sum, none)

all_any : {X : Type 0} (P : X → Type 0) → ((x : X) → P x) → (xs : List X) → AllByRecursion P xs
all_any P f [] = tt
all_any P f (x ∷ xs) = (f x, all_any P f xs)

pub bus_silent : (a : ℕ) (c : Carried) → AllByRecursion (NotSaid (App a)) (carrying.bus_entries c.ends c.bus.own c.bus.closings)
bus_silent a c =
    bus_all (NotSaid (App a)) (λ e. refl) c.ends c.bus.own c.bus.closings
    (all_any (λ (x : Closing). (queued len : ℕ) → NotSaid (App a) (dropped (party_at c.ends x.conn) queued len)) (λ x queued len. tt) c.bus.closings)

registry_silent : (a : ℕ) (ms : List Envelope) → AllByRecursion (NotSaid (App a)) (map (sent Registry) ms)
registry_silent a [] = tt
registry_silent a (m ∷ ms) = (refl, registry_silent a ms)

-- what each cause writes, where no application acts
record Quiet (ys : List Entry) : Type 0 where
  free : AllByRecursion NotTaken ys
  silent : (a : ℕ) → AllByRecursion (NotSaid (App a)) ys

quiet_as : (d x : Done) → d ≡ x → Quiet x.entries → Quiet d.entries
quiet_as d x is q = subst (λ y. Quiet y.entries) (sym is) q

-- NO APPLICATION ACTS
module _ (es : List Entry) (w : World) (d : Done) (law : Each HasNextNumber [] (es ++ d.entries)) (i : AllTuned es w) (rules : d.world.bus.state.rules ≡ w.bus.state.rules) (q : Quiet d.entries) where
  by_over : Over SameTuned w.ends d.world.ends → AllTuned (es ++ d.entries) d.world
  by_over o = quiet_tuned es d.entries w d.world law i o rules q.silent (same_unread es d.entries q.free)

  by_end : (f : End → End) (conn : ℕ) → ((e : End) → SameTuned e (f e)) → d.world.ends ≡ with_end conn f w.ends → AllTuned (es ++ d.entries) d.world
  by_end f conn same is = by_over (subst (Over SameTuned w.ends) (sym is) (over_with SameTuned same_tuned f same conn w.ends))

  by_same : d.world.ends ≡ w.ends → AllTuned (es ++ d.entries) d.world
  by_same is = by_over (subst (Over SameTuned w.ends) (sym is) (over_same SameTuned same_tuned w.ends))

  -- an end that is no application takes a message
  by_both : (f : End → End) (conn : ℕ) (e : End) → end_at w.ends conn ≡ Some e → is_app_role e.role ≡ false → ((x : End) → SameTuned x (f x)) → d.world.ends ≡ with_end conn f (with_end conn taken_down w.ends) → AllTuned (es ++ d.entries) d.world
  by_both f conn e there none same is =
      by_over
      (subst (Over SameTuned w.ends) (sym is)
      (over_both SameTuned same_tuned w.ends (with_end conn taken_down w.ends) (with_end conn f (with_end conn taken_down w.ends)) (over_at SameTuned same_tuned taken_down conn w.ends e there (not_app e (taken_down e) refl none))
      (over_with SameTuned same_tuned f same conn (with_end conn taken_down w.ends))))

  -- who joins is no application
  by_join : (nu : End) → d.world.ends ≡ w.ends ++ nu ∷ [] → is_app nu.who ≡ false → AllTuned (es ++ d.entries) d.world
  by_join nu is other live k a e s there who role on = by (joined_cases w.ends nu k e (ap (λ l. end_at l k) (sym is) ∙ there))
    where
      by : (end_at w.ends k ≡ Some e) ⊎ ((k ≡ length w.ends) × (e ≡ nu)) → Tuned (es ++ d.entries) d.world.bus.state.rules k a s e.down
      by (inl g) =
          subst (λ r. Tuned (es ++ d.entries) r k a s e.down) (sym rules)
          (tuned_more es d.entries w.bus.state.rules w.bus.state.rules k a s e.down (λ h. h) law (none_embed a d.entries (q.silent a)) (same_unread es d.entries q.free) (i (lived es d.entries live) k a e s g who role on))
      by (inr g) = absurd (false_true (sym other ∙ ap is_app (ap (λ (x : End). x.who) (sym g.1) ∙ who)))

-- AN APPLICATION ACTS
least : (n : ℕ) → n ≤ n
least n = omega arith

module _ (es : List Entry) (w : World) (d : Done) (s : Shape w) (trees : Trees es w) (law : Each HasNextNumber [] (es ++ d.entries)) (i : AllTuned es w) (b : AppEdits w d) where
  edit_wrote : d.entries ≡ map (did b.app) b.after.out
  edit_wrote = ap (λ x. x.entries) b.is ∙ ap (λ n. map (did n) b.after.out) (number_at w.ends b.conn b.app b.e b.is_here.there b.whose)

  edit_free : AllByRecursion NotTaken d.entries
  edit_free = subst (λ l. AllByRecursion NotTaken l) (sym edit_wrote) (did_free b.app b.after.out)

  edits_tuned : AllTuned (es ++ d.entries) d.world
  edits_tuned =
      one_tuned es d.entries w d.world b.conn b.app b.e (has_done b.before b.after b.e) (record b.after { out = [] }) s b.is_here.there b.whose law i
      (changed_at w d.world b.conn b.e (has_done b.before b.after) b.is_here.there (ap (λ x. x.world.ends) b.is)) (ap (λ x. x.world.bus.state.rules) b.is)
      (λ a differ. subst (AllByRecursion (NotSaid (App a))) (sym edit_wrote) (did_others b.app a b.after.out differ)) (same_unread es d.entries edit_free) b.whose refl
      (λ live on.
      let x : Tuned es w.bus.state.rules b.conn b.app b.before b.e.down = i live b.conn b.app b.e b.before b.is_here.there b.whose b.role b.is_here.standing in
      let t : Tuned (es ++ d.entries) w.bus.state.rules b.conn b.app b.after b.e.down =
      edited_tuned es d.entries w.bus.state.rules b.conn b.app b.before b.after b.e.down law edit_wrote (same_unread es d.entries edit_free)
      (edit_course b.before b.after b.edit b.done (trees b.conn b.app b.e b.before b.is_here.there b.whose b.role).empty) x in
      retuned (es ++ d.entries) w.bus.state.rules b.conn b.app b.after (record b.after { out = [] }) b.e.down refl refl refl (least b.after.next) t)

-- who returned the call for the list, and whose the registry's name is
abbrev pub Returns : List Entry → World → Type 0
Returns es w =
    (k : ℕ) (e : End) → end_at w.ends k ≡ Some e → e.standing ≡ here → (l : Letter) → On l e.down → l.said.message.kind ≡ 2 → (n : ℕ) → l.said.message.reply ≡ Some n → 2 ≤ n → (first : Envelope) → message es e.who n ≡ Some first
    → first.destination ≡ Some registry → l.from ≡ Registry

module _ (es : List Entry) (w : World) (d : Done) (s : Shape w) (numbers : Numbered es w) (trees : Trees es w) (few : length (greeted es) ≤ 1000) (known : Known es w) (mail : Mail es w) (selves : Selves es w) (signal_law : Each telling.Both [] es) (turned : Turned es w)
    (told_law : Each ListIsAsTold [] es) (well : Well es w) (returns : Returns es w) (law : Each HasNextNumber [] (es ++ d.entries)) (i : AllTuned es w) (b : AppTakes w d) where
  abbrev then_app : Exporter
  then_app = app_takes b.before b.letter.said.message

  abbrev taking : Entry
  taking = got (App b.app) b.letter.from b.letter.said.message.serial

  take_wrote : d.entries ≡ taking ∷ map (did b.app) then_app.out
  take_wrote =
      ap (λ x. x.entries) b.is
      ∙ ap (λ n. got b.e.who b.letter.from b.letter.said.message.serial ∷ map (did n) then_app.out) (number_at (received w b.conn b.e b.letter).ends b.conn b.app (taken_down b.e) (received_at w b.conn b.e b.letter b.is_here.there) b.whose)
      ∙ ap (λ p. got p b.letter.from b.letter.said.message.serial ∷ map (did b.app) then_app.out) b.whose

  take_free : AllByRecursion NotTaken d.entries
  take_free = subst (AllByRecursion NotTaken) (sym take_wrote) (got_free (App b.app) b.letter.from b.letter.said.message.serial not_bus, did_free b.app then_app.out)
    where
      not_bus : App b.app ≡ The_bus → ⊥
      not_bus h = false_true (ap (λ p. same_party p The_bus) h)

  mails : AllByRecursion (IsMail es (App b.app)) (b.letter ∷ b.rest)
  mails = subst (AllByRecursion (IsMail es (App b.app))) b.link (subst (λ p. AllByRecursion (IsMail es p) b.e.down) b.whose (mail.downs b.conn b.e b.is_here.there b.is_here.standing))

  comes : told.Comes es b.letter
  comes = (subst (AllByRecursion (told.Comes es)) b.link (known b.conn b.e b.is_here.there).1).0

  in_turn : Turns es (App b.app) (b.letter ∷ b.rest)
  in_turn = subst (Turns es (App b.app)) b.link (subst (λ p. Turns es p b.e.down) b.whose (turned.2 b.conn b.e b.is_here.there))

  first_on : On b.letter b.e.down
  first_on = subst (On b.letter) (sym b.link) (inl refl)

  pub takes_tuned : AllTuned (es ++ d.entries) d.world
  takes_tuned =
      one_tuned es d.entries w d.world b.conn b.app b.e (has_done b.before then_app (taken_down b.e)) (record then_app { out = [] }) s b.is_here.there b.whose law i
      (changed_both w d.world b.conn b.e (has_done b.before then_app) b.is_here.there (ap (λ x. x.world.ends) b.is)) (ap (λ x. x.world.bus.state.rules) b.is)
      (λ a differ. subst (AllByRecursion (NotSaid (App a))) (sym take_wrote) (tt, did_others b.app a then_app.out differ)) (same_unread es d.entries take_free) b.whose refl
      (λ live on. now (i live b.conn b.app b.e b.before b.is_here.there b.whose b.role b.is_here.standing))
    where
      rules : List (ℕ × List Condition)
      rules = w.bus.state.rules

      now : Tuned es rules b.conn b.app b.before b.e.down → Tuned (es ++ d.entries) rules b.conn b.app (record then_app { out = [] }) (rest_of b.e.down)
      now old =
          retuned (es ++ d.entries) rules b.conn b.app then_app (record then_app { out = [] }) (rest_of b.e.down) refl refl refl (least then_app.next)
          (subst (Tuned (es ++ d.entries) rules b.conn b.app then_app) (sym (ap rest_of b.link))
          (taken_tuned es d.entries rules b.conn b.app b.before b.letter b.rest few numbers.0 law told_law well signal_law (same_unread es d.entries take_free) take_wrote
          (not_sent_at es w b.conn b.e (App b.app) b.before.next s numbers b.is_here.there b.whose (ap next_of b.role)) (trees b.conn b.app b.e b.before b.is_here.there b.whose b.role).empty
          (selves b.conn b.app b.e b.before b.is_here.there b.whose b.role) in_turn comes mails from_registry (subst (Tuned es rules b.conn b.app b.before) b.link old)))
        where
          from_registry : (n : ℕ) → b.before.phase ≡ awaits get_registered_events n → b.letter.said.message.kind ≡ 2 → b.letter.said.message.reply ≡ Some n → b.letter.from ≡ Registry
          from_registry n at two reply =
              let x = subst (IsAsked es b.app b.before.next) at old.asked in
              returns b.conn b.e b.is_here.there b.is_here.standing b.letter first_on two n reply (x.3 refl) (record (start_call x.0 get_registered_events) { serial = n })
              (subst (λ p. message es p n ≡ Some (record (start_call x.0 get_registered_events) { serial = n })) (sym b.whose) x.1) refl

-- EACH CAUSE
pub no_app_first : (quota k a : ℕ) (x : End) → end_at (first_world quota).ends k ≡ Some x → x.who ≡ App a → ⊥
no_app_first quota zero a x h who = false_true (ap is_app (ap (λ (y : End). y.who) (same_some first_registry x h) ∙ who))
no_app_first quota (suc k) a x h who = no_none x h

pub registry_same : (step : RegistryStep) (x : End) → SameTuned x (registry_did step x)
registry_same step x = not_app x (registry_did step x) refl refl

pub reader_same : (h : Hearer) (x : End) → SameTuned x (record x { role = a_reader h })
reader_same h x = not_app x (record x { role = a_reader h }) refl refl

pub sends_same : (h : Hearer) (m : Envelope) (x : End) → SameTuned x (reader_sends h m x)
sends_same h m x = not_app x (reader_sends h m x) refl refl

-- what is known below
record Below (es : List Entry) (w : World) : Type 0 where
  numbers : Numbered es w
  trees : Trees es w
  linked : Linked es w
  named : Named es w
  few : length (greeted es) ≤ 1000
  known : Known es w
  mail : Mail es w
  selves : Selves es w
  signal_law : Each telling.Both [] es
  rests : Rested w
  turned : Turned es w
  told_law : Each ListIsAsTold [] es
  well : Well es w
  returns : Returns es w
  owner : unique_of w.bus.state.owners 0 ≡ Some (codes ":1.0") → IsOwner w.bus.state.owners

caused_tuned : (es : List Entry) (w : World) (d : Done) → Shape w → Below es w → Each HasNextNumber [] (es ++ d.entries) → AllTuned es w → Effect w d → AllTuned (es ++ d.entries) d.world
caused_tuned es w d s u law i (resets quota old is) = subst (λ x. AllTuned (es ++ x.entries) x.world) (sym is) (λ live k a e t there who role on. absurd (no_app_first quota k a e there who))
caused_tuned es w d s u law i (app_joins name short is) =
    subst (λ x. AllTuned (es ++ x.entries) x.world) (sym is)
    (started_tuned es w name s u.numbers (subst (λ x. Each HasNextNumber [] (es ++ x.entries)) is law) i (same_unread es (app_starts w name).entries (tt, (tt, tt))))
caused_tuned es w d s u law i (reader_joins old is) =
    by_join es w d law i (ap (λ x. x.world.bus.state.rules) is) (quiet_as d (reader_starts w) is (record { free = (tt, (tt, tt)); silent = λ a. (tt, (refl, tt)) })) (new_reader w) (ap (λ x. x.world.ends) is) refl
caused_tuned es w d s u law i (app_edited b) = edits_tuned es w d s u.trees law i b
caused_tuned es w d s u law i (app_took b) = takes_tuned es w d s u.numbers u.trees u.few u.known u.mail u.selves u.signal_law u.turned u.told_law u.well u.returns law i b
caused_tuned es w d s u law i (reader_called b) =
    let g : Hearer = record b.hearer { next = suc b.hearer.next } in
    let m : Envelope = user_call b.hearer.next b.name b.node b.deed in
    by_end es w d law i (ap (λ x. x.world.bus.state.rules) b.is)
    (quiet_as d _ b.is (record { free = (tt, tt); silent = λ a. (ap (λ p. same_party p (App a)) (ap whose b.is_here.there ∙ b.whose), tt) })) (reader_sends g m) b.conn (sends_same g m) (ap (λ x. x.world.ends) b.is)
caused_tuned es w d s u law i (swapped b) = by_same es w d law i (ap (λ x. x.world.bus.state.rules) b.is) (quiet_as d _ b.is (record { free = tt; silent = λ a. tt })) (ap (λ x. x.world.ends) b.is)
caused_tuned es w d s u law i (exited_ b) =
    by_end es w d law i (ap (λ x. x.world.bus.state.rules) b.is) (quiet_as d _ b.is (record { free = (tt, tt); silent = λ a. (tt, tt) })) stops b.conn (λ x. gone_tuned x (stops x) refl refl) (ap (λ x. x.world.ends) b.is)
caused_tuned es w d s u law i (showed_ b) = by_same es w d law i (ap (λ x. x.world.bus.state.rules) b.is) (quiet_as d _ b.is (record { free = (tt, tt); silent = λ a. (tt, tt) })) (ap (λ x. x.world.ends) b.is)
caused_tuned es w d s u law i (told_busy turns is) = by_same es w d law i (ap (λ x. x.world.bus.state.rules) is) (quiet_as d _ is (record { free = (tt, tt); silent = λ a. (tt, tt) })) (ap (λ x. x.world.ends) is)
caused_tuned es w d s u law i (told_quiet none is) = by_same es w d law i (ap (λ x. x.world.bus.state.rules) is) (quiet_as d _ is (record { free = (tt, tt); silent = λ a. (tt, tt) })) (ap (λ x. x.world.ends) is)
caused_tuned es w d s u law i (bus_took b) =
    λ live k a z t there who role on. took_tuned es w d s u.linked u.named u.few u.known u.mail u.well u.rests u.owner law i b (lived es d.entries live) k a z t there who role on
caused_tuned es w d s u law i (bus_ended b) =
    let c = carrying.takes_end (record { bus = w.bus; ends = w.ends }) b.conn in
    let q : Quiet d.entries = quiet_as d _ b.is (record { free = bus_free c.ends c.bus.own c.bus.closings; silent = λ a. bus_silent a c }) in
    λ live k a z t there who role on. ended_tuned es w d law i b (lived es d.entries live) (same_unread es d.entries q.free) q.silent k a z t there who role on
caused_tuned es w d s u law i (registry_took b) =
    by_both es w d law i (ap (λ x. x.world.bus.state.rules) b.is)
    (quiet_as d _ b.is (record {
      free = (got_free b.e.who b.letter.from b.letter.said.message.serial (no_bus w b.conn b.e s b.is_here.there), sent_free b.e.who (registry_takes b.before b.letter.said.message).sent);
      silent = λ a. (tt, subst (λ p. AllByRecursion (NotSaid (App a)) (map (sent p) (registry_takes b.before b.letter.said.message).sent)) (sym b.whose) (registry_silent a (registry_takes b.before b.letter.said.message).sent));
    }))
    (registry_did (registry_takes b.before b.letter.said.message)) b.conn b.e b.is_here.there (ap is_app_role b.role) (registry_same (registry_takes b.before b.letter.said.message)) (ap (λ x. x.world.ends) b.is)
caused_tuned es w d s u law i (reader_took b) =
    let v : World = received w b.conn b.e b.letter in
    let g : Hearer = hears_letter b.hearer v.ends b.letter in
    by_both es w d law i (ap (λ x. x.world.bus.state.rules) b.is)
    (quiet_as d _ b.is (record {
      free = (
        got_free b.e.who b.letter.from b.letter.said.message.serial (no_bus w b.conn b.e s b.is_here.there),
        all_map (Act (λ p. ⊥)) NotTaken (heard_entries (number_of b.e.who) b.hearer v.ends b.letter) word_free (heard_act (λ p. ⊥) (number_of b.e.who) b.hearer v.ends b.letter b.letter.from refl),
      );
      silent = λ a. (tt, heard_all (NotSaid (App a)) (λ r app line. tt) (λ r app. tt) (number_of b.e.who) b.hearer v.ends b.letter);
    }))
    (λ x. record x { role = a_reader g }) b.conn b.e b.is_here.there (ap is_app_role b.role) (reader_same g) (ap (λ x. x.world.ends) b.is)

pub asks_same : (m : Envelope) (question : Question) (e : End) → SameTuned e (asks_at m question e)
asks_same m question e = by e.role refl
  where
    by : (role : Role) → e.role ≡ role → SameTuned e (asks_as role m question e)
    by (a_reader h) is = not_app e (asks_as (a_reader h) m question e) refl refl
    by (the_registry x) is = alike_tuned e e refl refl refl refl
    by (an_application x) is = alike_tuned e e refl refl refl refl

moved_tuned : (es : List Entry) (w v : World) → Each HasNextNumber [] es → AllTuned es w → (MovedUp w v ⊎ MovedDown w v) → AllTuned (es ++ []) v
moved_tuned es w v law i (inl m) =
    quiet_tuned es [] w v (subst (Each HasNextNumber []) (sym (append-nil es)) law) i
    (subst (λ (x : World). Over SameTuned w.ends x.ends) (sym m.after) (over_with SameTuned same_tuned (λ e. record e { up_moved = e.up_moved + m.count }) (λ e. alike_tuned e (record e { up_moved = e.up_moved + m.count }) refl refl refl refl) m.conn w.ends))
    (ap (λ (x : World). x.bus.state.rules) m.after) (λ a. tt) (same_unread es [] tt)
moved_tuned es w v law i (inr m) =
    quiet_tuned es [] w v (subst (Each HasNextNumber []) (sym (append-nil es)) law) i
    (subst (λ (x : World). Over SameTuned w.ends x.ends) (sym m.after) (over_with SameTuned same_tuned (λ e. record e { down_moved = e.down_moved + m.count }) (λ e. alike_tuned e (record e { down_moved = e.down_moved + m.count }) refl refl refl refl) m.conn w.ends))
    (ap (λ (x : World). x.bus.state.rules) m.after) (λ a. tt) (same_unread es [] tt)

asked_tuned : (es : List Entry) (w : World) (conn r : ℕ) (m : Envelope) (question : Question) → Shape w → Numbered es w → AllTuned es w → Asks w conn r m question → AllTuned (es ++ sent (Reader r) m ∷ []) (at_end w conn (asks_at m question))
asked_tuned es w conn r m question s numbers i a =
    quiet_tuned es (sent (Reader r) m ∷ []) w (at_end w conn (asks_at m question)) law i (over_with SameTuned same_tuned (asks_at m question) (asks_same m question) conn w.ends) refl (λ b. (refl, tt)) (same_unread es (sent (Reader r) m ∷ []) (tt, tt))
  where
    law : Each HasNextNumber [] (es ++ sent (Reader r) m ∷ [])
    law =
        (spoken es (sent (Reader r) m ∷ []) w (at_end w conn (asks_at m question)) (Reader r) a.hearer.next numbers (own_speaks w conn r m question s a)
        (sym (ap next_of a.reader) ∙ numbers.1 conn a.asker a.is_here.there ∙ ap (λ p. suc (sent_before p + length (messages es p))) a.whose)).0

-- THE LAYERS
abbrev pub Beneath_heard : List Entry → World → Type 0
Beneath_heard es w = And (And Under_delivered Delivers) (And (And Under_rightly Rightly) (And (And Under_mail Known_mail) AsTold)) es w

beneath_keeps : Keeps (Shaped Beneath_heard)
beneath_keeps =
    both_keep (And Under_delivered Delivers) (And (And Under_rightly Rightly) (And (And Under_mail Known_mail) AsTold)) delivers_keep
    (both_keep (And Under_rightly Rightly) (And (And Under_mail Known_mail) AsTold) rightly_keeps told_keeps)

trees_of : (es : List Entry) (w : World) → Beneath_heard es w → Trees es w
trees_of es w u = u.0.0.0.1.0.0.1.0.0.0.0.0.1.1

abbrev pub Under_heard : List Entry → World → Type 0
Under_heard es w = And Beneath_heard Well es w

under_keeps : Keeps (Shaped Under_heard)
under_keeps = grown Beneath_heard Well beneath_keeps (words_grow Beneath_heard trees_of)

owner_of : (o : Owners) → KeepsName o → unique_of o 0 ≡ Some (codes ":1.0") → IsOwner o
owner_of o (inl h) unique = (ap owner_in h, unique)
owner_of o (inr h) unique = absurd (no_none (codes ":1.0") (sym h.1 ∙ unique))

below : (es : List Entry) (w : World) → Under_heard es w → Below es w
below es w u =
    let x = u.0.0.0.0 in
    let m = x.1.0 in
    let t = m.0.1.0 in
    let n = m.0.1.1 in
    let r : Rightly es w = u.0.1.0.1 in
    let few : length (greeted es) ≤ 1000 = few_greeted es w n.1 m.0.0.1 in
    record {
      numbers = t.0.0.0.1;
      trees = trees_of es w u.0;
      linked = t.0.0.1;
      named = n.1;
      few = few;
      known = t.1.1;
      mail = m.1.0;
      selves = m.1.1;
      signal_law = x.0.0.0.0.0.1.0;
      rests = x.1.1.0.1;
      turned = x.1.1.1.1;
      told_law = u.0.1.1.1.law;
      well = u.1;
      returns = λ k e there on l at two j reply more first found to.
          returned_by es e.who l few (all_on (IsMail es e.who) e.down (m.1.0.downs k e there on) l at) (all_on (Fits es e.who) e.down (r.downs k e there on) l at) two j reply more first found to;
      owner = owner_of w.bus.state.owners r.owned;
    }

-- what signals an application sends
pub signals_of : (es : List Entry) (w : World) → Under_heard es w → Each telling.Both [] es
signals_of es w u = (below es w u).signal_law

tuned_grow : Grows Under_heard AllTuned
tuned_grow = record {
  begins = λ live k a e s there who role on. absurd (no_app_first QUOTA_MOST k a e there who);
  caused = λ es w d s u i e after b. caused_tuned es w d s (below es w u) (below (es ++ d.entries) d.world b).numbers.0 i e;
  moved = λ es w v s u i m. subst (λ l. AllTuned l v) (append-nil es) (moved_tuned es w v (below es w u).numbers.0 i m);
  asked = λ es w conn r m question s u i a. asked_tuned es w conn r m question s (below es w u).numbers i a;
}

-- WHAT IS HEARD
hears_of : (es : List Entry) (s : Exporter) (down : List Letter) → Hears es s down → HearsAll es s down
hears_of es s down h = record {
  base = h.base;
  heard = h.heard;
  taken = h.taken;
  behind = λ n more less m found news. let y = h.behind n more less in y.2 (subst IsNews (sym (same_some y.0 m (sym y.1 ∙ found))) news);
  before = h.before;
}

all_hear : (es : List Entry) (w : World) → AllTuned es w → AllHear es w
all_hear es w i live k a e s there who role on embeds = by (i live k a e s there who role on).stage
  where
    by : Early es w.bus.state.rules k a s e.down ⊎ Late es w.bus.state.rules k s e.down → HearsAll es s e.down
    by (inl x) = absurd (x.no_embed embeds)
    by (inr x) = hears_of es s e.down x.hears

-- what follows from what is kept is kept
pub derived : (A B : List Entry → World → Type 0) → ((es : List Entry) (w : World) → A es w → B es w) → Keeps (Shaped A) → Keeps (Shaped (And A B))
derived A B f k = record {
  begins = (k.begins.0, (k.begins.1, f [] (first_world QUOTA_MOST) k.begins.1));
  caused = λ es w c i a. let x = k.caused es w c (i.0, i.1.0) a in (x.0, (x.1, f (es ++ (does w c).entries) (does w c).world x.1));
  moved = λ es w v i m. let x = k.moved es w v (i.0, i.1.0) m in (x.0, (x.1, f es v x.1));
  passed = λ es w free i. i;
  asked = λ es w conn r m question i a. let x = k.asked es w conn r m question (i.0, i.1.0) a in (x.0, (x.1, f (es ++ sent (Reader r) m ∷ []) (at_end w conn (asks_at m question)) x.1));
}

pub hears_keep : Keeps (Shaped (And (And Under_heard AllTuned) AllHear))
hears_keep = derived (And Under_heard AllTuned) AllHear (λ es w u. all_hear es w u.1) (grown Under_heard AllTuned under_keeps tuned_grow)
