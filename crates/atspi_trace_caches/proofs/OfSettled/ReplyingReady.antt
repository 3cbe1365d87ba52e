-- Who takes a call knows its name: of each front of a lawful trace.
use Rattle.std.proofs.Common.{◌≡◌, ◌⊎◌, inl, inr, ℕ, zero, suc, ◌+◌, ◌<◌, ◌≤◌, ◌^◌, Bool, true, false, List, [], ◌∷◌, ◌++◌, length, Option, None, Some, refl, sym, ap, ◌∙◌, subst, arith, is_some}
use Rattle.std.specs.Prelude.{◌==◌, ◌&&◌, ◌||◌, bit_and, if◌then◌else◌, Result, Ok, Err}
use Rattle.std.specs.List.{AllByRecursion}
use Rattle.std.specs.FinMap.{get-from_sorted}
use Rattle.std.specs.Ordering.{nat_cmp}
use Rattle.atspi_script_lines.specs.declared.limits.TheConstants.{QUOTA_MOST}
use Rattle.atspi_tree_model.specs.declared.edit.Edit.{Edit}
use Rattle.atspi_tree_model.specs.declared.edit.EditFault.{EditFault}
use Rattle.atspi_tree_model.specs.declared.step.Step.{Step}
use Rattle.atspi_tree_model.specs.Edits.{steps_of_tree}
use Rattle.atspi_types.specs.Data.{Data}
use Rattle.atspi_match.specs.declared.condition.Condition.{Condition}
use Rattle.atspi_message.specs.Envelope.{Envelope}
use Rattle.atspi_match.specs.routing.BusState.{BusState, unique_of}
use Rattle.atspi_match.specs.routing.Routing.{expects_reply}
use Rattle.atspi_match.specs.routing.Queues.{is_due}
use Rattle.atspi_match.specs.routing.Steps.{is_hello}
use Rattle.atspi_protocol.specs.declared.following.question.Question.{Question}
use Rattle.atspi_protocol.specs.following.Calls.{user_call}
use Rattle.atspi_protocol.specs.registering.RegistryState.{RegistryState}
use Rattle.atspi_protocol.specs.registering.Steps.{registry_takes}
use Rattle.atspi_protocol.specs.exporting.Exporter.{StartCall, hello, add_match, get_registered_events, embed, awaits, Exporter, queues, begins}
use Rattle.atspi_protocol.specs.exporting.Hearing.{pairs_in}
use Rattle.atspi_protocol.specs.exporting.Telling.{steps_told}
use Rattle.atspi_protocol.specs.exporting.Starting.{starts, awaited, goes_on, greeted, listened, ends_start, unique_name_in, is_number, name_or_empty}
use Rattle.atspi_protocol.specs.exporting.Taking.{app_takes, app_edits, stepped, takes_other, takes_call, takes_signal}
use Rattle.atspi_trace.specs.Entry.{Entry}
use Rattle.atspi_trace.specs.World.{here, Role, the_registry, an_application, a_reader, Hearer, Said, Letter, first_unique, first_registry, first_world, End, World}
use Rattle.atspi_trace.specs.Ends.{is_here, end_at, taken_down, stops}
use Rattle.atspi_trace.specs.Hearing.{hears_letter}
use Rattle.atspi_trace.specs.Carrying.{takes, takes_end}
use Rattle.atspi_trace.specs.Causes.{Done, at_end, saids, has_done, asks, reader_sends, registry_did}
use Rattle.atspi_trace.specs.Due.{asks_as, asks_at}
use Rattle.atspi_trace_laws.proofs.OfOrder.Parties.{no_none, same_some, false_true}
use Rattle.atspi_trace_laws.proofs.OfOrder.Allowed.{MovedUp, MovedDown, Asks}
use Rattle.atspi_trace_laws.proofs.OfOrder.Frame.{joined_cases}
use Rattle.atspi_trace_laws.proofs.OfOrder.Effects.{received, AppEdits, AppTakes, ReaderCalls, ReaderTakes, RegistryTakes, Stopping, Effect, resets, app_joins, reader_joins, app_edited, app_took, reader_called, swapped, exited_, showed_, told_busy, told_quiet, bus_took, bus_ended, registry_took, reader_took}
use Rattle.atspi_trace_laws.proofs.OfOrder.Shaped.{new_app, new_reader, app_joined}
use Rattle.atspi_trace_laws.proofs.OfQuiet.Here.{Greeted, SaysHello}
use Rattle.atspi_trace_laws.proofs.OfOrder.Along.{Keeps}
use Rattle.atspi_trace_laws.proofs.OfOrder.Growing.{Grows, Shaped, Nothing, And, grown}
use Rattle.atspi_trace_laws.proofs.OfReaders.Fates.{both_keep}
use Rattle.atspi_trace_laws.proofs.OfNames.LawNames.{Named}
use Rattle.atspi_trace_laws.proofs.OfNames.LawEnds.{few_greeted}
use Rattle.atspi_trace_laws.proofs.OfMissed.Registering.{AsTold, Under_told, told_keeps}
use Rattle.atspi_trace_laws.proofs.OfMissed.Resting.{Rested, Rests, rests_keep}
use Rattle.atspi_trace_caches.proofs.OfSettled.ReplyingOwns.{OwnsWell, Under_owns, small_given, owns_keep}
use Rattle.atspi_trace_caches.proofs.OfSettled.Replying.{carried}
use Rattle.atspi_trace_caches.proofs.OfSettled.ReplyingNamed.{HasName, Owns}
use Rattle.atspi_trace_caches.proofs.OfSettled.ReplyingRules.{RulesNamed}
use Rattle.atspi_trace_caches.proofs.OfSettled.ReplyingActs.{ActsIn, acts_in, acts_both, dec}
use Rattle.atspi_trace_caches.proofs.OfSettled.ReplyingEnds.{edit_phase}
use Rattle.atspi_trace_caches.proofs.OfSettled.ReplyingCauses.{KnowsName, Ready, first_said}
use Rattle.atspi_trace_caches.proofs.OfSettled.ReplyingWelcome.{IsWelcome, Starts, Greets, Fronts, Welcomed, Welcoming, same_welcoming, has_or_none, never_both}
use Rattle.atspi_trace_caches.proofs.OfSettled.ReplyingGreeted.{took_welcoming, ended_welcoming}

-- AN APPLICATION that has its name keeps it; one that takes the return to its Hello has it
some_kept : (o : Option (List ℕ)) (s : Exporter) → is_some s.name ≡ true → is_some (greeted s o).name ≡ true
some_kept None s h = h
some_kept (Some name) s h = refl

listed_kept : (o : Option (List (List ℕ × List ℕ))) (s : Exporter) → is_some s.name ≡ true → is_some (listened s o).name ≡ true
listed_kept None s h = h
listed_kept (Some listed) s h = h

goes_named : (s : Exporter) (call : StartCall) (body : List Data) → is_some s.name ≡ true → is_some (goes_on s call body).name ≡ true
goes_named s hello body h = some_kept (unique_name_in body) s h
goes_named s add_match body h = h
goes_named s get_registered_events body h = listed_kept (pairs_in body) s h
goes_named s embed body h = h

call_named : (s : Exporter) (name : List ℕ) (e : Envelope) (o : Option (List ℕ)) → e.sender ≡ o → (takes_call s name e).name ≡ s.name
call_named s name e None h = rw h refl
call_named s name e (Some caller) h = rw h refl

other_named : (s : Exporter) (o : Option (List ℕ)) (e : Envelope) → (takes_other s o e).name ≡ s.name
other_named s None e = refl
other_named s (Some name) e = by (e.kind == 1) (e.kind == 4)
  where
    by : (a b : Bool) → (if a then takes_call s name e else if b then takes_signal s e else s).name ≡ s.name
    by true b = call_named s name e e.sender refl
    by false true = refl
    by false false = refl

abbrev took_by : Exporter → Envelope → Option StartCall → Exporter
took_by s e None = takes_other s s.name e
took_by s e (Some call) = if e.kind == 2 then goes_on s call e.body else ends_start s

takes_named : (s : Exporter) (e : Envelope) → is_some s.name ≡ true → is_some (app_takes s e).name ≡ true
takes_named s e h = by (awaited s.phase e)
  where
    started : (b : Bool) (call : StartCall) → is_some (if b then goes_on s call e.body else ends_start s).name ≡ true
    started true call = goes_named s call e.body h
    started false call = h

    by : (o : Option StartCall) → is_some (took_by s e o).name ≡ true
    by None = ap is_some (other_named s s.name e) ∙ h
    by (Some call) = started (e.kind == 2) call

greets_named : (s : Exporter) (e : Envelope) → s.phase ≡ awaits hello 1 → IsWelcome e → is_some (app_takes s e).name ≡ true
greets_named s e phase w = ap (λ o. is_some (took_by s e o).name) waits_it ∙ started (e.kind == 2) (ap (λ n. n == 2) w.two)
  where
    waits_it : awaited s.phase e ≡ Some hello
    waits_it = ap (λ p. awaited p e) phase ∙ both (e.kind == 2 || e.kind == 3) (ap (λ n. n == 2 || n == 3) w.two) (is_number e.reply 1) (ap (λ o. is_number o 1) w.reply)
      where
        both : (a : Bool) → a ≡ true → (b : Bool) → b ≡ true → (if a && b then Some hello else None) ≡ Some hello
        both true h true g = refl
        both true h false g = absurd (false_true g)
        both false h b g = absurd (false_true h)

    its_name : (o : Option (List ℕ)) → is_some o ≡ true → is_some (greeted s o).name ≡ true
    its_name None h = absurd (false_true h)
    its_name (Some name) h = refl

    started : (b : Bool) → b ≡ true → is_some (if b then goes_on s hello e.body else ends_start s).name ≡ true
    started true h = its_name (unique_name_in e.body) w.names
    started false h = absurd (false_true h)

-- at an edit
abbrev ok_name : Exporter → Result Exporter EditFault → Option (List ℕ)
ok_name s (Ok u) = u.name
ok_name s (Err fault) = s.name

edit_named : (s t : Exporter) (edit : Edit) → app_edits s edit ≡ Ok t → t.name ≡ s.name
edit_named s t edit h = sym (ap (ok_name s) h) ∙ by (steps_of_tree s.tree s.added edit)
  where
    edit_as : Result (List Step) EditFault → Result Exporter EditFault
    edit_as (Ok ss) = Ok (queues (stepped s ss) (steps_told s.heard (name_or_empty s.name) s.tree ss))
    edit_as (Err fault) = Err fault

    by : (r : Result (List Step) EditFault) → ok_name s (edit_as r) ≡ s.name
    by (Ok ss) = refl
    by (Err fault) = refl

fronts_more : (xs more : List Said) → Fronts xs → Fronts (xs ++ more)
fronts_more [] more h = absurd h
fronts_more (x ∷ xs) more h = h

-- ONE END ACTS
pub record Hears (w : World) (conn : ℕ) (e d : End) : Type 0 where
  pub on : d.standing ≡ here → e.standing ≡ here
  pub silent : e.down ≡ [] → d.down ≡ []
  pub apps : (s : Exporter) → d.standing ≡ here → d.role ≡ an_application s → Welcomed (carried w) conn d s

acts_welcome : (w v : World) (conn : ℕ) (e d : End) → ActsIn w v conn e d → Hears w conn e d → Welcoming (carried w) → Welcoming (carried v)
acts_welcome w v conn e d i h x = record {
  rules = subst RulesNamed (sym i.state) x.rules;
  silent = λ k z there on none. by_silent k z there on (ap (λ (s : BusState). unique_of s.owners k) (sym i.state) ∙ none) (dec k conn);
  apps = λ k z s there on role. told k z s (by_app k z s there on role (dec k conn));
}
  where
    by_silent : (k : ℕ) (z : End) → end_at v.ends k ≡ Some z → z.standing ≡ here → unique_of w.bus.state.owners k ≡ None → (k ≡ conn) ⊎ (k ≡ conn → ⊥) → z.down ≡ []
    by_silent k z there on none (inl at) =
        let same : z ≡ d = same_some z d (sym there ∙ ap (end_at v.ends) at ∙ i.now) in
        ap (λ (y : End). y.down) same ∙ h.silent (x.silent conn e i.there (h.on (ap (λ (y : End). y.standing) (sym same) ∙ on)) (ap (unique_of w.bus.state.owners) (sym at) ∙ none))
    by_silent k z there on none (inr differ) = x.silent k z (i.back k z differ there) on none

    by_app : (k : ℕ) (z : End) (s : Exporter) → end_at v.ends k ≡ Some z → z.standing ≡ here → z.role ≡ an_application s → (k ≡ conn) ⊎ (k ≡ conn → ⊥) → Welcomed (carried w) k z s
    by_app k z s there on role (inl at) =
        let same : z ≡ d = same_some z d (sym there ∙ ap (end_at v.ends) at ∙ i.now) in
        subst (λ c. Welcomed (carried w) c z s) (sym at)
        (subst (λ y. Welcomed (carried w) conn y s) (sym same) (h.apps s (ap (λ (y : End). y.standing) (sym same) ∙ on) (ap (λ (y : End). y.role) (sym same) ∙ role)))
    by_app k z s there on role (inr differ) = x.apps k z s (i.back k z differ there) on role

    told : (k : ℕ) (z : End) (s : Exporter) → Welcomed (carried w) k z s → Welcomed (carried v) k z s
    told k z s y = record {
      before = λ none. y.before (ap (λ (t : BusState). unique_of t.owners k) (sym i.state) ∙ none);
      behind = λ has. by (y.behind (ap (λ (t : BusState). is_some (unique_of t.owners k)) (sym i.state) ∙ has));
    }
      where
        by : Greets s z.down ⊎ (is_due k w.bus.waiting.due ≡ true) → Greets s z.down ⊎ (is_due k v.bus.waiting.due ≡ true)
        by (inl g) = inl g
        by (inr q) = inr (ap (is_due k) i.due ∙ q)

-- one that is no application's
no_app : (w : World) (conn : ℕ) (e d : End) → (d.standing ≡ here → e.standing ≡ here) → (e.down ≡ [] → d.down ≡ []) → ((s : Exporter) → d.role ≡ an_application s → ⊥) → Hears w conn e d
no_app w conn e d on silent none = record { on = on; silent = silent; apps = λ s here_ role. absurd (none s role) }

reader_no : (h : Hearer) (s : Exporter) → a_reader h ≡ an_application s → ⊥
reader_no h s g = cc

registry_no : (r : RegistryState) (s : Exporter) → the_registry r ≡ an_application s → ⊥
registry_no r s g = cc

same_exporter : (s t : Exporter) → an_application s ≡ an_application t → s ≡ t
same_exporter s t g = ap (exporter_in s) g
  where
    exporter_in : Exporter → Role → Exporter
    exporter_in z (an_application u) = u
    exporter_in z role = z

none_left : (e : End) (letter : Letter) (rest : List Letter) → e.down ≡ letter ∷ rest → e.down ≡ [] → ⊥
none_left e letter rest link none = no (sym link ∙ none)
  where
    no : letter ∷ rest ≡ [] → ⊥
    no z = cc

module _ (w : World) (d : Done) (x : Welcoming (carried w)) (rests : Rested w) where
  -- nobody is to be closed
  greets_is : (k : ℕ) (s : Exporter) (down : List Letter) → Greets s down ⊎ (is_due k w.bus.waiting.due ≡ true) → Greets s down
  greets_is k s down (inl g) = g
  greets_is k s down (inr q) = absurd (false_true (sym (ap (is_due k) rests.due) ∙ q))

  edits_welcome : AppEdits w d → Welcoming (carried d.world)
  edits_welcome b =
      acts_welcome w d.world b.conn b.e (has_done b.before b.after b.e)
      (acts_in w d.world b.conn b.e (has_done b.before b.after) b.is_here.there (ap (λ y. y.world.ends) b.is) (ap (λ y. y.world.bus.state) b.is) (ap (λ y. y.world.bus.waiting.due) b.is))
      (record { on = λ h. h; silent = λ h. h; apps = λ s here_ role. subst (λ t. Welcomed (carried w) b.conn (has_done b.before b.after b.e) t) (same_exporter (record b.after { out = [] }) s role) now }) x
    where
      old : Welcomed (carried w) b.conn b.e b.before
      old = x.apps b.conn b.e b.before b.is_here.there b.is_here.standing b.role

      phase : b.after.phase ≡ b.before.phase
      phase = edit_phase b.before b.after b.edit b.done

      by : Greets b.before b.e.down → Greets (record b.after { out = [] }) b.e.down
      by (inl h) = inl (ap is_some (edit_named b.before b.after b.edit b.done) ∙ h)
      by (inr h) = inr (phase ∙ h.0, h.1)

      now : Welcomed (carried w) b.conn (has_done b.before b.after b.e) (record b.after { out = [] })
      now = record {
        before = λ none. let o = old.before none in (phase ∙ o.0, fronts_more b.e.up (saids b.before b.before.tree None b.after.out) o.1);
        behind = λ has. inl (by (greets_is b.conn b.before b.e.down (old.behind has)));
      }

  takes_welcome : AppTakes w d → Welcoming (carried d.world)
  takes_welcome b =
      acts_welcome w d.world b.conn b.e (has_done b.before after (taken_down b.e))
      (acts_both w d.world b.conn b.e taken_down (has_done b.before after) b.is_here.there (ap (λ y. y.world.ends) b.is) (ap (λ y. y.world.bus.state) b.is) (ap (λ y. y.world.bus.waiting.due) b.is))
      (record {
        on = λ h. h;
        silent = λ none. absurd (none_left b.e b.letter b.rest b.link none);
        apps = λ s here_ role. subst (λ t. Welcomed (carried w) b.conn (has_done b.before after (taken_down b.e)) t) (same_exporter (record after { out = [] }) s role) now;
      }) x
    where
      after : Exporter
      after = app_takes b.before b.letter.said.message

      old : Welcomed (carried w) b.conn b.e b.before
      old = x.apps b.conn b.e b.before b.is_here.there b.is_here.standing b.role

      by : Greets b.before b.e.down → is_some (app_takes b.before b.letter.said.message).name ≡ true
      by (inl h) = takes_named b.before b.letter.said.message h
      by (inr h) = greets_named b.before b.letter.said.message h.0 (subst Starts b.link h.1)

      now : Welcomed (carried w) b.conn (has_done b.before (app_takes b.before b.letter.said.message) (taken_down b.e)) (record (app_takes b.before b.letter.said.message) { out = [] })
      now = record {
        before = λ none. absurd (none_left b.e b.letter b.rest b.link (x.silent b.conn b.e b.is_here.there b.is_here.standing none));
        behind = λ has. inl (inl (by (greets_is b.conn b.before b.e.down (old.behind has))));
      }

  calls_welcome : ReaderCalls w d → Welcoming (carried d.world)
  calls_welcome b =
      let m : Envelope = user_call b.hearer.next b.name b.node b.deed in
      let g : Hearer = record b.hearer { next = suc b.hearer.next } in
      acts_welcome w d.world b.conn b.e (reader_sends g m b.e)
      (acts_in w d.world b.conn b.e (reader_sends g m) b.is_here.there (ap (λ y. y.world.ends) b.is) (ap (λ y. y.world.bus.state) b.is) (ap (λ y. y.world.bus.waiting.due) b.is))
      (no_app w b.conn b.e (reader_sends g m b.e) (λ h. h) (λ h. h) (λ s role. reader_no g s role)) x

  registry_welcome : RegistryTakes w d → Welcoming (carried d.world)
  registry_welcome b =
      acts_welcome w d.world b.conn b.e (registry_did (registry_takes b.before b.letter.said.message) (taken_down b.e))
      (acts_both w d.world b.conn b.e taken_down (registry_did (registry_takes b.before b.letter.said.message)) b.is_here.there (ap (λ y. y.world.ends) b.is) (ap (λ y. y.world.bus.state) b.is) (ap (λ y. y.world.bus.waiting.due) b.is))
      (no_app w b.conn b.e (registry_did (registry_takes b.before b.letter.said.message) (taken_down b.e)) (λ h. h) (λ none. absurd (none_left b.e b.letter b.rest b.link none)) (λ s role. registry_no (registry_takes b.before b.letter.said.message).state s role)) x

  reader_welcome : ReaderTakes w d → Welcoming (carried d.world)
  reader_welcome b =
      let g : Hearer = hears_letter b.hearer (received w b.conn b.e b.letter).ends b.letter in
      let f : End → End = λ y. record y { role = a_reader (hears_letter b.hearer (received w b.conn b.e b.letter).ends b.letter) } in
      acts_welcome w d.world b.conn b.e (f (taken_down b.e))
      (acts_both w d.world b.conn b.e taken_down f b.is_here.there (ap (λ y. y.world.ends) b.is) (ap (λ y. y.world.bus.state) b.is) (ap (λ y. y.world.bus.waiting.due) b.is))
      (no_app w b.conn b.e (f (taken_down b.e)) (λ h. h) (λ none. absurd (none_left b.e b.letter b.rest b.link none)) (λ s role. reader_no g s role)) x

  stopping_welcome : Stopping w d → Welcoming (carried d.world)
  stopping_welcome b =
      acts_welcome w d.world b.conn b.e (stops b.e)
      (acts_in w d.world b.conn b.e stops b.is_here.there (ap (λ y. y.world.ends) b.is) (ap (λ y. y.world.bus.state) b.is) (ap (λ y. y.world.bus.waiting.due) b.is))
      (record { on = λ h. absurd (false_true (ap is_here h)); silent = λ h. h; apps = λ s h role. absurd (false_true (ap is_here h)) }) x

-- who joins
joins_welcome : (w v : World) (n : End) → v.ends ≡ w.ends ++ n ∷ [] → v.bus.state.owners ≡ w.bus.state.owners → v.bus.state.rules ≡ w.bus.state.rules → v.bus.waiting.due ≡ w.bus.waiting.due → unique_of w.bus.state.owners (length w.ends) ≡ None
    → n.down ≡ [] → ((s : Exporter) → n.role ≡ an_application s → (s.phase ≡ awaits hello 1) × Fronts n.up) → Welcoming (carried w) → Welcoming (carried v)
joins_welcome w v n is owners rules due free down front x = record {
  rules = subst (λ o. AllByRecursion (λ (r : ℕ × List Condition). HasName o r.0) v.bus.state.rules) (sym owners) (subst (AllByRecursion (λ (r : ℕ × List Condition). HasName w.bus.state.owners r.0)) (sym rules) x.rules);
  silent = λ k z there on none. by_silent k z on (ap (λ o. unique_of o k) (sym owners) ∙ none) (joined_cases w.ends n k z (ap (λ l. end_at l k) (sym is) ∙ there));
  apps = λ k z s there on role. told k z s (by_app k z s on role (joined_cases w.ends n k z (ap (λ l. end_at l k) (sym is) ∙ there)));
}
  where
    by_silent : (k : ℕ) (z : End) → z.standing ≡ here → unique_of w.bus.state.owners k ≡ None → (end_at w.ends k ≡ Some z) ⊎ ((k ≡ length w.ends) × (z ≡ n)) → z.down ≡ []
    by_silent k z on none (inl h) = x.silent k z h on none
    by_silent k z on none (inr h) = ap (λ (y : End). y.down) h.1 ∙ down

    by_app : (k : ℕ) (z : End) (s : Exporter) → z.standing ≡ here → z.role ≡ an_application s → (end_at w.ends k ≡ Some z) ⊎ ((k ≡ length w.ends) × (z ≡ n)) → Welcomed (carried w) k z s
    by_app k z s on role (inl h) = x.apps k z s h on role
    by_app k z s on role (inr h) = record {
      before = λ none. let f = front s (ap (λ (y : End). y.role) (sym h.1) ∙ role) in (f.0, subst (λ (y : End). Fronts y.up) (sym h.1) f.1);
      behind = λ has. absurd (never_both (unique_of w.bus.state.owners k) (ap (unique_of w.bus.state.owners) h.0 ∙ free) has);
    }

    told : (k : ℕ) (z : End) (s : Exporter) → Welcomed (carried w) k z s → Welcomed (carried v) k z s
    told k z s y = record {
      before = λ none. y.before (ap (λ o. unique_of o k) (sym owners) ∙ none);
      behind = λ has. by (y.behind (ap (λ o. is_some (unique_of o k)) (sym owners) ∙ has));
    }
      where
        by : Greets s z.down ⊎ (is_due k w.bus.waiting.due ≡ true) → Greets s z.down ⊎ (is_due k v.bus.waiting.due ≡ true)
        by (inl g) = inl g
        by (inr q) = inr (ap (is_due k) due ∙ q)

-- at the beginning
first_welcoming : (quota : ℕ) → Welcoming (carried (first_world quota))
first_welcoming quota = record {
  rules = (ap is_some (get-from_sorted nat_cmp first_unique 0 tt), tt);
  silent = λ k e there on none. by_down k e there;
  apps = λ k e s there on role. absurd (by_role k e s there role);
}
  where
    by_down : (k : ℕ) (e : End) → end_at (first_registry ∷ []) k ≡ Some e → e.down ≡ []
    by_down zero e h = ap (λ (y : End). y.down) (sym (same_some first_registry e h))
    by_down (suc k) e h = absurd (no_none e h)

    by_role : (k : ℕ) (e : End) (s : Exporter) → end_at (first_registry ∷ []) k ≡ Some e → e.role ≡ an_application s → ⊥
    by_role zero e s h role = registry_no _ s (ap (λ (y : End). y.role) (same_some first_registry e h) ∙ role)
    by_role (suc k) e s h role = no_none e h

-- EACH CAUSE
caused : (w : World) (d : Done) → Greeted w → Rested w → Owns (carried w) → w.bus.state.owners.given < 2 ^ 32 → unique_of w.bus.state.owners (length w.ends) ≡ None → Welcoming (carried w) → Effect w d → Welcoming (carried d.world)
caused w d g r o small free x (resets quota old is) = subst (λ y. Welcoming (carried y.world)) (sym is) (first_welcoming quota)
caused w d g r o small free x (app_joins name short is) =
    joins_welcome w d.world (new_app w name) (ap (λ y. y.world.ends) is ∙ app_joined w name) (ap (λ y. y.world.bus.state.owners) is) (ap (λ y. y.world.bus.state.rules) is) (ap (λ y. y.world.bus.waiting.due) is) free refl
    (λ s role. (ap (λ (t : Exporter). t.phase) (same_exporter s (record (starts (begins name)) { out = [] }) (sym role)), (refl, refl))) x
caused w d g r o small free x (reader_joins old is) =
    joins_welcome w d.world (new_reader w) (ap (λ y. y.world.ends) is) (ap (λ y. y.world.bus.state.owners) is) (ap (λ y. y.world.bus.state.rules) is) (ap (λ y. y.world.bus.waiting.due) is) free refl (λ s role. absurd (reader_no _ s role)) x
caused w d g r o small free x (app_edited b) = edits_welcome w d x r b
caused w d g r o small free x (app_took b) = takes_welcome w d x r b
caused w d g r o small free x (reader_called b) = calls_welcome w d x r b
caused w d g r o small free x (swapped b) = same_welcoming (carried w) (carried d.world) (ap (λ y. y.world.ends) b.is) (ap (λ y. y.world.bus.state) b.is) (ap (λ y. y.world.bus.waiting) b.is) x
caused w d g r o small free x (exited_ b) = stopping_welcome w d x r b
caused w d g r o small free x (showed_ b) = same_welcoming (carried w) (carried d.world) (ap (λ y. y.world.ends) b.is) (ap (λ y. y.world.bus.state) b.is) (ap (λ y. y.world.bus.waiting) b.is) x
caused w d g r o small free x (told_busy turns is) = same_welcoming (carried w) (carried d.world) (ap (λ y. y.world.ends) is) (ap (λ y. y.world.bus.state) is) (ap (λ y. y.world.bus.waiting) is) x
caused w d g r o small free x (told_quiet none is) = same_welcoming (carried w) (carried d.world) (ap (λ y. y.world.ends) is) (ap (λ y. y.world.bus.state) is) (ap (λ y. y.world.bus.waiting) is) x
caused w d g r o small free x (bus_took b) =
    same_welcoming (takes (carried w) b.conn b.e.who b.said) (carried d.world) (ap (λ y. y.world.ends) b.is) (ap (λ y. y.world.bus.state) b.is) (ap (λ y. y.world.bus.waiting) b.is)
    (took_welcoming (carried w) b.conn b.e.who b.said b.rest b.e b.is_here.there b.is_here.standing b.link o small greeting x)
  where
    greeting : unique_of w.bus.state.owners b.conn ≡ None → is_hello b.said.message ≡ true
    greeting none =
        let h : SaysHello b.e = g.hello b.conn b.e b.is_here.there b.is_here.standing none in
        ap (λ (s : Said). is_hello s.message) (sym (first_said b.said b.rest b.e.up b.link h.0 h.1 h.2)) ∙ h.3
caused w d g r o small free x (bus_ended b) =
    same_welcoming (takes_end (carried w) b.conn) (carried d.world) (ap (λ y. y.world.ends) b.is) (ap (λ y. y.world.bus.state) b.is) (ap (λ y. y.world.bus.waiting) b.is) (ended_welcoming (carried w) b.conn o x)
caused w d g r o small free x (registry_took b) = registry_welcome w d x r b
caused w d g r o small free x (reader_took b) = reader_welcome w d x r b

asked_welcome : (w : World) (conn r : ℕ) (m : Envelope) (question : Question) → Asks w conn r m question → Welcoming (carried w) → Welcoming (carried (at_end w conn (asks_at m question)))
asked_welcome w conn r m question a x =
    acts_welcome w (at_end w conn (asks_at m question)) conn a.asker (reader_sends (asks question a.hearer) m a.asker)
    (subst (ActsIn w (at_end w conn (asks_at m question)) conn a.asker) (ap (λ role. asks_as role m question a.asker) a.reader) (acts_in w (at_end w conn (asks_at m question)) conn a.asker (asks_at m question) a.is_here.there refl refl refl))
    (no_app w conn a.asker (reader_sends (asks question a.hearer) m a.asker) (λ h. h) (λ h. h) (λ s role. reader_no (asks question a.hearer) s role)) x

moved_welcome : (w v : World) → Welcoming (carried w) → (MovedUp w v ⊎ MovedDown w v) → Welcoming (carried v)
moved_welcome w v x (inl m) =
    let f : End → End = λ e. record e { up_moved = e.up_moved + m.count } in
    acts_welcome w v m.conn m.e (f m.e) (acts_in w v m.conn m.e f m.is_here.there (ap (λ (y : World). y.ends) m.after) (ap (λ (y : World). y.bus.state) m.after) (ap (λ (y : World). y.bus.waiting.due) m.after))
    (record { on = λ h. h; silent = λ h. h; apps = λ s on role. let y = x.apps m.conn m.e s m.is_here.there on role in record { before = y.before; behind = y.behind } }) x
moved_welcome w v x (inr m) =
    let f : End → End = λ e. record e { down_moved = e.down_moved + m.count } in
    acts_welcome w v m.conn m.e (f m.e) (acts_in w v m.conn m.e f m.is_here.there (ap (λ (y : World). y.ends) m.after) (ap (λ (y : World). y.bus.state) m.after) (ap (λ (y : World). y.bus.waiting.due) m.after))
    (record { on = λ h. h; silent = λ h. h; apps = λ s on role. let y = x.apps m.conn m.e s m.is_here.there on role in record { before = y.before; behind = y.behind } }) x

-- SO WHO TAKES A CALL KNOWS ITS NAME
no_welcome : (m : Envelope) → expects_reply m ≡ true → IsWelcome m → ⊥
no_welcome m expects w = by (m.kind == 1) (ap (λ n. n == 1) w.two) expects
  where
    by : (b : Bool) → b ≡ false → (b && (bit_and m.flags 1 == 0)) ≡ true → ⊥
    by true h g = false_true (sym h)
    by false h g = false_true g

pub ready_of : (es : List Entry) (w : World) → Welcoming (carried w) → Rested w → AsTold es w → Ready w
ready_of es w x rests told k e letter rest there on link expects = by e.role refl
  where
    by : (role : Role) → e.role ≡ role → KnowsName role
    by (a_reader h) is = tt
    by (the_registry s) is = ap is_some (told.registry k e s there is).own
    by (an_application s) is = named_ (has_or_none (unique_of w.bus.state.owners k))
      where
        known : Greets s e.down ⊎ (is_due k w.bus.waiting.due ≡ true) → is_some s.name ≡ true
        known (inl (inl h)) = h
        known (inl (inr h)) = absurd (no_welcome letter.said.message expects (subst Starts link h.1))
        known (inr q) = absurd (false_true (sym (ap (is_due k) rests.due) ∙ q))

        named_ : (unique_of w.bus.state.owners k ≡ None) ⊎ HasName w.bus.state.owners k → is_some s.name ≡ true
        named_ (inl none) = absurd (none_left e letter rest link (x.silent k e there on none))
        named_ (inr has) = known ((x.apps k e s there on is).behind has)

-- THE LAYERS
abbrev pub Under_welcome : List Entry → World → Type 0
Under_welcome es w = And (And Under_owns OwnsWell) (And (And Nothing Rests) (And Under_told AsTold)) es w

abbrev pub WelcomesWell : List Entry → World → Type 0
WelcomesWell es w = Welcoming (carried w)

under_keeps : Keeps (Shaped Under_welcome)
under_keeps = both_keep (And Under_owns OwnsWell) (And (And Nothing Rests) (And Under_told AsTold)) owns_keep (both_keep (And Nothing Rests) (And Under_told AsTold) rests_keep told_keeps)

welcomes_grow : Grows Under_welcome WelcomesWell
welcomes_grow = record {
  begins = first_welcoming QUOTA_MOST;
  caused = λ es w d s u x e after v.
      let m = u.0.0.0.0 in
      let n : Named es w = m.1.1.1 in
      caused w d m.1.1.0.0.1.0 u.1.0.1 u.0.1 (small_given es w n (few_greeted es w n m.0.1)) (n.free (length w.ends) (same_least (length w.ends))) x e;
  moved = λ es w v s u x m. moved_welcome w v x m;
  asked = λ es w conn r m question s u x a. asked_welcome w conn r m question a x;
}
  where
    same_least : (n : ℕ) → n ≤ n
    same_least n = omega arith

pub welcomes_keep : Keeps (Shaped (And Under_welcome WelcomesWell))
welcomes_keep = grown Under_welcome WelcomesWell under_keeps welcomes_grow
