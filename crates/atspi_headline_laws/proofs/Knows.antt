-- EACH APPLICATION THAT IS HERE knows what the run tells of it, along a run.
use Rattle.std.proofs.Common.{◌≡◌, ◌⊎◌, inl, inr, ℕ, zero, suc, ◌+◌, ◌≤◌, ◌<◌, ℤ, negsuc, Bool, true, false, List, [], ◌∷◌, ◌++◌, length, map, Option, None, Some, refl, sym, ap, ap₂, ◌∙◌, subst, arith, is_some}
use Rattle.std.specs.Prelude.{◌==◌, codes, filter, filter_map, fold, Result, Ok, Err, if◌then◌else◌}
use Rattle.std.specs.List.{AllByRecursion, cons_option}
use Rattle.std.proofs.lemmas.Bool.{ne_eqb, ltb-false}
use Rattle.std.proofs.lemmas.List.{append-nil, append_assoc}
use Rattle.atspi_tree_model.specs.declared.edit.Edit.{Edit}
use Rattle.atspi_tree_model.specs.declared.edit.EditFault.{EditFault}
use Rattle.atspi_tree_model.specs.declared.step.Step.{Step}
use Rattle.atspi_tree_model.specs.Edits.{steps_of_tree}
use Rattle.atspi_script_lines.specs.declared.limits.TheConstants.{QUOTA_MOST}
use Rattle.atspi_script_lines.specs.declared.line.Line.{Line}
use Rattle.atspi_script_lines.specs.declared.line.Line.TheVariants.{Quota}
use Rattle.atspi_script_lines.specs.declared.line.Party.{Party}
use Rattle.atspi_script_lines.specs.declared.line.Party.TheVariants.{Bus as The_bus, Registry, App, Reader}
use Rattle.atspi_message.specs.Envelope.{Envelope}
use Rattle.atspi_match.specs.declared.routing.closing.Closing.{Closing}
use Rattle.atspi_match.specs.routing.BusState.{unique_of}
use Rattle.atspi_match.specs.routing.Queues.{is_due}
use Rattle.atspi_protocol.specs.declared.following.question.Question.{Question}
use Rattle.atspi_protocol.specs.following.Calls.{user_call}
use Rattle.atspi_protocol.specs.registering.Steps.{registry_takes}
use Rattle.atspi_protocol.specs.news.NewsOf.{or_empty}
use Rattle.atspi_protocol.specs.exporting.Exporter.{hello, awaits, over, Happening, steps, sends, hears, deaf, Exporter, begins as begins_app, queues}
use Rattle.atspi_protocol.specs.exporting.Starting.{start_call, starts, name_or_empty}
use Rattle.atspi_protocol.specs.exporting.Telling.{steps_told}
use Rattle.atspi_protocol.specs.exporting.Taking.{app_takes, app_edits, stepped}
use Rattle.atspi_trace.specs.Entry.{Entry, started, sent, got, dropped}
use Rattle.atspi_trace.specs.World.{here as stands_here, Role, the_registry, an_application, a_reader, Hearer, End, World, newcomer, first_registry, first_world}
use Rattle.atspi_trace.specs.Ends.{is_here, is_app, same_party, number_of, whose, party_at, end_at, with_end, put_up, taken_down, stops, app_count}
use Rattle.atspi_trace.specs.Hearing.{hears_letter}
use Rattle.atspi_trace.specs.Carrying as carrying
use Rattle.atspi_trace.specs.Carrying.{Carried}
use Rattle.atspi_trace.specs.Causes.{Cause, gets, Done, did, does, at_end, has_done, reader_sends, registry_did, app_starts}
use Rattle.atspi_trace.specs.Due.{freed, asks_as, asks_at}
use Rattle.atspi_trace.specs.Work.{Work, name_of, work_of}
use Rattle.atspi_trace.specs.Ends.{end_of}
use Rattle.atspi_headline.specs.Words as words
use Rattle.atspi_headline.specs.Words.{Act, begins_line, writes, entries_in, handed, calls_of, signed}
use Rattle.atspi_headline.specs.Headline.{id_by, id_after}
use Rattle.atspi_trace_laws.specs.laws.Words as told
use Rattle.atspi_trace_laws.specs.laws.NineLaws.{sent_before}
use Rattle.atspi_trace_laws.proofs.OfOrder.Parties.{no_none, same_some, party-same, false_true}
use Rattle.atspi_trace_laws.proofs.OfOrder.Allowed.{Moves}
use Rattle.atspi_trace_laws.proofs.OfOrder.BusWords.{bus_all, all_any}
use Rattle.atspi_trace_laws.proofs.OfOrder.Frame.{Over, over_same, over_both, over_with, joined_cases, at_changed}
use Rattle.atspi_trace_laws.proofs.OfOrder.Shape.{Shape, counts, more as some_more, new as one_new}
use Rattle.atspi_trace_laws.proofs.OfOrder.Shaped.{new_app, new_reader, app_joined, received_at}
use Rattle.atspi_trace_laws.proofs.OfOrder.Acts.{number_at, last_at}
use Rattle.atspi_trace_laws.proofs.OfOrder.Growing.{Shaped, Nothing, And}
use Rattle.atspi_trace_laws.proofs.OfOrder.Effects.{received, AppTakes, Stopping}
use Rattle.atspi_trace_laws.proofs.OfSteps.Steps.{TreeIs}
use Rattle.atspi_trace_laws.proofs.OfSteps.LawSteps.{Below, Stepped, steps_keep}
use Rattle.atspi_trace_laws.proofs.OfSerials.Speaking.{next_of}
use Rattle.atspi_trace_laws.proofs.OfSerials.Numbers.{Numbered}
use Rattle.atspi_trace_laws.proofs.OfSerials.LawNumbers.{numbers_keep}
use Rattle.atspi_trace_laws.proofs.OfNames.Places.{told_is}
use Rattle.atspi_trace_laws.proofs.OfHeard.Quiet.{heard_all}
use Rattle.atspi_trace_laws.proofs.OfHeard.LawHeard.{Beneath, Heard, heard_keeps}
use Rattle.atspi_trace_laws.proofs.OfSigned.Self.{IsSelf}
use Rattle.atspi_trace_laws.proofs.OfSigned.LawMail.{Under_mail, Known_mail, mail_keeps}
use Rattle.atspi_trace_laws.proofs.OfTaken.Found.{found_more}
use Rattle.atspi_trace_laws.proofs.OfOwn.Writing.{Lives}
use Rattle.atspi_trace_laws.proofs.OfMissed.Arriving.{Goes_on, took_goes, ended_goes}
use Rattle.atspi_trace_laws.proofs.OfMissed.Resting.{Rested, Rests, rests_keep}
use Rattle.atspi_trace_caches.proofs.OfServed.Facts.{Embeds}
use Rattle.atspi_trace_caches.proofs.OfServed.HearingCourse.{course, Edited, edit_course}
use Rattle.atspi_trace_caches.proofs.OfServed.HearingTuned.{ChangedAt, changed_at, changed_both, same_exporter}
use Rattle.atspi_trace_caches.proofs.OfSettled.Exporting.{SameApp, same_app}
use Rattle.atspi_trace_caches.proofs.OfSettled.EmbeddingAll.{Under_embed, AllBegin, begin_keep}
use Rattle.atspi_trace_caches.proofs.OfSettled.Replying.{carried}
use Rattle.atspi_trace_caches.proofs.OfSettled.ReplyingNamed.{HasName}
use Rattle.atspi_trace_caches.proofs.OfSettled.ReplyingWelcome.{Starts, Greets, Welcoming, has_or_none}
use Rattle.atspi_trace_caches.proofs.OfSettled.ReplyingReady.{Under_welcome, WelcomesWell, welcomes_keep}
use Rattle.atspi_headline_laws.proofs.Ran.{Ran, nothing_yet, did as did_line, began, caused, rested, asked, moves_for, line_moves}
use Rattle.atspi_headline_laws.proofs.Making.{AllMoves, no_entries, entries_more, entries_written, moves_are, line_moves_are}
use Rattle.atspi_headline_laws.proofs.Keeping.{kept_along, shape_along}
use Rattle.atspi_headline_laws.proofs.Numbering.{as_list}
use Rattle.atspi_headline_laws.proofs.Reading.{messages_told, tree_told, added_told, pairs_told}
use Rattle.atspi_headline_laws.proofs.Naming.{name_same}
use Rattle.atspi_headline_laws.proofs.Joining.{parties, with_parties, EndsAre, few_starts, counted, turn_parties}
use Rattle.atspi_headline_laws.proofs.Acting.{LineDid, line_did, renewed, app_began, reader_began, edited_app, called_app, swapped, app_stopped, reader_stopped, showed, TurnDid, turn_did, bare_quiet, told_busy, told_quiet, bus_took, bus_ended, registry_took, app_took, reader_took}
use Rattle.atspi_headline_laws.proofs.Growing.{Front, front_of, front_moved, lived_before}
use Rattle.atspi_headline_laws.proofs.Handing.{handed_is}
use Rattle.atspi_headline_laws.proofs.Registering.{gathered_more, Stays, gathered_stays}
use Rattle.atspi_headline_laws.proofs.Replied.{with_list}
use Rattle.atspi_headline_laws.proofs.Knowing.{NotBy, id_of, same_id, IsGreeted, greeted_more, returned_one, AreCalls, is_call, sent_here, calls_more, taken_calls, no_calls, IsKnown, known_more}
use Rattle.atspi_headline_laws.proofs.Receiving.{IsReady, Took, took}
use Rattle.atspi_headline_laws.proofs.Answering.{Tells, number_so}

-- WHO ACTS is another
abbrev pub AllKnown : List Act → World → Type 0
AllKnown run w = (k a : ℕ) (e : End) (s : Exporter) → end_at w.ends k ≡ Some e → e.who ≡ App a → e.role ≡ an_application s → e.standing ≡ stands_here → IsKnown run a s

-- of one that did not join no number was set
abbrev pub Unset : List Act → World → Type 0
Unset run w = (a : ℕ) → app_count w.ends ≤ a → id_of run a ≡ negsuc 0

abbrev pub Knows : List Act → World → Type 0
Knows run w = AllKnown run w × Unset run w

abbrev is_app_role : Role → Bool
is_app_role (an_application s) = true
is_app_role role = false

not_app : (e d : End) → d.who ≡ e.who → is_app_role d.role ≡ false → SameApp e d
not_app e d who none = record { whose = who; same = λ on s g. absurd (false_true (sym none ∙ ap is_app_role g)) }

alike : (e d : End) → d.who ≡ e.who → d.role ≡ e.role → d.standing ≡ e.standing → SameApp e d
alike e d who role standing = record { whose = who; same = λ on s g. (sym role ∙ g, sym standing ∙ on) }

stops_same : (e : End) → SameApp e (stops e)
stops_same e = record { whose = refl; same = λ on s g. absurd (false_true (ap is_here on)) }

goes_same : (xs zs : List End) → Over Goes_on xs zs → Over SameApp xs zs
goes_same xs zs o = record { size = o.size; back = λ k d there. let x = o.back k d there in (x.0, x.1, record { whose = x.2.whose; same = λ on s role. (sym x.2.role ∙ role, x.2.on on) }) }

asks_same : (m : Envelope) (question : Question) (e : End) → SameApp e (asks_at m question e)
asks_same m question e = by e.role refl
  where
    by : (role : Role) → e.role ≡ role → SameApp e (asks_as role m question e)
    by (a_reader h) is = not_app e (asks_as (a_reader h) m question e) refl refl
    by (the_registry x) is = alike e e refl refl refl
    by (an_application x) is = alike e e refl refl refl

abbrev Silent : List Entry → Type 0
Silent ys = (a : ℕ) → AllByRecursion (NotBy a) ys

bus_silent : (a : ℕ) (c : Carried) → AllByRecursion (NotBy a) (carrying.bus_entries c.ends c.bus.own c.bus.closings)
bus_silent a c =
    bus_all (NotBy a) (λ e. refl) c.ends c.bus.own c.bus.closings
    (all_any (λ (x : Closing). (queued len : ℕ) → NotBy a (dropped (party_at c.ends x.conn) queued len)) (λ x queued len. tt) c.bus.closings)

registry_silent : (a : ℕ) (ms : List Envelope) → AllByRecursion (NotBy a) (map (sent Registry) ms)
registry_silent a [] = tt
registry_silent a (m ∷ ms) = (refl, registry_silent a ms)

did_others : (app a : ℕ) (hs : List Happening) → (app ≡ a → ⊥) → AllByRecursion (NotBy a) (map (did app) hs)
did_others app a [] differ = tt
did_others app a (steps step ∷ hs) differ = (tt, did_others app a hs differ)
did_others app a (sends e ∷ hs) differ = (ne_eqb app a differ, did_others app a hs differ)
did_others app a (hears listener pattern ∷ hs) differ = (tt, did_others app a hs differ)
did_others app a (deaf listener pattern ∷ hs) differ = (tt, did_others app a hs differ)

other_than : (who : Party) (app a : ℕ) → who ≡ App app → (app ≡ a → ⊥) → same_party who (App a) ≡ false
other_than who app a is differ = ap (λ p. same_party p (App a)) is ∙ ne_eqb app a differ

-- the entries of acts
written_by : (a : ℕ) (acts : List Act) (ys : List Entry) → entries_in acts ≡ ys → AllByRecursion (NotBy a) ys → AllByRecursion (NotBy a) (entries_in acts)
written_by a acts ys is n = subst (AllByRecursion (NotBy a)) (sym is) n

-- WHAT IS KEPT where no application acts, where another joins, where one acts
quiet_known : (run acts : List Act) (ys : List Entry) (w v : World) → entries_in acts ≡ ys → Over SameApp w.ends v.ends → Silent ys → AllKnown run w → AllKnown (run ++ acts) v
quiet_known run acts ys w v is o n i k a d s there who role on =
    let x = o.back k d there in
    let y = x.2.same on s role in
    known_more run acts a s (written_by a acts ys is (n a)) (i k a x.0 s x.1 (sym x.2.whose ∙ who) y.0 y.1)

joined_known : (run acts : List Act) (ys : List Entry) (w v : World) (nu : End) → entries_in acts ≡ ys → v.ends ≡ w.ends ++ nu ∷ [] → is_app nu.who ≡ false → Silent ys → AllKnown run w → AllKnown (run ++ acts) v
joined_known run acts ys w v nu written is other n i k a d s there who role on = by (joined_cases w.ends nu k d (ap (λ l. end_at l k) (sym is) ∙ there))
  where
    by : (end_at w.ends k ≡ Some d) ⊎ ((k ≡ length w.ends) × (d ≡ nu)) → IsKnown (run ++ acts) a s
    by (inl g) = known_more run acts a s (written_by a acts ys written (n a)) (i k a d s g who role on)
    by (inr g) = absurd (false_true (sym other ∙ ap is_app (ap (λ (x : End). x.who) (sym g.1) ∙ who)))

one_known : (run acts : List Act) (ys : List Entry) (w v : World) (conn app : ℕ) (e d : End) (t : Exporter) → entries_in acts ≡ ys → Shape w → end_at w.ends conn ≡ Some e → e.who ≡ App app → ChangedAt w v conn d
    → ((a : ℕ) → (app ≡ a → ⊥) → AllByRecursion (NotBy a) ys) → d.who ≡ App app → d.role ≡ an_application t → IsKnown (run ++ acts) app t → AllKnown run w → AllKnown (run ++ acts) v
one_known run acts ys w v conn app e d t written sh at_e whose_ c none_ who role now i k a x s there x_who x_role on = by (c k x there)
  where
    by : ((k ≡ conn) × (x ≡ d)) ⊎ ((k ≡ conn → ⊥) × (end_at w.ends k ≡ Some x)) → IsKnown (run ++ acts) a s
    by (inl y) =
        let number : app ≡ a = ap number_of (sym who ∙ ap (λ (z : End). z.who) (sym y.1) ∙ x_who) in
        let state : t ≡ s = same_exporter t s (sym role ∙ ap (λ (z : End). z.role) (sym y.1) ∙ x_role) in
        subst (λ n. IsKnown (run ++ acts) n s) number (subst (IsKnown (run ++ acts) app) state now)
    by (inr y) =
        known_more run acts a s (written_by a acts ys written (none_ a (λ number. y.0 (sh.one k conn x e y.1 at_e (x_who ∙ ap App (sym number) ∙ sym whose_))))) (i k a x s y.1 x_who x_role on)

-- ONE STARTS
module _ (run : List Act) (line : Line) (w : World) (name : List ℕ) (sh : Shape w) (m : Numbered (entries_in run) w) (unset : Unset run w) where
  abbrev n : ℕ
  n = app_count w.ends

  abbrev first_call : Envelope
  first_call = record (start_call [] hello) { serial = 1 }

  abbrev ys : List Entry
  ys = started (App n) (Some name) ∷ (sent (App n) first_call ∷ [])

  abbrev acts : List Act
  acts = begins_line line ∷ map writes (app_starts w name).entries

  abbrev begun : Exporter
  begun = record (starts (begins_app name)) { out = [] }

  wrote : (app_starts w name).entries ≡ ys
  wrote = ap (λ j. started (App n) (Some name) ∷ (sent (App j) first_call ∷ [])) (ap (λ o. number_of (whose o)) (last_at w.ends (put_up [] (newcomer (App n) (an_application (begins_app name))))))

  written : entries_in acts ≡ ys
  written = entries_written (app_starts w name).entries ∙ wrote

  least : (x : ℕ) → x ≤ x
  least x = omega arith

  started_by : (a : ℕ) → (n ≡ a → ⊥) → AllByRecursion (NotBy a) ys
  started_by a differ = (tt, (ne_eqb n a differ, tt))

  acts_are : acts ≡ begins_line line ∷ map writes ys
  acts_are = ap (λ l. begins_line line ∷ map writes l) wrote

  its_id : id_of (run ++ acts) n ≡ negsuc 0
  its_id =
      ap (λ l. id_of (run ++ l) n) acts_are
      ∙ gathered_more (id_after n) (negsuc 0) [] run (begins_line line ∷ map writes ys)
      ∙ gathered_stays (id_after n) (id_of run n) run (begins_line line ∷ map writes ys) ((λ before id. refl), ((λ before id. refl), ((λ before id. refl), tt)))
      ∙ unset n (least n)

  its_calls : calls_of (run ++ acts) n ≡ first_call ∷ []
  its_calls =
      ap (λ l. calls_of (run ++ l) n) acts_are
      ∙ calls_more run (begins_line line ∷ map writes ys) n
      ∙ ap (λ l. filter is_call l ++ filter is_call (words.messages (begins_line line ∷ map writes ys) (App n))) (messages_told run (App n) ∙ m.2 (App n) (least n))
      ∙ ap (λ b. filter is_call (cons_option (if b then Some first_call else None) [])) (party-same (App n))

  its_own : IsKnown (run ++ acts) n begun
  its_own = record {
    id = sym its_id;
    greeted = λ h. absurd (false_true h);
    calls = subst (AreCalls (awaits hello 1)) (sym its_calls) (refl, refl);
  }

  pub started_known : AllKnown run w → AllKnown (run ++ acts) (app_starts w name).world
  started_known i k a e s there who role on = by (joined_cases w.ends (new_app w name) k e (ap (λ l. end_at l k) (sym (app_joined w name)) ∙ there))
    where
      less : a < n → n ≡ a → ⊥
      less h q = absurd (omega (arith, h, q))

      by : (end_at w.ends k ≡ Some e) ⊎ ((k ≡ length w.ends) × (e ≡ new_app w name)) → IsKnown (run ++ acts) a s
      by (inl g) = known_more run acts a s (written_by a acts ys written (started_by a (less (sh.apps k a e g who)))) (i k a e s g who role on)
      by (inr g) =
          let number : n ≡ a = ap number_of (ap (λ (x : End). x.who) (sym g.1) ∙ who) in
          let state : begun ≡ s = same_exporter begun s (ap (λ (x : End). x.role) (sym g.1) ∙ role) in
          subst (λ j. IsKnown (run ++ acts) j s) number (subst (IsKnown (run ++ acts) n) state its_own)

  pub started_unset : Unset (run ++ acts) (app_starts w name).world
  started_unset a h =
      let grown : n < app_count (w.ends ++ new_app w name ∷ []) = one_new (λ (e : End). is_app e.who) w.ends (new_app w name) refl in
      let all : app_count (w.ends ++ new_app w name ∷ []) ≤ a = subst (λ l. app_count l ≤ a) (app_joined w name) h in
      same_id run acts a (written_by a acts ys written (started_by a (other a grown all))) ∙ unset a (below a grown all)
    where
      other : (b : ℕ) → n < app_count (w.ends ++ new_app w name ∷ []) → app_count (w.ends ++ new_app w name ∷ []) ≤ b → n ≡ b → ⊥
      other b g l q = absurd (omega (arith, g, l, q))

      below : (b : ℕ) → n < app_count (w.ends ++ new_app w name ∷ []) → app_count (w.ends ++ new_app w name ∷ []) ≤ b → n ≤ b
      below b g l = omega (arith, g, l)

-- what it does sets no number
out_stays : (a : ℕ) (hs : List Happening) → AllByRecursion (Stays (id_after a)) (map writes (map (did a) hs))
out_stays a [] = tt
out_stays a (steps step ∷ hs) = ((λ before x. refl), out_stays a hs)
out_stays a (sends e ∷ hs) = ((λ before x. refl), out_stays a hs)
out_stays a (hears listener pattern ∷ hs) = ((λ before x. refl), out_stays a hs)
out_stays a (deaf listener pattern ∷ hs) = ((λ before x. refl), out_stays a hs)

-- ITS USER EDITS
abbrev ok_id : Exporter → Result Exporter EditFault → ℤ
ok_id s (Ok t) = t.id
ok_id s (Err fault) = s.id

edit_id : (s t : Exporter) (edit : Edit) → app_edits s edit ≡ Ok t → t.id ≡ s.id
edit_id s t edit h = sym (ap (ok_id s) h) ∙ by (steps_of_tree s.tree s.added edit)
  where
    edit_as : Result (List Step) EditFault → Result Exporter EditFault
    edit_as (Ok ss) = Ok (queues (stepped s ss) (steps_told s.heard (name_or_empty s.name) s.tree ss))
    edit_as (Err fault) = Err fault

    by : (r : Result (List Step) EditFault) → ok_id s (edit_as r) ≡ s.id
    by (Ok ss) = refl
    by (Err fault) = refl

edited_known : (run : List Act) (line : Line) (a : ℕ) (s t : Exporter) (edit : Edit) → app_edits s edit ≡ Ok t → s.out ≡ [] → IsKnown run a s
    → IsKnown (run ++ begins_line line ∷ map writes (map (did a) t.out)) a (record t { out = [] })
edited_known run line a s t edit done_ empty i =
    let acts : List Act = begins_line line ∷ map writes (map (did a) t.out) in
    let x : Edited s t = edit_course s t edit done_ empty in
    record {
      id = edit_id s t edit done_ ∙ i.id
          ∙ sym (gathered_more (id_after a) (negsuc 0) [] run acts ∙ gathered_stays (id_after a) (id_of run a) run acts ((λ before n. refl), out_stays a t.out));
      greeted = λ h. subst (λ l. IsGreeted l a) (sym (entries_more run acts)) (greeted_more (entries_in run) (entries_in acts) a (i.greeted (ap is_some (sym x.name) ∙ h)));
      calls =
          subst (λ p. AreCalls p (calls_of (run ++ acts) a)) (sym x.phase)
          (subst (AreCalls s.phase) (sym (calls_more run acts a ∙ ap (λ l. calls_of run a ++ filter is_call l) (sent_here a t.out) ∙ ap (λ l. calls_of run a ++ l) (no_calls t.out x.quiet) ∙ append-nil (calls_of run a))) i.calls);
    }

-- ONE TAKES A MESSAGE
map_one : (p : Party) (name : Option (List ℕ)) (o : Option Envelope) (m : Envelope) → map (signed p name) (as_list o) ≡ m ∷ [] → (x : Envelope) × (o ≡ Some x) × (signed p name x ≡ m)
map_one p name None m h = absurd (no h)
  where
    no : [] ≡ m ∷ [] → ⊥
    no e = cc
map_one p name (Some x) m h = (x, refl, ap (first_or m) h)
  where
    first_or : Envelope → List Envelope → Envelope
    first_or y [] = y
    first_or y (z ∷ zs) = z

signed_kind : (p : Party) (name : Option (List ℕ)) (x : Envelope) → (signed p name x).kind ≡ x.kind
signed_kind The_bus name x = refl
signed_kind Registry name x = refl
signed_kind (App a) name x = refl
signed_kind (Reader r) name x = refl

signed_reply : (p : Party) (name : Option (List ℕ)) (x : Envelope) → (signed p name x).reply ≡ x.reply
signed_reply The_bus name x = refl
signed_reply Registry name x = refl
signed_reply (App a) name x = refl
signed_reply (Reader r) name x = refl

module _ (front : List Act) (w : World) (f : Front front w None) (d : Done) (b : AppTakes w d) where
  abbrev s0 : Exporter
  s0 = b.before

  abbrev m0 : Envelope
  m0 = b.letter.said.message

  pub handed_it : handed front b.letter.from m0.serial ≡ m0 ∷ []
  handed_it = handed_is front w None f b.conn b.e b.letter b.rest b.is_here.there b.is_here.standing b.link

  pub its_tree : TreeIs (entries_in front) b.app s0
  its_tree = (f.kept (Shaped (And Below Stepped)) steps_keep).1.1.1 b.conn b.app b.e s0 b.is_here.there b.whose b.role

  -- it has its name, or takes the return to its Hello
  pub ready_it : IsReady s0 m0
  ready_it = by (has_or_none (unique_of w.bus.state.owners b.conn))
    where
      x : Welcoming (carried w)
      x = (f.kept (Shaped (And Under_welcome WelcomesWell)) welcomes_keep).1.1

      rests : Rested w
      rests = (f.kept (Shaped (And Nothing Rests)) rests_keep).1.1

      full : b.e.down ≡ [] → ⊥
      full empty = no (sym b.link ∙ empty)
        where
          no : b.letter ∷ b.rest ≡ [] → ⊥
          no z = cc

      greets_by : Greets s0 b.e.down ⊎ (is_due b.conn w.bus.waiting.due ≡ true) → IsReady s0 m0
      greets_by (inl (inl h)) = inl h
      greets_by (inl (inr h)) = inr (h.0, subst Starts b.link h.1)
      greets_by (inr q) = absurd (false_true (sym (ap (is_due b.conn) rests.due) ∙ q))

      by : (unique_of w.bus.state.owners b.conn ≡ None) ⊎ HasName w.bus.state.owners b.conn → IsReady s0 m0
      by (inl none) = absurd (full (x.silent b.conn b.e b.is_here.there b.is_here.standing none))
      by (inr has) = greets_by ((x.apps b.conn b.e s0 b.is_here.there b.is_here.standing b.role).behind has)

  -- WHAT IT WROTE
  abbrev t0 : Exporter
  t0 = app_takes s0 m0

  abbrev its_entries : List Entry
  its_entries = got (App b.app) b.letter.from m0.serial ∷ map (did b.app) t0.out

  pub it_wrote : d.entries ≡ its_entries
  it_wrote =
      ap (λ (x : Done). x.entries) b.is
      ∙ ap₂ (λ p n. got p b.letter.from m0.serial ∷ map (did n) t0.out) b.whose
      (number_at (received w b.conn b.e b.letter).ends b.conn b.app (taken_down b.e) (received_at w b.conn b.e b.letter b.is_here.there) b.whose)

  abbrev its_acts : List Act
  its_acts = map writes its_entries

  -- the number
  id_now : id_of (front ++ its_acts) b.app ≡ id_by front b.app (id_of front b.app) m0
  id_now =
      gathered_more (id_after b.app) (negsuc 0) [] front its_acts
      ∙ gathered_stays (id_after b.app) (id_after b.app front (id_of front b.app) (writes (got (App b.app) b.letter.from m0.serial))) (front ++ writes (got (App b.app) b.letter.from m0.serial) ∷ []) (map writes (map (did b.app) t0.out)) (out_stays b.app t0.out)
      ∙ ap (λ t. if t then fold (id_by front b.app) (id_of front b.app) (handed front b.letter.from m0.serial) else id_of front b.app) (party-same (App b.app))
      ∙ ap (fold (id_by front b.app) (id_of front b.app)) handed_it

  -- the return to its Hello
  greeted_now : IsKnown front b.app s0 → IsGreeted (entries_in (front ++ its_acts)) b.app
  greeted_now i = subst (λ l. IsGreeted l b.app) (sym (entries_more front its_acts ∙ ap (λ l. entries_in front ++ l) (entries_written its_entries))) (by ready_it)
    where
      by : IsReady s0 m0 → IsGreeted (entries_in front ++ its_entries) b.app
      by (inl h) = greeted_more (entries_in front) its_entries b.app (i.greeted h)
      by (inr h) =
          let from : Party = b.letter.from in
          let x = map_one from (words.name_of front from) (told.message (entries_in front) from m0.serial) m0 (sym (ap (map (signed from (words.name_of front from))) (with_list front w None f from m0.serial)) ∙ handed_it) in
          record {
            sender = from;
            serial = m0.serial;
            message = x.0;
            was = found_more (entries_in front) its_entries from m0.serial x.0 x.1;
            two = sym (signed_kind from (words.name_of front from) x.0) ∙ ap (λ (y : Envelope). y.kind) x.2 ∙ h.1.two;
            reply = sym (signed_reply from (words.name_of front from) x.0) ∙ ap (λ (y : Envelope). y.reply) x.2 ∙ h.1.reply;
            early = entries_in front;
            late = map (did b.app) t0.out;
            is = refl;
          }

  -- its end then
  pub there_now : end_at d.world.ends b.conn ≡ Some (has_done s0 t0 (taken_down b.e))
  there_now =
      ap (λ (x : Done). end_at x.world.ends b.conn) b.is
      ∙ at_changed (has_done s0 t0) (with_end b.conn taken_down w.ends) b.conn (taken_down b.e) (at_changed taken_down w.ends b.conn b.e b.is_here.there)

  -- all that it knows, where its own number is as the answer makes it
  pub took_known : t0.id ≡ id_by front b.app s0.id m0 → IsKnown front b.app s0 → AllBegin (entries_in (front ++ map writes d.entries)) d.world → Lives (entries_in (front ++ map writes d.entries))
      → IsKnown (front ++ its_acts) b.app (record t0 { out = [] })
  took_known id i all live = record {
    id = id ∙ ap (λ n. id_by front b.app n m0) i.id ∙ sym id_now;
    greeted = λ h. greeted_now i;
    calls = taken_calls front its_acts b.app s0 t0 m0 (sent_here b.app t0.out) i.calls embeds (course s0 m0 its_tree.empty);
  }
    where
      embeds : t0.phase ≡ over → Embeds (entries_in (front ++ its_acts)) b.app
      embeds h =
          subst (λ l. Embeds (entries_in (front ++ map writes l)) b.app) it_wrote
          (((all live b.conn b.app (has_done s0 t0 (taken_down b.e)) (record t0 { out = [] }) there_now b.whose refl b.is_here.standing).embeds h).call)

  -- what is known of it
  pub it_tells : IsKnown front b.app s0 → Tells front b.app s0
  it_tells i = record {
    tree = its_tree.tree ∙ sym (tree_told front b.app);
    count = its_tree.count ∙ sym (added_told front b.app);
    name = λ name h. ap or_empty (name_same front (App b.app) refl ∙ told_is (entries_in front) (App b.app) ∙ its_self.told name h);
    returned = λ h. returned_one front w None f b.app (i.greeted h);
    id = i.id;
    pairs = sym ((f.kept (Shaped (And Beneath Heard)) heard_keeps).1.1.1 b.conn b.app b.e s0 b.is_here.there b.whose b.role) ∙ sym (pairs_told front b.app);
    empty = its_tree.empty;
    calls = i.calls;
    next = sum s0.next (length (told.messages (entries_in front) (App b.app)))
        (sym (ap next_of b.role) ∙ (f.kept (Shaped (And (And Below Stepped) Numbered)) numbers_keep).1.1.1 b.conn b.e b.is_here.there ∙ ap (λ p. suc (sent_before p + length (told.messages (entries_in front) p))) b.whose)
        ∙ ap (λ l. suc (length l)) (sym (messages_told front (App b.app)));
    start = its_self.start;
  }
    where
      sum : (n k : ℕ) → n ≡ suc (0 + k) → n ≡ suc k
      sum n k h = omega (arith, h)

      its_self : IsSelf (entries_in front) b.app s0
      its_self = (f.kept (Shaped (And Under_mail Known_mail)) mail_keeps).1.1.1 b.conn b.app b.e s0 b.is_here.there b.whose b.role

  pub it_took : Took s0 m0 t0
  it_took = took s0 m0 ready_it

-- HOW MANY there are
count_same : (xs ys : List End) → parties ys ≡ parties xs → app_count ys ≡ app_count xs
count_same xs ys h = counted is_app ys ∙ ap (λ l. length (filter is_app l)) h ∙ sym (counted is_app xs)

same_unset : (run acts : List Act) (ys : List Entry) (w v : World) → entries_in acts ≡ ys → app_count v.ends ≡ app_count w.ends → ((a : ℕ) → app_count w.ends ≤ a → AllByRecursion (NotBy a) ys) → Unset run w → Unset (run ++ acts) v
same_unset run acts ys w v is count n unset a h =
    let more : app_count w.ends ≤ a = subst (λ k. k ≤ a) count h in
    same_id run acts a (written_by a acts ys is (n a more)) ∙ unset a more

quiet_knows : (run acts : List Act) (ys : List Entry) (w v : World) → entries_in acts ≡ ys → Over SameApp w.ends v.ends → Silent ys → Knows run w → Knows (run ++ acts) v
quiet_knows run acts ys w v is o n i = (
  quiet_known run acts ys w v is o n i.0,
  same_unset run acts ys w v is (counts is_app w.ends v.ends o.size (λ k d h. let x = o.back k d h in (x.0, x.1, x.2.whose))) (λ a h. n a) i.1,
)

-- who acts is no application of another number
apart : (n a b : ℕ) → n < b → b ≤ a → n ≡ a → ⊥
apart n a b less more same = absurd (omega (arith, less, more, same))

-- LINES
one : (w : World) (f : End → End) → ((e : End) → SameApp e (f e)) → (conn : ℕ) → Over SameApp w.ends (with_end conn f w.ends)
one w f r conn = over_with SameApp same_app f r conn w.ends

none : (w : World) → Over SameApp w.ends w.ends
none w = over_same SameApp same_app w.ends

no_app_first : (quota k a : ℕ) (x : End) → end_at (first_world quota).ends k ≡ Some x → x.who ≡ App a → ⊥
no_app_first quota zero a x h who = false_true (ap is_app (ap (λ (y : End). y.who) (same_some first_registry x h) ∙ who))
no_app_first quota (suc k) a x h who = no_none x h

nobody_left : (run : List Act) (w : World) → EndsAre run w → length w.ends ≤ 1 → app_count w.ends ≡ 0
nobody_left run w ends few =
    counted is_app w.ends ∙ ap (λ l. length (filter is_app l)) (ends ∙ ap (λ l. Registry ∷ l) (few_starts run w ends few))

zero_least : (n a : ℕ) → n ≡ 0 → n ≤ a
zero_least n a h = omega (arith, h)

written_line : (line : Line) (es : List Entry) → entries_in (begins_line line ∷ map writes es) ≡ es
written_line line es = entries_written es

stopped_knows : (run : List Act) (w : World) (line : Line) (d : Done) (b : Stopping w d) → Front run w None → Knows run w → Knows (run ++ begins_line line ∷ map writes d.entries) d.world
stopped_knows run w line d b f i =
    quiet_knows run (begins_line line ∷ map writes d.entries) d.entries w d.world (written_line line d.entries)
    (subst (λ (x : Done). Over SameApp w.ends x.world.ends) (sym b.is) (one w stops stops_same b.conn)) (λ a. subst (λ (x : Done). AllByRecursion (NotBy a) x.entries) (sym b.is) (tt, tt)) i

line_knows : (run : List Act) (w : World) (line : Line) (d : Done) → Front run w None → Shape w → LineDid w line d → Knows run w → Knows (run ++ begins_line line ∷ map writes d.entries) d.world
line_knows run w _ _ f sh (renewed quota few) i = (
  λ k a e s there who role on. absurd (no_app_first quota k a e there who),
  λ a h. same_id run (begins_line (Quota quota) ∷ []) a tt ∙ i.1 a (zero_least (app_count w.ends) a (nobody_left run w f.ends (ltb-false 1 (length w.ends) few))),
)
line_knows run w line _ f sh (app_began name short few) i =
    let numbers : Numbered (entries_in run) w = (f.kept (Shaped (And (And Below Stepped) Numbered)) numbers_keep).1.1 in
    (started_known run line w name sh numbers i.1 i.0, started_unset run line w name sh numbers i.1)
line_knows run w line d f sh (reader_began few) i =
    let acts : List Act = begins_line line ∷ map writes d.entries in
    let silent : Silent d.entries = λ a. (tt, (refl, tt)) in (
      joined_known run acts d.entries w d.world (new_reader w) (written_line line d.entries) refl refl silent i.0,
      λ a h. same_id run acts a (written_by a acts d.entries (written_line line d.entries) (silent a)) ∙ i.1 a (fewer a (some_more (λ (e : End). is_app e.who) w.ends (new_reader w)) h),
    )
  where
    fewer : (a : ℕ) → app_count w.ends ≤ app_count (w.ends ++ new_reader w ∷ []) → app_count (w.ends ++ new_reader w ∷ []) ≤ a → app_count w.ends ≤ a
    fewer a less h = omega (arith, less, h)
line_knows run w line d f sh (edited_app app conn edit e before after h who role done_ can) i =
    let acts : List Act = begins_line line ∷ map writes d.entries in
    let tree : TreeIs (entries_in run) app before = (f.kept (Shaped (And Below Stepped)) steps_keep).1.1.1 conn app e before h.there who role in
    let wrote : d.entries ≡ map (did app) after.out = ap (λ n. map (did n) after.out) (number_at w.ends conn app e h.there who) in
    let now : IsKnown (run ++ acts) app (record after { out = [] }) =
    subst (λ l. IsKnown (run ++ begins_line line ∷ map writes l) app (record after { out = [] })) (sym wrote) (edited_known run line app before after edit done_ tree.empty (i.0 conn app e before h.there who role h.standing)) in
    let written : entries_in acts ≡ map (did app) after.out = written_line line d.entries ∙ wrote in (
      one_known run acts (map (did app) after.out) w d.world conn app e (has_done before after e) (record after { out = [] }) written sh h.there who (changed_at w d.world conn e (has_done before after) h.there refl)
          (λ a differ. did_others app a after.out differ) who refl now i.0,
      same_unset run acts (map (did app) after.out) w d.world written (count_same w.ends d.world.ends (with_parties (has_done before after) (λ x. refl) conn w.ends))
          (λ a more. did_others app a after.out (apart app a (app_count w.ends) (sh.apps conn app e h.there who) more)) i.1,
    )
line_knows run w line d f sh (called_app reader app node conn deed e hearer h who role) i =
    quiet_knows run (begins_line line ∷ map writes d.entries) d.entries w d.world (written_line line d.entries)
    (one w (reader_sends (record hearer { next = suc hearer.next }) (user_call hearer.next (name_of (end_of w.ends (App app))) node deed)) (λ x. not_app x _ refl refl) conn)
    (λ a. (ap (λ p. same_party p (App a)) (ap whose h.there ∙ who), tt)) i
line_knows run w line d f sh (swapped app) i = quiet_knows run (begins_line line ∷ []) [] w d.world refl (none w) (λ a. tt) i
line_knows run w line d f sh (app_stopped app _ b who) i = stopped_knows run w line d b f i
line_knows run w line d f sh (reader_stopped reader _ b who) i = stopped_knows run w line d b f i
line_knows run w line d f sh (showed reader app conn e hearer there who role) i =
    quiet_knows run (begins_line line ∷ map writes d.entries) d.entries w d.world (written_line line d.entries) (none w) (λ a. (tt, tt)) i

-- TURNS
two : (w : World) (f : End → End) → ((e : End) → SameApp e (f e)) → (conn : ℕ) → Over SameApp w.ends (with_end conn f (with_end conn taken_down w.ends))
two w f r conn =
    over_both SameApp same_app w.ends (with_end conn taken_down w.ends) (with_end conn f (with_end conn taken_down w.ends)) (over_with SameApp same_app taken_down (λ e. alike e (taken_down e) refl refl refl) conn w.ends)
    (over_with SameApp same_app f r conn (with_end conn taken_down w.ends))

as_is : (front : List Act) (w : World) (d x : Done) → d ≡ x → Over SameApp w.ends x.world.ends → Silent x.entries → Knows front w → Knows (front ++ map writes d.entries) d.world
as_is front w d x is o n i =
    subst (λ (y : Done). Knows (front ++ map writes y.entries) y.world) (sym is) (quiet_knows front (map writes x.entries) x.entries w x.world (entries_written x.entries) o n i)

took_knows : (front : List Act) (w : World) (c : Cause) (d : Done) (f : Front front w None) (b : AppTakes w d) → Shape w → app_count d.world.ends ≡ app_count w.ends → AllBegin (entries_in (front ++ map writes d.entries)) d.world
    → Lives (entries_in (front ++ map writes d.entries)) → Knows front w → Knows (front ++ map writes d.entries) d.world
took_knows front w c d f b sh count all live i =
    let t : Exporter = app_takes b.before b.letter.said.message in
    let acts : List Act = map writes d.entries in
    let ys : List Entry = got (App b.app) b.letter.from b.letter.said.message.serial ∷ map (did b.app) t.out in (
      one_known front acts ys w d.world b.conn b.app b.e (has_done b.before t (taken_down b.e)) (record t { out = [] }) written sh b.is_here.there b.whose
          (changed_both w d.world b.conn b.e (has_done b.before t) b.is_here.there (ap (λ x. x.world.ends) b.is)) others b.whose refl now i.0,
      same_unset front acts ys w d.world written count (λ a more. others a (apart b.app a (app_count w.ends) (sh.apps b.conn b.app b.e b.is_here.there b.whose) more)) i.1,
    )
  where
    written : entries_in (map writes d.entries) ≡ got (App b.app) b.letter.from b.letter.said.message.serial ∷ map (did b.app) (app_takes b.before b.letter.said.message).out
    written = entries_written d.entries ∙ it_wrote front w f d b

    others : (a : ℕ) → (b.app ≡ a → ⊥) → AllByRecursion (NotBy a) (got (App b.app) b.letter.from b.letter.said.message.serial ∷ map (did b.app) (app_takes b.before b.letter.said.message).out)
    others a differ = (ne_eqb b.app a differ, did_others b.app a (app_takes b.before b.letter.said.message).out differ)

    known : IsKnown front b.app b.before
    known = i.0 b.conn b.app b.e b.before b.is_here.there b.whose b.role b.is_here.standing

    now : IsKnown (front ++ map writes d.entries) b.app (record (app_takes b.before b.letter.said.message) { out = [] })
    now =
        subst (λ l. IsKnown (front ++ map writes l) b.app (record (app_takes b.before b.letter.said.message) { out = [] })) (sym (it_wrote front w f d b))
        (took_known front w f d b (number_so front b.app b.before b.letter.said.message (it_tells front w f d b known) (app_takes b.before b.letter.said.message) (it_took front w f d b)) known all live)

turn_knows : (front : List Act) (w : World) (c : Cause) (d : Done) → Front front w None → Shape w → TurnDid w c d → AllBegin (entries_in (front ++ map writes d.entries)) d.world → Lives (entries_in (front ++ map writes d.entries))
    → Knows front w → Knows (front ++ map writes d.entries) d.world
turn_knows front w _ d f sh (told_busy turns) all live i = as_is front w d d refl (none w) (λ a. (tt, tt)) i
turn_knows front w _ d f sh (told_quiet rests) all live i = as_is front w d d refl (none w) (λ a. (tt, tt)) i
turn_knows front w _ _ f sh (bus_took d b) all live i =
    let c0 : Carried = record { bus = w.bus; ends = w.ends } in
    as_is front w d _ b.is (goes_same w.ends _ (took_goes c0 b.conn b.e.who b.said)) (λ a. (refl, bus_silent a (carrying.takes c0 b.conn b.e.who b.said))) i
turn_knows front w _ _ f sh (bus_ended d b) all live i =
    let c0 : Carried = record { bus = w.bus; ends = w.ends } in
    as_is front w d _ b.is (goes_same w.ends _ (ended_goes c0 b.conn)) (λ a. bus_silent a (carrying.takes_end c0 b.conn)) i
turn_knows front w _ _ f sh (registry_took d b) all live i =
    let step = registry_takes b.before b.letter.said.message in
    as_is front w d _ b.is (two w (registry_did step) (λ e. not_app e (registry_did step e) refl refl) b.conn)
    (λ a. (ap (λ p. same_party p (App a)) b.whose, subst (λ p. AllByRecursion (NotBy a) (map (sent p) step.sent)) (sym b.whose) (registry_silent a step.sent))) i
turn_knows front w c _ f sh (app_took d b) all live i = took_knows front w c d f b sh (count_same w.ends d.world.ends (turn_parties w (gets b.conn) d (app_took d b))) all live i
turn_knows front w _ _ f sh (reader_took d b) all live i =
    let v : World = received w b.conn b.e b.letter in
    let g : Hearer = hears_letter b.hearer v.ends b.letter in
    as_is front w d _ b.is (two w (λ x. record x { role = a_reader g }) (λ e. not_app e (record e { role = a_reader g }) refl refl) b.conn)
    (λ a. (ap (λ p. same_party p (App a)) b.whose, heard_all (NotBy a) (λ r app line. tt) (λ r app. tt) (number_of b.e.who) b.hearer v.ends b.letter)) i

-- ALONG A RUN
moved_knows : (run : List Act) (w v : World) → Moves w v → Knows run w → Knows run v
moved_knows run w v (inl same) i = subst (Knows run) (sym same) i
moved_knows run w v (inr (inl m)) i =
    subst (λ l. Knows l v) (append-nil run)
    (quiet_knows run [] [] w v refl
    (subst (λ (x : World). Over SameApp w.ends x.ends) (sym m.after) (over_with SameApp same_app (λ e. record e { up_moved = e.up_moved + m.count }) (λ e. alike e (record e { up_moved = e.up_moved + m.count }) refl refl refl) m.conn w.ends)) (λ a. tt) i)
moved_knows run w v (inr (inr m)) i =
    subst (λ l. Knows l v) (append-nil run)
    (quiet_knows run [] [] w v refl
    (subst (λ (x : World). Over SameApp w.ends x.ends) (sym m.after) (over_with SameApp same_app (λ e. record e { down_moved = e.down_moved + m.count }) (λ e. alike e (record e { down_moved = e.down_moved + m.count }) refl refl refl) m.conn w.ends)) (λ a. tt) i)

pub knows_moves : (run moves : List Act) (w : World) → AllMoves moves → Knows run w → Knows (run ++ moves) w
knows_moves run moves w m i = quiet_knows run moves [] w w (no_entries moves m) (none w) (λ a. tt) i

pub knows_along : (run : List Act) (w : World) (free : Option ℕ) (at : Option Work) → Ran run w free at → Lives (entries_in run) → Knows run w
knows_along _ _ _ _ nothing_yet live = (λ k a e s there who role on. absurd (no_app_first QUOTA_MOST k a e there who), λ a h. refl)
knows_along _ _ _ _ (did_line run w line c r ok can is a) live =
    let before : Lives (entries_in run) = lived_before run (begins_line line ∷ map writes (does w c).entries) live in
    let shape : Shape w = shape_along run w None None r in
    line_knows run w line (does w c) (front_of run w None None r before) shape (line_did w line c shape ok can a is) (knows_along run w None None r before)
knows_along _ _ _ _ (began run w line r ok can b) live =
    let moves : List Act = line_moves w (work_of w line) in
    let before : Lives (entries_in run) = lived_before run (begins_line line ∷ moves) live in
    quiet_knows run (begins_line line ∷ moves) [] w w (no_entries moves (line_moves_are w (work_of w line))) (none w) (λ a. tt) (knows_along run w None None r before)
knows_along _ _ _ _ (caused run w free work left c r is b a) live =
    let d : Done = does w c in
    let moves : List Act = moves_for w work c in
    let m : AllMoves moves = moves_are w work c in
    let before : Lives (entries_in run) = lived_before run (moves ++ map writes d.entries) live in
    let shape : Shape w = shape_along run w free (Some work) r in
    let same : run ++ (moves ++ map writes d.entries) ≡ (run ++ moves) ++ map writes d.entries = sym (append_assoc run moves (map writes d.entries)) in
    let all : AllBegin (entries_in (run ++ (moves ++ map writes d.entries))) d.world =
    (kept_along (Shaped (And Under_embed AllBegin)) begin_keep (run ++ (moves ++ map writes d.entries)) d.world (freed c) (Some left) (caused run w free work left c r is b a)).1.1 in
    subst (λ l. Knows l d.world) (sym same)
    (turn_knows (run ++ moves) w c d (front_moved run moves w free m (front_of run w free (Some work) r before)) shape (turn_did w c shape (bare_quiet w work left c b is) a)
    (subst (λ l. AllBegin (entries_in l) d.world) same all) (subst (λ l. Lives (entries_in l)) same live) (knows_moves run moves w m (knows_along run w free (Some work) r before)))
knows_along _ _ _ _ (rested run w v free work r is m well) live = moved_knows run w v m (knows_along run w free (Some work) r live)
knows_along _ _ _ _ (asked run w conn q m question work r a) live =
    quiet_knows run (writes (sent (Reader q) m) ∷ []) (sent (Reader q) m ∷ []) w (at_end w conn (asks_at m question)) refl (over_with SameApp same_app (asks_at m question) (asks_same m question) conn w.ends) (λ x. (refl, tt))
    (knows_along run w (Some conn) work r (lived_before run (writes (sent (Reader q) m) ∷ []) live))

-- of a run up to a place
pub knows_front : (front : List Act) (w : World) (free : Option ℕ) → Front front w free → Knows front w
knows_front front w free f =
    let o = f.origin in
    let live : Lives (entries_in o.base) = lived_before o.base o.moves (subst (λ l. Lives (entries_in l)) o.is f.lives) in
    subst (λ l. Knows l w) (sym o.is) (knows_moves o.base o.moves w o.all_moves (knows_along o.base w o.free o.at o.ran live))
