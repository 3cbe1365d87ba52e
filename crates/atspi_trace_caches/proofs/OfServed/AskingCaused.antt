-- How calls for items are kept, cause by cause.
use Rattle.std.proofs.Common.{◌≡◌, ◌⊎◌, inl, inr, ℕ, zero, suc, ◌≤◌, Bool, true, false, List, [], ◌∷◌, ◌++◌, length, map, Some, refl, sym, ap, ◌∙◌, subst, arith}
use Rattle.std.specs.Prelude.{bytes_eq}
use Rattle.std.specs.List.{AllByRecursion}
use Rattle.std.proofs.lemmas.List.{append-nil}
use Rattle.atspi_script_lines.specs.declared.line.Party.{Party}
use Rattle.atspi_script_lines.specs.declared.line.Party.TheVariants.{Registry, App, Reader}
use Rattle.atspi_message.specs.Envelope.{Envelope}
use Rattle.atspi_protocol.specs.registering.Steps.{RegistryStep, registry_takes}
use Rattle.atspi_protocol.specs.declared.following.question.Question.{Question}
use Rattle.atspi_protocol.specs.declared.following.question.Question.TheVariants.{Hello, GetItems}
use Rattle.atspi_protocol.specs.following.Calls.{user_call}
use Rattle.atspi_trace.specs.Entry.{Entry, sent, got}
use Rattle.atspi_trace.specs.World.{a_reader, Hearer, first_registry, first_world, End, World}
use Rattle.atspi_trace.specs.Ends.{is_here, is_app, is_reader, number_of, whose, end_at, with_end, taken_down, stops, app_count, reader_count}
use Rattle.atspi_trace.specs.Hearing.{names_told, question_returned, hears_letter}
use Rattle.atspi_trace.specs.Causes.{Done, asks, first_hearer, reader_sends, registry_did, app_starts, reader_starts}
use Rattle.atspi_trace_laws.specs.laws.Words.{messages, with_serial, own_call, question_if}
use Rattle.atspi_trace_laws.proofs.OfOrder.Parties.{no_none, same_some, false_true}
use Rattle.atspi_trace_laws.proofs.OfOrder.Plain.{user_plain}
use Rattle.atspi_trace_laws.proofs.OfOrder.Frame.{Over, over_same, over_both, over_with, over_at, joined_cases}
use Rattle.atspi_trace_laws.proofs.OfOrder.Shape.{Shape}
use Rattle.atspi_trace_laws.proofs.OfOrder.Shaped.{received_at, new_app, new_reader, app_joined}
use Rattle.atspi_trace_laws.proofs.OfOrder.Each.{each_of}
use Rattle.atspi_trace_laws.proofs.OfOrder.Effects.{received, ReaderCalls, ReaderTakes, RegistryTakes, Effect, resets, app_joins, reader_joins, app_edited, app_took, reader_called, swapped, exited_, showed_, told_busy, told_quiet, bus_took, bus_ended, registry_took, reader_took}
use Rattle.atspi_trace_laws.proofs.OfSerials.Numbers.{Numbered}
use Rattle.atspi_trace_laws.proofs.OfSteps.Steps.{Trees}
use Rattle.atspi_trace_laws.proofs.OfLinks.LawLinks.{Linked}
use Rattle.atspi_trace_laws.proofs.OfOwn.Writing.{Lives, lived}
use Rattle.atspi_trace_laws.proofs.OfHeard.Quiet.{heard_all}
use Rattle.atspi_trace_laws.proofs.OfHeard.LawHeard.{Pairs}
use Rattle.atspi_trace_laws.proofs.OfHeld.LawHeld.{Readers}
use Rattle.atspi_trace_laws.proofs.OfTaken.LawTaken.{Known}
use Rattle.atspi_trace_laws.proofs.OfTurns.LawTurns.{AllTurn}
use Rattle.atspi_trace_laws.proofs.OfReaders.Fates.{hello_read}
use Rattle.atspi_trace_laws.proofs.OfNames.LawNames.{Named}
use Rattle.atspi_trace_laws.proofs.OfSigned.LawMail.{Mail}
use Rattle.atspi_trace_caches.proofs.OfServed.Facts.{Embeds, AllHear, Carries, AllListed}
use Rattle.atspi_trace_caches.proofs.OfServed.Asking.{HeardAt}
use Rattle.atspi_trace_caches.proofs.OfServed.AskingFrame.{IsReady, questions, IsReader, IsApp, Asking, AllAsking, NoCalls, WasReader, WasApp, IsNewApp, asking_now}
use Rattle.atspi_trace_caches.proofs.OfServed.AskingKept.{stays_as, staying, no_reader, one_reader, questions_kept, any_front, IsAsIs, being, same_hearer, IsCalm, no_service, calm_heard, calls_back, all_items, reader_as, ready_as, calmly}
use Rattle.atspi_trace_caches.proofs.OfServed.AskingTaken.{bus_took_asking, bus_ended_asking}
use Rattle.atspi_trace_caches.proofs.OfServed.AskingActs.{edits_asking, takes_asking}

-- WHAT IS KNOWN of a world, and of that after it
pub record Underlies (es : List Entry) (w : World) : Type 0 where
  pub numbered : Numbered es w
  pub trees : Trees es w
  pub linked : Linked es w
  pub pairs : Pairs es w
  pub known : Known es w
  pub readers : Readers es w
  pub turned : AllTurn es w.ends
  pub names : Named es w
  pub mail : Mail es w
  pub hear : AllHear es w
  pub listed : AllListed es w

-- WHERE NOBODY READS
no_reader_first : (quota k r : ℕ) (x : End) → end_at (first_world quota).ends k ≡ Some x → x.who ≡ Reader r → ⊥
no_reader_first quota zero r x h who = false_true (ap is_reader (ap (λ (y : End). y.who) (same_some first_registry x h) ∙ who))
no_reader_first quota (suc k) r x h who = no_none x h

pub nobody : (es : List Entry) (quota : ℕ) → Asking es (first_world quota)
nobody es quota = record {
  ready = λ k r e h is. absurd (no_reader_first quota k r e is.there is.whose);
  minds = λ k r e h name is. absurd (no_reader_first quota k r e is.there is.whose);
  embeds = λ k r e h is. absurd (no_reader_first quota k r e is.there is.whose);
  heard = λ k r e h is. absurd (no_reader_first quota k r e is.there is.whose);
}

-- CALM CAUSES
calm_as : (d x : Done) → d ≡ x → AllByRecursion IsCalm x.entries → AllByRecursion IsCalm d.entries
calm_as d x is c = subst (λ y. AllByRecursion IsCalm y.entries) (sym is) c

module _ (es : List Entry) (w : World) (d : Done) (u : Underlies es w) (carries : Carries es (es ++ d.entries) w d.world) (i : AllAsking es w) (live : Lives (es ++ d.entries)) where
  now : Asking es w
  now = i (lived es d.entries live)

  by_over : Over IsAsIs w.ends d.world.ends → AllByRecursion IsCalm d.entries → Asking (es ++ d.entries) d.world
  by_over o c = calmly es d.entries w d.world now live u.readers u.known carries o c

  by_same : d.world.ends ≡ w.ends → AllByRecursion IsCalm d.entries → Asking (es ++ d.entries) d.world
  by_same is c = by_over (subst (Over IsAsIs w.ends) (sym is) (over_same IsAsIs being w.ends)) c

  by_end : (f : End → End) (conn : ℕ) (e : End) → end_at w.ends conn ≡ Some e → IsAsIs e (f e) → d.world.ends ≡ with_end conn f w.ends → AllByRecursion IsCalm d.entries → Asking (es ++ d.entries) d.world
  by_end f conn e there same is c = by_over (subst (Over IsAsIs w.ends) (sym is) (over_at IsAsIs being f conn w.ends e there same)) c

  by_both : (f : End → End) (conn : ℕ) (e : End) → end_at w.ends conn ≡ Some e → end_at (with_end conn taken_down w.ends) conn ≡ Some (taken_down e) → IsAsIs e (taken_down e) → IsAsIs (taken_down e) (f (taken_down e))
      → d.world.ends ≡ with_end conn f (with_end conn taken_down w.ends) → AllByRecursion IsCalm d.entries → Asking (es ++ d.entries) d.world
  by_both f conn e there taken down same is c =
      by_over
      (subst (Over IsAsIs w.ends) (sym is)
      (over_both IsAsIs being w.ends (with_end conn taken_down w.ends) (with_end conn f (with_end conn taken_down w.ends)) (over_at IsAsIs being taken_down conn w.ends e there down)
      (over_at IsAsIs being f conn (with_end conn taken_down w.ends) (taken_down e) taken same))) c

  -- one stops
  stops_asking : (conn : ℕ) → d.world.ends ≡ with_end conn stops w.ends → AllByRecursion IsCalm d.entries → Asking (es ++ d.entries) d.world
  stops_asking conn is c = by_over (subst (Over IsAsIs w.ends) (sym is) (over_with IsAsIs being stops (λ e. stop_as_is e) conn w.ends)) c
    where
      stop_as_is : (e : End) → IsAsIs e (stops e)
      stop_as_is e = record {
        stays = record { whose = refl; on = λ h. absurd (false_true (ap is_here h)); reader = λ g is. (staying.same e).reader g is; name = λ n h. h };
        down = λ a who. refl;
      }

  -- a user's call
  calls_asking : ReaderCalls w d → Asking (es ++ d.entries) d.world
  calls_asking b =
      by_end (reader_sends g m) b.conn b.e b.is_here.there
      (record { stays = one_reader b.e (reader_sends g m b.e) b.hearer g refl refl refl b.role refl refl (λ n h. h); down = λ a who. refl }) (ap (λ x. x.world.ends) b.is)
      (calm_as d _ b.is (calm_call (whose (end_at w.ends b.conn)) (ap whose b.is_here.there ∙ b.whose), tt))
    where
      m : Envelope
      m = user_call b.hearer.next b.name b.node b.deed

      g : Hearer
      g = record b.hearer { next = suc b.hearer.next }

      calm_call : (who : Party) → who ≡ Reader b.reader → IsCalm (sent who (user_call b.hearer.next b.name b.node b.deed))
      calm_call who is =
          subst (λ p. IsCalm (sent p (user_call b.hearer.next b.name b.node b.deed))) (sym is)
          (λ name q. no_none (GetItems name) (sym (user_plain b.hearer.next b.name b.node b.deed) ∙ q))

  -- the registry takes a message
  no_app : (e : End) → e.who ≡ Registry → (a : ℕ) → e.who ≡ App a → ⊥
  no_app e who a h = false_true (ap is_app (sym who ∙ h))

  registry_asking : RegistryTakes w d → Asking (es ++ d.entries) d.world
  registry_asking b =
      let step : RegistryStep = registry_takes b.before b.letter.said.message in
      by_both (registry_did step) b.conn b.e b.is_here.there (received_at w b.conn b.e b.letter b.is_here.there)
      (record { stays = stays_as b.e (taken_down b.e) refl refl refl refl; down = λ a who. absurd (no_app b.e b.whose a who) })
      (record { stays = no_reader (taken_down b.e) (registry_did step (taken_down b.e)) refl refl refl refl; down = λ a who. refl }) (ap (λ x. x.world.ends) b.is)
      (calm_as d _ b.is (words b.e.who b.whose step.sent))
    where
      all_sent : (xs : List Envelope) → AllByRecursion IsCalm (map (sent Registry) xs)
      all_sent [] = tt
      all_sent (x ∷ xs) = (tt, all_sent xs)

      words : (who : Party) → who ≡ Registry → (xs : List Envelope) → AllByRecursion IsCalm (got who b.letter.from b.letter.said.message.serial ∷ map (sent who) xs)
      words who is xs = subst (λ p. AllByRecursion IsCalm (got p b.letter.from b.letter.said.message.serial ∷ map (sent p) xs)) (sym is) (tt, all_sent xs)

  -- a reader takes a message
  no_app_reader : (e : End) (r : ℕ) → e.who ≡ Reader r → (a : ℕ) → e.who ≡ App a → ⊥
  no_app_reader e r who a h = false_true (ap is_app (sym who ∙ h))

  reader_asking : ReaderTakes w d → Asking (es ++ d.entries) d.world
  reader_asking b =
      by_both f b.conn b.e b.is_here.there (received_at w b.conn b.e b.letter b.is_here.there)
      (record { stays = stays_as b.e (taken_down b.e) refl refl refl refl; down = λ a who. absurd (no_app_reader b.e b.reader b.whose a who) })
      (record {
        stays = one_reader (taken_down b.e) (f (taken_down b.e)) b.hearer g refl refl refl b.role refl (questions_kept b.letter.said.message b.hearer.asked)
            (λ name h. any_front (bytes_eq name) b.hearer.named (names_told b.hearer b.letter.said.message (question_returned b.letter.said.message b.hearer.asked)) h);
        down = λ a who. refl;
      }) (ap (λ x. x.world.ends) b.is)
      (calm_as d _ b.is (takes b.e.who b.whose, heard_all IsCalm (λ r app line. tt) (λ r app. tt) (number_of b.e.who) b.hearer (received w b.conn b.e b.letter).ends b.letter))
    where
      g : Hearer
      g = hears_letter b.hearer (received w b.conn b.e b.letter).ends b.letter

      f : End → End
      f x = record x { role = a_reader (hears_letter b.hearer (received w b.conn b.e b.letter).ends b.letter) }

      takes : (who : Party) → who ≡ Reader b.reader → IsCalm (got who b.letter.from b.letter.said.message.serial)
      takes who is = subst (λ p. IsCalm (got p b.letter.from b.letter.said.message.serial)) (sym is) tt

-- ONE JOINS
least : (n : ℕ) → n ≤ n
least n = omega arith

module _ (es : List Entry) (w : World) (d : Done) (u : Underlies es w) (carries : Carries es (es ++ d.entries) w d.world) (i : AllAsking es w) (live : Lives (es ++ d.entries)) (n : End) (joined : d.world.ends ≡ w.ends ++ n ∷ []) (empty : n.down ≡ [])
    (new_reader_ : (r : ℕ) (h : Hearer) → n.who ≡ Reader r → n.role ≡ a_reader h → NoCalls (es ++ d.entries) r × AllByRecursion (IsReady (es ++ d.entries) n h) (questions h))
    (new_app_ : (a : ℕ) → n.who ≡ App a → Embeds es a → ⊥) (calm : AllByRecursion IsCalm d.entries) where
  before : Asking es w
  before = i (lived es d.entries live)

  found : (k : ℕ) (z : End) → end_at d.world.ends k ≡ Some z → (end_at w.ends k ≡ Some z) ⊎ ((k ≡ length w.ends) × (z ≡ n))
  found k z there = joined_cases w.ends n k z (ap (λ l. end_at l k) (sym joined) ∙ there)

  reader_then : (k r : ℕ) (z : End) (g : Hearer) → IsReader d.world k r z g → NoCalls (es ++ d.entries) r ⊎ WasReader es d.entries w k r z
  reader_then k r z g is = by (found k z is.there)
    where
      by : (end_at w.ends k ≡ Some z) ⊎ ((k ≡ length w.ends) × (z ≡ n)) → NoCalls (es ++ d.entries) r ⊎ WasReader es d.entries w k r z
      by (inl there) = inr (reader_as es d.entries w d.world before live u.readers carries (all_items d.entries calm) k r z g is z there (staying.same z))
      by (inr new) = inl (new_reader_ r g (ap (λ (x : End). x.who) (sym new.1) ∙ is.whose) (ap (λ (x : End). x.role) (sym new.1) ∙ is.role)).0

  ready_then : (k r : ℕ) (z : End) (g : Hearer) → IsReader d.world k r z g → AllByRecursion (IsReady (es ++ d.entries) z g) (questions g)
  ready_then k r z g is = by (found k z is.there)
    where
      by : (end_at w.ends k ≡ Some z) ⊎ ((k ≡ length w.ends) × (z ≡ n)) → AllByRecursion (IsReady (es ++ d.entries) z g) (questions g)
      by (inl there) = ready_as es d.entries w d.world before live u.readers carries (all_items d.entries calm) k r z g is z there (staying.same z)
      by (inr new) =
          subst (λ x. AllByRecursion (IsReady (es ++ d.entries) x g) (questions g)) (sym new.1)
          (new_reader_ r g (ap (λ (x : End). x.who) (sym new.1) ∙ is.whose) (ap (λ (x : End). x.role) (sym new.1) ∙ is.role)).1

  app_then : (j a : ℕ) (z : End) → IsApp d.world j a z → IsNewApp es a z ⊎ WasApp es d.entries w d.world j a z
  app_then j a z is = by (found j z is.there)
    where
      by : (end_at w.ends j ≡ Some z) ⊎ ((j ≡ length w.ends) × (z ≡ n)) → IsNewApp es a z ⊎ WasApp es d.entries w d.world j a z
      by (inl there) = inr (record { d = z; was = record { there = there; whose = is.whose; standing = is.standing }; gone = []; kept = z.down; more = []; before = refl; after = sym (append-nil z.down); puts = tt })
      by (inr new) = inl (record { empty = ap (λ (x : End). x.down) new.1 ∙ empty; new = new_app_ a (ap (λ (x : End). x.who) (sym new.1) ∙ is.whose) })

  joins_asking : Asking (es ++ d.entries) d.world
  joins_asking =
      asking_now es d.entries w d.world before live u.readers u.known carries reader_then app_then ready_then (λ k r z h is a s. absurd (no_service es d.entries r a calm s))
      (λ k r z h name is named j a y app s. absurd (no_service es d.entries r a calm s)) (λ k r z h is a. each_of IsCalm (HeardAt r a) es d.entries (calm_heard r a) calm)

app_no_reader : (a r : ℕ) → App a ≡ Reader r → ⊥
app_no_reader a r h = false_true (ap is_reader h)

reader_no_app : (r a : ℕ) → Reader r ≡ App a → ⊥
reader_no_app r a h = false_true (ap is_app h)

app_joins_asking : (es : List Entry) (w : World) (d : Done) (name : List ℕ) → Underlies es w → Carries es (es ++ d.entries) w d.world → AllAsking es w → Lives (es ++ d.entries) → d ≡ app_starts w name → Asking (es ++ d.entries) d.world
app_joins_asking es w d name u carries i live is =
    joins_asking es w d u carries i live (new_app w name) (ap (λ x. x.world.ends) is ∙ app_joined w name) refl (λ r h who. absurd (app_no_reader (app_count w.ends) r who)) (λ a who e. none a who e) (calm_as d (app_starts w name) is (tt, (tt, tt)))
  where
    none : (a : ℕ) → App (app_count w.ends) ≡ App a → Embeds es a → ⊥
    none a who e =
        no_none e.call (sym (ap (with_serial e.serial) (subst (λ p. messages es p ≡ []) who (u.numbered.2 (App (app_count w.ends)) (least (app_count w.ends))))) ∙ e.was)

abbrev is_items : Question → Bool
is_items (GetItems name) = true
is_items q = false

reader_joins_asking : (es : List Entry) (w : World) (d : Done) → Underlies es w → Carries es (es ++ d.entries) w d.world → AllAsking es w → Lives (es ++ d.entries) → d ≡ reader_starts w → Asking (es ++ d.entries) d.world
reader_joins_asking es w d u carries i live is =
    joins_asking es w d u carries i live (new_reader w) (ap (λ x. x.world.ends) is) refl (λ r h who role. (none r who, asked h role)) (λ a who. absurd (reader_no_app (reader_count w.ends) a who)) calm
  where
    calm : AllByRecursion IsCalm d.entries
    calm = calm_as d (reader_starts w) is (tt, ((λ name q. false_true (ap is_items (same_some Hello (GetItems name) (sym hello_read ∙ q)))), tt))

    none : (r : ℕ) → Reader (reader_count w.ends) ≡ Reader r → NoCalls (es ++ d.entries) r
    none r who c =
        let before : own_call es r c.0 ≡ Some (GetItems c.1) = calls_back es d.entries r c.0 c.1 (all_items d.entries calm) c.2 in
        no_none (GetItems c.1)
        (sym (ap (λ l. question_if (with_serial c.0 l)) (subst (λ p. messages es p ≡ []) who (u.numbered.2 (Reader (reader_count w.ends)) (least (reader_count w.ends))))) ∙ before)

    asked : (h : Hearer) → a_reader (asks Hello first_hearer) ≡ a_reader h → AllByRecursion (IsReady (es ++ d.entries) (new_reader w) h) (questions h)
    asked h role =
        subst (λ g. AllByRecursion (IsReady (es ++ d.entries) (new_reader w) g) (questions g)) (same_hearer (asks Hello first_hearer) h role)
        ((λ name same. absurd (false_true (ap is_items same))), tt)

-- EACH CAUSE
pub caused_asking : (es : List Entry) (w : World) (d : Done) → Shape d.world → Underlies es w → Underlies (es ++ d.entries) d.world → Carries es (es ++ d.entries) w d.world → AllAsking es w → Effect w d → AllAsking (es ++ d.entries) d.world
caused_asking es w d sh u v carries i (resets quota alone is) live = subst (λ x. Asking (es ++ x.entries) x.world) (sym is) (nobody (es ++ []) quota)
caused_asking es w d sh u v carries i (app_joins name short is) live = app_joins_asking es w d name u carries i live is
caused_asking es w d sh u v carries i (reader_joins fewer is) live = reader_joins_asking es w d u carries i live is
caused_asking es w d sh u v carries i (app_edited b) live = edits_asking es w d (i (lived es d.entries live)) live u.readers u.known carries u.numbered.0 u.hear u.pairs u.trees b
caused_asking es w d sh u v carries i (app_took b) live = takes_asking es w d sh (i (lived es d.entries live)) live u.readers u.known carries u.numbered.0 u.hear u.pairs u.trees b
caused_asking es w d sh u v carries i (reader_called b) live = calls_asking es w d u carries i live b
caused_asking es w d sh u v carries i (swapped b) live = by_same es w d u carries i live (ap (λ x. x.world.ends) b.is) (calm_as d _ b.is tt)
caused_asking es w d sh u v carries i (exited_ b) live = stops_asking es w d u carries i live b.conn (ap (λ x. x.world.ends) b.is) (calm_as d _ b.is (tt, tt))
caused_asking es w d sh u v carries i (showed_ b) live = by_same es w d u carries i live (ap (λ x. x.world.ends) b.is) (calm_as d _ b.is (tt, tt))
caused_asking es w d sh u v carries i (told_busy turns is) live = by_same es w d u carries i live (ap (λ x. x.world.ends) is) (calm_as d _ is (tt, tt))
caused_asking es w d sh u v carries i (told_quiet none is) live = by_same es w d u carries i live (ap (λ x. x.world.ends) is) (calm_as d _ is (tt, tt))
caused_asking es w d sh u v carries i (bus_took b) live = bus_took_asking es w d (i (lived es d.entries live)) live u.readers u.known carries v.readers v.turned v.names v.mail v.listed u.linked b
caused_asking es w d sh u v carries i (bus_ended b) live = bus_ended_asking es w d (i (lived es d.entries live)) live u.readers u.known carries v.readers v.turned v.names v.mail v.listed b
caused_asking es w d sh u v carries i (registry_took b) live = registry_asking es w d u carries i live b
caused_asking es w d sh u v carries i (reader_took b) live = reader_asking es w d u carries i live b
