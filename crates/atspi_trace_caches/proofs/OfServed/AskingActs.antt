-- How calls for items are kept where an application acts: where it takes a call that no news of the reader's pairs stands behind, it has heard of them, and each of its steps is heard of then.
use Rattle.std.proofs.Common.{◌≡◌, ◌⊎◌, inl, inr, ℕ, ◌<◌, Bool, true, false, List, [], ◌∷◌, ◌++◌, map, Some, refl, sym, ap, ◌∙◌, subst}
use Rattle.std.specs.Prelude.{◌==◌}
use Rattle.std.specs.List.{AllByRecursion}
use Rattle.std.proofs.lemmas.Bool.{eqb-true, eq-eqb}
use Rattle.std.proofs.lemmas.List.{append-nil}
use Rattle.atspi_script_lines.specs.declared.line.Party.{Party}
use Rattle.atspi_script_lines.specs.declared.line.Party.TheVariants.{Bus as The_bus, Registry, App, Reader}
use Rattle.atspi_protocol.specs.declared.following.question.Question.TheVariants.{GetItems}
use Rattle.atspi_protocol.specs.exporting.Exporter.{Happening, steps, sends, hears, deaf, Exporter}
use Rattle.atspi_protocol.specs.exporting.Taking.{app_takes}
use Rattle.atspi_trace.specs.Entry.{Entry, got}
use Rattle.atspi_trace.specs.World.{an_application, Hearer, Letter, End, World}
use Rattle.atspi_trace.specs.Ends.{same_party, end_at, with_end, rest_of, taken_down}
use Rattle.atspi_trace.specs.Causes.{Done, did, has_done}
use Rattle.atspi_trace_laws.specs.laws.Words.{own_call, heard_pairs}
use Rattle.atspi_trace_laws.specs.serials.Laws.{HasNextNumber}
use Rattle.atspi_trace_laws.specs.missed.Laws.{AreHeardOf}
use Rattle.atspi_trace_laws.proofs.OfOrder.Parties.{same_some, party-same, false_true}
use Rattle.atspi_trace_laws.proofs.OfOrder.Frame.{Over, over_both, over_with, with_cases, at_changed}
use Rattle.atspi_trace_laws.proofs.OfOrder.Shape.{Shape}
use Rattle.atspi_trace_laws.proofs.OfOrder.Effects.{received, AppEdits, AppTakes}
use Rattle.atspi_trace_laws.proofs.OfOrder.Shaped.{received_at}
use Rattle.atspi_trace_laws.proofs.OfOrder.Acts.{number_at}
use Rattle.atspi_trace_laws.proofs.OfOrder.Each.{Each, all_map}
use Rattle.atspi_trace_laws.proofs.OfSteps.Steps.{Trees}
use Rattle.atspi_trace_laws.proofs.OfOwn.Writing.{Lives, lived}
use Rattle.atspi_trace_laws.proofs.OfHeard.Heeding.{IsOneKind, Says, takes_says, edit_says}
use Rattle.atspi_trace_laws.proofs.OfHeard.LawHeard.{Pairs}
use Rattle.atspi_trace_laws.proofs.OfHeard.Pairs.{heard_more}
use Rattle.atspi_trace_laws.proofs.OfHeld.LawHeld.{Readers}
use Rattle.atspi_trace_laws.proofs.OfTaken.LawTaken.{Known}
use Rattle.atspi_trace_laws.proofs.OfMissed.Arriving.{On}
use Rattle.atspi_trace_caches.proofs.OfServed.Facts.{Embeds, AllHear, Carries}
use Rattle.atspi_trace_caches.proofs.OfServed.Asking.{IsService, ServedOn, Served, served_split, HeardAt}
use Rattle.atspi_trace_caches.proofs.OfServed.AskingFrame.{patterns, IsCleared, Clear, IsItsCall, IsReadyFor, Minds, IsReader, IsApp, Asking, Calls, embeds_more, served_call, ready_at, CarriesOn, clear_more, WasReader, WasApp, asking_now}
use Rattle.atspi_trace_caches.proofs.OfServed.AskingHeard.{are_heard, steps_heard, other_heard, did_no_service}
use Rattle.atspi_trace_caches.proofs.OfServed.AskingKept.{Stays, staying, stays_as, no_reader, IsAsIs, being, NoItems, was_reader, ready_over, over_stays, as_it_was}

-- what an application writes has no call of a reader's
did_items : (a : ℕ) (hs : List Happening) → AllByRecursion NoItems (map (did a) hs)
did_items a [] = tt
did_items a (steps step ∷ hs) = (tt, did_items a hs)
did_items a (sends e ∷ hs) = (tt, did_items a hs)
did_items a (hears listener pattern ∷ hs) = (tt, did_items a hs)
did_items a (deaf listener pattern ∷ hs) = (tt, did_items a hs)

-- WHO ASKED IT FOR ITEMS, and what it has heard
module _ (es : List Entry) (w : World) (i : Asking es w) (live : Lives es) (readers : Readers es w) (numbers : Each HasNextNumber [] es) (hear : AllHear es w) (pairs : Pairs es w) (conn app : ℕ) (e : End) (s : Exporter) (is : IsApp w conn app e) (role : e.role ≡ an_application s) where
  clear_heard : (name : List ℕ) → Embeds es app → Clear es name e.down → AreHeardOf (heard_pairs es app)
  clear_heard name embeds clear =
      subst AreHeardOf (sym (pairs conn app e s is.there is.whose role))
      (are_heard es s e.down numbers (hear live conn app e s is.there is.whose role is.standing embeds) name clear)

  module _ (k r : ℕ) (z : End) (h : Hearer) (reader : IsReader w k r z h) where
    ready_of : Calls es r → (name : List ℕ) × IsReadyFor es z h name
    ready_of c = (c.1, ready_at es w k r z h i readers reader c.0 c.1 c.2)

    minds_of : (c : Calls es r) → Minds es r (ready_of c).1.own app e.down
    minds_of c = i.minds k r z h (ready_of c).1.own reader (ready_of c).1.known conn app e is

    served_heard : Served es r app → AreHeardOf (heard_pairs es app)
    served_heard t =
        let c : Calls es r = served_call es r app t in
        clear_heard (ready_of c).1.own (i.embeds k r z h reader app t) ((minds_of c).served t)

-- AN EDIT
app_as_is : (s t : Exporter) (x : End) → IsAsIs x (has_done s t x)
app_as_is s t x = record { stays = no_reader x (has_done s t x) refl refl refl refl; down = λ a who. refl }

module _ (es : List Entry) (w : World) (d : Done) (i : Asking es w) (live : Lives (es ++ d.entries)) (readers : Readers es w) (known : Known es w) (carries : Carries es (es ++ d.entries) w d.world)
    (numbers : Each HasNextNumber [] es) (hear : AllHear es w) (pairs : Pairs es w) (trees : Trees es w) (b : AppEdits w d) where
  says_edit : Says b.app b.before b.after
  says_edit = edit_says b.app b.before b.after b.edit b.done

  kind_edit : IsOneKind b.after.out
  kind_edit = subst IsOneKind (sym (says_edit.out ∙ ap (λ l. l ++ says_edit.doings) (trees b.conn b.app b.e b.before b.is_here.there b.whose b.role).empty)) says_edit.kind

  wrote_edit : d.entries ≡ map (did b.app) b.after.out
  wrote_edit = ap (λ x. x.entries) b.is ∙ ap (λ n. map (did n) b.after.out) (number_at w.ends b.conn b.app b.e b.is_here.there b.whose)

  app_edit : IsApp w b.conn b.app b.e
  app_edit = record { there = b.is_here.there; whose = b.whose; standing = b.is_here.standing }

  over_edit : Over IsAsIs w.ends d.world.ends
  over_edit = subst (Over IsAsIs w.ends) (sym (ap (λ x. x.world.ends) b.is)) (over_with IsAsIs being (has_done b.before b.after) (app_as_is b.before b.after) b.conn w.ends)

  stays_edit : Over Stays w.ends d.world.ends
  stays_edit = over_stays es d.entries w d.world i live readers known carries over_edit

  items_edit : AllByRecursion NoItems d.entries
  items_edit = subst (AllByRecursion NoItems) (sym wrote_edit) (did_items b.app b.after.out)

  none_edit : (r a : ℕ) → ServedOn es r a d.entries → ⊥
  none_edit r a s = did_no_service r a b.app es b.after.out (subst (ServedOn es r a) wrote_edit s)

  heard_edit : (k r : ℕ) (z : End) (h : Hearer) → IsReader d.world k r z h → (a : ℕ) → Each (HeardAt r a) es d.entries
  heard_edit k r z h is a = subst (Each (HeardAt r a) es) (sym wrote_edit) (by (b.app == a) refl)
    where
      x : WasReader es d.entries w k r z
      x = was_reader es d.entries w d.world i live readers carries items_edit stays_edit k r z h is

      mine : Each (HeardAt r b.app) es (map (did b.app) b.after.out)
      mine = steps_heard r b.app es b.after.out kind_edit (served_heard es w i (lived es d.entries live) readers numbers hear pairs b.conn b.app b.e b.before app_edit b.role k r x.e x.h x.was)

      by : (t : Bool) → (b.app == a) ≡ t → Each (HeardAt r a) es (map (did b.app) b.after.out)
      by true g = subst (λ n. Each (HeardAt r n) es (map (did b.app) b.after.out)) (eqb-true b.app a g) mine
      by false g = other_heard r a b.app es b.after.out (λ same. false_true (sym g ∙ eq-eqb b.app a same))

  pub edits_asking : Asking (es ++ d.entries) d.world
  edits_asking =
      asking_now es d.entries w d.world i live readers known carries (λ k r z h is. inr (was_reader es d.entries w d.world i live readers carries items_edit stays_edit k r z h is))
      (λ j a z is. inr (as_it_was es d.entries w d.world i live readers known carries over_edit j a z is)) (λ k r z h is. ready_over es d.entries w d.world i live readers carries items_edit stays_edit k r z h is)
      (λ k r z h is a s. absurd (none_edit r a s)) (λ k r z h name is named j a y app s. absurd (none_edit r a s)) heard_edit

-- A MESSAGE
-- whose call it is
pub record IsServiceOf (before : List Entry) (r a app : ℕ) (from : Party) (n : ℕ) : Type 0 where
  pub mine : app ≡ a
  pub his : from ≡ Reader r
  pub name : List ℕ
  pub call : own_call before r n ≡ Some (GetItems name)

service_of : (before : List Entry) (r a app n : ℕ) (from : Party) → IsService before r a (got (App app) from n) → IsServiceOf before r a app from n
service_of before r a app n (Reader q) s = record { mine = s.0; his = ap Reader s.1; name = s.2; call = s.3 }
service_of before r a app n The_bus s = absurd s
service_of before r a app n Registry s = absurd s
service_of before r a app n (App b) s = absurd s

module _ (es : List Entry) (w : World) (d : Done) (sh : Shape d.world) (i : Asking es w) (live : Lives (es ++ d.entries)) (readers : Readers es w) (known : Known es w) (carries : Carries es (es ++ d.entries) w d.world)
    (numbers : Each HasNextNumber [] es) (hear : AllHear es w) (pairs : Pairs es w) (trees : Trees es w) (b : AppTakes w d) where
  abbrev after : Exporter
  after = app_takes b.before b.letter.said.message

  abbrev n0 : ℕ
  n0 = b.letter.said.message.serial

  abbrev first : Entry
  first = got (App b.app) b.letter.from n0

  says_take : Says b.app b.before after
  says_take = takes_says b.app b.before b.letter.said.message

  kind_take : IsOneKind after.out
  kind_take = subst IsOneKind (sym (says_take.out ∙ ap (λ l. l ++ says_take.doings) (trees b.conn b.app b.e b.before b.is_here.there b.whose b.role).empty)) says_take.kind

  wrote_take : d.entries ≡ first ∷ map (did b.app) after.out
  wrote_take =
      ap (λ x. x.entries) b.is
      ∙ ap (λ n. got b.e.who b.letter.from n0 ∷ map (did n) after.out) (number_at (received w b.conn b.e b.letter).ends b.conn b.app (taken_down b.e) (received_at w b.conn b.e b.letter b.is_here.there) b.whose)
      ∙ ap (λ p. got p b.letter.from n0 ∷ map (did b.app) after.out) b.whose

  app_take : IsApp w b.conn b.app b.e
  app_take = record { there = b.is_here.there; whose = b.whose; standing = b.is_here.standing }

  ends_take : d.world.ends ≡ with_end b.conn (has_done b.before after) (with_end b.conn taken_down w.ends)
  ends_take = ap (λ x. x.world.ends) b.is

  stays_take : Over Stays w.ends d.world.ends
  stays_take =
      subst (Over Stays w.ends) (sym ends_take)
      (over_both Stays staying w.ends (with_end b.conn taken_down w.ends) (with_end b.conn (has_done b.before after) (with_end b.conn taken_down w.ends))
      (over_with Stays staying taken_down (λ e. stays_as e (taken_down e) refl refl refl refl) b.conn w.ends)
      (over_with Stays staying (has_done b.before after) (λ e. no_reader e (has_done b.before after e) refl refl refl refl) b.conn (with_end b.conn taken_down w.ends)))

  items_take : AllByRecursion NoItems d.entries
  items_take = subst (AllByRecursion NoItems) (sym wrote_take) (tt, did_items b.app after.out)

  -- what stands on each link
  was_app : (j a : ℕ) (z : End) → IsApp d.world j a z → WasApp es d.entries w d.world j a z
  was_app j a z is = by (with_cases (has_done b.before after) (with_end b.conn taken_down w.ends) b.conn j z (ap (λ l. end_at l j) (sym ends_take) ∙ is.there))
    where
      by : ((y : End) × (end_at (with_end b.conn taken_down w.ends) j ≡ Some y) × (((j ≡ b.conn) × (z ≡ has_done b.before after y)) ⊎ ((j ≡ b.conn → ⊥) × (z ≡ y)))) → WasApp es d.entries w d.world j a z
      by y = at (with_cases taken_down w.ends b.conn j y.0 y.1) y.2
        where
          at : ((x : End) × (end_at w.ends j ≡ Some x) × (((j ≡ b.conn) × (y.0 ≡ taken_down x)) ⊎ ((j ≡ b.conn → ⊥) × (y.0 ≡ x)))) → (((j ≡ b.conn) × (z ≡ has_done b.before after y.0)) ⊎ ((j ≡ b.conn → ⊥) × (z ≡ y.0)))
              → WasApp es d.entries w d.world j a z
          at x c = one x.2 c
            where
              one : (((j ≡ b.conn) × (y.0 ≡ taken_down x.0)) ⊎ ((j ≡ b.conn → ⊥) × (y.0 ≡ x.0))) → (((j ≡ b.conn) × (z ≡ has_done b.before after y.0)) ⊎ ((j ≡ b.conn → ⊥) × (z ≡ y.0))) → WasApp es d.entries w d.world j a z
              one (inl p) (inl q) =
                  let same : x.0 ≡ b.e = same_some x.0 b.e (sym x.1 ∙ ap (end_at w.ends) p.0 ∙ b.is_here.there) in
                  let link : x.0.down ≡ b.letter ∷ b.rest = ap (λ (t : End). t.down) same ∙ b.link in
                  record {
                    d = x.0;
                    was = record { there = x.1; whose = ap (λ (t : End). t.who) (sym (q.1 ∙ ap (has_done b.before after) p.1)) ∙ is.whose; standing = ap (λ (t : End). t.standing) (sym (q.1 ∙ ap (has_done b.before after) p.1)) ∙ is.standing };
                    gone = b.letter ∷ [];
                    kept = b.rest;
                    more = [];
                    before = link;
                    after = ap (λ (t : End). t.down) (q.1 ∙ ap (has_done b.before after) p.1) ∙ ap rest_of link ∙ sym (append-nil b.rest);
                    puts = tt;
                  }
              one (inr p) (inr q) = record {
                d = x.0;
                was = record { there = x.1; whose = ap (λ (t : End). t.who) (sym (q.1 ∙ p.1)) ∙ is.whose; standing = ap (λ (t : End). t.standing) (sym (q.1 ∙ p.1)) ∙ is.standing };
                gone = [];
                kept = x.0.down;
                more = [];
                before = refl;
                after = ap (λ (t : End). t.down) (q.1 ∙ p.1) ∙ sym (append-nil x.0.down);
                puts = tt;
              }
              one (inl p) (inr q) = absurd (q.0 p.0)
              one (inr p) (inl q) = absurd (p.0 q.0)

  -- the call that it takes
  serves_now : (r a : ℕ) → ServedOn es r a d.entries → IsServiceOf es r a b.app b.letter.from n0
  serves_now r a s = by (subst (ServedOn es r a) wrote_take s)
    where
      by : ServedOn es r a (first ∷ map (did b.app) after.out) → IsServiceOf es r a b.app b.letter.from n0
      by (inl t) = service_of es r a b.app n0 b.letter.from t
      by (inr t) = absurd (did_no_service r a b.app (es ++ first ∷ []) after.out t)

  its_call : (r a : ℕ) → IsServiceOf es r a b.app b.letter.from n0 → IsItsCall es r b.letter
  its_call r a t = record { from = t.his; name = t.name; call = t.call }

  -- so nothing of its reader's pairs stands behind
  module _ (k r : ℕ) (z : End) (h : Hearer) (reader : IsReader w k r z h) where
    own_of : (c : Calls es r) → List ℕ
    own_of c = (ready_of es w i (lived es d.entries live) readers numbers hear pairs b.conn b.app b.e b.before app_take b.role k r z h reader c).1.own

    minds_taken : (name : List ℕ) → z.unique ≡ Some name → Minds es r name b.app (b.letter ∷ b.rest)
    minds_taken name named = subst (Minds es r name b.app) b.link (i.minds k r z h name reader named b.conn b.app b.e app_take)

    embeds_taken : (a : ℕ) → IsServiceOf es r a b.app b.letter.from n0 → Embeds es a × ((name : List ℕ) → z.unique ≡ Some name → Clear es name b.rest)
    embeds_taken a t =
        let ready : IsReadyFor es z h t.name = ready_at es w k r z h i readers reader n0 t.name t.call in
        (subst (Embeds es) t.mine ((minds_taken ready.own ready.known).waits.0 (its_call r a t)).0, λ name named. ((minds_taken name named).waits.0 (its_call r a t)).1)

    clear_taken : (name : List ℕ) → b.letter.from ≡ Reader r → Clear es name b.rest → Clear es name (b.letter ∷ b.rest)
    clear_taken name from c = all_map (IsCleared es name b.rest) (IsCleared es name (b.letter ∷ b.rest)) patterns (λ p x. record { entered = x.entered; behind = λ l o at. by x.entered.at l at (x.behind l) o }) c
      where
        never : (l : Letter) → b.letter ≡ l → l.from ≡ Registry → ⊥
        never l same at = false_true (ap (λ q. same_party q (Reader r)) (sym at ∙ ap (λ (t : Letter). t.from) (sym same) ∙ from) ∙ party-same (Reader r))

        by : (n : ℕ) (l : Letter) → l.from ≡ Registry → (On l b.rest → l.from ≡ Registry → n < l.said.message.serial) → (b.letter ≡ l) ⊎ On l b.rest → n < l.said.message.serial
        by n l at f (inl same) = absurd (never l same at)
        by n l at f (inr o) = f o at

    heard_taken : Served (es ++ first ∷ []) r b.app → AreHeardOf (heard_pairs (es ++ first ∷ []) b.app)
    heard_taken s = subst AreHeardOf (sym (heard_more b.app es (first ∷ []))) (by (served_split [] es (first ∷ []) r b.app s))
      where
        now : IsServiceOf es r b.app b.app b.letter.from n0 → AreHeardOf (heard_pairs es b.app)
        now t =
            let ready : IsReadyFor es z h t.name = ready_at es w k r z h i readers reader n0 t.name t.call in
            let y = embeds_taken b.app t in
            clear_heard es w i (lived es d.entries live) readers numbers hear pairs b.conn b.app b.e b.before app_take b.role ready.own y.0 (subst (Clear es ready.own) (sym b.link) (clear_taken ready.own t.his (y.1 ready.own ready.known)))

        by : ServedOn [] r b.app es ⊎ ServedOn es r b.app (first ∷ []) → AreHeardOf (heard_pairs es b.app)
        by (inl t) = served_heard es w i (lived es d.entries live) readers numbers hear pairs b.conn b.app b.e b.before app_take b.role k r z h reader t
        by (inr (inl t)) = now (service_of es r b.app b.app n0 b.letter.from t)
        by (inr (inr t)) = absurd t

  module _ (k r : ℕ) (z : End) (h : Hearer) (is : IsReader d.world k r z h) where
    old_reader : WasReader es d.entries w k r z
    old_reader = was_reader es d.entries w d.world i live readers carries items_take stays_take k r z h is

    abbrev x : WasReader es d.entries w k r z
    x = old_reader

    embeds_now : (a : ℕ) → ServedOn es r a d.entries → Embeds (es ++ d.entries) a
    embeds_now a s = embeds_more es d.entries a (embeds_taken k r x.e x.h x.was a (serves_now r a s)).0

    clear_now : (name : List ℕ) → z.unique ≡ Some name → (j a : ℕ) (y : End) → IsApp d.world j a y → ServedOn es r a d.entries → Clear (es ++ d.entries) name y.down
    clear_now name named j a y app s =
        subst (Clear (es ++ d.entries) name) (sym down)
        (clear_more es d.entries d.world name on b.rest [] tt ((embeds_taken k r x.e x.h x.was a t).1 name was_named))
      where
        t : IsServiceOf es r a b.app b.letter.from n0
        t = serves_now r a s

        ready : IsReadyFor es x.e x.h t.name
        ready = ready_at es w k r x.e x.h i readers x.was n0 t.name t.call

        was_named : x.e.unique ≡ Some name
        was_named = ready.known ∙ ap Some (same_some ready.own name (sym (x.keeps ready.own ready.known) ∙ named))

        on : CarriesOn es d.entries name
        on p entered = carries live k r x.e z name p x.was.there is.there x.was.whose was_named is.standing entered

        mine : End
        mine = has_done b.before after (taken_down b.e)

        there : end_at d.world.ends b.conn ≡ Some mine
        there = ap (λ l. end_at l b.conn) ends_take ∙ at_changed (has_done b.before after) (with_end b.conn taken_down w.ends) b.conn (taken_down b.e) (received_at w b.conn b.e b.letter b.is_here.there)

        at : j ≡ b.conn
        at = sh.one j b.conn y mine app.there there (app.whose ∙ ap App (sym t.mine) ∙ sym b.whose)

        same : mine ≡ y
        same = same_some mine y (sym there ∙ ap (end_at d.world.ends) (sym at) ∙ app.there)

        down : y.down ≡ b.rest ++ []
        down = ap (λ (q : End). q.down) (sym same) ∙ ap rest_of b.link ∙ sym (append-nil b.rest)

    heard_now : (a : ℕ) → Each (HeardAt r a) es d.entries
    heard_now a = subst (Each (HeardAt r a) es) (sym wrote_take) (tt, by (b.app == a) refl)
      where
        mine : Each (HeardAt r b.app) (es ++ first ∷ []) (map (did b.app) after.out)
        mine = steps_heard r b.app (es ++ first ∷ []) after.out kind_take (heard_taken k r x.e x.h x.was)

        by : (t : Bool) → (b.app == a) ≡ t → Each (HeardAt r a) (es ++ first ∷ []) (map (did b.app) after.out)
        by true g = subst (λ n. Each (HeardAt r n) (es ++ first ∷ []) (map (did b.app) after.out)) (eqb-true b.app a g) mine
        by false g = other_heard r a b.app (es ++ first ∷ []) after.out (λ same. false_true (sym g ∙ eq-eqb b.app a same))

  pub takes_asking : Asking (es ++ d.entries) d.world
  takes_asking =
      asking_now es d.entries w d.world i live readers known carries (λ k r z h is. inr (old_reader k r z h is)) (λ j a z is. inr (was_app j a z is))
      (λ k r z h is. ready_over es d.entries w d.world i live readers carries items_take stays_take k r z h is) embeds_now (λ k r z h name is named j a y app s. clear_now k r z h is name named j a y app s) heard_now
