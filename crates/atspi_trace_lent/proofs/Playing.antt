-- The serials that readers noted, along all that is played.
use Rattle.std.proofs.Common.{◌≡◌, ◌⊎◌, inl, inr, ℕ, zero, suc, Bool, true, false, List, [], ◌∷◌, ◌++◌, Option, None, Some, refl, sym, ap, ◌∙◌, subst}
use Rattle.std.specs.Prelude.{◌==◌, slice_get, slice_set}
use Rattle.std.specs.List.{AllByRecursion, fold}
use Rattle.std.proofs.lemmas.Bool.{eq-eqb, eqb-true}
use Rattle.std.proofs.lemmas.List.{append-nil, append_assoc}
use Rattle.atspi_script_lines.specs.declared.deed.Deed.{Deed}
use Rattle.atspi_script_lines.specs.declared.line.Line.{Line}
use Rattle.atspi_script_lines.specs.declared.line.Party.{Party}
use Rattle.atspi_script_lines.specs.declared.line.Party.TheVariants.{Bus as The_bus, Registry, App, Reader}
use Rattle.atspi_protocol.specs.following.ReaderState.{Followed, ReaderState, begins as begins_reader}
use Rattle.atspi_protocol.specs.following.Takes.{found_in, starts, reader_takes, reader_calls}
use Rattle.atspi_trace.specs.Entry.{Entry, showed, got}
use Rattle.atspi_trace.specs.World.{a_reader, Hearer, Letter, End, World}
use Rattle.atspi_trace.specs.Ends.{whose, party_at, end_at, end_of, number_of}
use Rattle.atspi_trace.specs.Causes as causes
use Rattle.atspi_trace.specs.Causes.{Cause, renews, starts_app, starts_reader, edits, calls, swaps_face, exits, shows, tells_busy, tells_quiet, routes, unjoins, gets, on_end, called, does}
use Rattle.atspi_trace.specs.Work.{Work, work_of, cause, next_of}
use Rattle.atspi_trace.specs.Due.{is_lost}
use Rattle.atspi_trace.specs.play.Playing.{Playing, Happened, silent, unique_in, view_in, view_rows}
use Rattle.atspi_trace.specs.play.Plays.{asked, only, with_reader, reader_did, reader_got, got_at, got_by, plays}
use Rattle.atspi_trace.specs.play.Played.{PlaysOut, at_rest, caused, IsPlayed, begun, did}
use Rattle.atspi_trace_laws.specs.laws.Words.{name_in}
use Rattle.atspi_trace_laws.specs.order.Scripts.{CanAllStand}
use Rattle.atspi_trace_laws.proofs.OfOrder.Allowed.{IsHere, NextFine}
use Rattle.atspi_trace_laws.proofs.OfOrder.Each.{all_map}
use Rattle.atspi_trace_laws.proofs.OfOrder.Next.{next_fine}
use Rattle.atspi_trace_laws.proofs.OfOrder.Parties.{no_none, same_some, false_true}
use Rattle.atspi_trace_laws.proofs.OfHeld.Keeping.{ReaderIs}
use Rattle.atspi_trace_caches.specs.caches.Caches.{followed}
use Rattle.atspi_trace_played.proofs.AllPieces.{pieces}
use Rattle.atspi_trace_played.proofs.Facts.{Ground, IsOfApp, SeesWell, Tied}
use Rattle.atspi_trace_played.proofs.Pieces.{IsTaking, Skips, world_behind, entries_behind}
use Rattle.atspi_trace_played.proofs.Playing.{stage_at, line_stage}
use Rattle.atspi_trace_played.proofs.BuildingFading.{Fades, fading, as_it_stands, here_before}
use Rattle.atspi_trace_played.proofs.BuildingStanding.{out_over}
use Rattle.atspi_trace_played.proofs.PlayingEnds.{NoReader, Apart, apart}
use Rattle.atspi_trace_played.proofs.PlayingLists.{apart_skips, set_here, set_other}
use Rattle.atspi_trace_played.proofs.PlayingLives.{here_all_along}
use Rattle.atspi_trace_played.proofs.PlayingStage.{Stage, ground, ground_behind, shape, allowed}
use Rattle.atspi_trace_played.proofs.PlayingSteps.{other_party}
use Rattle.atspi_trace_played.proofs.ReplyingRoots.{roots_are_told}
use Rattle.atspi_trace_played.proofs.ReplyingStep as letter_step
use Rattle.atspi_trace_played.proofs.SeeingApps.{found_is}
use Rattle.atspi_trace_played.proofs.SeeingChildren.{took, Taking}
use Rattle.atspi_trace_played.proofs.SeeingGround.{its, is_name, one_party, same_number}
use Rattle.atspi_trace_played.proofs.SeeingMore.{followed_skips}
use Rattle.atspi_trace_played.proofs.SeeingPieces.{entries_same, hears_same, speaks_due}
use Rattle.atspi_trace_played.proofs.SeeingStep.{name_stays}
use Rattle.atspi_trace_lent.proofs.Late.{Late, Found}
use Rattle.atspi_trace_lent.proofs.Lasts.{LastsWell, lasts_after, told_all}
use Rattle.atspi_trace_lent.proofs.Readers.{sees_of}

-- OF EACH READER, by its number
abbrev pub AllLast : List Entry → Playing → Type 0
AllLast es p = (r : ℕ) (s : ReaderState) → slice_get p.readers r ≡ Some s → LastsWell es r s

-- LISTS OF READERS
got_split : {X : Type 0} (xs : List X) (n : X) (k : ℕ) (x : X) → slice_get (xs ++ n ∷ []) k ≡ Some x → (slice_get xs k ≡ Some x) ⊎ (n ≡ x)
got_split [] n zero x h = inr (same_some n x h)
got_split [] n (suc k) x h = absurd (no_none x h)
got_split (z ∷ zs) n zero x h = inl h
got_split (z ∷ zs) n (suc k) x h = got_split zs n k x h

-- what is shown by a reader, and what becomes of the one with a number
abbrev shows_so : Playing → ℕ → ℕ → Party → Happened
shows_so p conn app (Reader reader) = record { now = p; entries = showed reader app (view_rows (view_in p reader (unique_in (end_of p.world.ends (App app))))) ∷ [] }
shows_so p conn app who = only p (does p.world (shows conn app))

abbrev becomes : List ReaderState → ℕ → (ReaderState → ReaderState) → Option ReaderState → List ReaderState
becomes readers r change None = readers
becomes readers r change (Some s) = slice_set readers r (change s)

-- one of a list of which one is changed
pub record WasThere (readers : List ReaderState) (change : ReaderState → ReaderState) (r : ℕ) (now : ReaderState) : Type 0 where
  pub before : ReaderState
  pub there : slice_get readers r ≡ Some before
  pub same : (now ≡ before) ⊎ (now ≡ change before)

got_set : (readers : List ReaderState) (change : ReaderState → ReaderState) (k r : ℕ) (old now : ReaderState) → slice_get readers k ≡ Some old → slice_get (slice_set readers k (change old)) r ≡ Some now → WasThere readers change r now
got_set [] change k r old now at h = absurd (no_none old at)
got_set (z ∷ zs) change zero zero old now at h = record { before = z; there = refl; same = inr (sym (same_some (change old) now h) ∙ ap change (sym (same_some z old at))) }
got_set (z ∷ zs) change zero (suc r) old now at h = record { before = now; there = h; same = inl refl }
got_set (z ∷ zs) change (suc k) zero old now at h = record { before = now; there = h; same = inl refl }
got_set (z ∷ zs) change (suc k) (suc r) old now at h = let x = got_set zs change k r old now at h in record { before = x.before; there = x.there; same = x.same }

got_with : (readers : List ReaderState) (change : ReaderState → ReaderState) (k r : ℕ) (now : ReaderState) → slice_get (with_reader k change readers) r ≡ Some now → WasThere readers change r now
got_with readers change k r now h = by (slice_get readers k) refl
  where
    by : (o : Option ReaderState) → slice_get readers k ≡ o → WasThere readers change r now
    by None e = record { before = now; there = sym (ap (λ o. slice_get (becomes readers k change o) r) e) ∙ h; same = inl refl }
    by (Some old) e = got_set readers change k r old now e (sym (ap (λ o. slice_get (becomes readers k change o) r) e) ∙ h)

-- OVER WHAT OTHERS DO
lasts_more : (script : List Line) (es ys : List Entry) (w v : World) (free then_free : Option ℕ) (r : ℕ) (s : ReaderState) → Ground script es w free → Ground script (es ++ ys) v then_free → AllByRecursion (Skips r) ys → SeesWell es r s
    → LastsWell es r s → LastsWell (es ++ ys) r s
lasts_more script es ys w v free then_free r s g later skips sees lasts x a named =
    subst (λ (f : Followed). Found (Late f.last) x s.apps) (sym (followed_skips x es ys r a skips)) (by (name_in es (App a)) refl)
  where
    by : (o : Option (List ℕ)) → name_in es (App a) ≡ o → Found (Late (followed x es r a).last) x s.apps
    by (Some y) e g_ at = lasts x a (e ∙ sym (name_stays es ys (App a) y e) ∙ named) g_ at
    by None e g_ at =
        let one = found_is (IsOfApp es) x s.apps g_ at sees.apps in
        let then_ : name_in (es ++ ys) (App one.0.app) ≡ Some x = name_stays es ys (App one.0.app) x (one.0.its_name ∙ ap Some one.1) in
        let same : one.0.app ≡ a = same_number one.0.app a
        (one_party script (es ++ ys) v then_free later (App one.0.app) (App a) x (is_name script (es ++ ys) v then_free later (App one.0.app) x then_) (is_name script (es ++ ys) v then_free later (App a) x named)) in
        absurd (no_none g_.name (sym e ∙ ap (λ z. name_in es (App z)) (sym same) ∙ one.0.its_name))

none_yet : (es : List Entry) (r : ℕ) (s : ReaderState) → s.apps ≡ [] → LastsWell es r s
none_yet es r s none x a named g at = absurd (no_none g (ap (found_in x) (sym none) ∙ at))

same_apps : (es : List Entry) (r : ℕ) (s t : ReaderState) → t.apps ≡ s.apps → LastsWell es r s → LastsWell es r t
same_apps es r s t same lasts x a named = subst (Found (Late (followed x es r a).last) x) (sym same) (lasts x a named)

module _ (script : List Line) (more : List Line) where
  module _ (es : List Entry) (p : Playing) (work rest : Work) (st : Stage script es p work more) (all : AllLast es p) where
    -- where a reader takes no part
    still : (ys : List Entry) (q : Playing) (left : Work) → Stage script (es ++ ys) q left more → (r : ℕ) (s : ReaderState) → slice_get p.readers r ≡ Some s → AllByRecursion (Skips r) ys → LastsWell (es ++ ys) r s
    still ys q left after r s at skips =
        lasts_more script es ys p.world q.world None None r s (ground script es p work more st) (ground script (es ++ ys) q left more after) skips (sees_of script es p work more st r s at) (all r s at)

    abbrev Behind : Happened → Type 0
    Behind x = Stage script (es ++ x.entries) x.now rest more → AllLast (es ++ x.entries) x.now

    -- A CAUSE THAT IS NO READER'S
    by_others : (c : Cause) → next_of p.world work ≡ cause c p.world rest → Apart p.world (does p.world c) → Behind (only p (does p.world c))
    by_others c is a after r s at = still (does p.world c).entries (record p { world = (does p.world c).world }) rest after r s at (all_map NoReader (Skips r) (does p.world c).entries (apart_skips r) a.entries)

    -- A READER TAKES A LETTER
    module _ (conn r : ℕ) (e : End) (h : Hearer) (letter : Letter) (link : List Letter) (s : ReaderState) (is : next_of p.world work ≡ cause (gets conn) p.world rest) (x : IsTaking p.world conn r e h letter link)
        (at : slice_get p.readers r ≡ Some s) (tie : Tied es p.world r h s) where
      abbrev t : ReaderState
      t = reader_takes s letter.said.message

      abbrev wrote : List Entry
      wrote = (reader_did p conn r letter t).entries

      g : Ground script es p.world None
      g = ground script es p work more st

      y : letter_step.Gets p.world conn r e h letter link
      y = record { there = x.is_here.there; whose = x.whose; standing = x.is_here.standing; role = x.role; link = x.link }

      taking : Ground script (es ++ entries_behind p.world conn) (world_behind p.world conn) (Some conn) → Taking script es p.world r h letter s
      taking later =
          let same : entries_behind p.world conn ≡ took r h p.world.ends letter =
          letter_step.wrote script es p.world g conn r e h letter link y ∙ ap (λ l. got (Reader r) letter.from letter.said.message.serial ∷ l) (entries_same r conn h p.world.ends letter) in
          record {
            ground = g;
            conn = conn;
            e = e;
            rest = link;
            there = x.is_here.there;
            whose = x.whose;
            standing = x.is_here.standing;
            role = x.role;
            link = x.link;
            after = world_behind p.world conn;
            free = Some conn;
            behind = subst (λ l. Ground script (es ++ l) (world_behind p.world conn) (Some conn)) same later;
            place = conn;
            end = letter_step.its_end script es p.world g conn r e h letter link y;
            stands = letter_step.end_after script es p.world g conn r e h letter link y;
            hears = ap a_reader (hears_same r conn h p.world.ends letter);
            asks = tie.asks;
            sees = tie.sees;
            replies = (pieces.replies_step script es p.world conn r e h letter link s.to_come g st.tied.of_nodes x tie.asks.order).0;
            roots = roots_are_told script es p.world None g;
          }

      takes : Behind (reader_did p conn r letter t)
      takes after k z there = by (k == r) refl
        where
          lives : is_lost (world_behind p.world conn) ≡ false
          lives = here_before (world_behind p.world conn) (fold (asked conn) (world_behind p.world conn) t.out) (out_over Fades fading as_it_stands conn (world_behind p.world conn) t.out) after.here

          later : Ground script (es ++ entries_behind p.world conn) (world_behind p.world conn) (Some conn)
          later = ground_behind pieces script es p work rest more (gets conn) st is lives

          readers : ReaderIs es r h
          readers = (its script es p.world None g).readers conn r e h x.is_here.there x.whose x.role

          its_own : LastsWell (es ++ wrote) r t
          its_own = lasts_after script es p.world r h letter s (taking later) readers (speaks_due script es p.world r h letter s (taking later) readers) (all r s at)

          by : (b : Bool) → (k == r) ≡ b → LastsWell (es ++ wrote) k z
          by true same =
              let one : k ≡ r = eqb-true k r same in
              let is_it : silent t ≡ z = same_some (silent t) z (sym (set_here p.readers r s (silent t) at) ∙ ap (slice_get (slice_set p.readers r (silent t))) (sym one) ∙ there) in
              subst (λ j. LastsWell (es ++ wrote) j z) (sym one) (same_apps (es ++ wrote) r t z (ap (λ (o : ReaderState). o.apps) (sym is_it)) its_own)
          by false differ =
              let apart_ : k ≡ r → ⊥ = λ one. false_true (sym differ ∙ eq-eqb k r one) in
              still wrote (reader_did p conn r letter t).now rest after k z (sym (set_other p.readers r k (silent t) apart_) ∙ there)
              (other_party k r apart_, told_all (Skips k) r p.world.ends (λ m. tt) (λ app line. tt) (λ app same. apart_ (sym same)) t.out)

    -- AN END TAKES A MESSAGE
    module _ (conn : ℕ) (is : next_of p.world work ≡ cause (gets conn) p.world rest) where
      of_others : (e : End) → end_at p.world.ends conn ≡ Some e → ((r : ℕ) → e.who ≡ Reader r → ⊥) → Behind (only p (does p.world (gets conn)))
      of_others e there never =
          by_others (gets conn) is
          (apart p.world (gets conn) (shape pieces script es p work rest more (gets conn) st is) (allowed pieces script es p work rest more (gets conn) st is) (λ r h. never r (sym (ap whose there) ∙ h)))

      of_party : (e : End) (letter : Letter) (link : List Letter) → IsHere p.world.ends conn e → e.down ≡ letter ∷ link → (who : Party) → e.who ≡ who → Behind (got_at p conn who (letter ∷ link))
      of_party e letter link h down (Reader r) who =
          let o = st.tied.tied conn r e h.there who in
          subst (λ x. Behind (reader_got p conn r letter x)) (sym o.2.1)
          (takes conn r e o.0 letter link o.2.0 is (record { is_here = h; whose = who; role = o.1; link = down }) o.2.1 o.2.2)
      of_party e letter link h down The_bus who = of_others e h.there (λ r g. bus_no r (sym who ∙ g))
        where
          bus_no : (r : ℕ) → The_bus ≡ Reader r → ⊥
          bus_no r g = cc
      of_party e letter link h down Registry who = of_others e h.there (λ r g. registry_no r (sym who ∙ g))
        where
          registry_no : (r : ℕ) → Registry ≡ Reader r → ⊥
          registry_no r g = cc
      of_party e letter link h down (App a) who = of_others e h.there (λ r g. app_no r (sym who ∙ g))
        where
          app_no : (r : ℕ) → App a ≡ Reader r → ⊥
          app_no r g = cc

      gets_lasts : Behind (plays p (gets conn))
      gets_lasts =
          let a = allowed pieces script es p work rest more (gets conn) st is in
          subst Behind (sym (ap (got_by p conn) a.3.there ∙ ap (got_at p conn a.0.who) a.4)) (of_party a.0 a.1 a.2 a.3 a.4 a.0.who refl)

    -- A READER'S OTHER CAUSES
    starts_lasts : next_of p.world work ≡ cause starts_reader p.world rest → Behind (plays p starts_reader)
    starts_lasts is after r s at = by (got_split p.readers (silent (starts begins_reader)) r s at)
      where
        ys : List Entry
        ys = (does p.world starts_reader).entries

        by : (slice_get p.readers r ≡ Some s) ⊎ (silent (starts begins_reader) ≡ s) → LastsWell (es ++ ys) r s
        by (inl old) = still ys (plays p starts_reader).now rest after r s old (tt, (tt, tt))
        by (inr new) = none_yet (es ++ ys) r s (ap (λ (o : ReaderState). o.apps) (sym new))

    shows_lasts : (conn app : ℕ) → next_of p.world work ≡ cause (shows conn app) p.world rest → Behind (plays p (shows conn app))
    shows_lasts conn app is =
        let a = allowed pieces script es p work rest more (shows conn app) st is in
        let party : party_at p.world.ends conn ≡ Reader a.1 = ap whose a.2 ∙ a.3 in
        subst Behind (sym (ap (shows_so p conn app) party)) (λ after r s at. still _ p rest after r s at (tt, tt))

    calls_lasts : (conn : ℕ) (name : List ℕ) (node : ℕ) (deed : Deed) → next_of p.world work ≡ cause (calls conn name node deed) p.world rest → Behind (plays p (calls conn name node deed))
    calls_lasts conn name node deed is after r s at =
        let a = allowed pieces script es p work rest more (calls conn name node deed) st is in
        let o = st.tied.tied conn a.1 a.0 a.2.there a.3 in
        let done : does p.world (calls conn name node deed) ≡ called p.world conn name node deed (a_reader o.0) =
        ap (λ x. on_end p.world x (λ e. called p.world conn name node deed e.role)) a.2.there ∙ ap (called p.world conn name node deed) o.1 in
        let skips : AllByRecursion (Skips r) (does p.world (calls conn name node deed)).entries = subst (λ (d : causes.Done). AllByRecursion (Skips r) d.entries) (sym done) (tt, tt) in
        let x = got_with p.readers (λ z. silent (reader_calls z name node deed)) (number_of (party_at p.world.ends conn)) r s at in
        by x.same (still (does p.world (calls conn name node deed)).entries (plays p (calls conn name node deed)).now rest after r x.before x.there skips)
      where
        by : {before : ReaderState} → (s ≡ before) ⊎ (s ≡ silent (reader_calls before name node deed)) → LastsWell (es ++ (does p.world (calls conn name node deed)).entries) r before
            → LastsWell (es ++ (does p.world (calls conn name node deed)).entries) r s
        by {before} (inl same) lasts = same_apps (es ++ (does p.world (calls conn name node deed)).entries) r before s (ap (λ (o : ReaderState). o.apps) same) lasts
        by {before} (inr same) lasts = same_apps (es ++ (does p.world (calls conn name node deed)).entries) r before s (ap (λ (o : ReaderState). o.apps) same) lasts

    -- EACH CAUSE
    cause_lasts : (c : Cause) → next_of p.world work ≡ cause c p.world rest → Behind (plays p c)
    cause_lasts (renews quota) is = λ after r s at. absurd (no_none s at)
    cause_lasts starts_reader is = starts_lasts is
    cause_lasts (calls conn name node deed) is = calls_lasts conn name node deed is
    cause_lasts (shows conn app) is = shows_lasts conn app is
    cause_lasts (gets conn) is = gets_lasts conn is
    cause_lasts (starts_app name) is = by_others (starts_app name) is
        (apart p.world (starts_app name) (shape pieces script es p work rest more (starts_app name) st is) (allowed pieces script es p work rest more (starts_app name) st is) tt)
    cause_lasts (edits conn edit) is = by_others (edits conn edit) is
        (apart p.world (edits conn edit) (shape pieces script es p work rest more (edits conn edit) st is) (allowed pieces script es p work rest more (edits conn edit) st is) tt)
    cause_lasts swaps_face is = by_others swaps_face is (apart p.world swaps_face (shape pieces script es p work rest more swaps_face st is) (allowed pieces script es p work rest more swaps_face st is) tt)
    cause_lasts (exits conn) is = by_others (exits conn) is (apart p.world (exits conn) (shape pieces script es p work rest more (exits conn) st is) (allowed pieces script es p work rest more (exits conn) st is) tt)
    cause_lasts (tells_busy turns) is = by_others (tells_busy turns) is
        (apart p.world (tells_busy turns) (shape pieces script es p work rest more (tells_busy turns) st is) (allowed pieces script es p work rest more (tells_busy turns) st is) tt)
    cause_lasts tells_quiet is = by_others tells_quiet is (apart p.world tells_quiet (shape pieces script es p work rest more tells_quiet st is) (allowed pieces script es p work rest more tells_quiet st is) tt)
    cause_lasts (routes conn) is = by_others (routes conn) is (apart p.world (routes conn) (shape pieces script es p work rest more (routes conn) st is) (allowed pieces script es p work rest more (routes conn) st is) tt)
    cause_lasts (unjoins conn) is = by_others (unjoins conn) is
        (apart p.world (unjoins conn) (shape pieces script es p work rest more (unjoins conn) st is) (allowed pieces script es p work rest more (unjoins conn) st is) tt)

  -- WHAT IS LEFT OF A LINE
  lasts_on : (es : List Entry) (p : Playing) (left : Work) (entries : List Entry) (q : Playing) → PlaysOut p left entries q → Stage script es p left more → is_lost q.world ≡ false → AllLast es p → AllLast (es ++ entries) q
  lasts_on es _ _ _ _ (at_rest p v left is) st last all = subst (λ l. AllLast l (record p { world = v })) (sym (append-nil es)) all
  lasts_on es _ _ _ _ (caused p q v left rest c entries is h) st last all =
      let fine : NextFine p.world (cause c v rest) = subst (NextFine p.world) is (next_fine p.world left st.midway.fine) in
      let now : is_lost (plays (record p { world = v }) c).now.world ≡ false = here_all_along (plays (record p { world = v }) c).now rest entries q h fine.2 last in
      let stage : Stage script (es ++ (plays (record p { world = v }) c).entries) (plays (record p { world = v }) c).now rest more = stage_at pieces script more es p v left rest c fine.0 st is now in
      let first : AllLast (es ++ (plays (record p { world = v }) c).entries) (plays (record p { world = v }) c).now =
      subst (λ x. Stage script (es ++ (plays (record p { world = x }) c).entries) (plays (record p { world = x }) c).now rest more → AllLast (es ++ (plays (record p { world = x }) c).entries) (plays (record p { world = x }) c).now) (sym fine.0)
      (cause_lasts es p left rest st all c (is ∙ ap (λ x. cause c x rest) fine.0)) stage in
      subst (λ l. AllLast l q) (append_assoc es (plays (record p { world = v }) c).entries entries)
      (lasts_on (es ++ (plays (record p { world = v }) c).entries) (plays (record p { world = v }) c).now rest entries q h stage last first)

-- ALL LINES
pub played_lasts : (lines : List Line) (es : List Entry) (p : Playing) → IsPlayed lines es p → (more : List Line) → CanAllStand (lines ++ more) → AllLast es p
played_lasts _ _ _ begun more can = λ r s at. absurd (no_none s at)
played_lasts _ _ _ (did lines line es entries p q h ok out here) more can =
    let same : (lines ++ line ∷ []) ++ more ≡ lines ++ line ∷ more = append_assoc lines (line ∷ []) more in
    let fits : CanAllStand (lines ++ line ∷ more) = subst CanAllStand same can in
    lasts_on (lines ++ line ∷ more) more es p (work_of p.world line) entries q out (line_stage pieces lines es p h line more ok fits) here (played_lasts lines es p h (line ∷ more) fits)
