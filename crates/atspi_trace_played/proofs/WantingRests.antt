-- Where nothing waits, each reader asked for all: so each holds each application as it is now, with every part known.
use Rattle.std.proofs.Common.{◌≡◌, inl, inr, ℕ, Bool, true, false, List, [], ◌∷◌, ◌++◌, map, Option, None, Some, refl, sym, ap, ap₂, ◌∙◌, subst}
use Rattle.std.specs.Prelude.{◌&&◌, ◌||◌, not, bytes_eq, filter, flat_map, if◌then◌else◌}
use Rattle.std.specs.List.{AllByRecursion, list_all}
use Rattle.std.proofs.lemmas.Bool.{and_from}
use Rattle.std.proofs.lemmas.List.{append-nil}
use Rattle.std.proofs.lemmas.Slice.Eq.{bytes_eq-Decides}
use Rattle.atspi_base.specs.valid_names.Names.{is_bus_name, is_unique_name}
use Rattle.atspi_tree_model.specs.declared.view.Row.{Row}
use Rattle.atspi_tree_model.specs.Forest.{Forest, labels}
use Rattle.atspi_tree_model.specs.View.{view}
use Rattle.atspi_script_lines.specs.declared.line.Line.{Line}
use Rattle.atspi_script_lines.specs.declared.line.Party.TheVariants.{App}
use Rattle.atspi_protocol.specs.declared.news.part.PartName.{PartName}
use Rattle.atspi_protocol.specs.declared.news.part.PartName.TheVariants.{Text, Caret, Columns}
use Rattle.atspi_protocol.specs.declared.following.question.Question.TheVariants.{GetItems, GetPart}
use Rattle.atspi_protocol.specs.following.Known.{is_connection}
use Rattle.atspi_protocol.specs.following.ReaderState.{Followed, Pending, ReaderState, is_named}
use Rattle.atspi_protocol.specs.following.Takes.{found_in}
use Rattle.atspi_protocol.specs.following.Wishes.{same_part, is_refused, unknown_parts, row_wishes, wishes_of, wishes}
use Rattle.atspi_trace.specs.Entry.{Entry}
use Rattle.atspi_trace.specs.World.{waits, Asked, Holding, Hearer, End, World}
use Rattle.atspi_trace.specs.Ends.{end_at}
use Rattle.atspi_trace.specs.Hearing.{is_answered, holding_of}
use Rattle.atspi_trace.specs.Causes.{told_in}
use Rattle.atspi_trace.specs.Due.{IsSettled}
use Rattle.atspi_trace_laws.specs.laws.Words.{name_in, as_of, Kept, held}
use Rattle.atspi_trace_caches.specs.caches.Caches.{followed}
use Rattle.atspi_trace_caches.specs.caches.Laws.{CacheIs}
use Rattle.atspi_trace_caches.specs.settled.Laws.{NothingWaits, IsAsked, question_of, BeginsWell, IsPartAsked, ArePartsAsked, IsNameHere, HasAskedAll, AllAsk}
use Rattle.atspi_trace_laws.proofs.OfOrder.Parties.{no_none, same_some, false_true}
use Rattle.atspi_trace_laws.proofs.OfOrder.Each.{all_map}
use Rattle.atspi_trace_laws.proofs.OfHeld.Keeping.{SameKept}
use Rattle.atspi_trace_caches.proofs.OfCaches.LawCaches.{caches_follow}
use Rattle.atspi_trace_laws.proofs.OfMissed.Registering.{name_is_bus_name}
use Rattle.atspi_trace_laws.proofs.OfSigned.Mail.{NameIs}
use Rattle.atspi_trace_laws.proofs.OfSigned.Self.{unique_told}
use Rattle.atspi_trace_caches.proofs.OfServed.LawServed.{steps_asked}
use Rattle.atspi_trace_caches.proofs.OfSettled.Settling_serials.{same_hearer}
use Rattle.atspi_trace_caches.proofs.OfSettled.Settling_ground.{unique_is}
use Rattle.atspi_trace_caches.proofs.OfSettled.Settling_rests.{rests_at}
use Rattle.atspi_trace.specs.play.Playing.{Playing}
use Rattle.atspi_trace_played.proofs.Facts.{Ground, Waits, IsSeen, IsKnownOrGone, WantsOf, Tied, AllTied}
use Rattle.atspi_trace_played.proofs.SeeingApps.{found_is}
use Rattle.atspi_trace_played.proofs.WantingGround.{shape, known, name_is}

-- NOTHING IN A LIST
pub no_cons : {X : Type 0} (x : X) (xs : List X) → x ∷ xs ≡ [] → ⊥
no_cons x xs h = false_true (sym (ap is_there h))
  where
    is_there : {X : Type 0} → List X → Bool
    is_there [] = false
    is_there (y ∷ ys) = true

pub none_both : {X : Type 0} (xs ys : List X) → xs ++ ys ≡ [] → (xs ≡ []) × (ys ≡ [])
none_both [] ys h = (refl, h)
none_both (x ∷ xs) ys h = absurd (no_cons x (xs ++ ys) h)

-- the last of some that are all answered
last_answered : (early : List Asked) (a : Asked) → list_all is_answered (early ++ a ∷ []) ≡ true → is_answered a ≡ true
last_answered [] a h = by (is_answered a) h
  where
    by : (b : Bool) → (b && true) ≡ true → b ≡ true
    by true g = refl
    by false g = absurd (false_true g)
last_answered (x ∷ xs) a h = by (is_answered x) h (λ g. last_answered xs a g)
  where
    by : (b : Bool) → (b && list_all is_answered (xs ++ a ∷ [])) ≡ true → (list_all is_answered (xs ++ a ∷ []) ≡ true → is_answered a ≡ true) → is_answered a ≡ true
    by true g ih = ih g
    by false g ih = absurd (false_true g)

pub nothing_waits : (o : Option Pending) (asked : List Asked) → Waits o asked → list_all is_answered asked ≡ true → o ≡ None
nothing_waits None asked i all = refl
nothing_waits (Some p) asked i all = absurd (false_true (last_answered i.0 (record { serial = p.serial; question = p.question; fate = waits }) (ap (list_all is_answered) (sym i.1) ∙ all)))

-- OF WHAT IS KNOWN NOTHING IS WISHED
no_wishes : (name : List ℕ) (apps : List Followed) (g : Followed) → found_in name apps ≡ Some g → flat_map wishes_of apps ≡ [] → wishes_of g ≡ []
no_wishes name [] g found none = absurd (no_none g found)
no_wishes name (f ∷ fs) g found none = by (is_named name f) found (λ more. no_wishes name fs g more (none_both (wishes_of f) (flat_map wishes_of fs) none).1)
  where
    by : (b : Bool) → (if b then Some f else found_in name fs) ≡ Some g → (found_in name fs ≡ Some g → wishes_of g ≡ []) → wishes_of g ≡ []
    by true is ih = subst (λ x. wishes_of x ≡ []) (same_some f g is) (none_both (wishes_of f) (flat_map wishes_of fs) none).0
    by false is ih = ih is

-- so it is held
is_had : (g : Followed) → wishes_of g ≡ [] → (v : Forest Row) × (g.view ≡ Some v)
is_had g none = by g.view refl
  where
    by : (o : Option (Forest Row)) → g.view ≡ o → (v : Forest Row) × (g.view ≡ Some v)
    by None is = absurd (no_cons (GetItems g.name) [] (subst (λ o. wishes_of (record g { view = o }) ≡ []) is none))
    by (Some v) is = (v, is)

-- PARTS THAT ARE REFUSED
part_same : (p q : PartName) → same_part p q ≡ true → p ≡ q
part_same Text Text h = refl
part_same Caret Caret h = refl
part_same Columns Columns h = refl
part_same p q h = absurd (false_true h)

among_refused : (P : List ℕ → PartName → Type 0) (refused : List (List ℕ × PartName)) (path : List ℕ) (part : PartName) → AllByRecursion (λ (x : List ℕ × PartName). P x.0 x.1) refused → is_refused refused path part ≡ true → P path part
among_refused P [] path part a h = absurd (false_true h)
among_refused P (x ∷ xs) path part a h = by (bytes_eq x.0 path) refl (same_part x.1 part) refl h (λ g. among_refused P xs path part a.1 g)
  where
    by : (b : Bool) → bytes_eq x.0 path ≡ b → (c : Bool) → same_part x.1 part ≡ c → ((b && c) || is_refused xs path part) ≡ true → (is_refused xs path part ≡ true → P path part) → P path part
    by true first true second g ih = subst (λ q. P path q) (part_same x.1 part second) (subst (λ l. P l x.1) ((bytes_eq-Decides x.0 path).0 first) a.0)
    by true first false second g ih = ih g
    by false first c second g ih = ih g

-- where no part of a row is wished each that is unknown was refused
parts_refused : (P : List ℕ → PartName → Type 0) (g : Followed) (path : List ℕ) (parts : List PartName) → AllByRecursion (λ (x : List ℕ × PartName). P x.0 x.1) g.refused
    → map (λ (part : PartName). GetPart g.name path part) (filter (λ (part : PartName). not (is_refused g.refused path part)) parts) ≡ [] → AllByRecursion (P path) parts
parts_refused P g path [] a none = tt
parts_refused P g path (part ∷ parts) a none = by (is_refused g.refused path part) refl none (λ h. parts_refused P g path parts a h)
  where
    by : (b : Bool) → is_refused g.refused path part ≡ b
        → map (λ (part : PartName). GetPart g.name path part) (if not b then part ∷ filter (λ (part : PartName). not (is_refused g.refused path part)) parts else filter (λ (part : PartName). not (is_refused g.refused path part)) parts) ≡ []
        → (map (λ (part : PartName). GetPart g.name path part) (filter (λ (part : PartName). not (is_refused g.refused path part)) parts) ≡ [] → AllByRecursion (P path) parts) → AllByRecursion (P path) (part ∷ parts)
    by true is h ih = (among_refused P g.refused path part a is, ih h)
    by false is h ih = absurd (no_cons (GetPart g.name path part) (map (λ (part : PartName). GetPart g.name path part) (filter (λ (part : PartName). not (is_refused g.refused path part)) parts)) h)

rows_refused : (P : List ℕ → PartName → Type 0) (g : Followed) (rows : List Row) → AllByRecursion (λ (x : List ℕ × PartName). P x.0 x.1) g.refused → flat_map (row_wishes g) rows ≡ []
    → AllByRecursion (λ (row : Row). AllByRecursion (P row.path) (unknown_parts row)) rows
rows_refused P g [] a none = tt
rows_refused P g (row ∷ rows) a none =
    let both = none_both (row_wishes g row) (flat_map (row_wishes g) rows) none in
    (parts_refused P g row.path (unknown_parts row) a both.0, rows_refused P g rows a both.1)

-- WHERE NOTHING WAITS
module _ (script : List Line) (es : List Entry) (w : World) (g : Ground script es w None) where
  -- a reader
  module _ (r : ℕ) (h : Hearer) (s : ReaderState) (t : Tied es w r h s) (held_so : (app : ℕ) → SameKept es app (held es r app) (holding_of app h.holds)) (answered : list_all is_answered h.asked ≡ true) where
    idle : (s.to_come ≡ []) × (wishes s.apps ≡ [])
    idle = t.wants.idle (nothing_waits s.pending h.asked t.asks.waiting answered)

    starts : BeginsWell h.asked
    starts = (t.asks.order.0, sym (append-nil (map question_of h.asked)) ∙ ap (λ l. map question_of h.asked ++ l) (sym idle.0) ∙ t.asks.order.1)

    item : (name : List ℕ) → (is_connection name ≡ true → IsKnownOrGone w s h name) → IsNameHere w.ends name → IsAsked (GetItems name) h.asked
    item name f at = by (f (and_from (is_bus_name name) (is_unique_name name) (name_is_bus_name es (App at.1) name (known script es w None g).few known_so) (unique_told es (App at.1) name known_so)))
      where
        known_so : NameIs es (App at.1) name
        known_so = inr (unique_is es w (shape script es w None g) (known script es w None g) at.0 at.1 at.2 name at.3 at.4 at.6)

        by : IsKnownOrGone w s h name → IsAsked (GetItems name) h.asked
        by (inl found) =
            let of = found_is (WantsOf es r h) name s.apps found.0 found.1 t.wants.each in
            let had = is_had found.0 (no_wishes name s.apps found.0 found.1 idle.1) in
            subst (λ n. IsAsked (GetItems n) h.asked) of.1 (of.0.held had.0 had.1)
        by (inr (inl asked)) = asked
        by (inr (inr gone)) = absurd (gone.nobody at.0 at.1 at.2 at.3 at.4 at.5 at.6)

    parts : (conn app : ℕ) (e : End) (name : List ℕ) (k : Holding) → end_at w.ends conn ≡ Some e → e.who ≡ App app → e.unique ≡ Some name → holding_of app h.holds ≡ Some k
        → AllByRecursion (ArePartsAsked es r app name) (labels (view (told_in k.told) k.tree))
    parts conn app e name k there whose unique has = of_seen (found_in name s.apps) refl (t.sees.seen name app its)
      where
        its : name_in es (App app) ≡ Some name
        its = name_is script es w None g conn app e name there whose unique

        cache : CacheIs es app (held es r app) (followed name es r app)
        cache =
            caches_follow script es g.can g.goes g.nothing_owed name r app (λ own is. same_some own name (sym is ∙ its)) (steps_asked script es g.can g.goes name r app) es [] (sym (append-nil es))

        shows : (followed name es r app).view ≡ Some (view (told_in k.told) k.tree)
        shows = by (held es r app) cache (subst (SameKept es app (held es r app)) has (held_so app))
          where
            by : (o : Option Kept) → CacheIs es app o (followed name es r app) → SameKept es app o (Some k) → (followed name es r app).view ≡ Some (view (told_in k.told) k.tree)
            by None c same = absurd same
            by (Some kept) c same = c.shows ∙ ap₂ (λ parts f. Some (view (told_in parts) f)) same.told (ap (as_of es app) same.last ∙ same.tree)

        of_seen : (o : Option Followed) → found_in name s.apps ≡ o → IsSeen o (followed name es r app) → AllByRecursion (ArePartsAsked es r app name) (labels (view (told_in k.told) k.tree))
        of_seen None is seen = absurd (no_none (view (told_in k.told) k.tree) (sym seen ∙ shows))
        of_seen (Some f) is seen =
            rows_refused (IsPartAsked es r app name) f (labels (view (told_in k.told) k.tree)) refused
            (subst (λ b. wishes_of (record f { view = Some (view (told_in k.told) k.tree); reload = b }) ≡ []) seen.1
            (subst (λ o. wishes_of (record f { view = o }) ≡ []) (seen.0 ∙ shows) (no_wishes name s.apps f is idle.1)))
          where
            of : WantsOf es r h f × (f.name ≡ name)
            of = found_is (WantsOf es r h) name s.apps f is t.wants.each

            refused : AllByRecursion (λ (x : List ℕ × PartName). IsPartAsked es r app name x.0 x.1) f.refused
            refused = subst (λ n. AllByRecursion (λ (x : List ℕ × PartName). IsPartAsked es r app n x.0 x.1) f.refused) of.1 (of.0.parts app (its ∙ ap Some (sym of.1)))

    pub asks_all : HasAskedAll es w.ends r h
    asks_all = record {
      starts = starts;
      items = all_map (λ name. is_connection name ≡ true → IsKnownOrGone w s h name) (λ name. IsNameHere w.ends name → IsAsked (GetItems name) h.asked) h.named item t.wants.named;
      parts = parts;
    }

  pub rests_so : (p : Playing) → AllTied es p → p.world ≡ w → NothingWaits w → IsSettled w
  rests_so p ties is none = rests_at script es g.can g.goes g.nothing_owed w None g.kept ties.of_nodes none g.here asks
    where
      asks : AllAsk es w
      asks conn r e h there whose on role answered =
          let x = ties.tied conn r e (ap (λ (v : World). end_at v.ends conn) is ∙ there) whose in
          let same : x.0 ≡ h = same_hearer x.0 h (sym x.1 ∙ role) in
          let t : Tied es w r h x.2.0 = subst (λ k. Tied es w r k x.2.0) same (subst (λ v. Tied es v r x.0 x.2.0) is x.2.2) in
          asks_all r h x.2.0 t ((known script es w None g).readers conn r e h there whose role).holds answered
