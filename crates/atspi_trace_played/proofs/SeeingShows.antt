-- What a reader shows is what is due.
use Rattle.std.proofs.Common.{◌≡◌, ℕ, zero, suc, Bool, true, false, List, [], ◌∷◌, Option, None, Some, refl, sym, ap, ap₂, ◌∙◌, subst}
use Rattle.std.specs.Prelude.{option_map, if◌then◌else◌}
use Rattle.std.proofs.lemmas.List.{append-nil}
use Rattle.atspi_tree_model.specs.declared.view.Row.{Row}
use Rattle.atspi_tree_model.specs.Forest.{Forest}
use Rattle.atspi_tree_model.specs.View.{view}
use Rattle.atspi_script_lines.specs.declared.line.Line.{Line}
use Rattle.atspi_script_lines.specs.declared.line.Party.TheVariants.{Registry, App}
use Rattle.atspi_protocol.specs.following.ReaderState.{Followed, ReaderState}
use Rattle.atspi_protocol.specs.following.Takes.{found_in, view_of}
use Rattle.atspi_trace.specs.play.Playing.{view_rows, held_by, unique_in}
use Rattle.atspi_trace.specs.play.Played.{if_viewed}
use Rattle.atspi_trace.specs.Entry.{Entry}
use Rattle.atspi_trace.specs.World.{Holding, Hearer, End, World}
use Rattle.atspi_trace.specs.Ends.{same_party, conn_of, end_at, end_if, end_of}
use Rattle.atspi_trace.specs.Hearing.{holding_of}
use Rattle.atspi_trace.specs.Causes.{told_in, shown_rows, rows_held}
use Rattle.atspi_trace.specs.Work.{if_held}
use Rattle.atspi_trace_laws.specs.laws.Words.{message, as_of, name_in, Kept, held}
use Rattle.atspi_trace_laws.specs.signed.Laws.{IsItsName}
use Rattle.atspi_trace_caches.specs.caches.Caches.{followed}
use Rattle.atspi_trace_caches.specs.caches.Laws.{CacheIs}
use Rattle.atspi_trace_laws.proofs.OfOrder.Parties.{no_none, same_some, same-party, party-same, false_true}
use Rattle.atspi_trace_laws.proofs.OfHeld.Keeping.{SameKept, ReaderIs}
use Rattle.atspi_trace_laws.proofs.OfNames.Places.{first_at, position_is, name_told, told_is}
use Rattle.atspi_trace_caches.proofs.OfCaches.LawCaches.{caches_follow}
use Rattle.atspi_trace_caches.proofs.OfServed.LawServed.{steps_asked}
use Rattle.atspi_trace_caches.proofs.OfSettled.Settling_ground as under
use Rattle.atspi_trace_played.proofs.Facts.{Ground, IsSeen, SeesWell}
use Rattle.atspi_trace_played.proofs.Pieces.{ShowsDue}
use Rattle.atspi_trace_played.proofs.SeeingGround.{shape, its}
use Rattle.atspi_trace_played.proofs.SeeingRows.{rows_shown}

-- the end at the first place that passes
at_first : (p : End → Bool) (ends : List End) (i : ℕ) (d : End) → first_at p ends ≡ Some i → end_at ends i ≡ Some d → p d ≡ true
at_first p [] i d h there = absurd (no_none i h)
at_first p (x ∷ xs) i d h there = by (p x) refl (first_at p xs) refl i h there (λ j e z. at_first p xs j d e z)
  where
    by : (t : Bool) → p x ≡ t → (o : Option ℕ) → first_at p xs ≡ o → (i : ℕ) → (if t then Some 0 else option_map suc o) ≡ Some i → end_at (x ∷ xs) i ≡ Some d → ((j : ℕ) → first_at p xs ≡ Some j → end_at xs j ≡ Some d → p d ≡ true)
        → p d ≡ true
    by true is o e i k z ih =
        let zero_ : 0 ≡ i = same_some 0 i k in
        ap p (sym (same_some x d (ap (end_at (x ∷ xs)) zero_ ∙ z))) ∙ is
    by false is None e i k z ih = absurd (no_none i k)
    by false is (Some j) e i k z ih =
        let next : suc j ≡ i = same_some (suc j) i k in
        ih j e (ap (end_at (x ∷ xs)) next ∙ z)

record IsThere (ends : List End) (a : ℕ) (d : End) : Type 0 where
  conn : ℕ
  there : end_at ends conn ≡ Some d
  whose : d.who ≡ App a

found_there : (ends : List End) (a : ℕ) (d : End) → end_of ends (App a) ≡ Some d → IsThere ends a d
found_there ends a d h = by (conn_of ends (App a)) refl h
  where
    by : (o : Option ℕ) → conn_of ends (App a) ≡ o → end_if ends o ≡ Some d → IsThere ends a d
    by None e k = absurd (no_none d k)
    by (Some i) e k =
        record { conn = i; there = k; whose = same-party d.who (App a) (at_first (λ (z : End). same_party z.who (App a)) ends i d (sym (position_is (λ (z : End). same_party z.who (App a)) ends) ∙ e) k) }

-- an end of the application is found, if there is one
abbrev HasFirst : (End → Bool) → List End → Type 0
HasFirst p ends = (i : ℕ) × (d : End) × (first_at p ends ≡ Some i) × (end_at ends i ≡ Some d)

has_first : (p : End → Bool) (ends : List End) (k : ℕ) (e : End) → end_at ends k ≡ Some e → p e ≡ true → HasFirst p ends
has_first p [] k e there passes = absurd (no_none e there)
has_first p (x ∷ xs) k e there passes = by (p x) refl k there (λ j z. has_first p xs j e z passes)
  where
    by : (t : Bool) → p x ≡ t → (k : ℕ) → end_at (x ∷ xs) k ≡ Some e → ((j : ℕ) → end_at xs j ≡ Some e → HasFirst p xs) → HasFirst p (x ∷ xs)
    by true is k z ih = (0, x, ap (λ t. if t then Some 0 else option_map suc (first_at p xs)) is, refl)
    by false is zero z ih = absurd (false_true (sym is ∙ ap p (same_some x e z) ∙ passes))
    by false is (suc j) z ih =
        let y = ih j z in
        (suc y.0, y.1, ap (λ t. if t then Some 0 else option_map suc (first_at p xs)) is ∙ ap (option_map suc) y.2, y.3)

has_end : (ends : List End) (a k : ℕ) (e : End) → end_at ends k ≡ Some e → e.who ≡ App a → (d : End) × (end_of ends (App a) ≡ Some d)
has_end ends a k e there who =
    let y = has_first (λ (z : End). same_party z.who (App a)) ends k e there (ap (λ p. same_party p (App a)) who ∙ party-same (App a)) in
    (y.1, ap (end_if ends) (position_is (λ (z : End). same_party z.who (App a)) ends ∙ y.2) ∙ y.3)

no_registry : (a : ℕ) → App a ≡ Registry → ⊥
no_registry a h = false_true (ap (λ p. same_party p Registry) h)

module _ (script : List Line) (es : List Entry) (w : World) (g : Ground script es w None) (app : ℕ) where
  -- the unique name of its end is what the trace says
  unique_is : unique_in (end_of w.ends (App app)) ≡ name_in es (App app)
  unique_is = by (name_in es (App app)) refl
    where
      nobody : name_in es (App app) ≡ None → (o : Option End) → end_of w.ends (App app) ≡ o → unique_in o ≡ None
      nobody none None e = refl
      nobody none (Some d) e =
          let i = found_there w.ends app d e in
          ((its script es w None g).names.ends i.conn d i.there).known (λ is. no_registry app (sym i.whose ∙ is)) ∙ ap (name_told es) i.whose ∙ sym (told_is es (App app)) ∙ none

      by : (o : Option (List ℕ)) → name_in es (App app) ≡ o → unique_in (end_of w.ends (App app)) ≡ o
      by None e = nobody e (end_of w.ends (App app)) refl
      by (Some x) e =
          let y = under.is_at es w (shape script es w None g) (its script es w None g) (App app) x (sym (told_is es (App app)) ∙ e) in
          let d = has_end w.ends app y.0 y.1 y.2 y.3 in
          let i = found_there w.ends app d.0 d.1 in
          ap unique_in d.1 ∙ ((its script es w None g).names.ends i.conn d.0 i.there).known (λ is. no_registry app (sym i.whose ∙ is)) ∙ ap (name_told es) i.whose ∙ sym (told_is es (App app)) ∙ e

  module _ (r : ℕ) (h : Hearer) (s : ReaderState) (readers : ReaderIs es r h) (sees : SeesWell es r s) where
    abbrev Shows : Option (Forest Row) → Option Holding → Type 0
    Shows v k = (view_rows v ≡ rows_held k) × (if_viewed v ≡ if_held k)

    cache : (x : List ℕ) → IsItsName es app x → CacheIs es app (held es r app) (followed x es r app)
    cache x i = caches_follow script es g.can g.goes g.nothing_owed x r app i (steps_asked script es g.can g.goes x r app) es [] (sym (append-nil es))

    -- what the trace says that it has is what it holds
    nothing : (x : List ℕ) → (followed x es r app).view ≡ None → (k : Option Kept) → (o : Option Holding) → SameKept es app k o → CacheIs es app k (followed x es r app) → Shows None o
    nothing x none None None y i = (refl, refl)
    nothing x none (Some k) (Some o) y i = absurd (no_none (view (told_in k.told) (as_of es app k.last)) (sym none ∙ i.shows))
    nothing x none (Some k) None y i = absurd y
    nothing x none None (Some o) y i = absurd y

    same_rows : (x : List ℕ) → name_in es (App app) ≡ Some x → (k : Option Kept) (o : Option Holding) → SameKept es app k o → CacheIs es app k (followed x es r app) → Shows (followed x es r app).view o
    same_rows x its_name None None y i = (ap view_rows i, ap if_viewed i)
    same_rows x its_name (Some k) (Some o) y i = (
      ap view_rows i.shows ∙ ap Some (rows_shown script es w g app x its_name (told_in k.told) k.last y.first (ap (message es (App app)) y.last ∙ y.was))
          ∙ ap₂ (λ parts tree. Some (shown_rows (view (told_in parts) tree))) y.told (ap (as_of es app) y.last ∙ y.tree),
      ap if_viewed i.shows,
    )
    same_rows x its_name (Some k) None y i = absurd y
    same_rows x its_name None (Some o) y i = absurd y

    seen_view : (o : Option Followed) (f : Followed) → IsSeen o f → view_of o ≡ f.view
    seen_view None f i = sym i
    seen_view (Some y) f i = i.0

    by_name : (o : Option (List ℕ)) → name_in es (App app) ≡ o → Shows (held_by (Some s) o) (holding_of app h.holds)
    by_name None e = nothing [] (sees.unnamed app e []) (held es r app) (holding_of app h.holds) (readers.holds app) (cache [] (λ own at. absurd (no_none own (sym e ∙ at))))
    by_name (Some x) e =
        subst (λ v. Shows v (holding_of app h.holds)) (sym (seen_view (found_in x s.apps) (followed x es r app) (sees.seen x app e)))
        (same_rows x e (held es r app) (holding_of app h.holds) (readers.holds app) (cache x (λ own at. same_some own x (sym at ∙ e))))

    pub shows : Shows (held_by (Some s) (unique_in (end_of w.ends (App app)))) (holding_of app h.holds)
    shows = subst (λ o. Shows (held_by (Some s) o) (holding_of app h.holds)) (sym unique_is) (by_name (name_in es (App app)) refl)

pub shows_due : ShowsDue
shows_due script es w conn r app e h s g there whose role tied = shows script es w g app r h s ((its script es w None g).readers conn r e h there whose role) tied.sees
