-- Each reader that was started has an end, and is tied to what the trace tells of it.
use Rattle.std.proofs.Common.{◌≡◌, ◌⊎◌, ◌↔◌, inl, inr, ℕ, suc, ◌<◌, Bool, true, false, cond, List, [], ◌∷◌, ◌++◌, length, map, Option, None, Some, refl, sym, ap, ◌∙◌, subst, arith}
use Rattle.std.specs.Prelude.{◌==◌, ◌||◌, filter, slice_get}
use Rattle.std.specs.List.{AllByRecursion, IsDistinct, list_any}
use Rattle.std.proofs.lemmas.Bool.{ne_eqb, eqb-true}
use Rattle.std.proofs.lemmas.List.{append-nil, length-map}
use Rattle.std.proofs.lemmas.Map.Keys.{IsDistinct-cons}
use Rattle.std.proofs.lemmas.Map.Steps.{length-le_from_distinct_below}
use Rattle.std.proofs.lemmas.Option.{slice_get_within}
use Rattle.atspi_tree_model.specs.declared.view.Row.{Row}
use Rattle.atspi_tree_model.specs.Forest.{Forest}
use Rattle.atspi_script_lines.specs.declared.line.Line.{Line}
use Rattle.atspi_script_lines.specs.declared.line.Party.{Party}
use Rattle.atspi_script_lines.specs.declared.line.Party.TheVariants.{Bus as The_bus, Registry, App, Reader}
use Rattle.atspi_protocol.specs.following.ReaderState.{Followed, ReaderState}
use Rattle.atspi_protocol.specs.following.Takes.{found_in, held_view, view_of}
use Rattle.atspi_trace.specs.Entry.{Entry}
use Rattle.atspi_trace.specs.World.{End, World}
use Rattle.atspi_trace.specs.Ends.{number_of, end_at, is_reader, reader_count}
use Rattle.atspi_trace.specs.Work.{Work, resting}
use Rattle.atspi_trace.specs.play.Playing.{Playing}
use Rattle.atspi_trace_laws.specs.laws.Words.{Kept, held, name_in}
use Rattle.atspi_trace_laws.specs.order.Scripts.{CanAllStand}
use Rattle.atspi_trace_laws.proofs.OfOrder.Parties.{no_none, same_some}
use Rattle.atspi_trace_laws.proofs.OfOrder.Shape.{Shape}
use Rattle.atspi_trace_caches.specs.caches.Caches.{followed}
use Rattle.atspi_trace_caches.specs.caches.Laws.{CacheIs}
use Rattle.atspi_trace_caches.proofs.OfCaches.LawCaches.{caches_follow}
use Rattle.atspi_trace_caches.proofs.OfServed.LawServed.{steps_asked}
use Rattle.atspi_trace_played.proofs.AllPieces.{pieces}
use Rattle.atspi_trace_played.proofs.Facts.{Ground, IsOfApp, IsSeen, SeesWell}
use Rattle.atspi_trace_played.proofs.Playing.{played_stage}
use Rattle.atspi_trace_played.proofs.PlayingStage.{Stage, ground}
use Rattle.atspi_trace_played.proofs.SeeingApps.{found_is}
use Rattle.atspi_trace_played.proofs.SeeingGround.{shape}
use Rattle.atspi_trace_lent.specs.Lent.{IsFold, ReadersAreFolds}
use Rattle.atspi_trace_lent.proofs.Views.{folds}

-- THE NUMBERS OF READERS among ends
abbrev numbers : List End → List ℕ
numbers ends = map (λ (e : End). number_of e.who) (filter (λ (e : End). is_reader e.who) ends)

reader_fits : (p : Party) → is_reader p ≡ true → p ≡ Reader (number_of p)
reader_fits (Reader r) h = refl
reader_fits The_bus h = absurd cc
reader_fits Registry h = absurd cc
reader_fits (App a) h = absurd cc

abbrev IsThere : List End → ℕ → Type 0
IsThere ends r = (k : ℕ) × (e : End) × (end_at ends k ≡ Some e) × (e.who ≡ Reader r)

abbrev Differ : ℕ → List ℕ → Type 0
Differ r ns = AllByRecursion (λ n. (r == n) ≡ false) ns

-- a reader with a number is there, or all have other numbers
find_reader : (r : ℕ) (ends : List End) → IsThere ends r ⊎ Differ r (numbers ends)
find_reader r [] = inr tt
find_reader r (x ∷ xs) = by (is_reader x.who) refl (find_reader r xs)
  where
    later : IsThere xs r → IsThere (x ∷ xs) r
    later t = (suc t.0, t.1, t.2, t.3)

    here : is_reader x.who ≡ true → (b : Bool) → (r == number_of x.who) ≡ b → Differ r (numbers xs) → IsThere (x ∷ xs) r ⊎ Differ r (number_of x.who ∷ numbers xs)
    here is true e rest = inl (0, x, refl, reader_fits x.who is ∙ ap Reader (sym (eqb-true r (number_of x.who) e)))
    here is false e rest = inr (e, rest)

    by : (b : Bool) → is_reader x.who ≡ b → IsThere xs r ⊎ Differ r (numbers xs)
        → IsThere (x ∷ xs) r ⊎ Differ r (map (λ (e : End). number_of e.who) (cond b (x ∷ filter (λ (e : End). is_reader e.who) xs) (filter (λ (e : End). is_reader e.who) xs)))
    by b is (inl t) = inl (later t)
    by true is (inr rest) = here is (r == number_of x.who) refl rest
    by false is (inr rest) = inr rest

-- no two have one number
abbrev AreOne : List End → Type 0
AreOne ends = (j k : ℕ) (d e : End) → end_at ends j ≡ Some d → end_at ends k ≡ Some e → d.who ≡ e.who → j ≡ k

others_differ : (x : End) (xs : List End) → is_reader x.who ≡ true → ((k : ℕ) (e : End) → end_at xs k ≡ Some e → x.who ≡ e.who → ⊥) → Differ (number_of x.who) (numbers xs)
others_differ x [] is apart = tt
others_differ x (y ∷ ys) is apart = by (is_reader y.who) refl (others_differ x ys is (λ k e there. apart (suc k) e there))
  where
    by : (b : Bool) → is_reader y.who ≡ b → Differ (number_of x.who) (numbers ys)
        → Differ (number_of x.who) (map (λ (e : End). number_of e.who) (cond b (y ∷ filter (λ (e : End). is_reader e.who) ys) (filter (λ (e : End). is_reader e.who) ys)))
    by true also rest = (ne_eqb (number_of x.who) (number_of y.who) (λ n. apart 0 y refl (reader_fits x.who is ∙ ap Reader n ∙ sym (reader_fits y.who also))), rest)
    by false also rest = rest

distinct : (ends : List End) → AreOne ends → IsDistinct (λ (m n : ℕ). m == n) (numbers ends)
unfolding IsDistinct
distinct [] one = tt
distinct (x ∷ xs) one = by (is_reader x.who) refl (distinct xs (λ j k d e a b w. let next : suc j ≡ suc k = one (suc j) (suc k) d e a b w in omega (arith, next)))
  where
    apart : (k : ℕ) (e : End) → end_at xs k ≡ Some e → x.who ≡ e.who → ⊥
    apart k e there same = let clash : 0 ≡ suc k = one 0 (suc k) x e refl there same in absurd (omega (arith, clash))

    by : (b : Bool) → is_reader x.who ≡ b → IsDistinct (λ (m n : ℕ). m == n) (numbers xs)
        → IsDistinct (λ (m n : ℕ). m == n) (map (λ (e : End). number_of e.who) (cond b (x ∷ filter (λ (e : End). is_reader e.who) xs) (filter (λ (e : End). is_reader e.who) xs)))
    by true is rest = IsDistinct-cons (λ (m n : ℕ). m == n) (number_of x.who) (numbers xs) (others_differ x xs is apart) rest
    by false is rest = rest

low : (n : ℕ) (ends : List End) → ((k r : ℕ) (e : End) → end_at ends k ≡ Some e → e.who ≡ Reader r → r < n) → (q : ℕ) → list_any (λ m. q == m) (numbers ends) ≡ true → q < n
low n [] below q h = absurd cc
low n (x ∷ xs) below q h = by (is_reader x.who) refl h (λ g. low n xs (λ k r e there who. below (suc k) r e there who) q g)
  where
    by : (b : Bool) → is_reader x.who ≡ b → list_any (λ m. q == m) (map (λ (e : End). number_of e.who) (cond b (x ∷ filter (λ (e : End). is_reader e.who) xs) (filter (λ (e : End). is_reader e.who) xs))) ≡ true
        → (list_any (λ m. q == m) (numbers xs) ≡ true → q < n) → q < n
    by false is g rest = rest g
    by true is g rest = at (q == number_of x.who) refl g
      where
        at : (d : Bool) → (q == number_of x.who) ≡ d → (d || list_any (λ m. q == m) (numbers xs)) ≡ true → q < n
        at true e k = subst (λ m. m < n) (sym (eqb-true q (number_of x.who) e)) (below 0 (number_of x.who) x refl (reader_fits x.who is))
        at false e k = rest k

-- EACH NUMBER BELOW THE COUNT IS A READER'S
is_there : (w : World) → Shape w → (r : ℕ) → r < reader_count w.ends → IsThere w.ends r
is_there w s r within = by (find_reader r w.ends)
  where
    below_all : (q : ℕ) → list_any (λ m. q == m) (r ∷ numbers w.ends) ≡ true → q < reader_count w.ends
    below_all q h = at (q == r) refl h
      where
        at : (d : Bool) → (q == r) ≡ d → (d || list_any (λ m. q == m) (numbers w.ends)) ≡ true → q < reader_count w.ends
        at true e k = subst (λ m. m < reader_count w.ends) (sym (eqb-true q r e)) within
        at false e k = low (reader_count w.ends) w.ends s.readers q k

    by : IsThere w.ends r ⊎ Differ r (numbers w.ends) → IsThere w.ends r
    by (inl t) = t
    by (inr d) =
        let many = length-le_from_distinct_below (r ∷ numbers w.ends) (reader_count w.ends) (IsDistinct-cons (λ (m n : ℕ). m == n) r (numbers w.ends) d (distinct w.ends s.one)) below_all in
        let count = length-map (filter (λ (e : End). is_reader e.who) w.ends) (λ (e : End). number_of e.who) in
        absurd (omega (arith, many, count))

-- WHAT ONE HOLDS
seen_view : (o : Option Followed) (f : Followed) → IsSeen o f → view_of o ≡ f.view
seen_view None f i = sym i
seen_view (Some y) f i = i.0

nothing_is : (es : List Entry) (app : ℕ) (k : Option Kept) (f : Followed) (v : Option (Forest Row)) → v ≡ f.view → CacheIs es app k f → (v ≡ None) ↔ (k ≡ None)
nothing_is es app None f v is c = (λ none. refl, λ none. is ∙ c)
nothing_is es app (Some k) f v is c = (λ none. absurd (no_none _ (sym none ∙ is ∙ c.shows)), λ none. absurd (no_none k (sym none)))

module _ (script : List Line) (es : List Entry) (p : Playing) (work_ : Stage script es p resting []) (reader : ℕ) (s : ReaderState) (sees : SeesWell es reader s) where
  g : Ground script es p.world None
  g = ground script es p resting [] work_

  one_fold : (app : ℕ) (name : List ℕ) → name_in es (App app) ≡ Some name → IsFold es reader app name s
  one_fold app name named =
      let seen : held_view s name ≡ (followed name es reader app).view = seen_view (found_in name s.apps) (followed name es reader app) (sees.seen name app named) in
      let cache : CacheIs es app (held es reader app) (followed name es reader app) =
      caches_follow script es g.can g.goes g.nothing_owed name reader app (λ own at. same_some own name (sym at ∙ named)) (steps_asked script es g.can g.goes name reader app) es [] (sym (append-nil es)) in
      record { view = seen ∙ folds name es reader app; nothing = nothing_is es app (held es reader app) (followed name es reader app) (held_view s name) seen cache }

  nobodys : (name : List ℕ) → ((app : ℕ) → name_in es (App app) ≡ Some name → ⊥) → held_view s name ≡ None
  nobodys name nobody = by (found_in name s.apps) refl
    where
      by : (o : Option Followed) → found_in name s.apps ≡ o → view_of o ≡ None
      by None is = refl
      by (Some f) is = let k = found_is (IsOfApp es) name s.apps f is sees.apps in absurd (nobody k.0.app (k.0.its_name ∙ ap Some k.1))

-- what one sees, at any stage
pub sees_of : (script : List Line) (es : List Entry) (p : Playing) (work : Work) (more : List Line) → Stage script es p work more → (reader : ℕ) (s : ReaderState) → slice_get p.readers reader ≡ Some s → SeesWell es reader s
sees_of script es p work more st reader s at =
    let shaped : Shape p.world = shape script es p.world None (ground script es p work more st) in
    let within : reader < length p.readers = slice_get_within p.readers reader s at in
    let t = is_there p.world shaped reader (subst (λ n. reader < n) (sym st.tied.count) within) in
    let o = st.tied.tied t.0 reader t.1 t.2 t.3 in
    let same : o.2.0 ≡ s = same_some o.2.0 s (sym o.2.1 ∙ at) in
    subst (SeesWell es reader) same o.2.2.sees

pub readers_are_folds : ReadersAreFolds
readers_are_folds lines es p can played reader s at =
    let script = lines ++ [] in
    let st = played_stage pieces lines es p played [] (subst CanAllStand (sym (append-nil lines)) can) in
    let sees : SeesWell es reader s = sees_of script es p resting [] st reader s at in
    record { each = one_fold script es p st reader s sees; others = nobodys script es p st reader s sees }
