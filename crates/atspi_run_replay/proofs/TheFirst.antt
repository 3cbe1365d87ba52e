-- The first application and the first reader of a world that was played: the tree of the one, and what the other has of it, are as the trace tells them.
use Rattle.std.proofs.Common.{◌≡◌, inl, inr, ℕ, zero, suc, ◌+◌, ◌<◌, ◌≤◌, Bool, true, false, cond, List, [], ◌∷◌, ◌++◌, length, map, Option, None, Some, refl, sym, ap, ◌∙◌, subst, arith, append-nil, append_assoc}
use Rattle.std.specs.Prelude.{find, nat_lt, option_map, slice_get}
use Rattle.std.specs.List.{AllByRecursion, position_or_len}
use Rattle.std.proofs.lemmas.Bool.{eq-eqb, ltb-false}
use Rattle.std.proofs.lemmas.List.Folds.{find_at}
use Rattle.std.proofs.lemmas.Option.{slice_get_within}
use Rattle.atspi_tree_model.specs.RowRules.{rows}
use Rattle.atspi_tree_model.specs.Tree.{IsTree, is_node, is_shape, shape_of}
use Rattle.atspi_tree_model.specs.Forest.{Forest, nil, tree, has}
use Rattle.atspi_tree_model.specs.Row.{ShapeRow, TreeRow}
use Rattle.atspi_tree_model.specs.View.{view}
use Rattle.atspi_tree_model.proofs.ShapeOf.{shape-has, shape_is_tree}
use Rattle.atspi_script_lines.specs.declared.line.Line.{Line}
use Rattle.atspi_script_lines.specs.declared.line.Party.{Party}
use Rattle.atspi_script_lines.specs.declared.line.Party.TheVariants.{App, Reader}
use Rattle.atspi_protocol.specs.exporting.Exporter.{Exporter}
use Rattle.atspi_protocol.specs.following.ReaderState.{ReaderState}
use Rattle.atspi_tree.specs.TreeShape.{TreeShape, IsLawful}
use Rattle.atspi_run_make.specs.Drawing.{live_nodes}
use Rattle.atspi_app_known.specs.application.Seen.{shape_seen}
use Rattle.atspi_run_make.specs.Live.{CanFollow}
use Rattle.atspi_run_make.proofs.LiveLemmas.{follow_on}
use Rattle.atspi_trace.specs.Entry.{Entry, entries_of}
use Rattle.atspi_trace.specs.World.{Holding, End, World}
use Rattle.atspi_trace.specs.Ends.{same_party, number_of, conn_of, end_at, end_if, end_of, is_app, is_reader, app_count, reader_count}
use Rattle.atspi_trace.specs.Work.{resting}
use Rattle.atspi_trace.specs.Causes.{rows_held, shown_rows, told_in}
use Rattle.atspi_trace.specs.Hearing.{holding_of}
use Rattle.atspi_world_moves.specs.Carried as carried
use Rattle.atspi_world_links.proofs.Changes.{get-map}
use Rattle.atspi_trace_laws.specs.laws.NineLaws.{Everywhere, rows_due, StepIsOne}
use Rattle.atspi_trace_laws.specs.laws.Words.{added, as_of, held, Kept, live_tree}
use Rattle.atspi_trace_laws.specs.order.Scripts.{CanAllStand}
use Rattle.atspi_trace_laws.specs.views.Laws.{StepsOnTree}
use Rattle.atspi_trace_laws.proofs.OfOrder.Parties.{found, same-party, same_some}
use Rattle.atspi_trace_laws.proofs.OfOrder.Each.{Each}
use Rattle.atspi_trace_laws.proofs.OfOrder.Growing.{And, Shaped}
use Rattle.atspi_trace_laws.proofs.OfOrder.Shape.{Shape}
use Rattle.atspi_trace_laws.proofs.OfSteps.LawSteps.{Below, Stepped, steps_keep, steps_apply}
use Rattle.atspi_trace_laws.proofs.OfSteps.Steps.{TreeIs}
use Rattle.atspi_trace_laws.proofs.OfHeld.Keeping.{ReaderIs, SameKept}
use Rattle.atspi_trace_laws.proofs.OfHeld.LawHeld.{Below_held, Holds, holds_keep}
use Rattle.atspi_trace_laws.proofs.OfViews.LawViews.{trees_stand}
use Rattle.atspi_trace.specs.play.Playing.{held_by, unique_in, view_rows}
use Rattle.atspi_trace_played.proofs.AllPieces.{pieces}
use Rattle.atspi_trace_played.proofs.Facts.{Ground}
use Rattle.atspi_trace_played.proofs.Playing.{played_stage}
use Rattle.atspi_trace_played.proofs.PlayingStage.{Stage, ground}
use Rattle.atspi_world_parties.specs.Places.{post_of}
use Rattle.atspi_world_parties.specs.Shown.{row_total, shown_by}
use Rattle.atspi_world_parties.specs.Wires.{name_if}
use Rattle.atspi_world.specs.Worlds.{Staged}
use Rattle.atspi_run_replay.specs.Made.{tree_told}
use Rattle.atspi_run_replay.specs.inner.Made.{AreSeen, HasPlayed}
use Rattle.atspi_run_replay.proofs.Numbering.{first_app, first_reader}
use Rattle.atspi_run_replay.proofs.TreesTold.{ComesAfter, all_entries}

-- the stage of the proof that what was played is lawful
staged : (lines : List Line) (s : Staged) (h : HasPlayed lines s) → Stage (lines ++ []) (entries_of s.trace) h.now resting []
staged lines s h = played_stage pieces lines (entries_of s.trace) h.now h.played [] (subst CanAllStand (sym (append-nil lines)) h.can)

grounds : (lines : List Line) (s : Staged) (h : HasPlayed lines s) → Ground (lines ++ []) (entries_of s.trace) h.now.world None
grounds lines s h = ground (lines ++ []) (entries_of s.trace) h.now resting [] (staged lines s h)

-- the connection of a party has its end's name
post_found : (ends : List End) (who : Party) → post_of who (map carried.post_of ends) ≡ option_map carried.post_of (find (λ (e : End). same_party e.who who) ends)
post_found [] who = refl
post_found (e ∷ ends) who = by (same_party e.who who) (post_found ends who)
  where
    by : (b : Bool) → post_of who (map carried.post_of ends) ≡ option_map carried.post_of (find (λ (x : End). same_party x.who who) ends)
        → cond b (Some (carried.post_of e)) (post_of who (map carried.post_of ends)) ≡ option_map carried.post_of (cond b (Some e) (find (λ (x : End). same_party x.who who) ends))
    by true rest = refl
    by false rest = rest

slice_past : {X : Type 0} (xs : List X) (n : ℕ) → length xs ≤ n → None ≡ slice_get xs n
slice_past [] n h = refl
slice_past (x ∷ xs) zero h = absurd (omega arith)
slice_past (x ∷ xs) (suc n) h = slice_past xs n (omega arith)

end_found : (ends : List End) (who : Party) → find (λ (e : End). same_party e.who who) ends ≡ end_of ends who
end_found ends who = find_at (λ (e : End). same_party e.who who) ends ∙ by (nat_lt (position_or_len (λ (e : End). same_party e.who who) ends) (length ends)) refl
  where
    by : (b : Bool) → nat_lt (position_or_len (λ (e : End). same_party e.who who) ends) (length ends) ≡ b
        → slice_get ends (position_or_len (λ (e : End). same_party e.who who) ends) ≡ end_if ends (cond b (Some (position_or_len (λ (e : End). same_party e.who who) ends)) None)
    by true e = refl
    by false e = sym (slice_past ends (position_or_len (λ (e : End). same_party e.who who) ends) (ltb-false (position_or_len (λ (e : End). same_party e.who who) ends) (length ends) e))

named : (o : Option End) → name_if (option_map carried.post_of o) ≡ unique_in o
named None = refl
named (Some e) = refl

name_found : (ends : List End) (who : Party) → name_if (post_of who (map carried.post_of ends)) ≡ unique_in (end_of ends who)
name_found ends who = ap name_if (post_found ends who) ∙ named (find (λ (e : End). same_party e.who who) ends) ∙ ap unique_in (end_found ends who)

-- a tree's shape has its root
shape_root : (t : TreeShape) → IsLawful t → has (is_shape 0) t.rows ≡ true
shape_root t lawful = by lawful.rooted.0 lawful.rooted.1 lawful.rooted.2 lawful.rooted.3
  where
    by : (row : ShapeRow) (children : Forest ShapeRow) → row.node ≡ 0 → t.rows ≡ tree row children nil → has (is_shape 0) t.rows ≡ true
    by row children zero_ is = ap (has (is_shape 0)) is ∙ ap (λ b. cond b true (cond (has (is_shape 0) children) true false)) (eq-eqb row.node 0 zero_)

module _ (lines : List Line) (s : Staged) (h : HasPlayed lines s) where
  abbrev es : List Entry
  es = entries_of s.trace

  abbrev w : World
  w = h.now.world

  steps_kept : Shaped (And Below Stepped) es w None
  steps_kept = (grounds lines s h).kept (Shaped (And Below Stepped)) steps_keep

  shape : Shape w
  shape = steps_kept.0

  -- EACH END OF A KIND HAS A NUMBER BELOW THEIR COUNT
  apps_low : (ends : List End) (n : ℕ) → ((k a : ℕ) (e : End) → end_at ends k ≡ Some e → e.who ≡ App a → a < n) → AllByRecursion (λ (e : End). is_app e.who ≡ true → number_of e.who < n) ends
  apps_low [] n f = tt
  apps_low (x ∷ xs) n f = (by x.who refl, apps_low xs n (λ k a e there who. f (suc k) a e there who))
    where
      by : (p : Party) → x.who ≡ p → is_app p ≡ true → number_of p < n
      by (App a) e t = f 0 a x refl e
      by p e t = absurd cc

  readers_low : (ends : List End) (n : ℕ) → ((k r : ℕ) (e : End) → end_at ends k ≡ Some e → e.who ≡ Reader r → r < n) → AllByRecursion (λ (e : End). is_reader e.who ≡ true → number_of e.who < n) ends
  readers_low [] n f = tt
  readers_low (x ∷ xs) n f = (by x.who refl, readers_low xs n (λ k a e there who. f (suc k) a e there who))
    where
      by : (p : Party) → x.who ≡ p → is_reader p ≡ true → number_of p < n
      by (Reader a) e t = f 0 a x refl e
      by p e t = absurd cc

  -- the end of a party that has a connection
  end_known : (who : Party) (conn : ℕ) → conn_of w.ends who ≡ Some conn → (e : End) × (end_at w.ends conn ≡ Some e) × (e.who ≡ who) × (end_of w.ends who ≡ Some e)
  end_known who conn at =
      let f = found (λ (e : End). same_party e.who who) w.ends conn at in
      (f.0, f.1, same-party f.0.who who f.2, ap (end_if w.ends) at ∙ f.1)

  app_known : 0 < length s.apps → (conn : ℕ) × (conn_of w.ends (App 0) ≡ Some conn)
  app_known some = first_app w.ends h.is.is.apart.1 (apps_low w.ends (app_count w.ends) shape.apps) (subst (λ n. 0 < n) (sym h.is.is.apps_are) some)

  reader_known : 0 < length s.readers → (conn : ℕ) × (conn_of w.ends (Reader 0) ≡ Some conn)
  reader_known some = first_reader w.ends h.is.is.apart.1 (readers_low w.ends (reader_count w.ends) shape.readers) (subst (λ n. 0 < n) (sym h.is.is.readers_are) some)

  -- THE TREE OF THE FIRST APPLICATION IS THAT WHICH THE TRACE TELLS
  abbrev shape_with : Forest TreeRow → ℕ → TreeShape
  shape_with f n = record { rows = shape_of f; added = n }

  pub tree_is : (x : Exporter) → slice_get s.apps 0 ≡ Some x → (shape_seen x ≡ tree_told es) × IsTree rows (live_tree es 0) (added es 0)
  tree_is x is =
      let a = app_known (slice_get_within s.apps 0 x is) in
      let f = end_known (App 0) a.0 a.1 in
      let p = h.is.is.apps_play 0 f.0 f.3 in
      let same : p.player ≡ x = same_some p.player x (sym p.there ∙ is) in
      let t : TreeIs es 0 p.player = steps_kept.1.1.1 a.0 0 f.0 p.player f.1 f.2 p.plays.role_is in
      let u : TreeIs es 0 x = subst (TreeIs es 0) same t in (
        ap (λ g. shape_with g x.added) u.tree ∙ ap (shape_with (live_tree es 0)) u.count,
        subst (λ g. IsTree rows g (added es 0)) u.tree (subst (IsTree rows x.tree) u.count u.is),
      )

  -- WHAT WAS SEEN OF ITS NODES CAN BE FOLLOWED
  laws_at : (Law : List Entry → Entry → List Entry → Type 0) → Everywhere Law es → (early more : List Entry) → es ≡ early ++ more → Each Law early more
  laws_at Law ev early [] so = tt
  laws_at Law ev early (x ∷ more) so = (ev early x more so, laws_at Law ev (early ++ x ∷ []) more (so ∙ sym (append_assoc early (x ∷ []) more)))

  pub can_follow : (seen : List ℕ) (next : ℕ) → AreSeen seen next es → CanFollow seen next (tree_told es)
  can_follow seen next (inl any) = any (tree_told es)
  can_follow seen next (inr x) =
      let g = grounds lines s h in
      let root : has (is_node 0) (live_tree x.early 0) ≡ true = sym (shape-has 0 (live_tree x.early 0)) ∙ shape_root (tree_told x.early) x.is_tree in
      let c : ComesAfter (live_tree x.early 0) (live_tree (x.early ++ x.more) 0) (added x.early 0) (added (x.early ++ x.more) 0) =
      all_entries 0 x.early x.more root (laws_at StepIsOne (steps_apply (lines ++ []) es g.can g.goes) x.early x.more x.so) (laws_at StepsOnTree (trees_stand (lines ++ []) es g.can g.goes) x.early x.more x.so) in
      follow_on (tree_told x.early) (tree_told es) seen next x.live x.below
      (λ m low there. shape-has m (live_tree x.early 0) ∙ c.back m low (ap (λ l. has (is_node m) (live_tree l 0)) (sym x.so) ∙ sym (shape-has m (live_tree es 0)) ∙ there))

  pub seen_now : (seen : List ℕ) (next : ℕ) (t : TreeShape) → IsTree rows (live_tree es 0) (added es 0) → t ≡ tree_told es → seen ≡ live_nodes t → next ≡ t.added + 1 → AreSeen seen next es
  seen_now seen next t is_tree is live below = inr record {
    early = es;
    more = [];
    so = sym (append-nil es);
    is_tree = shape_is_tree (live_tree es 0) (added es 0) is_tree;
    live = live ∙ ap live_nodes is;
    below = below ∙ ap (λ (x : TreeShape). x.added + 1) is;
  }

  -- WHAT THE FIRST READER HAS OF IT
  rows_same : (k : Option Kept) (o : Option Holding) → SameKept es 0 k o → rows_held o ≡ rows_due es 0 k
  rows_same None None same = refl
  rows_same (Some k) (Some o) same =
      ap (λ t. Some (shown_rows (view (told_in t) o.tree))) (sym same.told) ∙ ap (λ f. Some (shown_rows (view (told_in k.told) f))) (sym (ap (as_of es 0) same.last ∙ same.tree))
  rows_same None (Some o) same = absurd same
  rows_same (Some k) None same = absurd same

  holds : Holds es w
  holds = ((grounds lines s h).kept (Shaped (And Below_held Holds)) holds_keep).1.1

  name_is : name_if (post_of (App 0) s.posts) ≡ unique_in (end_of w.ends (App 0))
  name_is = ap (λ posts. name_if (post_of (App 0) posts)) h.is.is.carried.posts_are ∙ name_found w.ends (App 0)

  pub rows_are : (o : Option ReaderState) → slice_get s.readers 0 ≡ o → row_total (shown_by o (name_if (post_of (App 0) s.posts))) ≡ row_total (rows_due es 0 (held es 0 0))
  rows_are None none =
      let few : reader_count w.ends ≤ 0 = subst (λ n. n ≤ 0) (sym h.is.is.readers_are) (none_within s.readers none) in
      nothing (name_if (post_of (App 0) s.posts)) ∙ ap (λ k. row_total (rows_due es 0 k)) (sym (holds.2 0 few 0))
    where
      nothing : (name : Option (List ℕ)) → row_total (shown_by None name) ≡ 0
      nothing None = refl
      nothing (Some name) = refl

      none_within : (xs : List ReaderState) → slice_get xs 0 ≡ None → length xs ≤ 0
      none_within [] g = omega arith
      none_within (x ∷ xs) g = absurd cc
  rows_are (Some r) there =
      let a = reader_known (slice_get_within s.readers 0 r there) in
      let f = end_known (Reader 0) a.0 a.1 in
      let o = (staged lines s h).tied.tied a.0 0 f.0 f.1 f.2 in
      let state : r ≡ o.2.0 = same_some r o.2.0 (sym there ∙ ap (λ l. slice_get l 0) h.is.readers ∙ o.2.1) in
      let due = (pieces.shows_due (lines ++ []) es w a.0 0 0 f.0 o.0 o.2.0 (grounds lines s h) f.1 f.2 o.1 o.2.2).0 in
      let is : ReaderIs es 0 o.0 = holds.1 a.0 0 f.0 o.0 f.1 f.2 o.1 in
      ap (λ n. row_total (shown_by (Some r) n)) name_is
      ∙ ap (λ x. row_total (view_rows (held_by (Some x) (unique_in (end_of w.ends (App 0)))))) state
      ∙ ap row_total (due ∙ rows_same (held es 0 0) (holding_of 0 o.0.holds) (is.holds 0))

-- the tree that the first of some applications lends
pub lent : {A : Type 0} (exporter : A → Exporter) (apps : List A) (app : A) (t : TreeShape) (lines : List Line) (s : Staged) → HasPlayed lines s → s.apps ≡ map exporter apps → Some app ≡ slice_get apps 0 → t ≡ shape_seen (exporter app)
    → (t ≡ tree_told (entries_of s.trace)) × IsTree rows (live_tree (entries_of s.trace) 0) (added (entries_of s.trace) 0)
lent exporter apps app t lines s h are first is =
    let x = tree_is lines s h (exporter app) (ap (λ l. slice_get l 0) are ∙ get-map exporter apps 0 ∙ ap (option_map exporter) (sym first)) in
    (is ∙ x.0, x.1)
