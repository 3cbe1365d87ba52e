-- WHERE A LINE ENDS WITH NOTHING WAITING each live reader holds each live application as it is now, with every part known.
use Rattle.std.proofs.Common.{◌≡◌, ℕ, zero, suc, Bool, true, false, List, [], ◌∷◌, ◌++◌, length, Option, None, Some, refl, sym, ap, ap₂, ◌∙◌, subst, arith}
use Rattle.std.proofs.Math.Path.{fun_ext}
use Rattle.std.specs.Prelude.{◌&&◌, ◌||◌, not, bytes_eq}
use Rattle.std.specs.List.{AllByRecursion}
use Rattle.atspi_tree_model.specs.declared.view.Part.{Part}
use Rattle.atspi_tree_model.specs.declared.view.NumPart.{NumPart}
use Rattle.atspi_tree_model.specs.Forest.{Forest, nil, tree, labels}
use Rattle.atspi_tree_model.specs.Row.{TreeRow}
use Rattle.atspi_tree_model.specs.Path.{path_of}
use Rattle.atspi_tree_model.specs.View.{Told, text_part, number_part, characters_of, caret_of, shown, view}
use Rattle.atspi_script_lines.specs.declared.line.Party.{Party}
use Rattle.atspi_script_lines.specs.declared.line.Party.TheVariants.{Bus as The_bus, Registry, App, Reader}
use Rattle.atspi_protocol.specs.exporting.Exporter.{Exporter}
use Rattle.atspi_protocol.specs.declared.news.part.PartName.{PartName}
use Rattle.atspi_protocol.specs.declared.news.part.PartName.TheVariants.{Text, Caret, Columns}
use Rattle.atspi_protocol.specs.following.Wishes.{same_part, is_refused, text_is_unknown, number_is_unknown, unknown_if, unknown_parts}
use Rattle.atspi_trace.specs.Entry.{Entry}
use Rattle.atspi_trace.specs.World.{here as stands_here, an_application, a_reader, Holding, Hearer, End, World}
use Rattle.atspi_trace.specs.Ends.{same_party, number_of, end_at}
use Rattle.atspi_trace.specs.Hearing.{holding_of}
use Rattle.atspi_trace.specs.Causes as causes
use Rattle.atspi_trace.specs.Due as due
use Rattle.atspi_trace.specs.Due.{HoldsWell, FollowsAll, IsSettled}
use Rattle.atspi_trace.specs.Work.{Work}
use Rattle.atspi_headline.specs.Words as here
use Rattle.atspi_headline.specs.Words.{Act, entries_in, ends, Held, held_of, Unless}
use Rattle.atspi_headline.specs.Headline.{all_told, IsNow, Follows, AllFollow}
use Rattle.atspi_trace_laws.specs.laws.Words as told
use Rattle.atspi_trace_laws.specs.laws.Words.{Kept}
use Rattle.atspi_trace_laws.specs.serials.Laws.{HasNextNumber}
use Rattle.atspi_trace_laws.proofs.OfOrder.Parties.{no_none, same_some, false_true}
use Rattle.atspi_trace_laws.proofs.OfOrder.BusWords.{all_any}
use Rattle.atspi_trace_laws.proofs.OfOrder.Shape.{RoleFits, Shape}
use Rattle.atspi_trace_laws.proofs.OfOrder.Effects.{app_role, reader_role}
use Rattle.atspi_trace_laws.proofs.OfOrder.Growing.{Shaped, And}
use Rattle.atspi_trace_laws.proofs.OfOrder.Each.{Each}
use Rattle.atspi_trace_laws.proofs.OfOrder.Acts.{IsActive}
use Rattle.atspi_trace_laws.proofs.OfSteps.Steps.{Trees}
use Rattle.atspi_trace_laws.proofs.OfSteps.LawSteps.{Below, Stepped, steps_keep}
use Rattle.atspi_trace_laws.proofs.OfSerials.Numbers.{Numbered}
use Rattle.atspi_trace_laws.proofs.OfSerials.LawNumbers.{numbers_keep}
use Rattle.atspi_trace_laws.proofs.OfHeld.Keeping.{SameKept, ReaderIs}
use Rattle.atspi_trace_laws.proofs.OfHeld.LawHeld.{Below_held, Holds, holds_keep}
use Rattle.atspi_trace_laws.proofs.OfOwn.Writing.{Lives}
use Rattle.atspi_headline_laws.proofs.Ran.{Ran}
use Rattle.atspi_headline_laws.proofs.Keeping.{kept_along, shape_along}
use Rattle.atspi_headline_laws.proofs.Reading.{tree_told, as_of_told}
use Rattle.atspi_headline_laws.proofs.Numbering.{numbered}
use Rattle.atspi_headline_laws.proofs.Holding.{as_kept, held_told}
use Rattle.atspi_headline_quiet.proofs.Living.{live_is_here, and_left, and_right}

-- A VIEW WITHOUT AN UNKNOWN PART is the whole view
text_known : (b : Bool) (o : Option (List ℕ)) → text_is_unknown (text_part b o) ≡ false → text_part b o ≡ text_part true o
text_known b None h = refl
text_known true (Some x) h = refl
text_known false (Some x) h = absurd (false_true (sym h))

number_known : (b : Bool) (o : Option ℕ) → number_is_unknown (number_part b o) ≡ false → number_part b o ≡ number_part true o
number_known b None h = refl
number_known true (Some x) h = refl
number_known false (Some x) h = absurd (false_true (sym h))

no_part : (part : PartName) (parts : List PartName) → part ∷ parts ≡ [] → ⊥
no_part part parts h = absurd (omega (arith, ap length h))

nothing_unknown : (a b c : Bool) → unknown_if a Text ++ (unknown_if b Caret ++ unknown_if c Columns) ≡ [] → (a ≡ false) × (b ≡ false) × (c ≡ false)
nothing_unknown false false false h = (refl, refl, refl)
nothing_unknown true b c h = absurd (no_part Text (unknown_if b Caret ++ unknown_if c Columns) h)
nothing_unknown false true c h = absurd (no_part Caret (unknown_if c Columns) h)
nothing_unknown false false true h = absurd (no_part Columns [] h)

row_known : (parts : List ℕ → Told) (row : TreeRow) → unknown_parts (shown parts row) ≡ [] → shown parts row ≡ shown all_told row
row_known parts row h =
    let path : List ℕ = path_of row.shape.node in
    let k = nothing_unknown (text_is_unknown (text_part (parts path).text (characters_of row.contents.text))) (number_is_unknown (number_part (parts path).caret (caret_of row.contents.text))) (number_is_unknown (number_part (parts path).columns row.contents.columns)) h in
    ap₂ (λ (t : Part) (n : NumPart). record (shown parts row) { text = t; caret = n })
    (text_known (parts path).text (characters_of row.contents.text) k.0) (number_known (parts path).caret (caret_of row.contents.text) k.1)
    ∙ ap (λ (n : NumPart). record (shown all_told row) { columns = n }) (number_known (parts path).columns row.contents.columns k.2)

all_of : {X : Type 0} (P : X → Type 0) (xs ys : List X) → AllByRecursion P (xs ++ ys) → AllByRecursion P xs × AllByRecursion P ys
all_of P [] ys a = (tt, a)
all_of P (x ∷ xs) ys a = let r = all_of P xs ys a.1 in ((a.0, r.0), r.1)

all_known : (parts : List ℕ → Told) (f : Forest TreeRow) → AllByRecursion (λ row. unknown_parts row ≡ []) (labels (view parts f)) → view parts f ≡ view all_told f
all_known parts nil a = refl
all_known parts (tree row children rest) a =
    let r = all_of (λ row. unknown_parts row ≡ []) (labels (view parts children)) (labels (view parts rest)) a.1 in
    ap (λ x. tree x (view parts children) (view parts rest)) (row_known parts row a.0)
    ∙ ap₂ (λ x y. tree (shown all_told row) x y) (all_known parts children r.0) (all_known parts rest r.1)

-- what was told, in the words of the headline and in those of the trace
part_same : (part other : PartName) → here.is_part part other ≡ same_part part other
part_same Text Text = refl
part_same Text Caret = refl
part_same Text Columns = refl
part_same Caret Text = refl
part_same Caret Caret = refl
part_same Caret Columns = refl
part_same Columns Text = refl
part_same Columns Caret = refl
part_same Columns Columns = refl

told_same : (parts : List (List ℕ × PartName)) (path : List ℕ) (part : PartName) → here.is_told parts path part ≡ is_refused parts path part
told_same [] path part = refl
told_same (t ∷ parts) path part = ap₂ (λ a b. (bytes_eq t.0 path && a) || b) (part_same t.1 part) (told_same parts path part)

in_same : (parts : List (List ℕ × PartName)) (path : List ℕ) → here.told_in parts path ≡ causes.told_in parts path
in_same parts path =
    ap₂ (λ (a b : Bool). record { text = a; caret = b; columns = here.is_told parts path Columns }) (told_same parts path Text) (told_same parts path Caret)
    ∙ ap (λ (c : Bool). record { text = is_refused parts path Text; caret = is_refused parts path Caret; columns = c }) (told_same parts path Columns)

-- what holds of each end holds of one
all_at : (P : End → Type 0) (es : List End) (k : ℕ) (e : End) → AllByRecursion P es → end_at es k ≡ Some e → P e
all_at P [] k e a h = absurd (no_none e h)
all_at P (x ∷ xs) zero e a h = subst P (same_some x e h) a.0
all_at P (x ∷ xs) (suc k) e a h = all_at P xs k e a.1 h

-- WHAT IS HELD of an application
module _ (run : List Act) (w : World) (free : Option ℕ) (at : Option Work) (r : Ran run w free at) (live : Lives (entries_in run)) (settled : IsSettled w) where
  abbrev es : List Entry
  es = entries_in run

  shape : Shape w
  shape = shape_along run w free at r

  trees : Trees es w
  trees = (kept_along (Shaped (And Below Stepped)) steps_keep run w free at r).1.1.1

  readers : (k q : ℕ) (e : End) (h : Hearer) → end_at w.ends k ≡ Some e → e.who ≡ Reader q → e.role ≡ a_reader h → ReaderIs es q h
  readers = (kept_along (Shaped (And Below_held Holds)) holds_keep run w free at r).1.1.1

  numbers : Each HasNextNumber [] es
  numbers = (kept_along (Shaped (And (And Below Stepped) Numbered)) numbers_keep run w free at r).1.1.0

  now_is : (app : ℕ) (held : Option Held) (k : Option Holding) (t : Forest TreeRow) → here.live_tree run app ≡ t → HoldsWell t k → SameKept es app (as_kept held) k → IsNow run app held
  now_is app (Some x) (Some h) t is well s =
      let then : here.as_of run app x.last ≡ h.tree = as_of_told run app x.last ∙ ap (told.as_of es app) s.last ∙ s.tree in
      let parts : here.told_in x.told ≡ causes.told_in h.told = fun_ext (λ path. in_same x.told path) ∙ ap causes.told_in s.told in
      ap₂ view parts then ∙ well.same
      ∙ all_known (causes.told_in h.told) t (subst (λ v. AllByRecursion (λ row. unknown_parts row ≡ []) (labels v)) well.same well.known)
      ∙ ap (view all_told) (sym is)
  now_is app held None t is well s = absurd well
  now_is app None (Some h) t is well s = absurd s

  follows_now : (reader app : ℕ) → IsActive w (Reader reader) → IsActive w (App app) → IsNow run app (held_of run reader app)
  follows_now reader app q a =
      now_is app (held_of run reader app) (holding_of app hearer.0.holds) exporter.0.tree tree_is well
      (subst (λ k. SameKept es app k (holding_of app hearer.0.holds)) (sym (held_told run reader app (numbered (Reader reader) tt es numbers) (numbered (App app) tt es numbers)))
      ((readers q.conn reader q.e hearer.0 q.there q.whose hearer.1).holds app))
    where
      hearer : (h : Hearer) × (q.e.role ≡ a_reader h)
      hearer = reader_role q.e.role reader (subst (λ p. RoleFits p q.e.role) q.whose (shape.roles q.conn q.e q.there))

      exporter : (x : Exporter) × (a.e.role ≡ an_application x)
      exporter = app_role a.e.role app (subst (λ p. RoleFits p a.e.role) a.whose (shape.roles a.conn a.e a.there))

      tree_is : here.live_tree run app ≡ exporter.0.tree
      tree_is = tree_told run app ∙ sym (trees a.conn app a.e exporter.0 a.there a.whose exporter.1).tree

      of_reader : FollowsAll w.ends stands_here (a_reader hearer.0)
      of_reader =
          subst (λ x. FollowsAll w.ends x (a_reader hearer.0)) q.standing
          (subst (λ x. FollowsAll w.ends q.e.standing x) hearer.1 (all_at (λ (e : End). FollowsAll w.ends e.standing e.role) w.ends q.conn q.e settled q.there))

      of_app : due.Follows hearer.0 (number_of a.e.who) a.e.standing a.e.role
      of_app = all_at (λ (e : End). due.Follows hearer.0 (number_of e.who) e.standing e.role) w.ends a.conn a.e of_reader a.there

      well : HoldsWell exporter.0.tree (holding_of app hearer.0.holds)
      well =
          subst (λ p. due.Follows hearer.0 (number_of p) stands_here (an_application exporter.0)) a.whose
          (subst (λ x. due.Follows hearer.0 (number_of a.e.who) x (an_application exporter.0)) a.standing (subst (λ x. due.Follows hearer.0 (number_of a.e.who) a.e.standing x) exporter.1 of_app))

  active : (who : Party) → same_party who The_bus ≡ false → here.is_live run who ≡ true → IsActive w who
  active who other h = live_is_here run w free at r live who (λ g. false_true (sym other ∙ ap (λ p. same_party p The_bus) g)) h

  follows : (p q : Party) → Follows run p q
  follows (Reader reader) (App app) = by (here.is_live run (Reader reader) && here.is_live run (App app)) refl
    where
      by : (b : Bool) → (here.is_live run (Reader reader) && here.is_live run (App app)) ≡ b → Unless (not b) (IsNow run app (held_of run reader app))
      by true h =
          follows_now reader app (active (Reader reader) refl (and_left (here.is_live run (Reader reader)) (here.is_live run (App app)) h))
          (active (App app) refl (and_right (here.is_live run (Reader reader)) (here.is_live run (App app)) h))
      by false h = tt
  follows (Reader reader) The_bus = tt
  follows (Reader reader) Registry = tt
  follows (Reader reader) (Reader other) = tt
  follows The_bus q = tt
  follows Registry q = tt
  follows (App app) q = tt

  pub all_follow : AllFollow run
  all_follow = all_any (λ p. AllByRecursion (λ q. Follows run p q) (ends run)) (λ p. all_any (λ q. Follows run p q) (follows p) (ends run)) (ends run)
