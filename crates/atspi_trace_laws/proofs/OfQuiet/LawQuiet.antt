-- Where a lawful trace tells that nothing waits, each live reader holds each live application as it is.
use Rattle.std.proofs.Common.{◌≡◌, inl, inr, ℕ, zero, suc, Bool, true, false, List, [], ◌∷◌, ◌++◌, Option, None, Some, refl, sym, ap, ◌∙◌, subst}
use Rattle.std.specs.Prelude.{◌||◌, ◌&&◌, not}
use Rattle.std.specs.List.{AllByRecursion, list_any}
use Rattle.std.proofs.lemmas.List.{append-nil}
use Rattle.atspi_tree_model.specs.Forest.{Forest, labels}
use Rattle.atspi_tree_model.specs.Row.{TreeRow}
use Rattle.atspi_tree_model.specs.View.{view}
use Rattle.atspi_script_lines.specs.declared.line.Line.{Line}
use Rattle.atspi_script_lines.specs.declared.line.Party.{Party}
use Rattle.atspi_script_lines.specs.declared.line.Party.TheVariants.{Bus as The_bus, Registry, App, Reader}
use Rattle.atspi_protocol.specs.exporting.Exporter.{Exporter}
use Rattle.atspi_protocol.specs.following.Wishes.{unknown_parts}
use Rattle.atspi_trace.specs.Entry.{Entry, quiet}
use Rattle.atspi_trace.specs.World.{here, an_application, a_reader, Holding, Hearer, End, World}
use Rattle.atspi_trace.specs.Ends.{same_party, number_of, end_at}
use Rattle.atspi_trace.specs.Hearing.{holding_of}
use Rattle.atspi_trace.specs.Causes.{told_in}
use Rattle.atspi_trace.specs.Due.{first_entry, due, Scene, begins, at_work, after_all, HoldsWell, Follows, FollowsAll, IsSettled, Stands, Goes}
use Rattle.atspi_trace_laws.specs.laws.Words.{live_tree, messages, message, with_serial, as_of, Kept, held, starts_it, stops_it, is_live}
use Rattle.atspi_trace_laws.specs.laws.NineLaws.{IsAsNow, KnowsAll, LawOfQuiet}
use Rattle.atspi_trace_laws.specs.order.Scripts.{CanAllStand}
use Rattle.atspi_trace_laws.proofs.OfOrder.Parties.{no_none, same_some, false_true}
use Rattle.atspi_trace_laws.proofs.OfOrder.Shape.{RoleFits, Shape}
use Rattle.atspi_trace_laws.proofs.OfOrder.Effects.{app_role, reader_role}
use Rattle.atspi_trace_laws.proofs.OfOrder.Along.{Keeps, kept, at_work_fine}
use Rattle.atspi_trace_laws.proofs.OfOrder.Growing.{Shaped, Nothing, And}
use Rattle.atspi_trace_laws.proofs.OfOrder.Told.{Tells}
use Rattle.atspi_trace_laws.proofs.OfOrder.Acts.{IsActive}
use Rattle.atspi_trace_laws.proofs.OfSerials.Serial.{messages_more}
use Rattle.atspi_trace_laws.proofs.OfSteps.Trees.{tree_more}
use Rattle.atspi_trace_laws.proofs.OfSteps.Steps.{Trees}
use Rattle.atspi_trace_laws.proofs.OfSteps.LawSteps.{Below, Stepped, steps_keep}
use Rattle.atspi_trace_laws.proofs.OfTaken.Found.{front_more}
use Rattle.atspi_trace_laws.proofs.OfHeld.Keeping.{held_more, SameKept, ReaderIs}
use Rattle.atspi_trace_laws.proofs.OfHeld.LawHeld.{Below_held, Holds, holds_keep}
use Rattle.atspi_trace_laws.proofs.OfLost.Alive.{registry_lives}
use Rattle.atspi_trace_laws.proofs.OfLaws.One.{fronts, quiet_settled}
use Rattle.atspi_trace_laws.proofs.OfQuiet.Here.{Present, LiveHere, present_keeps}
use Rattle.atspi_trace_laws.proofs.OfQuiet.Alone.{Alone, work_alone, always_alone}

-- what holds of each end holds of one
all_at : (P : End → Type 0) (ends : List End) (k : ℕ) (e : End) → AllByRecursion P ends → end_at ends k ≡ Some e → P e
all_at P [] k e a h = absurd (no_none e h)
all_at P (x ∷ xs) zero e a h = subst P (same_some x e h) a.0
all_at P (x ∷ xs) (suc k) e a h = all_at P xs k e a.1 h

-- what is owed, where it is told that nothing waits
only_quiet : (l : List Entry) → first_entry l ≡ Some quiet → Alone l → l ≡ quiet ∷ []
only_quiet [] h a = absurd (no_none quiet h)
only_quiet (x ∷ l) h a =
    let first : x ≡ quiet = same_some x quiet h in
    let none : l ≡ [] = subst (λ y. Alone (y ∷ l)) first a in
    ap (λ y. y ∷ l) first ∙ ap (λ z. quiet ∷ z) none

due_quiet : (s : Scene) → Stands s quiet → due s ≡ Some quiet
due_quiet s (inl d) = d.next
due_quiet s (inr own) = absurd own

-- who is live stays so
live_quiet : (es : List Entry) (who : Party) → is_live es who ≡ true → is_live (es ++ quiet ∷ []) who ≡ true
live_quiet es who h =
    ap (λ b. (same_party who Registry || b) && not (list_any (stops_it who) (es ++ quiet ∷ []))) (any_quiet (starts_it who) es refl)
    ∙ ap (λ b. (same_party who Registry || list_any (starts_it who) es) && not b) (any_quiet (stops_it who) es refl) ∙ h
  where
    any_quiet : (p : Entry → Bool) (es : List Entry) → p quiet ≡ false → list_any p (es ++ quiet ∷ []) ≡ list_any p es
    any_quiet p [] g = ap (λ b. b || false) g
    any_quiet p (x ∷ xs) g = ap (λ b. p x || b) (any_quiet p xs g)

module _ (es : List Entry) (w : World) (s : Shape w) (live : LiveHere (es ++ quiet ∷ []) w) (trees : Trees (es ++ quiet ∷ []) w) (readers : (k r : ℕ) (e : End) (h : Hearer) → end_at w.ends k ≡ Some e → e.who ≡ Reader r → e.role ≡ a_reader h → ReaderIs (es ++ quiet ∷ []) r h)
    (settled : IsSettled w) (registry : is_live es Registry ≡ true) where
  abbrev pub now : List Entry
  now = es ++ quiet ∷ []

  same_messages : (a : ℕ) → messages now (App a) ≡ messages es (App a)
  same_messages a = messages_more es (quiet ∷ []) (App a) ∙ append-nil (messages es (App a))

  -- what is held of it
  as_now : (reader app : ℕ) (its_tree : Forest TreeRow) (o : Option Holding) → live_tree es app ≡ its_tree → HoldsWell its_tree o → (k : Option Kept) → held es reader app ≡ k → SameKept now app k o → (x : Kept) × (held es reader app ≡ Some x) × IsAsNow es app x
  as_now reader app its_tree None live well k is same = absurd well
  as_now reader app its_tree (Some hk) live well None is same = absurd same
  as_now reader app its_tree (Some hk) live well (Some x) is same = (x, is, record { same = views; known = known })
    where
      was : message es (App app) hk.last ≡ Some same.first
      was = sym (ap (with_serial hk.last) (same_messages app)) ∙ same.was

      tree_then : as_of es app x.last ≡ hk.tree
      tree_then = ap (as_of es app) same.last ∙ sym (ap (λ l. live_tree l app) (front_more es (quiet ∷ []) (App app) hk.last same.first was)) ∙ same.tree

      views : view (told_in x.told) (as_of es app x.last) ≡ view (told_in x.told) (live_tree es app)
      views =
          ap (view (told_in x.told)) tree_then ∙ ap (λ t. view (told_in t) hk.tree) same.told ∙ well.same
          ∙ ap (λ t. view (told_in t) its_tree) (sym same.told) ∙ ap (view (told_in x.told)) (sym live)

      known : AllByRecursion (λ row. unknown_parts row ≡ []) (labels (view (told_in x.told) (live_tree es app)))
      known =
          subst (λ v. AllByRecursion (λ row. unknown_parts row ≡ []) (labels v)) (well.same ∙ ap (λ t. view (told_in t) its_tree) (sym same.told) ∙ ap (view (told_in x.told)) (sym live)) well.known

  knows : (reader app : ℕ) → is_live es (Reader reader) ≡ true → is_live es (App app) ≡ true → (k : Kept) × (held es reader app ≡ Some k) × IsAsNow es app k
  knows reader app reader_live app_live =
      as_now reader app a_tree (holding_of app hearer.0.holds) tree_is well (held es reader app) refl
      (subst (λ k. SameKept now app k (holding_of app hearer.0.holds)) (held_more es (quiet ∷ []) reader app) ((readers r.conn reader r.e hearer.0 r.there r.whose hearer.1).holds app))
    where
      r : IsActive w (Reader reader)
      r = live (Reader reader) (λ h. false_true (ap (λ p. same_party p The_bus) h)) (live_quiet es Registry registry) (live_quiet es (Reader reader) reader_live)

      a : IsActive w (App app)
      a = live (App app) (λ h. false_true (ap (λ p. same_party p The_bus) h)) (live_quiet es Registry registry) (live_quiet es (App app) app_live)

      hearer : (h : Hearer) × (r.e.role ≡ a_reader h)
      hearer = reader_role r.e.role reader (subst (λ p. RoleFits p r.e.role) r.whose (s.roles r.conn r.e r.there))

      exporter : (x : Exporter) × (a.e.role ≡ an_application x)
      exporter = app_role a.e.role app (subst (λ p. RoleFits p a.e.role) a.whose (s.roles a.conn a.e a.there))

      a_tree : Forest TreeRow
      a_tree = exporter.0.tree

      tree_is : live_tree es app ≡ exporter.0.tree
      tree_is = sym (tree_same es) ∙ sym (trees a.conn app a.e exporter.0 a.there a.whose exporter.1).tree
        where
          tree_same : (l : List Entry) → live_tree (l ++ quiet ∷ []) app ≡ live_tree l app
          tree_same l = tree_more app l (quiet ∷ [])

      of_reader : FollowsAll w.ends here (a_reader hearer.0)
      of_reader =
          subst (λ x. FollowsAll w.ends x (a_reader hearer.0)) r.standing
          (subst (λ x. FollowsAll w.ends r.e.standing x) hearer.1 (all_at (λ (e : End). FollowsAll w.ends e.standing e.role) w.ends r.conn r.e settled r.there))

      of_app : Follows hearer.0 (number_of a.e.who) a.e.standing a.e.role
      of_app = all_at (λ (e : End). Follows hearer.0 (number_of e.who) e.standing e.role) w.ends a.conn a.e of_reader a.there

      well : HoldsWell exporter.0.tree (holding_of app hearer.0.holds)
      well =
          subst (λ p. Follows hearer.0 (number_of p) here (an_application exporter.0)) a.whose
          (subst (λ x. Follows hearer.0 (number_of a.e.who) x (an_application exporter.0)) a.standing (subst (λ x. Follows hearer.0 (number_of a.e.who) a.e.standing x) exporter.1 of_app))

at_quiet : (lines : List Line) (before behind : List Entry) → CanAllStand lines → Goes (begins lines) (before ++ quiet ∷ behind) → is_live before Registry ≡ true → KnowsAll before quiet behind
at_quiet lines before behind a g registry reader app reader_live app_live =
    knows before t.world shape live trees readers (quiet_settled (begins lines) before behind g) registry reader app reader_live app_live
  where
    s : Scene
    s = after_all (begins lines) before

    t : Scene
    t = at_work s

    parts : Goes (begins lines) before × Goes s (quiet ∷ behind)
    parts = (fronts (begins lines) before (quiet ∷ behind)).0 g

    owed : t.owing ≡ quiet ∷ []
    owed = only_quiet t.owing (due_quiet s parts.1.0) (work_alone s (always_alone lines before))

    state : (Inv : List Entry → World → Option ℕ → Type 0) → Keeps Inv → Inv (before ++ quiet ∷ []) t.world t.free
    state Inv k = subst (λ l. Inv (before ++ l) t.world t.free) owed (at_work_fine Inv k before s s.owing refl (kept Inv k lines before a parts.0)).state

    present : Shaped (And (And Nothing Tells) Present) (before ++ quiet ∷ []) t.world t.free
    present = state (Shaped (And (And Nothing Tells) Present)) present_keeps

    shape : Shape t.world
    shape = present.0

    live : LiveHere (before ++ quiet ∷ []) t.world
    live = present.1.1.1

    trees : Trees (before ++ quiet ∷ []) t.world
    trees = (state (Shaped (And Below Stepped)) steps_keep).1.1.1

    readers : (k r : ℕ) (e : End) (h : Hearer) → end_at t.world.ends k ≡ Some e → e.who ≡ Reader r → e.role ≡ a_reader h → ReaderIs (before ++ quiet ∷ []) r h
    readers = (state (Shaped (And Below_held Holds)) holds_keep).1.1.1

knows_at : (lines : List Line) (before : List Entry) (entry : Entry) (behind : List Entry) → CanAllStand lines → Goes (begins lines) (before ++ entry ∷ behind) → is_live before Registry ≡ true → KnowsAll before entry behind
knows_at lines before quiet behind a g registry = at_quiet lines before behind a g registry
knows_at lines before entry behind a g registry = tt

pub quiet_law : (lines : List Line) (trace : List Entry) → CanAllStand lines → Goes (begins lines) trace → LawOfQuiet trace
quiet_law lines trace a g before entry behind h =
    knows_at lines before entry behind a (subst (Goes (begins lines)) h g) (registry_lives lines trace a g before entry behind h)
