-- The law of steps holds of each front of a lawful trace.
use Rattle.std.proofs.Common.{◌≡◌, ◌⊎◌, inl, inr, ℕ, zero, suc, ◌<◌, ◌≤◌, ◌+◌, true, false, List, [], ◌∷◌, ◌++◌, length, Some, refl, sym, ap, ◌∙◌, subst, arith, cond}
use Rattle.std.specs.Prelude.{nat_lt}
use Rattle.std.specs.List.{AllByRecursion}
use Rattle.std.proofs.lemmas.Bool.{ne_eqb, eq-eqb, ltb-false}
use Rattle.atspi_tree_model.specs.declared.limits.TheConstants.{NAME_LIMIT}
use Rattle.atspi_tree_model.specs.Row.{IsName}
use Rattle.atspi_tree_model.specs.RowRules.{rows}
use Rattle.atspi_tree_model.specs.Tree.{first_tree}
use Rattle.atspi_tree_model.specs.Edits.{is_long_name}
use Rattle.std.specs.Prelude.{encode_utf8_all}
use Rattle.atspi_script_lines.specs.declared.line.Line.{Line}
use Rattle.atspi_script_lines.specs.declared.line.Party.TheVariants.{App, Reader}
use Rattle.atspi_message.specs.Envelope.{Envelope}
use Rattle.atspi_protocol.specs.exporting.Exporter.{Exporter, begins as begins_app}
use Rattle.atspi_protocol.specs.exporting.Starting.{starts}
use Rattle.atspi_protocol.proofs.OfExporting.Staying.{trees_stay}
use Rattle.atspi_protocol.specs.declared.following.question.Question.{Question}
use Rattle.atspi_trace.specs.Entry.{Entry, started, changed, sent}
use Rattle.atspi_trace.specs.World.{a_reader, Hearer, End, World, first_registry, first_world}
use Rattle.atspi_trace.specs.Ends.{is_app, number_of, end_at, app_count}
use Rattle.atspi_trace.specs.Causes.{Done, only, at_end, app_starts, reader_starts, asks}
use Rattle.atspi_trace.specs.Due.{asks_as, asks_at, begins, Goes}
use Rattle.atspi_trace_laws.specs.laws.Words.{live_tree, added, is_live}
use Rattle.atspi_trace_laws.specs.laws.NineLaws.{StepIsOne, LawOfSteps}
use Rattle.atspi_trace_laws.specs.order.Scripts.{CanAllStand}
use Rattle.atspi_trace_laws.proofs.OfOrder.Parties.{no_none, same_some, false_true}
use Rattle.atspi_trace_laws.proofs.OfOrder.Allowed.{MovedUp, MovedDown, Asks}
use Rattle.atspi_trace_laws.proofs.OfOrder.Frame.{Over, over_with, over_at, joined_cases}
use Rattle.atspi_trace_laws.proofs.OfOrder.Shape.{Lasts, Shape, counts, more}
use Rattle.atspi_trace_laws.proofs.OfOrder.Shaped.{new_app, new_reader, app_joined}
use Rattle.atspi_trace_laws.proofs.OfOrder.Along.{Keeps, kept}
use Rattle.atspi_trace_laws.proofs.OfOrder.Growing.{Grows, Shaped, Nothing, And, grown}
use Rattle.atspi_trace_laws.proofs.OfOrder.Each.{Each, everywhere, each_more, each_of, all_map}
use Rattle.atspi_trace_laws.proofs.OfOrder.Told.{Tells}
use Rattle.atspi_trace_laws.proofs.OfOrder.Exits.{Exited}
use Rattle.atspi_trace_laws.proofs.OfOrder.Lives.{Started, starts_keep, here_lives}
use Rattle.atspi_trace_laws.proofs.OfSteps.Trees.{tree_more, count_more, NotOn, counts_same, NoStep, no_step_on, no_step_law}
use Rattle.atspi_trace_laws.proofs.OfSteps.Steps.{TreeIs, SameApp, same_app, Trees, Unborn, tree_alone, still_trees, ActsApp, acted_trees, acted_law, other_on, same_app_of}
use Rattle.atspi_trace_laws.proofs.OfSteps.Stepping.{Still, OfApps, still_, acts_, app_new, reader_new, anew_, of_apps, no_reader, down_moved_same, up_moved_same, reader_same}

-- the law so far, the trees, and that nobody stepped who did not join
abbrev pub Stepped : List Entry → World → Type 0
Stepped es w = Each StepIsOne [] es × Trees es w × Unborn es w

abbrev pub Below : List Entry → World → Type 0
Below es w = And (And (And Nothing Tells) Exited) Started es w

law_more : (es ys : List Entry) → Each StepIsOne [] es → Each StepIsOne es ys → Each StepIsOne [] (es ++ ys)
law_more es ys a b = each_more StepIsOne [] es ys (each_same [] es a) b
  where
    weaker : (before : List Entry) (entry : Entry) (behind : List Entry) → StepIsOne before entry behind → StepIsOne before entry (behind ++ ys)
    weaker before (changed app step) behind law = law
    weaker before entry behind law = tt

    each_same : (early xs : List Entry) → Each StepIsOne early xs → Each (λ before entry behind. StepIsOne before entry (behind ++ ys)) early xs
    each_same early [] e = tt
    each_same early (x ∷ xs) e = (weaker early x xs e.0, each_same (early ++ x ∷ []) xs e.1)

-- applications are not fewer afterwards
not_fewer : (w : World) (d : Done) → Over Lasts w.ends d.world.ends → app_count d.world.ends ≡ app_count w.ends
not_fewer w d o = counts is_app w.ends d.world.ends o.size (λ k x h. let e = o.back k x h in (e.0, e.1, e.2.whose))

unborn_by : (es ys : List Entry) (v w : World) → app_count w.ends ≤ app_count v.ends → Unborn es w → ((a : ℕ) → app_count w.ends ≤ a → AllByRecursion (NotOn a) ys) → Unborn (es ++ ys) v
unborn_by es ys v w less u n a h =
    let g : app_count w.ends ≤ a = omega (arith, less, h) in
    count_more a es ys ∙ counts_same a (added es a) ys (n a g) ∙ u a g

-- an application joins
module _ (es : List Entry) (w : World) (d : Done) (s : Shape w) (i : Stepped es w) (name : List ℕ) (short : is_long_name name ≡ false) (is : d ≡ app_starts w name) where
  number : ℕ
  number = app_count w.ends

  abbrev begun : Exporter
  begun = record (starts (begins_app name)) { out = [] }

  named : IsName name
  named = ltb-false NAME_LIMIT (length (encode_utf8_all name)) short

  first : Entry
  first = started (App (app_count w.ends)) (Some name)

  wrote : (es ++ d.entries) ≡ es ++ (app_starts w name).entries
  wrote = ap (λ x. es ++ x.entries) is

  new_is : TreeIs (es ++ (app_starts w name).entries) (app_count w.ends) begun
  new_is = record {
    tree = sym (tree_more (app_count w.ends) es (app_starts w name).entries ∙ ap (λ b. cond b (first_tree rows name) (live_tree es (app_count w.ends))) (eq-eqb (app_count w.ends) (app_count w.ends) refl));
    count = sym (count_more (app_count w.ends) es (app_starts w name).entries ∙ i.2 (app_count w.ends) (same_least (app_count w.ends)));
    is = trees_stay.begins name named;
    empty = refl;
  }
    where
      same_least : (n : ℕ) → n ≤ n
      same_least n = omega arith

  apart : (a : ℕ) → (app_count w.ends ≡ a → ⊥) → AllByRecursion (NotOn a) (app_starts w name).entries
  apart a differ = (ne_eqb (app_count w.ends) a differ, (tt, tt))

  unequal : (a : ℕ) → a < app_count w.ends → app_count w.ends ≡ a → ⊥
  unequal a less same = omega (arith, less, same)

  joined_trees : Trees (es ++ (app_starts w name).entries) (app_starts w name).world
  joined_trees k a x t h who role = by (joined_cases w.ends (new_app w name) k x (sym (ap (λ l. end_at l k) (app_joined w name)) ∙ h))
    where
      by : ((end_at w.ends k ≡ Some x) ⊎ ((k ≡ length w.ends) × (x ≡ new_app w name))) → TreeIs (es ++ (app_starts w name).entries) a t
      by (inl g) = tree_alone es (app_starts w name).entries a t (apart a (unequal a (s.apps k a x g who))) (i.1 k a x t g who role)
      by (inr g) =
          let same : app_count w.ends ≡ a = ap number_of (sym (ap (λ (y : End). y.who) g.1) ∙ who) in
          let state : begun ≡ t = same_app_of begun t (sym (ap (λ (y : End). y.role) g.1) ∙ role) in
          subst (λ n. TreeIs (es ++ (app_starts w name).entries) n t) same (subst (TreeIs (es ++ (app_starts w name).entries) (app_count w.ends)) state new_is)

  not_below : (a : ℕ) → app_count w.ends ≤ a → added (es ++ (app_starts w name).entries) a ≡ 0
  not_below a h = count_more a es (app_starts w name).entries ∙ i.2 a h

  app_joins_stepped : Stepped (es ++ d.entries) d.world
  app_joins_stepped =
      subst (λ x. Stepped (es ++ x.entries) x.world) (sym is) (
        law_more es (app_starts w name).entries i.0 (tt, (tt, tt)),
        joined_trees,
        λ a h. not_below a (grown a h),
      )
    where
      grown : (a : ℕ) → app_count (app_starts w name).world.ends ≤ a → app_count w.ends ≤ a
      grown a h =
          let size : app_count w.ends ≤ app_count (w.ends ++ new_app w name ∷ []) = more (λ (e : End). is_app e.who) w.ends (new_app w name) in
          let same : app_count (app_starts w name).world.ends ≡ app_count (w.ends ++ new_app w name ∷ []) = ap app_count (app_joined w name) in
          omega (arith, h, size, same)

-- a reader joins
reader_joins_stepped : (es : List Entry) (w : World) (d : Done) → Stepped es w → d ≡ reader_starts w → Stepped (es ++ d.entries) d.world
reader_joins_stepped es w d i is =
    subst (λ x. Stepped (es ++ x.entries) x.world) (sym is)
    (law_more es (reader_starts w).entries i.0 (tt, (tt, tt)), trees, λ a h. count_more a es (reader_starts w).entries ∙ i.2 a (grown a h))
  where
    grown : (a : ℕ) → app_count (reader_starts w).world.ends ≤ a → app_count w.ends ≤ a
    grown a h = let size : app_count w.ends ≤ app_count (w.ends ++ new_reader w ∷ []) = more (λ (e : End). is_app e.who) w.ends (new_reader w) in omega (arith, h, size)

    trees : Trees (es ++ (reader_starts w).entries) (reader_starts w).world
    trees k a x t h who role = by (joined_cases w.ends (new_reader w) k x h)
      where
        by : ((end_at w.ends k ≡ Some x) ⊎ ((k ≡ length w.ends) × (x ≡ new_reader w))) → TreeIs (es ++ (reader_starts w).entries) a t
        by (inl g) = tree_alone es (reader_starts w).entries a t (tt, (tt, tt)) (i.1 k a x t g who role)
        by (inr g) = absurd (no_reader _ t (sym (ap (λ (y : End). y.role) g.1) ∙ role))

-- applications as they were
still_stepped : (es : List Entry) (w : World) (d : Done) → Stepped es w → Over Lasts w.ends d.world.ends → Still w d → Stepped (es ++ d.entries) d.world
still_stepped es w d i o b = (
  law_more es d.entries i.0 (each_of NoStep StepIsOne es d.entries no_step_law b.quiet),
  still_trees es d.entries w.ends d.world.ends b.ends b.quiet i.1,
  unborn_by es d.entries d.world w (least (not_fewer w d o)) i.2 (λ a h. all_map NoStep (NotOn a) d.entries (no_step_on a) b.quiet),
)
  where
    least : app_count d.world.ends ≡ app_count w.ends → app_count w.ends ≤ app_count d.world.ends
    least h = omega (arith, h)

-- an application acts
acts_stepped : (es : List Entry) (w : World) (d : Done) → Shape w → Stepped es w → Over Lasts w.ends d.world.ends → (b : ActsApp w d) → is_live es (App b.app) ≡ true → Stepped (es ++ d.entries) d.world
acts_stepped es w d s i o b live = (
  law_more es d.entries i.0 (acted_law es w d s i.1 b live),
  acted_trees es w d s i.1 b,
  unborn_by es d.entries d.world w (least (not_fewer w d o)) i.2 (λ a h. other_on es w d s i.1 b a (no a h)),
)
  where
    least : app_count d.world.ends ≡ app_count w.ends → app_count w.ends ≤ app_count d.world.ends
    least h = omega (arith, h)

    no : (a : ℕ) → app_count w.ends ≤ a → b.app ≡ a → ⊥
    no a h same = let below : b.app < app_count w.ends = s.apps b.conn b.app b.e b.there b.whose in omega (arith, h, same, below)

first_count : (quota : ℕ) → app_count (first_world quota).ends ≡ 0
first_count quota = refl

-- all begins again where only the registry is there
anew_stepped : (es : List Entry) (w : World) (d : Done) (quota : ℕ) → Shape w → Stepped es w → nat_lt 1 (length w.ends) ≡ false → d ≡ only (first_world quota) [] → Stepped (es ++ d.entries) d.world
anew_stepped es w d quota s i few is =
    subst (λ x. Stepped (es ++ x.entries) x.world) (sym is)
    (law_more es [] i.0 tt, λ k a x t h who role. absurd (no_app k x a (ap (λ y. y) h) who), λ a h. count_more a es [] ∙ i.2 a (none a))
  where
    no_app : (k : ℕ) (x : End) (a : ℕ) → end_at (first_world quota).ends k ≡ Some x → x.who ≡ App a → ⊥
    no_app zero x a h who = false_true (ap is_app (ap (λ (y : End). y.who) (same_some first_registry x h) ∙ who))
    no_app (suc k) x a h who = no_none x h

    none : (a : ℕ) → app_count w.ends ≤ a
    none a = by s.alone
      where
        by : ((2 ≤ length w.ends) ⊎ (w ≡ first_world w.bus.quota)) → app_count w.ends ≤ a
        by (inl two) = let less : length w.ends ≤ 1 = ltb-false 1 (length w.ends) few in absurd (omega (arith, two, less))
        by (inr h) = let zero_ : app_count w.ends ≡ 0 = ap (λ (v : World). app_count v.ends) h in omega (arith, zero_)

caused_stepped : (es : List Entry) (w : World) (d : Done) → Shape w → Below es w → Stepped es w → OfApps es w d → Stepped (es ++ d.entries) d.world
caused_stepped es w d s a i (still_ b o) = still_stepped es w d i o b
caused_stepped es w d s a i (acts_ b o) =
    acts_stepped es w d s i o b
    (here_lives es w (App b.app) s a.0.1.1 a.1 (record { conn = b.conn; e = b.e; there = b.there; whose = b.whose; standing = b.is_here }))
caused_stepped es w d s a i (app_new name short is) = app_joins_stepped es w d s i name short is
caused_stepped es w d s a i (reader_new is) = reader_joins_stepped es w d i is
caused_stepped es w d s a i (anew_ quota few is) = anew_stepped es w d quota s i few is

moved_stepped : (es : List Entry) (w v : World) → Over SameApp w.ends v.ends → Stepped es w → Stepped es v
moved_stepped es w v o i = (
  i.0,
  λ k a x t h who role. let y = o.back k x h in i.1 k a y.0 t y.1 (sym y.2.whose ∙ who) (y.2.role t role),
  λ a h. i.2 a (least (counts is_app w.ends v.ends o.size (λ k x g. let y = o.back k x g in (y.0, y.1, y.2.whose))) a h),
)
  where
    least : app_count v.ends ≡ app_count w.ends → (a : ℕ) → app_count v.ends ≤ a → app_count w.ends ≤ a
    least same a h = omega (arith, same, h)

asks_same : (m : Envelope) (question : Question) (e : End) (h : Hearer) → e.role ≡ a_reader h → SameApp e (asks_at m question e)
asks_same m question e h role = subst (λ x. SameApp e (asks_as x m question e)) (sym role) (reader_same (asks question h) m e)

asked_stepped : (es : List Entry) (w : World) (conn r : ℕ) (m : Envelope) (question : Question) → Stepped es w → Asks w conn r m question → Stepped (es ++ sent (Reader r) m ∷ []) (at_end w conn (asks_at m question))
asked_stepped es w conn r m question i a =
    let o : Over SameApp w.ends (at_end w conn (asks_at m question)).ends =
    over_at SameApp same_app (asks_at m question) conn w.ends a.asker a.is_here.there (asks_same m question a.asker a.hearer a.reader) in
    let j : Stepped es (at_end w conn (asks_at m question)) = moved_stepped es w (at_end w conn (asks_at m question)) o i in (
      law_more es (sent (Reader r) m ∷ []) j.0 (tt, tt),
      λ k app x t h who role. tree_alone es (sent (Reader r) m ∷ []) app t (tt, tt) (j.1 k app x t h who role),
      λ app h. count_more app es (sent (Reader r) m ∷ []) ∙ j.2 app h,
    )

steps_grow : Grows Below Stepped
steps_grow = record {
  begins = (tt, λ k a x t h who role. absurd (no_app k x a h who), λ a h. refl);
  caused = λ es w d s a i e after b. caused_stepped es w d s a i (of_apps es w d i.1 e);
  moved = λ es w v s a i m. by es w v i m;
  asked = λ es w conn r m question s a i asks. asked_stepped es w conn r m question i asks;
}
  where
    no_app : (k : ℕ) (x : End) (a : ℕ) → end_at (first_registry ∷ []) k ≡ Some x → x.who ≡ App a → ⊥
    no_app zero x a h who = false_true (ap is_app (ap (λ (y : End). y.who) (same_some first_registry x h) ∙ who))
    no_app (suc k) x a h who = no_none x h

    by : (es : List Entry) (w v : World) → Stepped es w → (MovedUp w v ⊎ MovedDown w v) → Stepped es v
    by es w v i (inl m) =
        moved_stepped es w v (subst (λ (x : World). Over SameApp w.ends x.ends) (sym m.after) (over_with SameApp same_app (λ e. record e { up_moved = e.up_moved + m.count }) (up_moved_same m.count) m.conn w.ends)) i
    by es w v i (inr m) =
        moved_stepped es w v (subst (λ (x : World). Over SameApp w.ends x.ends) (sym m.after) (over_with SameApp same_app (λ e. record e { down_moved = e.down_moved + m.count }) (down_moved_same m.count) m.conn w.ends)) i

pub steps_keep : Keeps (Shaped (And Below Stepped))
steps_keep = grown Below Stepped starts_keep steps_grow

each_front : (xs ys : List Entry) (early : List Entry) → Each StepIsOne early (xs ++ ys) → Each StepIsOne early xs
each_front [] ys early e = tt
each_front (x ∷ xs) ys early e = (fewer x e.0, each_front xs ys (early ++ x ∷ []) e.1)
  where
    fewer : (entry : Entry) → StepIsOne early entry (xs ++ ys) → StepIsOne early entry xs
    fewer (changed app step) law = law
    fewer entry law = tt

-- THE LAW
pub each_step : (lines : List Line) (trace : List Entry) → CanAllStand lines → Goes (begins lines) trace → Each StepIsOne [] trace
each_step lines trace a g =
    let k = kept (Shaped (And Below Stepped)) steps_keep lines trace a g in
    each_front trace _ [] k.state.1.1.0

pub steps_apply : (lines : List Line) (trace : List Entry) → CanAllStand lines → Goes (begins lines) trace → LawOfSteps trace
steps_apply lines trace a g = everywhere StepIsOne trace (each_step lines trace a g)
