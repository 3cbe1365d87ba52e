-- Each step of a lawful trace changes a tree, and its announcement carries the view.
use Rattle.std.proofs.Common.{◌≡◌, ℕ, List, [], ◌∷◌, ◌++◌, map, refl, sym, ap, ◌∙◌, subst, cond}
use Rattle.std.specs.List.{AllByRecursion}
use Rattle.std.proofs.lemmas.Bool.{eq-eqb}
use Rattle.atspi_tree_model.specs.declared.step.Step.{Step}
use Rattle.atspi_tree_model.specs.Path.{path_of}
use Rattle.atspi_tree_model.specs.RowRules.{rows}
use Rattle.atspi_tree_model.specs.Tree.{after, IsTree, Applies}
use Rattle.atspi_tree_model.specs.View.{Told, view}
use Rattle.atspi_tree_model.specs.Announce.{echoes, Idle}
use Rattle.atspi_tree_model.specs.Laws.{IsSeen, UntoldOfNew}
use Rattle.atspi_tree_model.proofs.Seen.{seen}
use Rattle.atspi_protocol.proofs.OfAnnouncing.Told.{signals_tell_steps}
use Rattle.atspi_script_lines.specs.declared.line.Line.{Line}
use Rattle.atspi_script_lines.specs.declared.line.Party.TheVariants.{Reader}
use Rattle.atspi_trace.specs.Entry.{Entry, changed, sent}
use Rattle.atspi_trace.specs.World.{World}
use Rattle.atspi_trace.specs.Causes.{Done, did}
use Rattle.atspi_trace.specs.Due.{begins, Goes}
use Rattle.atspi_trace_laws.specs.laws.Words.{live_tree, added}
use Rattle.atspi_trace_laws.specs.laws.NineLaws.{Everywhere, StepIsOne}
use Rattle.atspi_trace_laws.specs.order.Scripts.{CanAllStand}
use Rattle.atspi_trace_laws.proofs.OfOrder.Along.{Keeps, kept}
use Rattle.atspi_trace_laws.proofs.OfOrder.Growing.{Grows, Shaped, And, grown}
use Rattle.atspi_trace_laws.proofs.OfOrder.Each.{Each, everywhere, each_more, each_of, all_map}
use Rattle.atspi_trace_laws.proofs.OfSteps.Doings.{AllDone}
use Rattle.atspi_trace_laws.proofs.OfSteps.Trees.{tree_more, trees_same, count_more, counts_same, NotOn, NoStep, no_step_on}
use Rattle.atspi_trace_laws.proofs.OfSteps.Steps.{TreeIs, Trees, ActsApp}
use Rattle.atspi_trace_laws.proofs.OfSteps.Stepping.{OfApps, still_, acts_, app_new, reader_new, anew_, of_apps}
use Rattle.atspi_trace_laws.proofs.OfSteps.LawSteps.{Below, Stepped, steps_apply, steps_keep}
use Rattle.atspi_trace_laws.specs.views.Laws.{StepsOnTree, IsCarried, StepIsCarried}
use Rattle.atspi_trace_laws.proofs.OfViews.Standing.{did_stand}

-- entries without a step
abbrev NoChange : Entry → Type 0
NoChange (changed app step) = ⊥
NoChange entry = Unit {0}

no_change_law : (before : List Entry) (entry : Entry) (behind : List Entry) → NoChange entry → StepsOnTree before entry behind
no_change_law before (changed app step) behind n = absurd n
no_change_law before entry behind n = tt

no_step_change : (entry : Entry) → NoStep entry → NoChange entry
no_step_change (changed app step) n = absurd n
no_step_change entry n = tt

weaker : (ys before : List Entry) (entry : Entry) (behind : List Entry) → StepsOnTree before entry behind → StepsOnTree before entry (behind ++ ys)
weaker ys before (changed app step) behind law = law
weaker ys before entry behind law = tt

all_weaker : (ys early xs : List Entry) → Each StepsOnTree early xs → Each (λ before entry behind. StepsOnTree before entry (behind ++ ys)) early xs
all_weaker ys early [] e = tt
all_weaker ys early (x ∷ xs) e = (weaker ys early x xs e.0, all_weaker ys (early ++ x ∷ []) xs e.1)

more : (early xs ys : List Entry) → Each StepsOnTree early xs → Each StepsOnTree (early ++ xs) ys → Each StepsOnTree early (xs ++ ys)
more early xs ys a b = each_more StepsOnTree early xs ys (all_weaker ys early xs a) b

quietly : (es ys : List Entry) → Each StepsOnTree [] es → AllByRecursion NoChange ys → Each StepsOnTree [] (es ++ ys)
quietly es ys a n = more [] es ys a (each_of NoChange StepsOnTree es ys no_change_law n)

abbrev pub Standing : List Entry → World → Type 0
Standing es w = Each StepsOnTree [] es

-- an application acts
acts_stand : (es : List Entry) (w : World) (d : Done) → Trees es w → Standing es w → (b : ActsApp w d) → Each StepsOnTree [] (es ++ d.entries)
acts_stand es w d f i b =
    let old : TreeIs es b.app b.before = f b.conn b.app b.e b.before b.there b.whose b.role in
    let doings : b.did_.doings ≡ b.after.out = sym (b.did_.out ∙ ap (λ l. l ++ b.did_.doings) old.empty) in
    let on : AllByRecursion (NotOn b.app) b.front = all_map NoStep (NotOn b.app) b.front (no_step_on b.app) b.quiet in
    subst (λ l. Each StepsOnTree [] (es ++ l)) (sym b.entries)
    (more [] es (b.front ++ map (did b.app) b.after.out) i
    (more es b.front (map (did b.app) b.after.out) (each_of NoStep StepsOnTree es b.front (λ before entry behind n. no_change_law before entry behind (no_step_change entry n)) b.quiet)
    (did_stand b.app (es ++ b.front) b.before.tree b.before.added b.after.out
    (tree_more b.app es b.front ∙ trees_same b.app (live_tree es b.app) b.front on ∙ sym old.tree)
    (count_more b.app es b.front ∙ counts_same b.app (added es b.app) b.front on ∙ sym old.count)
    old.is (subst (AllDone b.before.tree b.before.added) doings b.did_.apply))))

caused_stand : (es : List Entry) (w : World) (d : Done) → Trees es w → Standing es w → OfApps es w d → Standing (es ++ d.entries) d.world
caused_stand es w d f i (still_ b o) = quietly es d.entries i (all_map NoStep NoChange d.entries no_step_change b.quiet)
caused_stand es w d f i (acts_ b o) = acts_stand es w d f i b
caused_stand es w d f i (app_new name short is) = quietly es d.entries i (subst (λ x. AllByRecursion NoChange x.entries) (sym is) (tt, (tt, tt)))
caused_stand es w d f i (reader_new is) = quietly es d.entries i (subst (λ x. AllByRecursion NoChange x.entries) (sym is) (tt, (tt, tt)))
caused_stand es w d f i (anew_ quota few is) = quietly es d.entries i (subst (λ x. AllByRecursion NoChange x.entries) (sym is) tt)

stand_grows : Grows (And Below Stepped) Standing
stand_grows = record {
  begins = tt;
  caused = λ es w d s a i e after b. caused_stand es w d a.1.1 i (of_apps es w d a.1.1 e);
  moved = λ es w v s a i m. i;
  asked = λ es w conn r m question s a i asks. quietly es (sent (Reader r) m ∷ []) i (tt, tt);
}

stand_keeps : Keeps (Shaped (And (And Below Stepped) Standing))
stand_keeps = grown (And Below Stepped) Standing steps_keep stand_grows

each_front : (xs ys : List Entry) (early : List Entry) → Each StepsOnTree early (xs ++ ys) → Each StepsOnTree early xs
each_front [] ys early e = tt
each_front (x ∷ xs) ys early e = (fewer x e.0, each_front xs ys (early ++ x ∷ []) e.1)
  where
    fewer : (entry : Entry) → StepsOnTree early entry (xs ++ ys) → StepsOnTree early entry xs
    fewer (changed app step) law = law
    fewer entry law = tt

pub trees_stand : (lines : List Line) (trace : List Entry) → CanAllStand lines → Goes (begins lines) trace → Everywhere StepsOnTree trace
trees_stand lines trace a g =
    let k = kept (Shaped (And (And Below Stepped) Standing)) stand_keeps lines trace a g in
    everywhere StepsOnTree trace (each_front trace _ [] k.state.1.1)

-- AN ANNOUNCEMENT CARRIES THE VIEW
carried : (before : List Entry) (app : ℕ) (step : Step) → IsTree rows (live_tree before app) (added before app) → Applies rows (live_tree before app) (added before app) step → IsCarried before app step
carried before app step is applies = record {
  news = λ name serial. signals_tell_steps name serial (live_tree before app) (added before app) step is applies;
  announcement = λ name parts untold. (sees name parts untold).announcement ∙ ap (view parts) (sym behind);
  echoes = λ name parts untold. subst (λ t. Idle (path_of 0) name (view parts t) (echoes name (live_tree before app) step)) (sym behind) (sees name parts untold).echoes;
}
  where
    sees : (name : List ℕ) (parts : List ℕ → Told) → UntoldOfNew parts step → IsSeen name parts (live_tree before app) step
    sees name parts untold = seen name parts (live_tree before app) (added before app) step is applies untold

    behind : live_tree (before ++ changed app step ∷ []) app ≡ after rows (live_tree before app) step
    behind = tree_more app before (changed app step ∷ []) ∙ ap (λ b. cond b (after rows (live_tree before app) step) (live_tree before app)) (eq-eqb app app refl)

step_carried : (before : List Entry) (entry : Entry) (behind : List Entry) → StepsOnTree before entry behind → StepIsOne before entry behind → StepIsCarried before entry behind
step_carried before (changed app step) behind is one = carried before app step is one.1
step_carried before entry behind is one = tt

pub announcements_carry : (lines : List Line) (trace : List Entry) → CanAllStand lines → Goes (begins lines) trace → Everywhere StepIsCarried trace
announcements_carry lines trace a g before entry behind h =
    step_carried before entry behind (trees_stand lines trace a g before entry behind h) (steps_apply lines trace a g before entry behind h)
