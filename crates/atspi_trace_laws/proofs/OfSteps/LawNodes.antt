-- Node numbers are never used again: an application's number of added nodes only grows, and each new node has the next.
use Rattle.std.proofs.Common.{◌≡◌, ℕ, suc, ◌<◌, ◌≤◌, Bool, true, false, List, [], ◌∷◌, ◌++◌, sym, subst, arith}
use Rattle.std.specs.Prelude.{◌==◌, if◌then◌else◌}
use Rattle.std.specs.List.{AllByRecursion}
use Rattle.std.proofs.lemmas.Bool.{eq-eqb}
use Rattle.atspi_tree_model.specs.declared.step.Step.TheVariants.{Add}
use Rattle.atspi_tree_model.specs.declared.step.Step.{Step}
use Rattle.atspi_tree_model.specs.Tree.{added_after}
use Rattle.atspi_script_lines.specs.declared.line.Line.{Line}
use Rattle.atspi_trace.specs.Entry.{Entry, changed}
use Rattle.atspi_trace.specs.Due.{begins, Goes}
use Rattle.atspi_trace_laws.specs.laws.Words.{count_after, added}
use Rattle.atspi_trace_laws.specs.laws.NineLaws.{Everywhere, StepIsOne}
use Rattle.atspi_trace_laws.specs.order.Scripts.{CanAllStand}
use Rattle.atspi_trace_laws.specs.steps.Laws.{AddsLower, NumberIsNew}
use Rattle.atspi_trace_laws.proofs.OfOrder.Parties.{all_append}
use Rattle.atspi_trace_laws.proofs.OfOrder.Each.{Each, everywhere, all_map}
use Rattle.atspi_trace_laws.proofs.OfSteps.Trees.{count_more}
use Rattle.atspi_trace_laws.proofs.OfSteps.LawSteps.{each_step}

-- HOW MANY WERE ADDED
step_grows : (n : ℕ) (step : Step) → n ≤ added_after n step
step_grows n (Add m p i seed) = omega arith
step_grows n step = omega arith

entry_grows : (app n : ℕ) (x : Entry) → n ≤ count_after app n x
entry_grows app n (changed a step) = by (a == app)
  where
    by : (b : Bool) → n ≤ (if b then added_after n step else n)
    by true = step_grows n step
    by false = omega arith
entry_grows app n x = omega arith

-- each node that the application added has a number up to that
abbrev AddsUpTo : ℕ → ℕ → Entry → Type 0
AddsUpTo app count (changed a (Add n p i seed)) = a ≡ app → n ≤ count
AddsUpTo app count entry = Unit {0}

abbrev AllUpTo : List Entry → Type 0
AllUpTo es = (app : ℕ) → AllByRecursion (AddsUpTo app (added es app)) es

up_more : (app n m : ℕ) → n ≤ m → (x : Entry) → AddsUpTo app n x → AddsUpTo app m x
up_more app n m more (changed a (Add k p i seed)) h = λ same. let low : k ≤ n = h same in omega (arith, low, more)
up_more app n m more (changed a step) h = tt
up_more app n m more x h = tt

-- the new one has that which is next
new_up : (early rest : List Entry) (app : ℕ) (x : Entry) → StepIsOne early x rest → AddsUpTo app (count_after app (added early app) x) x
new_up early rest app (changed a (Add n p i seed)) law = λ same. by same (eq-eqb a app same) law.1.next
  where
    by : a ≡ app → (a == app) ≡ true → n ≡ suc (added early a) → n ≤ count_after app (added early app) (changed a (Add n p i seed))
    by same is next = subst (λ b. n ≤ (if b then suc (added early app) else added early app)) (sym is) (low (subst (λ k. n ≡ suc (added early k)) same next))
      where
        low : n ≡ suc (added early app) → n ≤ suc (added early app)
        low h = omega (arith, h)
new_up early rest app (changed a step) law = tt
new_up early rest app x law = tt

all_up_to : (early rest : List Entry) (x : Entry) → AllUpTo early → StepIsOne early x rest → AllUpTo (early ++ x ∷ [])
all_up_to early rest x all law app =
    subst (λ n. AllByRecursion (AddsUpTo app n) (early ++ x ∷ [])) (sym (count_more app early (x ∷ [])))
    (all_append (AddsUpTo app (count_after app (added early app) x)) early (x ∷ [])
    (all_map (AddsUpTo app (added early app)) (AddsUpTo app (count_after app (added early app) x)) early (up_more app (added early app) (count_after app (added early app) x) (entry_grows app (added early app) x)) (all app))
    (new_up early rest app x law, tt))

-- so it is lower than that which is added next
lower_than : (app count n : ℕ) → n ≡ suc count → (x : Entry) → AddsUpTo app count x → AddsLower app n x
lower_than app count n next (changed a (Add k p i seed)) h = λ same. let low : k ≤ count = h same in omega (arith, low, next)
lower_than app count n next (changed a step) h = tt
lower_than app count n next x h = tt

one_new : (early rest : List Entry) (x : Entry) → AllUpTo early → StepIsOne early x rest → NumberIsNew early x rest
one_new early rest (changed app (Add n p i seed)) all law = (above law.1.next, all_map (AddsUpTo app (added early app)) (AddsLower app n) early (lower_than app (added early app) n law.1.next) (all app))
  where
    above : n ≡ suc (added early app) → 0 < n
    above h = omega (arith, h)
one_new early rest (changed app step) all law = tt
one_new early rest x all law = tt

each_new : (early xs : List Entry) → AllUpTo early → Each StepIsOne early xs → Each NumberIsNew early xs
each_new early [] all e = tt
each_new early (x ∷ xs) all e = (one_new early xs x all e.0, each_new (early ++ x ∷ []) xs (all_up_to early xs x all e.0) e.1)

pub numbers_are_new : (lines : List Line) (trace : List Entry) → CanAllStand lines → Goes (begins lines) trace → Everywhere NumberIsNew trace
numbers_are_new lines trace a g = everywhere NumberIsNew trace (each_new [] trace (λ app. tt) (each_step lines trace a g))
