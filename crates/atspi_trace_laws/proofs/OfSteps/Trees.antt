-- The tree that entries tell: how each changes it, and what the steps of an application make of it.
use Rattle.std.proofs.Common.{◌≡◌, ℕ, Bool, true, false, List, [], ◌∷◌, ◌++◌, map, Some, refl, sym, ap, ◌∙◌, subst, cond}
use Rattle.std.specs.Prelude.{◌==◌, ◌||◌, ◌&&◌, not}
use Rattle.std.specs.List.{AllByRecursion, fold, list_any}
use Rattle.std.proofs.lemmas.Bool.{eq-eqb}
use Rattle.atspi_tree_model.specs.Forest.{Forest, nil}
use Rattle.atspi_tree_model.specs.Row.{TreeRow}
use Rattle.atspi_tree_model.specs.RowRules.{rows}
use Rattle.atspi_tree_model.specs.Tree.{first_tree, after, added_after, Applies}
use Rattle.atspi_script_lines.specs.declared.line.Party.{Party}
use Rattle.atspi_script_lines.specs.declared.line.Party.TheVariants.{Registry, App}
use Rattle.atspi_protocol.specs.exporting.Exporter.{Happening, steps, sends, hears, deaf}
use Rattle.atspi_trace.specs.Entry.{Entry, started, changed}
use Rattle.atspi_trace.specs.Ends.{same_party}
use Rattle.atspi_trace.specs.Causes.{did}
use Rattle.atspi_trace_laws.specs.laws.Words.{tree_after, live_tree, count_after, added, starts_it, stops_it, is_live}
use Rattle.atspi_trace_laws.specs.laws.NineLaws.{StepIsOne}
use Rattle.atspi_trace_laws.proofs.OfOrder.Each.{Each}
use Rattle.atspi_trace_laws.proofs.OfSteps.Doings.{AllDone, tree_by, count_by}

pub fold_append : {A B : Type 0} (f : B → A → B) (b : B) (xs ys : List A) → fold f b (xs ++ ys) ≡ fold f (fold f b xs) ys
fold_append f b [] ys = refl
fold_append f b (x ∷ xs) ys = fold_append f (f b x) xs ys

pub tree_more : (app : ℕ) (es ys : List Entry) → live_tree (es ++ ys) app ≡ fold (tree_after app) (live_tree es app) ys
tree_more app es ys = fold_append (tree_after app) nil es ys

pub count_more : (app : ℕ) (es ys : List Entry) → added (es ++ ys) app ≡ fold (count_after app) (added es app) ys
count_more app es ys = fold_append (count_after app) 0 es ys

-- an entry that is no step and no start of it
abbrev pub NotOn : ℕ → Entry → Type 0
NotOn app (started (App a) (Some name)) = (a == app) ≡ false
NotOn app (changed a step) = (a == app) ≡ false
NotOn app entry = Unit {0}

tree_same : (app : ℕ) (f : Forest TreeRow) (entry : Entry) → NotOn app entry → tree_after app f entry ≡ f
tree_same app f (started (App a) (Some name)) h = ap (λ b. cond b (first_tree rows name) f) h
tree_same app f (changed a step) h = ap (λ b. cond b (after rows f step) f) h
tree_same app f entry h = refl

count_same : (app n : ℕ) (entry : Entry) → NotOn app entry → count_after app n entry ≡ n
count_same app n (changed a step) h = ap (λ b. cond b (added_after n step) n) h
count_same app n entry h = refl

pub trees_same : (app : ℕ) (f : Forest TreeRow) (ys : List Entry) → AllByRecursion (NotOn app) ys → fold (tree_after app) f ys ≡ f
trees_same app f [] a = refl
trees_same app f (y ∷ ys) a = ap (λ t. fold (tree_after app) t ys) (tree_same app f y a.0) ∙ trees_same app f ys a.1

pub counts_same : (app n : ℕ) (ys : List Entry) → AllByRecursion (NotOn app) ys → fold (count_after app) n ys ≡ n
counts_same app n [] a = refl
counts_same app n (y ∷ ys) a = ap (λ t. fold (count_after app) t ys) (count_same app n y a.0) ∙ counts_same app n ys a.1

-- an entry that is no step at all, and none that is a start of an application
abbrev pub NoStep : Entry → Type 0
NoStep (started (App a) (Some name)) = ⊥
NoStep (changed a step) = ⊥
NoStep entry = Unit {0}

pub no_step_on : (app : ℕ) (entry : Entry) → NoStep entry → NotOn app entry
no_step_on app (started (App a) (Some name)) h = absurd h
no_step_on app (changed a step) h = absurd h
no_step_on app entry h = tt

pub no_step_law : (before : List Entry) (entry : Entry) (behind : List Entry) → NoStep entry → StepIsOne before entry behind
no_step_law before (changed a step) behind h = absurd h
no_step_law before entry behind h = tt

-- what another application did
pub did_other : (app a : ℕ) (hs : List Happening) → (a == app) ≡ false → AllByRecursion (NotOn app) (map (did a) hs)
did_other app a [] h = tt
did_other app a (steps step ∷ hs) h = (h, did_other app a hs h)
did_other app a (sends e ∷ hs) h = (tt, did_other app a hs h)
did_other app a (hears listener pattern ∷ hs) h = (tt, did_other app a hs h)
did_other app a (deaf listener pattern ∷ hs) h = (tt, did_other app a hs h)

-- and what it did itself
pub did_tree : (app : ℕ) (f : Forest TreeRow) (hs : List Happening) → fold (tree_after app) f (map (did app) hs) ≡ tree_by f hs
did_tree app f [] = refl
did_tree app f (steps step ∷ hs) = ap (λ b. fold (tree_after app) (cond b (after rows f step) f) (map (did app) hs)) (eq-eqb app app refl) ∙ did_tree app (after rows f step) hs
did_tree app f (sends e ∷ hs) = did_tree app f hs
did_tree app f (hears listener pattern ∷ hs) = did_tree app f hs
did_tree app f (deaf listener pattern ∷ hs) = did_tree app f hs

pub did_count : (app n : ℕ) (hs : List Happening) → fold (count_after app) n (map (did app) hs) ≡ count_by n hs
did_count app n [] = refl
did_count app n (steps step ∷ hs) = ap (λ b. fold (count_after app) (cond b (added_after n step) n) (map (did app) hs)) (eq-eqb app app refl) ∙ did_count app (added_after n step) hs
did_count app n (sends e ∷ hs) = did_count app n hs
did_count app n (hears listener pattern ∷ hs) = did_count app n hs
did_count app n (deaf listener pattern ∷ hs) = did_count app n hs

-- a party is live still behind an entry that stops nobody
any_append : (p : Entry → Bool) (xs ys : List Entry) → list_any p (xs ++ ys) ≡ (list_any p xs || list_any p ys)
any_append p [] ys = refl
any_append p (x ∷ xs) ys = by (p x) (any_append p xs ys)
  where
    by : (b : Bool) → list_any p (xs ++ ys) ≡ (list_any p xs || list_any p ys) → (b || list_any p (xs ++ ys)) ≡ ((b || list_any p xs) || list_any p ys)
    by true h = refl
    by false h = h

live_by : (r s t b c : Bool) → ((r || s) && not t) ≡ true → c ≡ false → ((r || (s || b)) && not (t || c)) ≡ true
live_by true s false b c h g = ap not g
live_by false true false b c h g = ap not g
live_by false false t b c h g = absurd (no h)
  where
    no : false ≡ true → ⊥
    no z = cc
live_by true s true b c h g = absurd (no h)
  where
    no : false ≡ true → ⊥
    no z = cc
live_by false true true b c h g = absurd (no h)
  where
    no : false ≡ true → ⊥
    no z = cc

pub live_more : (es ys : List Entry) (who : Party) → is_live es who ≡ true → list_any (stops_it who) ys ≡ false → is_live (es ++ ys) who ≡ true
live_more es ys who h g =
    ap (λ b. (same_party who Registry || b) && not (list_any (stops_it who) (es ++ ys))) (any_append (starts_it who) es ys)
    ∙ ap (λ b. (same_party who Registry || (list_any (starts_it who) es || list_any (starts_it who) ys)) && not b) (any_append (stops_it who) es ys)
    ∙ live_by (same_party who Registry) (list_any (starts_it who) es) (list_any (stops_it who) es) (list_any (starts_it who) ys) (list_any (stops_it who) ys) h g

-- each step of an application applies to its tree before
pub steps_law : (app : ℕ) (early : List Entry) (f : Forest TreeRow) (n : ℕ) (hs : List Happening) → live_tree early app ≡ f → added early app ≡ n → is_live early (App app) ≡ true → AllDone f n hs
    → Each StepIsOne early (map (did app) hs)
steps_law app early f n [] tree count live a = tt
steps_law app early f n (steps step ∷ hs) tree count live a =
    let here : Applies rows (live_tree early app) (added early app) step =
    subst (λ t. Applies rows t (added early app) step) (sym tree) (subst (λ c. Applies rows f c step) (sym count) a.0) in (
      (live, here),
      steps_law app (early ++ changed app step ∷ []) (after rows f step) (added_after n step) hs
          (tree_more app early (changed app step ∷ []) ∙ ap (λ b. cond b (after rows (live_tree early app) step) (live_tree early app)) (eq-eqb app app refl) ∙ ap (λ t. after rows t step) tree)
          (count_more app early (changed app step ∷ []) ∙ ap (λ b. cond b (added_after (added early app) step) (added early app)) (eq-eqb app app refl) ∙ ap (λ c. added_after c step) count)
          (live_more early (changed app step ∷ []) (App app) live refl) a.1,
    )
steps_law app early f n (sends e ∷ hs) tree count live a =
    (tt, steps_law app (early ++ did app (sends e) ∷ []) f n hs (tree_more app early (did app (sends e) ∷ []) ∙ tree) (count_more app early (did app (sends e) ∷ []) ∙ count) (live_more early (did app (sends e) ∷ []) (App app) live refl) a)
steps_law app early f n (hears listener pattern ∷ hs) tree count live a =
    (tt, steps_law app (early ++ did app (hears listener pattern) ∷ []) f n hs (tree_more app early (did app (hears listener pattern) ∷ []) ∙ tree) (count_more app early (did app (hears listener pattern) ∷ []) ∙ count) (live_more early (did app (hears listener pattern) ∷ []) (App app) live refl) a)
steps_law app early f n (deaf listener pattern ∷ hs) tree count live a =
    (tt, steps_law app (early ++ did app (deaf listener pattern) ∷ []) f n hs (tree_more app early (did app (deaf listener pattern) ∷ []) ∙ tree) (count_more app early (did app (deaf listener pattern) ∷ []) ∙ count) (live_more early (did app (deaf listener pattern) ∷ []) (App app) live refl) a)
