-- What is wanted first, if a plan is done.
use Rattle.std.proofs.Common.{◌≡◌, ℕ, suc, ◌+◌, ◌<◌, Bool, true, false, cond, not, List, [], ◌∷◌, ◌++◌, filter, length, drop, get_or, add-one, Option, Some, None, refl, sym, ap, ◌∙◌}
use Rattle.std.specs.Prelude.{if◌then◌else◌}
use Rattle.std.proofs.Math.Seq.{drop-cons}
use Rattle.std.proofs.lemmas.List.{append-nil}
use Rattle.atspi_protocol.specs.declared.news.part.PartName.{PartName}
use Rattle.std.specs.Prelude.{flat_map}
use Rattle.std.proofs.lemmas.List.Concat.{flat_map-append}
use Rattle.atspi_tree_model.specs.Forest.{first_of}
use Rattle.atspi_protocol.specs.declared.following.question.Question.{Question}
use Rattle.atspi_protocol.specs.following.ReaderState.{Followed, is_named}
use Rattle.atspi_protocol.specs.following.Wishes.{wishes, wishes_of}
use Rattle.atspi_protocol.specs.following.Replied.{changed}
use Rattle.atspi_reader_known.specs.declared.plan.Plan.{Plan}
use Rattle.atspi_reader_known.specs.declared.plan.Plan.TheVariants.{Forget}
use Rattle.atspi_reader_known.specs.Wanted.{first, refusing}
use Rattle.atspi_reader_known.specs.Planned.{planned, one_planned, first_planned}
use Rattle.atspi_reader_known.proofs.Firsts.{first-append}

pub wish_planned : (plan : Plan) (name : List ℕ) (apps : List Followed) → first_planned plan name apps ≡ first (wishes (flat_map (one_planned plan name) apps))
wish_planned plan name [] = refl
wish_planned plan name (app ∷ apps) =
    ap (first_of (first (wishes (one_planned plan name app)))) (wish_planned plan name apps)
    ∙ sym (first-append (wishes (one_planned plan name app)) (wishes (flat_map (one_planned plan name) apps)))
    ∙ sym (ap first (flat_map-append wishes_of (one_planned plan name app) (flat_map (one_planned plan name) apps)))

-- an application alone
pub alone : (app : Followed) → first (wishes (app ∷ [])) ≡ first (wishes_of app)
alone app = ap first (append-nil (wishes_of app))

pub refusing_none : (app : Followed) → refusing [] app ≡ app
refusing_none app = ap (λ (r : List (List ℕ × PartName)). record app { refused = r }) (append-nil app.refused)

pub settle_wish : (plan : Plan) (name : List ℕ) (app : Followed) (b : Bool) (other : Followed) → is_named name app ≡ b
    → (if b then planned plan app else app ∷ []) ≡ other ∷ [] → first (wishes_of other) ≡ first (wishes (one_planned plan name app))
settle_wish plan name app b other e f =
    sym (ap (λ (t : Bool). first (wishes (if t then planned plan app else app ∷ []))) e ∙ ap (λ (l : List Followed). first (wishes l)) f ∙ alone other)

pub forget_wish : (plan : Plan) (name : List ℕ) (app : Followed) → is_named name app ≡ true → planned plan app ≡ [] → None ≡ first (wishes (one_planned plan name app))
forget_wish plan name app e f =
    sym (ap (λ (t : Bool). first (wishes (if t then planned plan app else app ∷ []))) e ∙ ap (λ (l : List Followed). first (wishes l)) f)

-- a walk over the applications
module _ (plan : Plan) (name : List ℕ) (apps : List Followed) (i : ℕ) (app : Followed) (whole : Option Question) (l : i < length apps) (is : app ≡ get_or apps i app) where
  front : drop i apps ≡ app ∷ drop (i + 1) apps
  front = drop-cons apps i app l ∙ ap (λ (a : Followed). a ∷ drop (suc i) apps) (sym is) ∙ ap (λ (n : ℕ). app ∷ drop n apps) (sym (add-one i))

  pub wish_found : (wish : Question) → Some wish ≡ first (wishes (one_planned plan name app)) → first_planned plan name (drop i apps) ≡ whole → Some wish ≡ whole
  wish_found wish e h =
      ap (λ (o : Option Question). first_of o (first_planned plan name (drop (i + 1) apps))) e
      ∙ ap (first_planned plan name) (sym front) ∙ h

  pub wish_passed : None ≡ first (wishes (one_planned plan name app)) → first_planned plan name (drop i apps) ≡ whole → first_planned plan name (drop (i + 1) apps) ≡ whole
  wish_passed e h =
      ap (λ (o : Option Question). first_of o (first_planned plan name (drop (i + 1) apps))) e
      ∙ ap (first_planned plan name) (sym front) ∙ h

-- what the plans come to
pub plan_changed : (plan : Plan) (f : Followed → Followed) → ((app : Followed) → planned plan app ≡ f app ∷ []) → (name : List ℕ) (apps : List Followed)
    → flat_map (one_planned plan name) apps ≡ changed f name apps
plan_changed plan f is name [] = refl
plan_changed plan f is name (app ∷ apps) = by (is_named name app) ∙ ap (λ (l : List Followed). (if is_named name app then f app else app) ∷ l) (plan_changed plan f is name apps)
  where
    by : (b : Bool) → (if b then planned plan app else app ∷ []) ++ flat_map (one_planned plan name) apps ≡ (if b then f app else app) ∷ flat_map (one_planned plan name) apps
    by true = ap (λ (l : List Followed). l ++ flat_map (one_planned plan name) apps) (is app)
    by false = refl

pub plan_forgets : (name : List ℕ) (apps : List Followed) → flat_map (one_planned Forget name) apps ≡ filter (λ app. not (is_named name app)) apps
plan_forgets name [] = refl
plan_forgets name (app ∷ apps) = by (is_named name app) ∙ ap (λ (l : List Followed). cond (not (is_named name app)) (app ∷ l) l) (plan_forgets name apps)
  where
    by : (b : Bool) → (if b then [] else app ∷ []) ++ flat_map (one_planned Forget name) apps
        ≡ cond (not b) (app ∷ flat_map (one_planned Forget name) apps) (flat_map (one_planned Forget name) apps)
    by true = refl
    by false = refl
