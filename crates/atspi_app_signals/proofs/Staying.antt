-- Steps that take no node from its place are told of any tree alike; and what applies can be told.
use Rattle.std.proofs.Common.{◌≡◌, ℕ, ◌+◌, ◌≤◌, false, List, [], ◌∷◌, ◌++◌, length, take, drop, Option, Some, None, refl, sym, ap, ◌∙◌, arith}
use Rattle.atspi_tree_model.specs.declared.step.Seed.{Seed}
use Rattle.atspi_tree_model.specs.declared.step.Step.{Step}
use Rattle.atspi_tree_model.specs.declared.step.Step.TheVariants.{Add, Remove, Move, SetName, SetDescription, SetRole, SetState, Insert, Delete, Caret, TextSelect, Relate}
use Rattle.atspi_tree_model.specs.Forest.{Forest, find, children_at}
use Rattle.atspi_tree_model.specs.Row.{TextContents, TreeRow, Each, Holds, HoldsIfThere, IsText, on_some}
use Rattle.atspi_tree_model.specs.RowRules.{rows, after_insert}
use Rattle.atspi_tree_model.specs.Tree.{is_node, after, added_after, IsTree, Adds, Changes}
use Rattle.atspi_tree_model.proofs.EditLemmas.{length-insert}
use Rattle.atspi_tree_model.proofs.Kept.{after_is_tree}
use Rattle.atspi_tree_model.proofs.Lookup.{each-find}
use Rattle.atspi_tree_model.proofs.RowRules.{rows_sound}
use Rattle.atspi_tree_model.proofs.ShapeOf.{shape_applies}
use Rattle.atspi_protocol.specs.announcing.Signals.{Signal}
use Rattle.atspi_protocol.specs.announcing.Announced.{announced}
use Rattle.atspi_protocol.proofs.OfAnnouncing.Bounds.{width-count, count-children, text-place, caret-place}
use Rattle.atspi_protocol.specs.exporting.Exporter.{steps, sends}
use Rattle.atspi_protocol.specs.exporting.Telling.{step_told, asked_for}
use Rattle.atspi_tree.specs.TreeShape.{TreeShape}
use Rattle.atspi_app_signals.specs.Asked.{CanBeTold, takes_node}
use Rattle.atspi_app_signals.specs.Laws.{shape_with, told_of_one, StayInPlace, SetsState, SendsMessages, AppliedCanBeTold, StayingIsToldAtOnce, StayingCanBeTold, StatesAreToldAtOnce, TextsAreToldAtOnce}
use Rattle.atspi_app_signals.proofs.Placed.{map-map}

pub messages_are_sent : SendsMessages
messages_are_sent heard bus f step = ap (λ l. steps step ∷ l) (sym (map-map sends (λ (s : Signal). s.message) (asked_for heard (announced bus f step))))

-- a step that takes no node from its place is told of any tree alike
same_told : (heard : List (List ℕ × List ℕ)) (bus : List ℕ) (f g : Forest TreeRow) (step : Step) → takes_node step ≡ false
    → step_told heard bus f step ≡ step_told heard bus g step
same_told heard bus f g (Add n p i seed) s = refl
same_told heard bus f g (Remove n) s = absurd cc
same_told heard bus f g (Move n p i) s = absurd cc
same_told heard bus f g (SetName n x) s = refl
same_told heard bus f g (SetDescription n x) s = refl
same_told heard bus f g (SetRole n x) s = refl
same_told heard bus f g (SetState n state on) s = refl
same_told heard bus f g (Insert n at x) s = refl
same_told heard bus f g (Delete n at x) s = refl
same_told heard bus f g (Caret n at) s = refl
same_told heard bus f g (TextSelect n marks) s = refl
same_told heard bus f g (Relate n kind targets) s = refl

one_told : (heard : List (List ℕ × List ℕ)) (bus : List ℕ) (f g : Forest TreeRow) (list : List Step) → StayInPlace list
    → told_of_one heard bus f list ≡ told_of_one heard bus g list
one_told heard bus f g [] s = refl
one_told heard bus f g (step ∷ more) s =
    ap (λ l. l ++ told_of_one heard bus f more) (same_told heard bus f g step s.0) ∙ ap (λ l. step_told heard bus g step ++ l) (one_told heard bus f g more s.1)

pub staying_is_told_at_once : StayingIsToldAtOnce
staying_is_told_at_once f [] s heard bus = refl
staying_is_told_at_once f (step ∷ more) s heard bus =
    ap (λ l. step_told heard bus f step ++ l)
    (staying_is_told_at_once (after rows f step) more s.1 heard bus ∙ one_told heard bus (after rows f step) f more s.1)

-- texts and their places are short
inserted_few : (at : ℕ) (x : List ℕ) (s : Option TextContents) → HoldsIfThere IsText (on_some (after_insert at x) s)
    → Holds (λ (t : TextContents). at ≤ length t.characters) s → length x ≤ 1048576
inserted_few at x None l h = absurd h
inserted_few at x (Some t) l h = let e = length-insert at x t.characters h in let s = l.short in omega arith

deleted_few : (at : ℕ) (x : List ℕ) (s : Option TextContents) → HoldsIfThere IsText s
    → Holds (λ (t : TextContents). (at + length x ≤ length t.characters) × (take (length x) (drop at t.characters) ≡ x)) s → at + length x ≤ 1048576
deleted_few at x None l h = absurd h
deleted_few at x (Some t) l h = let a = h.0 in let s = l.short in omega arith

module _ (f : Forest TreeRow) (k : ℕ) (t : IsTree rows f k) where
  text_limits : (n : ℕ) (row : TreeRow) → find (is_node n) f ≡ Some row → HoldsIfThere IsText row.contents.text
  text_limits n row e = (each-find rows.IsLawful (is_node n) f row t.lawful e).1.lawful_text

  add_can : (n p i : ℕ) (seed : Seed) → Adds rows f k n p i seed → i ≤ 8192
  add_can n p i seed a =
      let w = width-count (children_at (is_node p) f) in
      let c = count-children (is_node p) f in
      let l = t.few in
      let b = a.index in
      omega arith

  insert_can : (n at : ℕ) (x : List ℕ) → Changes rows f (Insert n at x) → (at ≤ 1048576) × (length x ≤ 1048576)
  insert_can n at x c = (
    text-place at c.row.contents.text (text_limits n c.row c.there) c.allowed.1,
    inserted_few at x c.row.contents.text c.lawful.1.lawful_text c.allowed.1,
  )

  delete_can : (n at : ℕ) (x : List ℕ) → Changes rows f (Delete n at x) → (at ≤ 1048576) × (length x ≤ 1048576)
  delete_can n at x c =
      let l = deleted_few at x c.row.contents.text (text_limits n c.row c.there) c.allowed.1 in
      (omega arith, omega arith)

  caret_can : (n at : ℕ) → Changes rows f (Caret n at) → at ≤ 1048576
  caret_can n at c = caret-place at c.row.contents.text c.lawful.1.lawful_text c.allowed.1

pub applied_can_be_told : AppliedCanBeTold
applied_can_be_told f k (Add n p i seed) t a = add_can f k t n p i seed a
applied_can_be_told f k (Remove n) t a = (shape_applies f k (Remove n) a).there
applied_can_be_told f k (Move n p i) t a = shape_applies f k (Move n p i) a
applied_can_be_told f k (SetName n x) t a = tt
applied_can_be_told f k (SetDescription n x) t a = tt
applied_can_be_told f k (SetRole n x) t a = tt
applied_can_be_told f k (SetState n state on) t a = a.allowed.0
applied_can_be_told f k (Insert n at x) t a = insert_can f k t n at x a
applied_can_be_told f k (Delete n at x) t a = delete_can f k t n at x a
applied_can_be_told f k (Caret n at) t a = caret_can f k t n at a
applied_can_be_told f k (TextSelect n marks) t a = tt
applied_can_be_told f k (Relate n kind targets) t a = tt

-- a step that takes no node from its place can be told of any tree
can_elsewhere : (t u : TreeShape) (step : Step) → takes_node step ≡ false → CanBeTold t step → CanBeTold u step
can_elsewhere t u (Add n p i seed) s c = c
can_elsewhere t u (Remove n) s c = absurd cc
can_elsewhere t u (Move n p i) s c = absurd cc
can_elsewhere t u (SetName n x) s c = c
can_elsewhere t u (SetDescription n x) s c = c
can_elsewhere t u (SetRole n x) s c = c
can_elsewhere t u (SetState n state on) s c = c
can_elsewhere t u (Insert n at x) s c = c
can_elsewhere t u (Delete n at x) s c = c
can_elsewhere t u (Caret n at) s c = c
can_elsewhere t u (TextSelect n marks) s c = c
can_elsewhere t u (Relate n kind targets) s c = c

all_elsewhere : (t u : TreeShape) (list : List Step) → StayInPlace list → Each (CanBeTold t) list → Each (CanBeTold u) list
all_elsewhere t u [] s c = tt
all_elsewhere t u (step ∷ more) s c = (can_elsewhere t u step s.0 c.0, all_elsewhere t u more s.1 c.1)

pub staying_can_be_told : StayingCanBeTold
staying_can_be_told f k [] t a s = tt
staying_can_be_told f k (step ∷ more) t a s = (
  applied_can_be_told f k step t a.0,
  all_elsewhere (shape_with (after rows f step) (added_after k step)) (shape_with f k) more s.1
      (staying_can_be_told (after rows f step) (added_after k step) more (after_is_tree rows rows_sound f k step t a.0) a.1 s.1),
)

-- states and texts
state_stays : (step : Step) → SetsState step → takes_node step ≡ false
state_stays (SetState n state on) s = refl
state_stays (Add n p i seed) s = absurd s
state_stays (Remove n) s = absurd s
state_stays (Move n p i) s = absurd s
state_stays (SetName n x) s = absurd s
state_stays (SetDescription n x) s = absurd s
state_stays (SetRole n x) s = absurd s
state_stays (Insert n at x) s = absurd s
state_stays (Delete n at x) s = absurd s
state_stays (Caret n at) s = absurd s
state_stays (TextSelect n marks) s = absurd s
state_stays (Relate n kind targets) s = absurd s

states_stay : (list : List Step) → Each SetsState list → StayInPlace list
states_stay [] s = tt
states_stay (step ∷ more) s = (state_stays step s.0, states_stay more s.1)

pub states_are_told_at_once : StatesAreToldAtOnce
states_are_told_at_once f list s = staying_is_told_at_once f list (states_stay list s)

pub texts_are_told_at_once : TextsAreToldAtOnce
texts_are_told_at_once f n at from text gone = (
  staying_is_told_at_once f (Insert n at text ∷ Delete n from gone ∷ []) (refl, (refl, tt)),
  staying_is_told_at_once f (Delete n from gone ∷ Insert n at text ∷ []) (refl, (refl, tt)),
)
