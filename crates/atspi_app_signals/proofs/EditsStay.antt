-- The steps of an edit take no node from its place, or there is one step.
use Rattle.std.proofs.Common.{◌≡◌, ℕ, ◌+◌, ◌-◌, Bool, true, false, cond, not, List, [], ◌∷◌, ◌++◌, map, filter, length, take, drop, Option, Some, None, refl, sym, subst}
use Rattle.std.specs.Prelude.{nat_lt, nat_le, bytes_eq, codes, ◌==◌, ◌&&◌, Ok}
use Rattle.atspi_tree_model.specs.declared.contents.FaceData.{FaceData}
use Rattle.atspi_tree_model.specs.declared.edit.Edit.{Edit}
use Rattle.atspi_tree_model.specs.declared.edit.Edit.TheVariants.{Remove as RemoveEdit, Move as MoveEdit, Insert as InsertEdit, Caret as CaretEdit, Relate as RelateEdit, Name, Describe, Role, State, Focus, Put, Keys, Cut, Mark, Unmark, Select, Deselect, Press, Unrelate}
use Rattle.atspi_tree_model.specs.declared.edit.EditFault.{EditFault}
use Rattle.atspi_tree_model.specs.declared.step.Step.{Step}
use Rattle.atspi_tree_model.specs.declared.step.Step.TheVariants.{Remove, Move, SetName, SetDescription, SetRole, SetState, Insert, Delete, Caret, TextSelect, Relate}
use Rattle.atspi_tree_model.specs.Edits.{steps_of_tree, steps_unless, first_fault, refusals, made_steps, contents_read, switch, switched, children_of, node_has_state, numbers_to, focusing, unselecting, selecting, acting, pressing, flipping, unless, others, known_text, known_actions, node_targets, is_among}
use Rattle.atspi_tree_model.specs.Forest.{Forest, tops, find}
use Rattle.atspi_tree_model.specs.States.{has_state, checked, expanded, focused, multiselectable, pressed, selected}
use Rattle.atspi_tree_model.specs.Row.{ShapeRow, TreeRow, Each}
use Rattle.atspi_tree_model.specs.RowRules.{rows}
use Rattle.atspi_tree_model.specs.Tree.{shape_of, IsTree, AllApply, is_shape}
use Rattle.atspi_tree_model.proofs.EditsApply.{steps_apply}
use Rattle.atspi_tree_model.proofs.Lookup.{each_append}
use Rattle.atspi_app_signals.specs.Asked.{CanBeTold, takes_node}
use Rattle.atspi_app_signals.specs.Laws.{shape_with, IsToldAtOnce, StayInPlace, EditsAreToldAtOnce, EditsCanBeTold}
use Rattle.atspi_app_signals.proofs.Staying.{staying_is_told_at_once, staying_can_be_told, applied_can_be_told}

abbrev Stays : Step → Type 0
Stays step = takes_node step ≡ false

pub together : (xs ys : List Step) → StayInPlace xs → StayInPlace ys → StayInPlace (xs ++ ys)
together xs ys a b = each_append Stays xs ys a b

pub each_made : {A : Type 0} (make : A → Step) (xs : List A) → ((x : A) → Stays (make x)) → StayInPlace (map make xs)
each_made make [] s = tt
each_made make (x ∷ xs) s = (s x, each_made make xs s)

switch_stays : (n state : ℕ) (on b : Bool) → StayInPlace (switch n state on b)
switch_stays n state true true = tt
switch_stays n state false true = (refl, tt)
switch_stays n state true false = (refl, tt)
switch_stays n state false false = tt

focus_stays : (f : Forest ShapeRow) (k n : ℕ) → StayInPlace (focusing f k n)
focus_stays f k n =
    let others : List ℕ = filter (λ m. not (m == n) && node_has_state f m focused) (numbers_to k) in
    together (map (λ m. SetState m focused false) others) (switched f n focused true) (each_made (λ m. SetState m focused false) others (λ m. refl))
    (switch_stays n focused true (node_has_state f n focused))

put_stays : (n at : ℕ) (x : List ℕ) (c : ℕ) (b d : Bool) → StayInPlace (cond b [] (Insert n at x ∷ cond d (Caret n c ∷ []) []))
put_stays n at x c true d = tt
put_stays n at x c false true = (refl, (refl, tt))
put_stays n at x c false false = (refl, tt)

type_stays : (n at : ℕ) (x : List ℕ) (c : ℕ) (b : Bool) → StayInPlace (cond b [] (Insert n at x ∷ Caret n c ∷ []))
type_stays n at x c true = tt
type_stays n at x c false = (refl, (refl, tt))

cut_stays : (n from c : ℕ) (x : List ℕ) (b d : Bool) → StayInPlace (cond b [] (cond d (Caret n c ∷ []) [] ++ Delete n from x ∷ []))
cut_stays n from c x true d = tt
cut_stays n from c x false true = (refl, (refl, tt))
cut_stays n from c x false false = (refl, tt)

unselect_stays : (b : Bool) (children : List ShapeRow) → StayInPlace (cond b [] (unselecting children))
unselect_stays true children = tt
unselect_stays false children =
    each_made (λ (row : ShapeRow). SetState row.node selected false) (filter (λ row. has_state selected row.states) children) (λ row. refl)

select_stays : (on : Bool) (children : List ShapeRow) → StayInPlace (selecting on children)
select_stays on [] = tt
select_stays on (row ∷ more) = switch_stays row.node selected on (has_state selected row.states)

choose_stays : (b : Bool) (xs ys : List Step) → StayInPlace xs → StayInPlace ys → StayInPlace (cond b xs ys)
choose_stays true xs ys s t = s
choose_stays false xs ys s t = t

act_stays : (f : Forest ShapeRow) (k n : ℕ) (name : List ℕ) → StayInPlace (acting f k n name)
act_stays f k n name =
    choose_stays (bytes_eq name (codes "toggle")) (flipping f n checked) _ (refl, tt)
    (choose_stays (bytes_eq name (codes "expand")) (flipping f n expanded) _ (refl, tt)
    (choose_stays (bytes_eq name (codes "press")) (switched f n pressed true ++ SetState n pressed false ∷ []) _
    (together (switched f n pressed true) (SetState n pressed false ∷ []) (switch_stays n pressed true (node_has_state f n pressed)) (refl, tt))
    (choose_stays (bytes_eq name (codes "focus")) (focusing f k n) [] (focus_stays f k n) tt)))

press_stays : (f : Forest ShapeRow) (k n : ℕ) (names : List (List ℕ)) → StayInPlace (pressing f k n names)
press_stays f k n [] = tt
press_stays f k n (name ∷ names) = act_stays f k n name

unless_stays : (b : Bool) (step : Step) → Stays step → StayInPlace (unless b step)
unless_stays true step s = tt
unless_stays false step s = (s, tt)

-- an edit that takes a node from its place
abbrev pub takes_by : Edit → Bool
takes_by (RemoveEdit n) = true
takes_by (MoveEdit n p i) = true
takes_by edit = false

made_stay : (f : Forest ShapeRow) (k : ℕ) (known : FaceData) (edit : Edit) → takes_by edit ≡ false → StayInPlace (made_steps f k known edit)
made_stay f k known (RemoveEdit n) e = absurd cc
made_stay f k known (MoveEdit n p i) e = absurd cc
made_stay f k known (InsertEdit p i seed) e = (refl, tt)
made_stay f k known (Name n x) e = unless_stays _ (SetName n x) refl
made_stay f k known (Describe n x) e = unless_stays _ (SetDescription n x) refl
made_stay f k known (Role n role) e = unless_stays _ (SetRole n role) refl
made_stay f k known (State n state on) e = switch_stays n state on (node_has_state f n state)
made_stay f k known (Focus n) e = focus_stays f k n
made_stay f k known (Put n at x) e =
    let caret = (known_text known).caret in
    put_stays n at x (caret + length x) (length x == 0) (nat_lt at caret)
made_stay f k known (Keys n x) e =
    let caret = (known_text known).caret in
    type_stays n caret x (caret + length x) (length x == 0)
made_stay f k known (Cut n from to) e =
    let text = known_text known in
    cut_stays n from (cond (nat_le text.caret to) from (text.caret - (to - from))) (take (to - from) (drop from text.characters)) (from == to) (nat_lt from text.caret)
made_stay f k known (CaretEdit n at) e = unless_stays _ (Caret n at) refl
made_stay f k known (Mark n from to) e = (refl, tt)
made_stay f k known (Unmark n) e = unless_stays _ (TextSelect n []) refl
made_stay f k known (Select n i) e =
    let children = tops (children_of f n) in
    let many = node_has_state f n multiselectable in
    together (cond many [] (unselecting (others i children))) (selecting true (drop i children)) (unselect_stays many (others i children)) (select_stays true (drop i children))
made_stay f k known (Deselect n i) e = select_stays false (drop i (tops (children_of f n)))
made_stay f k known (Press n i) e = press_stays f k n (drop i (known_actions known))
made_stay f k known (RelateEdit n kind m) e =
    let targets = node_targets kind (find (is_shape n) f) in
    unless_stays (is_among m targets) (Relate n kind (targets ++ m ∷ [])) refl
made_stay f k known (Unrelate n kind m) e =
    let targets = node_targets kind (find (is_shape n) f) in
    unless_stays (not (is_among m targets)) (Relate n kind (filter (λ t. not (t == m)) targets)) refl

-- one step at most, or none that takes a node from its place
data Simple (list : List Step) : Type 0 where
  staying : StayInPlace list → Simple list
  alone : (step : Step) → list ≡ step ∷ [] → Simple list

unless_simple : (b : Bool) (step : Step) → Simple (unless b step)
unless_simple true step = staying tt
unless_simple false step = alone step refl

made_simple : (f : Forest ShapeRow) (k : ℕ) (known : FaceData) (edit : Edit) → Simple (made_steps f k known edit)
made_simple f k known (RemoveEdit n) = alone (Remove n) refl
made_simple f k known (MoveEdit n p i) = unless_simple _ (Move n p i)
made_simple f k known (InsertEdit p i seed) = staying (made_stay f k known (InsertEdit p i seed) refl)
made_simple f k known (Name n x) = staying (made_stay f k known (Name n x) refl)
made_simple f k known (Describe n x) = staying (made_stay f k known (Describe n x) refl)
made_simple f k known (Role n role) = staying (made_stay f k known (Role n role) refl)
made_simple f k known (State n state on) = staying (made_stay f k known (State n state on) refl)
made_simple f k known (Focus n) = staying (made_stay f k known (Focus n) refl)
made_simple f k known (Put n at x) = staying (made_stay f k known (Put n at x) refl)
made_simple f k known (Keys n x) = staying (made_stay f k known (Keys n x) refl)
made_simple f k known (Cut n from to) = staying (made_stay f k known (Cut n from to) refl)
made_simple f k known (CaretEdit n at) = staying (made_stay f k known (CaretEdit n at) refl)
made_simple f k known (Mark n from to) = staying (made_stay f k known (Mark n from to) refl)
made_simple f k known (Unmark n) = staying (made_stay f k known (Unmark n) refl)
made_simple f k known (Select n i) = staying (made_stay f k known (Select n i) refl)
made_simple f k known (Deselect n i) = staying (made_stay f k known (Deselect n i) refl)
made_simple f k known (Press n i) = staying (made_stay f k known (Press n i) refl)
made_simple f k known (RelateEdit n kind m) = staying (made_stay f k known (RelateEdit n kind m) refl)
made_simple f k known (Unrelate n kind m) = staying (made_stay f k known (Unrelate n kind m) refl)

made : (o : Option EditFault) (xs ys : List Step) → steps_unless o xs ≡ Ok ys → xs ≡ ys
made None xs ys h = cc
made (Some fault) xs ys h = absurd cc

pub edit_stays : (f : Forest TreeRow) (k : ℕ) (edit : Edit) (list : List Step) → takes_by edit ≡ false → steps_of_tree f k edit ≡ Ok list → StayInPlace list
edit_stays f k edit list o e =
    let s = shape_of f in
    let known = contents_read f edit in
    subst StayInPlace (made (first_fault (refusals s k known edit)) (made_steps s k known edit) list e) (made_stay s k known edit o)

edit_simple : (f : Forest TreeRow) (k : ℕ) (edit : Edit) (list : List Step) → steps_of_tree f k edit ≡ Ok list → Simple list
edit_simple f k edit list e =
    let s = shape_of f in
    let known = contents_read f edit in
    subst Simple (made (first_fault (refusals s k known edit)) (made_steps s k known edit) list e) (made_simple s k known edit)

one_at_once : (f : Forest TreeRow) (step : Step) → IsToldAtOnce f (step ∷ [])
one_at_once f step heard bus = refl

simple_at_once : (f : Forest TreeRow) (list : List Step) → Simple list → IsToldAtOnce f list
simple_at_once f list (staying s) = staying_is_told_at_once f list s
simple_at_once f list (alone step is) = subst (IsToldAtOnce f) (sym is) (one_at_once f step)

simple_can : (f : Forest TreeRow) (k : ℕ) (list : List Step) → IsTree rows f k → AllApply rows f k list → Simple list → Each (CanBeTold (shape_with f k)) list
simple_can f k list t a (staying s) = staying_can_be_told f k list t a s
simple_can f k list t a (alone step is) =
    let b : AllApply rows f k (step ∷ []) = subst (AllApply rows f k) is a in
    subst (Each (CanBeTold (shape_with f k))) (sym is) (applied_can_be_told f k step t b.0, tt)

pub edits_are_told_at_once : EditsAreToldAtOnce
edits_are_told_at_once f k edit list e = simple_at_once f list (edit_simple f k edit list e)

pub edits_can_be_told : EditsCanBeTold
edits_can_be_told f k edit list t w e = simple_can f k list t (steps_apply f k edit list t w e) (edit_simple f k edit list e)
