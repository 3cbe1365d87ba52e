-- The steps of an edit are done as one.
use Rattle.std.proofs.Common.{◌≡◌, ℕ, ◌+◌, ◌-◌, ◌==◌, Bool, true, false, cond, not, ◌&&◌, Option, Some, None, List, [], ◌∷◌, ◌++◌, subst}
use Rattle.std.specs.Prelude.{Ok, filter, map, take, drop, length, nat_lt, nat_le, bytes_eq, codes}
use Rattle.atspi_tree_model.specs.declared.contents.FaceData.{FaceData}
use Rattle.atspi_tree_model.specs.declared.edit.Edit.{Edit}
use Rattle.atspi_tree_model.specs.declared.edit.Edit.TheVariants as edits
use Rattle.atspi_tree_model.specs.declared.edit.EditFault.{EditFault}
use Rattle.atspi_tree_model.specs.declared.step.Step.{Step}
use Rattle.atspi_tree_model.specs.declared.step.Step.TheVariants.{Add, Remove, Move, SetName, SetDescription, SetRole, SetState, Insert, Delete, Caret, TextSelect, Relate}
use Rattle.atspi_tree_model.specs.Forest.{Forest, tops}
use Rattle.atspi_tree_model.specs.States.{has_state, checked, expanded, focused, multiselectable, pressed, selected}
use Rattle.atspi_tree_model.specs.Row.{ShapeRow, TreeRow, Each}
use Rattle.atspi_tree_model.specs.Tree.{shape_of}
use Rattle.atspi_tree_model.specs.Edits.{known_text, known_actions, children_of, refusals, first_fault, node_has_state, switch, switched, numbers_to, focusing, unselecting, selecting, others, flipping, pressing, unless, made_steps, steps_unless, contents_read, steps_of_tree}
use Rattle.atspi_app_exported.specs.Doing.{TakesMemory, AreOne}

-- a step that sets a state, and steps that do
abbrev pub IsState : Step → Type 0
IsState (SetState n state on) = Unit {0}
IsState step = ⊥

abbrev IsQuiet : Step → Type 0
IsQuiet step = TakesMemory step → ⊥

state_quiet : (step : Step) → IsState step → IsQuiet step
state_quiet (SetState n s on) h = λ m. m
state_quiet (Add n p i seed) h = absurd h
state_quiet (Remove n) h = absurd h
state_quiet (Move n p i) h = absurd h
state_quiet (SetName n x) h = absurd h
state_quiet (SetDescription n x) h = absurd h
state_quiet (SetRole n r) h = absurd h
state_quiet (Insert n at x) h = absurd h
state_quiet (Delete n at x) h = absurd h
state_quiet (Caret n at) h = absurd h
state_quiet (TextSelect n marks) h = absurd h
state_quiet (Relate n kind ts) h = absurd h

states_quiet : (steps : List Step) → Each IsState steps → Each IsQuiet steps
states_quiet [] h = tt
states_quiet (step ∷ steps) h = (state_quiet step h.0, states_quiet steps h.1)

pub states_one : (steps : List Step) → Each IsState steps → AreOne steps
states_one [] h = tt
states_one (step ∷ steps) h = states_quiet steps h.1

states_append : (xs ys : List Step) → Each IsState xs → Each IsState ys → Each IsState (xs ++ ys)
states_append [] ys h g = g
states_append (x ∷ xs) ys h g = (h.0, states_append xs ys h.1 g)

-- states of several nodes
mapped : {A : Type 0} (step : A → Step) → ((a : A) → IsState (step a)) → (xs : List A) → Each IsState (map step xs)
mapped step h [] = tt
mapped step h (x ∷ xs) = (h x, mapped step h xs)

switch_states : (n s : ℕ) (on b : Bool) → Each IsState (switch n s on b)
switch_states n s true true = tt
switch_states n s false true = (tt, tt)
switch_states n s true false = (tt, tt)
switch_states n s false false = tt

focus_states : (f : Forest ShapeRow) (k n : ℕ) → Each IsState (focusing f k n)
focus_states f k n =
    states_append (map (λ m. SetState m focused false) (filter (λ m. not (m == n) && node_has_state f m focused) (numbers_to k))) (switched f n focused true)
    (mapped (λ m. SetState m focused false) (λ m. tt) (filter (λ m. not (m == n) && node_has_state f m focused) (numbers_to k)))
    (switch_states n focused true (node_has_state f n focused))

unselect_states : (b : Bool) (children : List ShapeRow) → Each IsState (cond b [] (unselecting children))
unselect_states true children = tt
unselect_states false children =
    mapped (λ (row : ShapeRow). SetState row.node selected false) (λ row. tt) (filter (λ row. has_state selected row.states) children)

select_states : (on : Bool) (children : List ShapeRow) → Each IsState (selecting on children)
select_states on [] = tt
select_states on (row ∷ rows) = switch_states row.node selected on (has_state selected row.states)

act_states : (f : Forest ShapeRow) (k n : ℕ) (a b c d : Bool)
    → Each IsState (cond a (flipping f n checked) (cond b (flipping f n expanded) (cond c (switched f n pressed true ++ SetState n pressed false ∷ []) (cond d (focusing f k n) []))))
act_states f k n true b c d = (tt, tt)
act_states f k n false true c d = (tt, tt)
act_states f k n false false true d =
    states_append (switched f n pressed true) (SetState n pressed false ∷ []) (switch_states n pressed true (node_has_state f n pressed)) (tt, tt)
act_states f k n false false false true = focus_states f k n
act_states f k n false false false false = tt

press_states : (f : Forest ShapeRow) (k n : ℕ) (names : List (List ℕ)) → Each IsState (pressing f k n names)
press_states f k n [] = tt
press_states f k n (name ∷ names) =
    act_states f k n (bytes_eq name (codes "toggle")) (bytes_eq name (codes "expand")) (bytes_eq name (codes "press")) (bytes_eq name (codes "focus"))

-- steps of a text, and single steps
unless_one : (b : Bool) (step : Step) → AreOne (unless b step)
unless_one true step = tt
unless_one false step = tt

put_one : (n at : ℕ) (x : List ℕ) (to : ℕ) (b d : Bool) → AreOne (cond b [] (Insert n at x ∷ cond d (Caret n to ∷ []) []))
put_one n at x to true d = tt
put_one n at x to false true = ((λ m. m), tt)
put_one n at x to false false = tt

type_one : (n at : ℕ) (x : List ℕ) (to : ℕ) (b : Bool) → AreOne (cond b [] (Insert n at x ∷ Caret n to ∷ []))
type_one n at x to true = tt
type_one n at x to false = ((λ m. m), tt)

cut_one : (n from : ℕ) (x : List ℕ) (to : ℕ) (b d : Bool) → AreOne (cond b [] (cond d (Caret n to ∷ []) [] ++ Delete n from x ∷ []))
cut_one n from x to true d = tt
cut_one n from x to false true = ((λ m. m), tt)
cut_one n from x to false false = tt

made_one : (f : Forest ShapeRow) (k : ℕ) (known : FaceData) (edit : Edit) → AreOne (made_steps f k known edit)
made_one f k known (edits.Insert p i seed) = tt
made_one f k known (edits.Remove n) = tt
made_one f k known (edits.Move n p i) = unless_one _ (Move n p i)
made_one f k known (edits.Name n x) = unless_one _ (SetName n x)
made_one f k known (edits.Describe n x) = unless_one _ (SetDescription n x)
made_one f k known (edits.Role n role) = unless_one _ (SetRole n role)
made_one f k known (edits.State n state on) = states_one (switched f n state on) (switch_states n state on (node_has_state f n state))
made_one f k known (edits.Focus n) = states_one (focusing f k n) (focus_states f k n)
made_one f k known (edits.Put n at x) = put_one n at x ((known_text known).caret + length x) (length x == 0) (nat_lt at (known_text known).caret)
made_one f k known (edits.Keys n x) = type_one n (known_text known).caret x ((known_text known).caret + length x) (length x == 0)
made_one f k known (edits.Cut n from to) =
    cut_one n from (take (to - from) (drop from (known_text known).characters))
    (cond (nat_le (known_text known).caret to) from ((known_text known).caret - (to - from))) (from == to) (nat_lt from (known_text known).caret)
made_one f k known (edits.Caret n at) = unless_one _ (Caret n at)
made_one f k known (edits.Mark n from to) = tt
made_one f k known (edits.Unmark n) = unless_one _ (TextSelect n [])
made_one f k known (edits.Select n i) =
    let children = tops (children_of f n) in
    states_one (cond (node_has_state f n multiselectable) [] (unselecting (others i children)) ++ selecting true (drop i children))
    (states_append (cond (node_has_state f n multiselectable) [] (unselecting (others i children))) (selecting true (drop i children))
    (unselect_states (node_has_state f n multiselectable) (others i children)) (select_states true (drop i children)))
made_one f k known (edits.Deselect n i) =
    let children = tops (children_of f n) in
    states_one (selecting false (drop i children)) (select_states false (drop i children))
made_one f k known (edits.Press n i) = states_one (pressing f k n (drop i (known_actions known))) (press_states f k n (drop i (known_actions known)))
made_one f k known (edits.Relate n kind m) = unless_one _ (Relate n kind _)
made_one f k known (edits.Unrelate n kind m) = unless_one _ (Relate n kind _)

ok_of : (o : Option EditFault) (xs ys : List Step) → steps_unless o xs ≡ Ok ys → xs ≡ ys
ok_of None xs ys h = let e : xs ≡ ys = cc in e
ok_of (Some fault) xs ys h = cc

-- the steps of an edit
pub edits_one : (f : Forest TreeRow) (k : ℕ) (edit : Edit) (steps : List Step) → steps_of_tree f k edit ≡ Ok steps → AreOne steps
edits_one f k edit steps h =
    let o = ok_of (first_fault (refusals (shape_of f) k (contents_read f edit) edit)) (made_steps (shape_of f) k (contents_read f edit) edit) steps h in
    subst AreOne o (made_one (shape_of f) k (contents_read f edit) edit)
