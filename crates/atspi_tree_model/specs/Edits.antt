-- Edits: when one is refused and why, and else which steps it makes.
use Rattle.std.specs.Prelude.{ℕ, zero, suc, ◌+◌, ◌-◌, ◌≡◌, ◌≤◌, ◌<◌, ◌==◌, nat_lt, nat_le, Bool, true, false, cond, not}
use Rattle.std.specs.Prelude.{◌&&◌, ◌||◌, List, [], ◌∷◌, ◌++◌, map, filter, length, take, drop, Option, Some, None}
use Rattle.std.specs.Prelude.{is_some, Result, Ok, Err, codes, bytes_eq, encode_utf8_all}
use Rattle.atspi_tree_model.specs.declared.limits.TheConstants.{NODE_LIMIT, ADDED_LIMIT, NAME_LIMIT, TEXT_LIMIT}
use Rattle.atspi_tree_model.specs.declared.limits.TheConstants.{MARK_LIMIT, COLUMN_LIMIT, ACTION_LIMIT, RELATION_KINDS}
use Rattle.atspi_tree_model.specs.declared.limits.TheConstants.{STATE_COUNT}
use Rattle.atspi_tree_model.specs.declared.contents.Kinds.{Kinds}
use Rattle.atspi_tree_model.specs.declared.contents.FaceData.{FaceData}
use Rattle.atspi_tree_model.specs.declared.contents.FaceData.TheVariants.{Chars, Deeds}
use Rattle.atspi_tree_model.specs.declared.step.Step.{Step}
use Rattle.atspi_tree_model.specs.declared.step.Step.TheVariants.{Add, SetName, SetDescription, SetRole, SetState}
use Rattle.atspi_tree_model.specs.declared.step.Step.TheVariants.{Delete, TextSelect, Remove as RemoveStep}
use Rattle.atspi_tree_model.specs.declared.step.Step.TheVariants.{Move as MoveStep, Insert as InsertStep}
use Rattle.atspi_tree_model.specs.declared.step.Step.TheVariants.{Caret as CaretStep, Relate as RelateStep}
use Rattle.atspi_tree_model.specs.declared.edit.Edit.{Edit}
use Rattle.atspi_tree_model.specs.declared.edit.Edit.TheVariants.{Insert, Remove, Move, Name, Describe, Role, State}
use Rattle.atspi_tree_model.specs.declared.edit.Edit.TheVariants.{Focus, Put, Keys, Cut, Caret, Mark, Unmark, Select}
use Rattle.atspi_tree_model.specs.declared.edit.Edit.TheVariants.{Deselect, Press, Relate, Unrelate}
use Rattle.atspi_tree_model.specs.declared.edit.EditFault.{EditFault}
use Rattle.atspi_tree_model.specs.declared.edit.EditFault.TheVariants.{NoNode, IsRoot, NoFace, BadIndex, BadOffset}
use Rattle.atspi_tree_model.specs.declared.edit.EditFault.TheVariants.{Cycle, Full, TextFull}
use Rattle.atspi_tree_model.specs.Forest.{Forest, count, has, width, take_out, find, tops, children_at}
use Rattle.atspi_tree_model.specs.States.{has_state, checked, expanded, focused, multiselectable, pressed, selected}
use Rattle.atspi_tree_model.specs.Row.{ShapeRow, TextContents, TreeRow, targets_of}
use Rattle.atspi_tree_model.specs.RowRules.{shapes}
use Rattle.atspi_tree_model.specs.Tree.{is_shape, is_node, in_subtree, seat_of, shape_of}

-- the text that is known of the node, none where contents of another kind are
abbrev pub known_text : FaceData → TextContents
known_text (Chars text caret marks) = record { characters = text; caret = caret; selections = marks }
known_text _ = record { characters = []; caret = 0; selections = [] }

-- the actions that are known, none where contents of another kind are
abbrev pub known_actions : FaceData → List (List ℕ)
known_actions (Deeds actions) = actions
known_actions _ = []

-- a node that is not there
abbrev pub lacks_node : Forest ShapeRow → ℕ → Bool
lacks_node f n = not (has (is_shape n) f)

-- a node without this interface
abbrev pub lacks_kind : (Kinds → Bool) → Forest ShapeRow → ℕ → Bool
lacks_kind kind f n = not (has (λ row. is_shape n row && kind row.kinds) f)

-- a node's children
abbrev pub children_of : Forest ShapeRow → ℕ → Forest ShapeRow
children_of f n = children_at (is_shape n) f

-- a name or description that is too long
abbrev pub is_long_name : List ℕ → Bool
is_long_name text = nat_lt NAME_LIMIT (length (encode_utf8_all text))

-- a text of so many characters is too long
abbrev pub is_long_text : ℕ → Bool
is_long_text characters = nat_lt TEXT_LIMIT characters

-- how many characters a new node has
abbrev pub text_length : Option (List ℕ) → ℕ
text_length None = 0
text_length (Some x) = length x

-- a count of columns that no table has
abbrev pub bad_columns : Option ℕ → Bool
bad_columns None = false
bad_columns (Some n) = (n == 0) || nat_lt COLUMN_LIMIT n

-- the tree holds all the nodes that it may, or no number is left
abbrev pub is_full : Forest ShapeRow → ℕ → Bool
is_full f added = nat_le NODE_LIMIT (count (λ row. true) f) || nat_le ADDED_LIMIT added

-- the reasons to refuse an edit, in the order in which they are looked for, each with the test of its rule
abbrev pub refusals : Forest ShapeRow → ℕ → FaceData → Edit → List (Bool × EditFault)
refusals f added known (Insert p i seed) =
    (lacks_node f p, NoNode)
    ∷ (nat_lt (width (children_of f p)) i || bad_columns seed.columns, BadIndex)
    ∷ (is_full f added, Full)
    ∷ (is_long_name seed.name || is_long_text (text_length seed.text), TextFull) ∷ []
refusals f added known (Remove n) = (lacks_node f n, NoNode) ∷ (n == 0, IsRoot) ∷ []
refusals f added known (Move n p i) =
    (lacks_node f n || lacks_node f p, NoNode)
    ∷ (n == 0, IsRoot)
    ∷ (nat_lt (width (take_out (is_shape n) (children_of f p))) i, BadIndex)
    ∷ (in_subtree shapes n f p, Cycle) ∷ []
refusals f added known (Name n x) = (lacks_node f n, NoNode) ∷ (is_long_name x, TextFull) ∷ []
refusals f added known (Describe n x) = (lacks_node f n, NoNode) ∷ (is_long_name x, TextFull) ∷ []
refusals f added known (Role n role) = (lacks_node f n, NoNode) ∷ []
refusals f added known (State n state on) = (lacks_node f n, NoNode) ∷ []
refusals f added known (Focus n) = (lacks_node f n, NoNode) ∷ []
refusals f added known (Put n at x) =
    let text = known_text known in
    (lacks_node f n, NoNode)
    ∷ (lacks_kind (λ k. k.editable) f n, NoFace)
    ∷ (nat_lt (length text.characters) at, BadOffset)
    ∷ (is_long_text (length text.characters + length x), TextFull) ∷ []
refusals f added known (Keys n x) =
    (lacks_node f n, NoNode)
    ∷ (lacks_kind (λ k. k.editable) f n, NoFace)
    ∷ (is_long_text (length (known_text known).characters + length x), TextFull) ∷ []
refusals f added known (Cut n from to) =
    (lacks_node f n, NoNode)
    ∷ (lacks_kind (λ k. k.editable) f n, NoFace)
    ∷ (nat_lt to from || nat_lt (length (known_text known).characters) to, BadOffset) ∷ []
refusals f added known (Caret n at) =
    (lacks_node f n, NoNode)
    ∷ (lacks_kind (λ k. k.text) f n, NoFace)
    ∷ (nat_lt (length (known_text known).characters) at, BadOffset) ∷ []
refusals f added known (Mark n from to) =
    let text = known_text known in
    (lacks_node f n, NoNode)
    ∷ (lacks_kind (λ k. k.text) f n, NoFace)
    ∷ (nat_le to from || nat_lt (length text.characters) to || nat_le MARK_LIMIT (length text.selections), BadOffset)
    ∷ []
refusals f added known (Unmark n) = (lacks_node f n, NoNode) ∷ (lacks_kind (λ k. k.text) f n, NoFace) ∷ []
refusals f added known (Select n i) =
    (lacks_node f n, NoNode)
    ∷ (lacks_kind (λ k. k.selection) f n, NoFace)
    ∷ (nat_le (width (children_of f n)) i, BadIndex) ∷ []
refusals f added known (Deselect n i) =
    (lacks_node f n, NoNode)
    ∷ (lacks_kind (λ k. k.selection) f n, NoFace)
    ∷ (nat_le (width (children_of f n)) i, BadIndex) ∷ []
refusals f added known (Press n i) =
    (lacks_node f n, NoNode)
    ∷ (lacks_kind (λ k. k.action) f n, NoFace)
    ∷ (nat_le (length (known_actions known)) i, BadIndex) ∷ []
refusals f added known (Relate n kind m) =
    (lacks_node f n || lacks_node f m, NoNode) ∷ ((kind == 0) || nat_lt RELATION_KINDS kind, BadIndex) ∷ []
refusals f added known (Unrelate n kind m) =
    (lacks_node f n || lacks_node f m, NoNode) ∷ ((kind == 0) || nat_lt RELATION_KINDS kind, BadIndex) ∷ []

-- the first reason whose rule holds
abbrev pub first_fault : List (Bool × EditFault) → Option EditFault
first_fault [] = None
first_fault (rule ∷ rules) = cond rule.0 (Some rule.1) (first_fault rules)

-- whether a node has a state
abbrev pub node_has_state : Forest ShapeRow → ℕ → ℕ → Bool
node_has_state f n state = has (λ row. is_shape n row && has_state state row.states) f

-- a state set to a value, no step where it has that value
abbrev pub switch : ℕ → ℕ → Bool → Bool → List Step
switch n state on true = cond on [] (SetState n state false ∷ [])
switch n state on false = cond on (SetState n state true ∷ []) []

-- the same for a node as it is
abbrev pub switched : Forest ShapeRow → ℕ → ℕ → Bool → List Step
switched f n state on = switch n state on (node_has_state f n state)

-- the numbers 0 to k, rising
abbrev pub numbers_to : ℕ → List ℕ
numbers_to zero = 0 ∷ []
numbers_to (suc k) = numbers_to k ++ suc k ∷ []

-- the focus is taken from each other node that has it, by rising number, and given to this one
abbrev pub focusing : Forest ShapeRow → ℕ → ℕ → List Step
focusing f added n =
    map (λ m. SetState m focused false) (filter (λ m. not (m == n) && node_has_state f m focused) (numbers_to added))
    ++ switched f n focused true

-- a text is put at a place, and a caret behind that place goes on by its length
abbrev pub putting : ℕ → ℕ → List ℕ → ℕ → List Step
putting n at x caret =
    cond (length x == 0) []
    (InsertStep n at x ∷ cond (nat_lt at caret) (CaretStep n (caret + length x) ∷ []) [])

-- a text is typed at the caret, which goes behind it
abbrev pub typing : ℕ → List ℕ → ℕ → List Step
typing n x caret = cond (length x == 0) [] (InsertStep n caret x ∷ CaretStep n (caret + length x) ∷ [])

-- the caret leaves what will be cut, and then that is cut
abbrev pub cutting : ℕ → ℕ → ℕ → TextContents → List Step
cutting n from to text =
    cond (from == to) []
    (cond (nat_lt from text.caret) (CaretStep n (cond (nat_le text.caret to) from (text.caret - (to - from))) ∷ []) []
    ++ Delete n from (take (to - from) (drop from text.characters)) ∷ [])

-- the states of these children set to off, where they are on
abbrev pub unselecting : List ShapeRow → List Step
unselecting children =
    map (λ (row : ShapeRow). SetState row.node selected false) (filter (λ row. has_state selected row.states) children)

-- the first of these children selected, or not
abbrev pub selecting : Bool → List ShapeRow → List Step
selecting on [] = []
selecting on (row ∷ rows) = switch row.node selected on (has_state selected row.states)

-- all but the element at an index
abbrev pub others : {A : Type 0} → ℕ → List A → List A
others i xs = take i xs ++ drop (suc i) xs

-- a state turned over
abbrev pub flipping : Forest ShapeRow → ℕ → ℕ → List Step
flipping f n state = SetState n state (not (node_has_state f n state)) ∷ []

-- what an action does is said by its name
abbrev pub acting : Forest ShapeRow → ℕ → ℕ → List ℕ → List Step
acting f added n name =
    cond (bytes_eq name (codes "toggle")) (flipping f n checked)
    (cond (bytes_eq name (codes "expand")) (flipping f n expanded)
    (cond (bytes_eq name (codes "press")) (switched f n pressed true ++ SetState n pressed false ∷ [])
    (cond (bytes_eq name (codes "focus")) (focusing f added n) [])))

-- the first of these actions is done
abbrev pub pressing : Forest ShapeRow → ℕ → ℕ → List (List ℕ) → List Step
pressing f added n [] = []
pressing f added n (name ∷ names) = acting f added n name

-- the targets of a node's relation
abbrev pub node_targets : ℕ → Option ShapeRow → List ℕ
node_targets kind None = []
node_targets kind (Some row) = targets_of kind row.relations

-- whether a number is in a list
abbrev pub is_among : ℕ → List ℕ → Bool
is_among m [] = false
is_among m (x ∷ xs) = cond (x == m) true (is_among m xs)

-- a step that is made unless all is so already
abbrev pub unless : Bool → Step → List Step
unless true step = []
unless false step = step ∷ []

-- whether a node stands at this index of this parent
abbrev pub is_seat : ℕ → ℕ → Option (Option ℕ × ℕ) → Bool
is_seat p i (Some (Some q, j)) = (q == p) && (j == i)
is_seat p i _ = false

-- the steps of an edit that is not refused
abbrev pub made_steps : Forest ShapeRow → ℕ → FaceData → Edit → List Step
made_steps f added known (Insert p i seed) = Add (suc added) p i seed ∷ []
made_steps f added known (Remove n) = RemoveStep n ∷ []
made_steps f added known (Move n p i) = unless (is_seat p i (seat_of shapes n f)) (MoveStep n p i)
made_steps f added known (Name n x) = unless (has (λ row. is_shape n row && bytes_eq row.name x) f) (SetName n x)
made_steps f added known (Describe n x) =
    unless (has (λ row. is_shape n row && bytes_eq row.description x) f) (SetDescription n x)
made_steps f added known (Role n role) = unless (has (λ row. is_shape n row && (row.role == role)) f) (SetRole n role)
made_steps f added known (State n state on) = switched f n state on
made_steps f added known (Focus n) = focusing f added n
made_steps f added known (Put n at x) = putting n at x (known_text known).caret
made_steps f added known (Keys n x) = typing n x (known_text known).caret
made_steps f added known (Cut n from to) = cutting n from to (known_text known)
made_steps f added known (Caret n at) = unless ((known_text known).caret == at) (CaretStep n at)
made_steps f added known (Mark n from to) = TextSelect n ((known_text known).selections ++ (from, to) ∷ []) ∷ []
made_steps f added known (Unmark n) = unless (length (known_text known).selections == 0) (TextSelect n [])
made_steps f added known (Select n i) =
    let children = tops (children_of f n) in
    cond (node_has_state f n multiselectable) [] (unselecting (others i children)) ++ selecting true (drop i children)
made_steps f added known (Deselect n i) = selecting false (drop i (tops (children_of f n)))
made_steps f added known (Press n i) = pressing f added n (drop i (known_actions known))
made_steps f added known (Relate n kind m) =
    let targets = node_targets kind (find (is_shape n) f) in
    unless (is_among m targets) (RelateStep n kind (targets ++ m ∷ []))
made_steps f added known (Unrelate n kind m) =
    let targets = node_targets kind (find (is_shape n) f) in
    unless (not (is_among m targets)) (RelateStep n kind (filter (λ t. not (t == m)) targets))

-- the steps, unless there is a fault
abbrev pub steps_unless : Option EditFault → List Step → Result (List Step) EditFault
steps_unless None steps = Ok steps
steps_unless (Some fault) steps = Err fault

-- the steps of an edit, or why it is refused; of the contents the edit's reader hands in those that it reads
abbrev pub steps_of : Forest ShapeRow → ℕ → FaceData → Edit → Result (List Step) EditFault
steps_of f added known edit = steps_unless (first_fault (refusals f added known edit)) (made_steps f added known edit)

-- a node's text as contents of its kind; an empty list of actions where it has none
abbrev pub text_contents : Option TreeRow → FaceData
text_contents None = Deeds []
text_contents (Some row) = of_text row.contents.text
  where
    of_text : Option TextContents → FaceData
    of_text None = Deeds []
    of_text (Some text) = Chars text.characters text.caret text.selections

-- a node's actions as contents of their kind
abbrev pub action_contents : Option TreeRow → FaceData
action_contents None = Deeds []
action_contents (Some row) = Deeds row.contents.actions

-- the contents that an edit reads
abbrev pub contents_read : Forest TreeRow → Edit → FaceData
contents_read f (Put n at x) = text_contents (find (is_node n) f)
contents_read f (Keys n x) = text_contents (find (is_node n) f)
contents_read f (Cut n from to) = text_contents (find (is_node n) f)
contents_read f (Caret n at) = text_contents (find (is_node n) f)
contents_read f (Mark n from to) = text_contents (find (is_node n) f)
contents_read f (Unmark n) = text_contents (find (is_node n) f)
contents_read f (Press n i) = action_contents (find (is_node n) f)
contents_read f _ = Deeds []

-- the same of a whole tree
abbrev pub steps_of_tree : Forest TreeRow → ℕ → Edit → Result (List Step) EditFault
steps_of_tree f added edit = steps_of (shape_of f) added (contents_read f edit) edit

-- an edit that can be asked for: a state is one of those that there are, a new node has no more actions than it may,
-- and it can be edited only where it has a text
abbrev pub IsEdit : Edit → Type 0
IsEdit (State n state on) = state < STATE_COUNT
IsEdit (Insert p i seed) = (length seed.actions ≤ ACTION_LIMIT) × (seed.editable ≡ true → is_some seed.text ≡ true)
IsEdit _ = Unit {0}
