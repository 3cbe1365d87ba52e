-- What the steps of an edit need: that nodes and texts are there, and that states may be set.
use Rattle.std.proofs.Common.{◌≡◌, ℕ, ◌+◌, ◌-◌, ◌<◌, ◌≤◌, ◌==◌, Bool, true, false, cond, not, ◌&&◌, Option, Some, None, List, [], ◌∷◌, ◌++◌, refl, sym, ◌∙◌, arith, length-append, length-take, length-drop}
use Rattle.std.specs.Prelude.{map, filter, take, drop, length, is_some, codes, bytes_eq, encode_utf8_all, pos}
use Rattle.std.proofs.lemmas.Bool.{ltb-false, le-leb, eq-eqb}
use Rattle.atspi_tree_model.specs.declared.contents.Kinds.{Kinds}
use Rattle.atspi_tree_model.specs.declared.step.Step.{Step}
use Rattle.atspi_tree_model.specs.declared.step.Step.TheVariants.{Add, SetName, SetDescription, SetRole, SetState, Delete, TextSelect, Remove as RemoveStep, Move as MoveStep, Insert as InsertStep, Caret as CaretStep, Relate as RelateStep}
use Rattle.atspi_tree_model.specs.declared.edit.EditFault.{EditFault}
use Rattle.atspi_tree_model.specs.Forest.{Forest, count, has, find, tops, children_at}
use Rattle.atspi_tree_model.specs.States.{has_state, checked, expanded, focused, pressed, selected}
use Rattle.atspi_tree_model.specs.Row.{ShapeRow, TextContents, Contents, TreeRow, Each, HoldsIfThere, on_some, insert_there, delete_there, targets_of, IsName, IsText, IsContents}
use Rattle.atspi_tree_model.specs.RowRules.{rows, after_insert, after_delete}
use Rattle.atspi_tree_model.specs.Tree.{is_shape, is_node, shape_of, after, IsTree, Changes, Applies, AllApply}
use Rattle.atspi_tree_model.specs.Edits.{known_text, lacks_node, lacks_kind, children_of, is_long_name, node_has_state, switch, switched, numbers_to, focusing, unselecting, selecting, flipping, acting, pressing, unless, text_contents}
use Rattle.atspi_tree_model.proofs.Relabel.{has-relabel}
use Rattle.atspi_tree_model.proofs.Found.{count-has, has-count, find-has, EachLabel-weaker, each_counted}
use Rattle.atspi_tree_model.proofs.RowRules.{rows_sound}
use Rattle.atspi_tree_model.proofs.Kept.{changed_is_tree}
use Rattle.atspi_tree_model.proofs.Lookup.{each-find, test_found, has-weaker, each_children_at, each_tops}
use Rattle.atspi_tree_model.proofs.ShapeOf.{shape, shape-has}

-- no fault: each test is false
pub none_of : (b : Bool) (e : EditFault) (o : Option EditFault) → cond b (Some e) o ≡ None → (b ≡ false) × (o ≡ None)
none_of true e o h = cc
none_of false e o h = (refl, h)

pub false_of_not : (b : Bool) → not b ≡ false → b ≡ true
false_of_not true h = refl
false_of_not false h = cc

-- a node that is not lacking is there, and found
pub there : (f : Forest TreeRow) (n : ℕ) → lacks_node (shape_of f) n ≡ false → has (is_node n) f ≡ true
there f n h = sym (shape-has n f) ∙ false_of_not (has (is_shape n) (shape_of f)) h

pub found : (f : Forest TreeRow) (n : ℕ) → lacks_node (shape_of f) n ≡ false
    → (row : TreeRow) × (find (is_node n) f ≡ Some row)
found f n h = find-has (is_node n) f (count-has (is_node n) f (there f n h))

-- and has the interface that it does not lack
pub kind_there : (f : Forest TreeRow) (k n : ℕ) (row : TreeRow) (kind : Kinds → Bool) → IsTree rows f k
    → lacks_node (shape_of f) n ≡ false → find (is_node n) f ≡ Some row
    → lacks_kind kind (shape_of f) n ≡ false → kind row.shape.kinds ≡ true
kind_there f k n row kind t h e l =
    sym (test_found (is_node n) (λ r. kind r.shape.kinds) f row (t.once n) (there f n h) e)
    ∙ (sym (has-relabel shape (λ r. is_shape n r && kind r.kinds) (λ r. is_node n r && kind r.shape.kinds) (λ r. refl) f)
    ∙ false_of_not (has (λ r. is_shape n r && kind r.kinds) (shape_of f)) l)

pub lawful_row : (f : Forest TreeRow) (k n : ℕ) (row : TreeRow) → IsTree rows f k → find (is_node n) f ≡ Some row
    → rows.IsLawful row
lawful_row f k n row t e = each-find rows.IsLawful (is_node n) f row t.lawful e

-- a lawful row with the interface Text has a text
pub text_there : (row : TreeRow) → rows.IsLawful row → row.shape.kinds.text ≡ true
    → (t : TextContents) × (row.contents.text ≡ Some t) × IsText t
text_there row l h = at row.contents.text (sym l.1.text ∙ h) l.1.lawful_text
  where
    at : (o : Option TextContents) → is_some o ≡ true → HoldsIfThere IsText o
        → (t : TextContents) × (o ≡ Some t) × IsText t
    at None e k = cc
    at (Some t) e k = (t, refl, k)

-- the text that an edit reads is the node's
pub text_known : (f : Forest TreeRow) (n : ℕ) (row : TreeRow) (t : TextContents) → find (is_node n) f ≡ Some row
    → row.contents.text ≡ Some t → known_text (text_contents (find (is_node n) f)) ≡ t
text_known f n row t e et = rw e (rw et refl)

-- contents with another text
pub with_text : (kinds : Kinds) (c : Contents) (w : TextContents → TextContents) (t : TextContents)
    → IsContents kinds c → c.text ≡ Some t → IsText (w t) → IsContents kinds (record c { text = on_some w c.text })
with_text kinds c w t l e h = record {
  text = l.text ∙ (rw e refl);
  lawful_text = rw e h;
  table = l.table;
  lawful_columns = l.lawful_columns;
  action = l.action;
  few_actions = l.few_actions;
}

pub length-insert : (at : ℕ) (x text : List ℕ) → at ≤ length text
    → length (insert_there (pos at) x text) ≡ length text + length x
length-insert at x text h = rw (le-leb at (length text) h)
    (omega (arith, length-append (take at text) (x ++ drop at text), length-append x (drop at text), length-take at text, length-drop at text))

pub length-delete : (at n : ℕ) (text : List ℕ) → at + n ≤ length text
    → length (delete_there (pos at) (pos n) text) ≡ length text - n
length-delete at n text h = rw (le-leb (at + n) (length text) h)
    (omega (arith, length-append (take at text) (drop (at + n) text), length-take at text, length-drop (at + n) text))

pub inserted_text : (t : TextContents) (at : ℕ) (x : List ℕ) → IsText t → at ≤ length t.characters
    → length t.characters + length x ≤ 1048576 → IsText (after_insert at x t)
inserted_text t at x l h k =
    let e = length-insert at x t.characters h in let c = l.caret in
    record { short = omega arith; caret = omega arith; few = omega arith; selections = tt }

pub deleted_text : (t : TextContents) (at : ℕ) (x : List ℕ) → IsText t → at + length x ≤ length t.characters
    → t.caret ≤ length t.characters - length x → IsText (after_delete at x t)
deleted_text t at x l h k =
    let e = length-delete at (length x) t.characters h in let s = l.short in
    record { short = omega arith; caret = omega arith; few = omega arith; selections = tt }

pub caret_text : (t : TextContents) (at : ℕ) → IsText t → at ≤ length t.characters → IsText (record t { caret = at })
caret_text t at l h = record { short = l.short; caret = h; few = l.few; selections = l.selections }

module _ (f : Forest TreeRow) (k : ℕ) (t : IsTree rows f k) where
  -- a state may be set on any node
  state_changes : (m s : ℕ) (on : Bool) → has (is_node m) f ≡ true → s < 44 → Changes rows f (SetState m s on)
  state_changes m s on h l = at (find-has (is_node m) f (count-has (is_node m) f h))
    where
      at : (row : TreeRow) × (find (is_node m) f ≡ Some row) → Changes rows f (SetState m s on)
      at (row, e) =
          let w = lawful_row f k m row t e in
          record { row = row; there = e; allowed = (l, tt); lawful = (record { name = w.0.name; description = w.0.description; editable = w.0.editable }, w.1); targets = tt }

-- steps that set states of nodes that are there
abbrev pub StateSteps : Forest TreeRow → List Step → Type 0
StateSteps f [] = Unit {0}
StateSteps f (SetState m s on ∷ steps) = (has (is_node m) f ≡ true) × (s < 44) × StateSteps f steps
StateSteps f (_ ∷ steps) = ⊥

states_after : (f : Forest TreeRow) (step : Step)
    → ((m : ℕ) → has (is_node m) f ≡ true → has (is_node m) (after rows f step) ≡ true) → (steps : List Step)
    → StateSteps f steps → StateSteps (after rows f step) steps
states_after f step w [] h = tt
states_after f step w (SetState m s on ∷ steps) h = (w m h.0, h.1, states_after f step w steps h.2)
states_after f step w (Add n p i seed ∷ steps) h = absurd h
states_after f step w (RemoveStep n ∷ steps) h = absurd h
states_after f step w (MoveStep n p i ∷ steps) h = absurd h
states_after f step w (SetName n x ∷ steps) h = absurd h
states_after f step w (SetDescription n x ∷ steps) h = absurd h
states_after f step w (SetRole n x ∷ steps) h = absurd h
states_after f step w (InsertStep n at x ∷ steps) h = absurd h
states_after f step w (Delete n at x ∷ steps) h = absurd h
states_after f step w (CaretStep n at ∷ steps) h = absurd h
states_after f step w (TextSelect n marks ∷ steps) h = absurd h
states_after f step w (RelateStep n kind ts ∷ steps) h = absurd h

-- a state that is set leaves each node where it is
still_has : (f : Forest TreeRow) (m s : ℕ) (on : Bool) (n : ℕ) → has (is_node n) f ≡ true
    → has (is_node n) (after rows f (SetState m s on)) ≡ true
still_has f m s on n h =
    has-relabel (λ row. cond (is_node m row) (rows.changed (SetState m s on) row) row) (is_node n) (is_node n) (λ row. at row (is_node m row)) f ∙ h
  where
    at : (row : TreeRow) (b : Bool) → is_node n (cond b (rows.changed (SetState m s on) row) row) ≡ is_node n row
    at row true = refl
    at row false = refl

pub states_apply : (f : Forest TreeRow) (k : ℕ) → IsTree rows f k → (steps : List Step) → StateSteps f steps
    → AllApply rows f k steps
states_apply f k t [] h = tt
states_apply f k t (SetState m s on ∷ steps) h =
    let c = state_changes f k t m s on h.0 h.1 in
    (c, states_apply (after rows f (SetState m s on)) k (changed_is_tree rows rows_sound f k (SetState m s on) t c) steps (states_after f (SetState m s on) (still_has f m s on) steps h.2))
states_apply f k t (Add n p i seed ∷ steps) h = absurd h
states_apply f k t (RemoveStep n ∷ steps) h = absurd h
states_apply f k t (MoveStep n p i ∷ steps) h = absurd h
states_apply f k t (SetName n x ∷ steps) h = absurd h
states_apply f k t (SetDescription n x ∷ steps) h = absurd h
states_apply f k t (SetRole n x ∷ steps) h = absurd h
states_apply f k t (InsertStep n at x ∷ steps) h = absurd h
states_apply f k t (Delete n at x ∷ steps) h = absurd h
states_apply f k t (CaretStep n at ∷ steps) h = absurd h
states_apply f k t (TextSelect n marks ∷ steps) h = absurd h
states_apply f k t (RelateStep n kind ts ∷ steps) h = absurd h

pub states_append : (f : Forest TreeRow) (xs ys : List Step) → StateSteps f xs → StateSteps f ys
    → StateSteps f (xs ++ ys)
states_append f [] ys h g = g
states_append f (SetState m s on ∷ xs) ys h g = (h.0, h.1, states_append f xs ys h.2 g)
states_append f (Add n p i seed ∷ xs) ys h g = absurd h
states_append f (RemoveStep n ∷ xs) ys h g = absurd h
states_append f (MoveStep n p i ∷ xs) ys h g = absurd h
states_append f (SetName n x ∷ xs) ys h g = absurd h
states_append f (SetDescription n x ∷ xs) ys h g = absurd h
states_append f (SetRole n x ∷ xs) ys h g = absurd h
states_append f (InsertStep n at x ∷ xs) ys h g = absurd h
states_append f (Delete n at x ∷ xs) ys h g = absurd h
states_append f (CaretStep n at ∷ xs) ys h g = absurd h
states_append f (TextSelect n marks ∷ xs) ys h g = absurd h
states_append f (RelateStep n kind ts ∷ xs) ys h g = absurd h

pub switch_states : (f : Forest TreeRow) (n s : ℕ) (on b : Bool) → has (is_node n) f ≡ true → s < 44
    → StateSteps f (switch n s on b)
switch_states f n s true true h l = tt
switch_states f n s false true h l = (h, l, tt)
switch_states f n s true false h l = (h, l, tt)
switch_states f n s false false h l = tt

-- each node that a test lets through has its state set
unfocusing : (f : Forest TreeRow) (s : ℕ) (test : ℕ → Bool) → s < 44
    → ((m : ℕ) → test m ≡ true → has (is_node m) f ≡ true) → (ms : List ℕ)
    → StateSteps f (map (λ m. SetState m s false) (filter test ms))
unfocusing f s test l w [] = tt
unfocusing f s test l w (m ∷ ms) = at (test m) (w m) (unfocusing f s test l w ms)
  where
    at : (b : Bool) → (b ≡ true → has (is_node m) f ≡ true)
        → StateSteps f (map (λ m. SetState m s false) (filter test ms))
        → StateSteps f (map (λ m. SetState m s false) (cond b (m ∷ filter test ms) (filter test ms)))
    at true h k = (h refl, l, k)
    at false h k = k

pub focus_states : (f : Forest TreeRow) (k n : ℕ) → has (is_node n) f ≡ true
    → StateSteps f (focusing (shape_of f) k n)
focus_states f k n h =
    states_append f (map (λ m. SetState m focused false) (filter (λ m. not (m == n) && node_has_state (shape_of f) m focused) (numbers_to k))) (switched (shape_of f) n focused true)
    (unfocusing f focused (λ m. not (m == n) && node_has_state (shape_of f) m focused) (omega arith) (λ m e. sym (shape-has m f) ∙ has-weaker (is_shape m) (λ row. has_state focused row.states) (shape_of f) (second (not (m == n)) (node_has_state (shape_of f) m focused) e)) (numbers_to k))
    (switch_states f n focused true (node_has_state (shape_of f) n focused) h (omega arith))
  where
    second : (a b : Bool) → a && b ≡ true → b ≡ true
    second true b e = e
    second false b e = cc

-- children are nodes
pub children_there : (f : Forest TreeRow) (n : ℕ)
    → Each (λ (row : ShapeRow). has (is_node row.node) f ≡ true) (tops (children_of (shape_of f) n))
children_there f n =
    each_tops (λ (row : ShapeRow). has (is_node row.node) f ≡ true) (children_at (is_shape n) (shape_of f))
    (each_children_at (λ (row : ShapeRow). has (is_node row.node) f ≡ true) (is_shape n) (shape_of f)
    (EachLabel-weaker (λ (row : ShapeRow). 1 ≤ count (is_shape row.node) (shape_of f)) (λ (row : ShapeRow). has (is_node row.node) f ≡ true)
    (λ row l. sym (shape-has row.node f) ∙ has-count (is_shape row.node) (shape_of f) l) (shape_of f)
    (each_counted (λ (a b : ShapeRow). is_shape a.node b) (λ a. eq-eqb a.node a.node refl) (shape_of f) (shape_of f) (λ p. omega arith))))

pub unselect_states : (f : Forest TreeRow) (children : List ShapeRow)
    → Each (λ (row : ShapeRow). has (is_node row.node) f ≡ true) children → StateSteps f (unselecting children)
unselect_states f [] h = tt
unselect_states f (row ∷ children) h = at (has_state selected row.states) (unselect_states f children h.1)
  where
    at : (b : Bool) → StateSteps f (unselecting children)
        → StateSteps f (map (λ (r : ShapeRow). SetState r.node selected false) (cond b (row ∷ filter (λ r. has_state selected r.states) children) (filter (λ r. has_state selected r.states) children)))
    at true k = (h.0, omega arith, k)
    at false k = k

pub select_states : (f : Forest TreeRow) (on : Bool) (children : List ShapeRow)
    → Each (λ (row : ShapeRow). has (is_node row.node) f ≡ true) children → StateSteps f (selecting on children)
select_states f on [] h = tt
select_states f on (row ∷ children) h = switch_states f row.node selected on (has_state selected row.states) h.0 (omega arith)

pub unless_multi : (f : Forest TreeRow) (b : Bool) (xs : List Step) → StateSteps f xs → StateSteps f (cond b [] xs)
unless_multi f true xs h = tt
unless_multi f false xs h = h

action_states : (f : Forest TreeRow) (k n : ℕ) (name : List ℕ) → has (is_node n) f ≡ true
    → StateSteps f (acting (shape_of f) k n name)
action_states f k n name h = at (bytes_eq name (codes "toggle")) (bytes_eq name (codes "expand")) (bytes_eq name (codes "press")) (bytes_eq name (codes "focus"))
  where
    at : (a b c d : Bool)
        → StateSteps f (cond a (flipping (shape_of f) n checked) (cond b (flipping (shape_of f) n expanded) (cond c (switched (shape_of f) n pressed true ++ SetState n pressed false ∷ []) (cond d (focusing (shape_of f) k n) []))))
    at true b c d = (h, omega arith, tt)
    at false true c d = (h, omega arith, tt)
    at false false true d = states_append f (switched (shape_of f) n pressed true) (SetState n pressed false ∷ []) (switch_states f n pressed true (node_has_state (shape_of f) n pressed) h (omega arith)) (h, omega arith, tt)
    at false false false true = focus_states f k n h
    at false false false false = tt

pub press_states : (f : Forest TreeRow) (k n : ℕ) (names : List (List ℕ)) → has (is_node n) f ≡ true
    → StateSteps f (pressing (shape_of f) k n names)
press_states f k n [] h = tt
press_states f k n (name ∷ names) h = action_states f k n name h

-- a step that is made unless the row has the value already
pub made_unless : (f : Forest TreeRow) (k : ℕ) (b : Bool) (step : Step) → (b ≡ false → Applies rows f k step)
    → AllApply rows f k (unless b step)
made_unless f k true step h = tt
made_unless f k false step h = (h refl, tt)

pub short_name : (x : List ℕ) → is_long_name x ≡ false → IsName x
short_name x h = ltb-false 511 (length (encode_utf8_all x)) h

-- the targets of one kind are targets
pub some_targets : (p : ℕ → Type 0) (kind : ℕ) (rs : List (ℕ × ℕ)) → Each p (map (λ r. r.1) rs)
    → Each p (targets_of kind rs)
some_targets p kind [] h = tt
some_targets p kind (r ∷ rs) h = at (r.0 == kind) (some_targets p kind rs h.1)
  where
    at : (b : Bool) → Each p (targets_of kind rs)
        → Each p (map (λ r. r.1) (cond b (r ∷ filter (λ r. r.0 == kind) rs) (filter (λ r. r.0 == kind) rs)))
    at true k = (h.0, k)
    at false k = k
