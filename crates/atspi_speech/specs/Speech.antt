-- The lines that a reader speaks at a news of an application that it holds, read from the view that the news makes; and
-- those that are due at a step of the application, read from the tree after the step.
use Rattle.std.specs.Prelude.{ℕ, ◌==◌, Bool, true, cond, not, List, [], ◌∷◌, ◌++◌, Option, Some, None, length, codes}
use Rattle.std.specs.Fmt.{decimal}
use Rattle.std.specs.Option.{option_map}
use Rattle.atspi_tree_model.specs.declared.view.Row.{Row}
use Rattle.atspi_tree_model.specs.declared.step.Step.{Step}
use Rattle.atspi_tree_model.specs.declared.step.Step.TheVariants.{Add, SetName, SetState, Insert, Delete}
use Rattle.atspi_tree_model.specs.declared.news.News.{News}
use Rattle.atspi_tree_model.specs.declared.news.News.TheVariants.{Name, State, Inserted, Deleted, Item as NewItem}
use Rattle.atspi_tree_model.specs.Forest.{Forest, nil, tree, has, find}
use Rattle.atspi_tree_model.specs.States.{has_state, focused}
use Rattle.atspi_tree_model.specs.Row.{TreeRow}
use Rattle.atspi_tree_model.specs.RowRules.{rows}
use Rattle.atspi_tree_model.specs.Tree.{is_node, after}
use Rattle.atspi_tree_model.specs.News.{is_path, effect}
use Rattle.atspi_speech.specs.Words.{alert, notification, password_text, line_if, is_empty, spoken_role, state_pieces}
use Rattle.atspi_speech.specs.Words.{words_of_state, joined}

-- what is spoken of a node is read from these
pub record Subject : Type 0 where
  pub name : List ℕ
  pub role : ℕ
  pub states : ℕ

abbrev pub of_row : Row → Subject
of_row row = record { name = row.name; role = row.role; states = row.states }

abbrev pub of_node : TreeRow → Subject
of_node row = record { name = row.shape.name; role = row.shape.role; states = row.shape.states }

abbrev pub is_focused : Subject → Bool
is_focused x = has_state focused x.states

-- the name, if there is one, the role, and what is said of the states
abbrev pub focus_line : Subject → List ℕ
focus_line x = joined (line_if (not (is_empty x.name)) x.name ++ (spoken_role x.role ∷ state_pieces x.states))

-- a state was set or cleared: the focus line at the focus, and else a word, at the focused node alone
abbrev pub state_lines : ℕ → Bool → Subject → List (List ℕ)
state_lines state on x =
    cond (state == focused) (line_if on (focus_line x)) (cond (is_focused x) (words_of_state state on) [])

-- the new name of the focused node
abbrev pub name_lines : Subject → List (List ℕ)
name_lines x = cond (is_focused x) (line_if (not (is_empty x.name)) x.name) []

-- a text, or how long it is where it is a secret
abbrev pub told_of_text : ℕ → List ℕ → List ℕ
told_of_text role text = cond (role == password_text) (decimal (length text) ++ codes " characters") text

-- a text that was put into the focused node or taken out of it, behind a word that says which
abbrev pub text_lines : List ℕ → List ℕ → Subject → List (List ℕ)
text_lines word text x = line_if (is_focused x) (word ++ told_of_text x.role text)

-- a new node that is an alert
abbrev pub alert_lines : Subject → List (List ℕ)
alert_lines x = line_if (cond (x.role == alert) true (x.role == notification)) (codes "alert: " ++ x.name)

-- of a node that is not there nothing is spoken
abbrev pub of_found : (Subject → List (List ℕ)) → Option Subject → List (List ℕ)
of_found f None = []
of_found f (Some x) = f x

-- the row of a path in a view
abbrev pub row_at : List ℕ → Forest Row → Option Subject
row_at path v = option_map of_row (find (is_path path) v)

-- the lines of a news that makes the view w of the view v
abbrev pub lines_between : Forest Row → Forest Row → News → List (List ℕ)
lines_between v w (NewItem item) =
    cond (has (is_path item.object.path) v) [] (of_found alert_lines (row_at item.object.path w))
lines_between v w (Name path text) = of_found name_lines (row_at path w)
lines_between v w (State path state on) = of_found (state_lines state on) (row_at path w)
lines_between v w (Inserted path at text) = of_found (text_lines (codes "typed: ") text) (row_at path w)
lines_between v w (Deleted path at len text) = of_found (text_lines (codes "deleted: ") text) (row_at path w)
lines_between v w _ = []

-- the lines of a news, given the view before it; root is the root's path, bus the application's name
abbrev pub lines : List ℕ → List ℕ → Forest Row → News → List (List ℕ)
lines root bus v news = lines_between v (effect root bus v news) news

-- the line of an application that is gone: its root's name, an empty one where there is no root, and that it is closed
abbrev pub closing_of : Option (List ℕ) → List (List ℕ)
closing_of None = codes ", closed" ∷ []
closing_of (Some name) = (name ++ codes ", closed") ∷ []

abbrev pub closing_lines : Forest Row → List (List ℕ)
closing_lines nil = closing_of None
closing_lines (tree row children rest) = closing_of (Some row.name)

-- the row of a node in a tree
abbrev pub node_at : ℕ → Forest TreeRow → Option Subject
node_at n f = option_map of_node (find (is_node n) f)

-- the lines of a step that made this tree
abbrev pub says_after : Forest TreeRow → Step → List (List ℕ)
says_after f (Add n parent index seed) = of_found alert_lines (node_at n f)
says_after f (SetName n text) = of_found name_lines (node_at n f)
says_after f (SetState n state on) = of_found (state_lines state on) (node_at n f)
says_after f (Insert n at text) = of_found (text_lines (codes "typed: ") text) (node_at n f)
says_after f (Delete n at text) = of_found (text_lines (codes "deleted: ") text) (node_at n f)
says_after f _ = []

-- the lines of a step, given the tree before it
abbrev pub says : Forest TreeRow → Step → List (List ℕ)
says f step = says_after (after rows f step) step

-- the line of an application with this tree that is gone
abbrev pub closing_says : Forest TreeRow → List (List ℕ)
closing_says nil = closing_of None
closing_says (tree row children rest) = closing_of (Some row.shape.name)
