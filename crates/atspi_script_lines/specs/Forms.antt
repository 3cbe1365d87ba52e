-- The forms of lines, of edits and of deeds: the words of each.
use Rattle.std.specs.Prelude.{ℕ, Bool, true, false, List, [], ◌∷◌, ◌++◌, Option, None, Some, codes}
use Rattle.atspi_tree_model.specs.declared.step.Seed.{Seed}
use Rattle.atspi_tree_model.specs.declared.edit.Edit.{Edit}
use Rattle.atspi_tree_model.specs.declared.edit.Edit.TheVariants.{Insert, Remove, Move, Name, Describe, Role, State}
use Rattle.atspi_tree_model.specs.declared.edit.Edit.TheVariants.{Focus, Put, Keys, Cut, Caret, Mark, Unmark, Select}
use Rattle.atspi_tree_model.specs.declared.edit.Edit.TheVariants.{Deselect, Press, Relate, Unrelate}
use Rattle.atspi_script_lines.specs.declared.deed.Deed.{Deed}
use Rattle.atspi_script_lines.specs.declared.deed.Deed.TheVariants.{SetCaret, InsertText, DeleteText, SetText}
use Rattle.atspi_script_lines.specs.declared.deed.Deed.TheVariants.{SelectChild, DeselectChild, SelectAll}
use Rattle.atspi_script_lines.specs.declared.deed.Deed.TheVariants.{ClearSelection, DoAction}
use Rattle.atspi_script_lines.specs.declared.line.Line.{Line}
use Rattle.atspi_script_lines.specs.declared.line.Line.TheVariants.{Blank, Quota, App, Reader, Edit as EditLine, Call}
use Rattle.atspi_script_lines.specs.declared.line.Line.TheVariants.{Swap, Exit, Leave, Bytes, Turns, Drain, Show}
use Rattle.atspi_script_lines.specs.Words.{Word, literal, number, place, quota, app_name, reader_name, party_name}
use Rattle.atspi_script_lines.specs.Words.{role_name, state_name, quote}

-- `text Q` where the text can be edited, `static Q` where it cannot, nothing where there is no text
abbrev pub text_clause : Option (List ℕ) → Bool → List Word
text_clause None editable = []
text_clause (Some text) true = literal (codes "text") ∷ quote text ∷ []
text_clause (Some text) false = literal (codes "static") ∷ quote text ∷ []

-- `columns K`
abbrev pub columns_clause : Option ℕ → List Word
columns_clause None = []
columns_clause (Some k) = literal (codes "columns") ∷ number k ∷ []

-- `select`
abbrev pub select_clause : Bool → List Word
select_clause false = []
select_clause true = literal (codes "select") ∷ []

-- `action Q` for each action
abbrev pub action_clauses : List (List ℕ) → List Word
action_clauses [] = []
action_clauses (name ∷ names) = literal (codes "action") ∷ quote name ∷ action_clauses names

-- what a new node has beside its role and name, in this order
abbrev pub clauses : Seed → List Word
clauses seed =
    text_clause seed.text seed.editable
    ++ (columns_clause seed.columns ++ (select_clause seed.select ++ action_clauses seed.actions))

-- a state's value
abbrev pub switch_word : Bool → List ℕ
switch_word true = codes "on"
switch_word false = codes "off"

-- an edit's words
abbrev pub edit_form : Edit → List Word
edit_form (Insert p i seed) =
    literal (codes "insert") ∷ number p ∷ number i ∷ role_name seed.role ∷ quote seed.name ∷ clauses seed
edit_form (Remove n) = literal (codes "remove") ∷ number n ∷ []
edit_form (Move n p i) = literal (codes "move") ∷ number n ∷ number p ∷ number i ∷ []
edit_form (Name n text) = literal (codes "name") ∷ number n ∷ quote text ∷ []
edit_form (Describe n text) = literal (codes "describe") ∷ number n ∷ quote text ∷ []
edit_form (Role n role) = literal (codes "role") ∷ number n ∷ role_name role ∷ []
edit_form (State n state on) = literal (codes "state") ∷ number n ∷ state_name state ∷ literal (switch_word on) ∷ []
edit_form (Focus n) = literal (codes "focus") ∷ number n ∷ []
edit_form (Put n at text) = literal (codes "put") ∷ number n ∷ number at ∷ quote text ∷ []
edit_form (Keys n text) = literal (codes "type") ∷ number n ∷ quote text ∷ []
edit_form (Cut n from to) = literal (codes "cut") ∷ number n ∷ number from ∷ number to ∷ []
edit_form (Caret n at) = literal (codes "caret") ∷ number n ∷ number at ∷ []
edit_form (Mark n from to) = literal (codes "mark") ∷ number n ∷ number from ∷ number to ∷ []
edit_form (Unmark n) = literal (codes "unmark") ∷ number n ∷ []
edit_form (Select n i) = literal (codes "select") ∷ number n ∷ number i ∷ []
edit_form (Deselect n i) = literal (codes "deselect") ∷ number n ∷ number i ∷ []
edit_form (Press n i) = literal (codes "press") ∷ number n ∷ number i ∷ []
edit_form (Relate n kind m) = literal (codes "relate") ∷ number n ∷ number kind ∷ number m ∷ []
edit_form (Unrelate n kind m) = literal (codes "unrelate") ∷ number n ∷ number kind ∷ number m ∷ []

-- a deed's words
abbrev pub deed_form : Deed → List Word
deed_form (SetCaret at) = literal (codes "set-caret") ∷ place at ∷ []
deed_form (InsertText at text) = literal (codes "insert-text") ∷ place at ∷ quote text ∷ []
deed_form (DeleteText from to) = literal (codes "delete-text") ∷ place from ∷ place to ∷ []
deed_form (SetText text) = literal (codes "set-text") ∷ quote text ∷ []
deed_form (SelectChild i) = literal (codes "select-child") ∷ place i ∷ []
deed_form (DeselectChild i) = literal (codes "deselect-child") ∷ place i ∷ []
deed_form SelectAll = literal (codes "select-all") ∷ []
deed_form ClearSelection = literal (codes "clear-selection") ∷ []
deed_form (DoAction i) = literal (codes "do-action") ∷ place i ∷ []

-- a link's direction
abbrev pub way_word : Bool → List ℕ
way_word true = codes "up"
way_word false = codes "down"

-- a line's words; an empty line and a comment have none
abbrev pub line_form : Line → List Word
line_form Blank = []
line_form (Quota n) = literal (codes "quota") ∷ quota n ∷ []
line_form (App name) = literal (codes "app") ∷ quote name ∷ []
line_form Reader = literal (codes "reader") ∷ []
line_form (EditLine app edit) = literal (codes "edit") ∷ app_name app ∷ edit_form edit
line_form (Call reader app node deed) =
    literal (codes "call") ∷ reader_name reader ∷ app_name app ∷ place node ∷ deed_form deed
line_form (Swap app) = literal (codes "swap") ∷ app_name app ∷ []
line_form (Exit app) = literal (codes "exit") ∷ app_name app ∷ []
line_form (Leave reader) = literal (codes "leave") ∷ reader_name reader ∷ []
line_form (Bytes who up count) = literal (codes "bytes") ∷ party_name who ∷ literal (way_word up) ∷ number count ∷ []
line_form (Turns n) = literal (codes "turns") ∷ number n ∷ []
line_form Drain = literal (codes "drain") ∷ []
line_form (Show reader app) = literal (codes "show") ∷ reader_name reader ∷ app_name app ∷ []
