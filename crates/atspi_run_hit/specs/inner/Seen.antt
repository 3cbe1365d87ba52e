-- What the code keeps, as a scene, and what doing a line answers.
use Rattle.std.specs.Prelude.{◌≡◌, ◌≤◌, ◌==◌, ◌&&◌, not, cond, ℕ, List, Option, None, Some, Result, Ok, Err}
use Rattle.std.specs.Prelude.{MatchOption}
use Rattle.std.specs.Option.{option_map}
use Rattle.atspi_tree_model.specs.declared.edit.Edit.{Edit as TreeEdit}
use Rattle.atspi_tree_model.specs.declared.edit.Edit.TheVariants.{Remove}
use Rattle.atspi_tree_model.specs.Edits.{IsEdit}
use Rattle.atspi_tree_model.specs.Forest.{has}
use Rattle.atspi_tree_model.specs.Row.{Holds}
use Rattle.atspi_tree_model.specs.Tree.{is_shape}
use Rattle.atspi_tree.specs.TreeShape.{TreeShape}
use Rattle.atspi_tree_edits.specs.declared.fault.EditRefused.{EditRefused}
use Rattle.atspi_tree_edits.specs.declared.fault.EditRefused.TheVariants as edits
use Rattle.atspi_app_exported.specs.Parts.{Parts, whole_of}
use Rattle.atspi_hit.specs.Places.{Places, without_subtree}
use Rattle.atspi_script_lines.specs.declared.line.LineFault.{LineFault}
use Rattle.atspi_script_lines.specs.declared.line.LineFault.TheVariants as lines
use Rattle.atspi_run_hit.specs.declared.line.HitLine.{HitLine}
use Rattle.atspi_run_hit.specs.declared.line.HitLine.TheVariants.{Edit}
use Rattle.atspi_run_hit.specs.declared.naming.Refused.TheVariants.{Long, NotUtf8, Form}
use Rattle.atspi_run_hit.specs.declared.naming.Undone.{Undone}
use Rattle.atspi_run_hit.specs.declared.naming.Undone.TheVariants.{Refused, NoMemory}
use Rattle.atspi_run_hit.specs.declared.placed.Placed.{Placed}
use Rattle.atspi_run_hit.specs.declared.session.Session.{Session}
use Rattle.atspi_run_hit.specs.Wholes.{WholeTree, edited}
use Rattle.atspi_run_hit.specs.Scene.{Scene, refusal, after}
use Rattle.atspi_run_hit.specs.Told.{Tells}
use Rattle.atspi_run_hit.specs.Run.{LineDone, IsRefused}

-- what is exported, as a whole tree
abbrev pub whole_in : Parts → WholeTree
whole_in p = record { nodes = whole_of p; added = p.tree.added }

-- what doing an edit answers
abbrev pub EditsTree : {A : Type 0} → Result A EditRefused → WholeTree → TreeEdit → WholeTree → Type 0
EditsTree (Ok _) t edit t' = edited t edit ≡ Ok t'
EditsTree (Err (edits.Refused why)) t edit t' = edited t edit ≡ Err why
EditsTree (Err edits.NoMemory) t edit t' = Unit {0}

-- the scene of an application that has started
abbrev pub seen : {T K : Type 0} → (T → WholeTree) → Placed T K → Scene
seen tree p = record { tree = tree p.whole; places = p.layout; calls = p.calls }

-- that of a session, where the application has started
abbrev pub scene_of : {T K : Type 0} → (T → WholeTree) → Session T K → Option Scene
scene_of tree s = option_map (seen tree) s.placed

-- what holds of a session: before the start a kit is left
abbrev pub IsSession : {T K : Type 0} → (T → Type 0) → (K → Type 0) → Session T K → Type 0
IsSession is_whole is_kit s = MatchOption s.placed (Holds is_kit s.kit) (λ p. is_whole p.whole)

-- so many calls were answered at most
abbrev pub HasCalled : Option Scene → ℕ → Type 0
HasCalled None n = Unit {0}
HasCalled (Some s) n = s.calls ≤ n

-- the edit of a line can be asked for
abbrev pub MayDo : HitLine → Type 0
MayDo (Edit edit) = IsEdit edit
MayDo line = Unit {0}

-- the rectangles after an edit, by whether the node of a removal may go
abbrev pub forgotten : TreeShape → TreeEdit → Places → Places
forgotten t (Remove n) places =
    cond (not (n == 0) && has (is_shape n) t.rows) (without_subtree t n places) places
forgotten t edit places = places

-- what doing a line answers
abbrev pub Answers : {A : Type 0} → Result A Undone → Option Scene → HitLine → Option Scene → List ℕ → Type 0
Answers (Ok _) old line new told = (refusal old line ≡ None) × (new ≡ after old line) × Tells old line told
Answers (Err (Refused why)) old line new told = refusal old line ≡ Some why
Answers (Err NoMemory) old line new told = Unit {0}

-- the same of the bytes of a line
abbrev pub DoesLine : {A : Type 0} → Result A Undone → Option Scene → List ℕ → Option Scene → List ℕ → Type 0
DoesLine (Ok _) old bytes new told = LineDone old bytes new told
DoesLine (Err (Refused why)) old bytes new told = IsRefused old bytes why
DoesLine (Err NoMemory) old bytes new told = Unit {0}

-- why bytes are not done that spell no line
abbrev pub undone_of : LineFault → Undone
undone_of lines.Long = Refused Long
undone_of lines.NotUtf8 = Refused NotUtf8
undone_of lines.Form = Refused Form
undone_of lines.NoMemory = NoMemory
