-- What lines make: the application's tree, where its nodes stand, and how many calls were answered.
use Rattle.std.specs.Prelude.{ℕ, suc, ◌==◌, ◌||◌, nat_lt, nat_le, cond, List, [], ◌∷◌, length, Option, None, Some}
use Rattle.std.specs.Prelude.{Result, Ok, Err}
use Rattle.std.specs.FinMap.{empty, insert}
use Rattle.atspi_tree_model.specs.declared.edit.Edit.{Edit as TreeEdit}
use Rattle.atspi_tree_model.specs.declared.edit.Edit.TheVariants.{Remove}
use Rattle.atspi_tree_model.specs.declared.edit.EditFault.{EditFault}
use Rattle.atspi_tree_model.specs.declared.edit.EditFault.TheVariants.{NoNode, NoFace, BadIndex, TextFull}
use Rattle.atspi_tree_model.specs.declared.limits.TheConstants.{RELATION_KINDS}
use Rattle.atspi_tree_model.specs.Edits.{first_fault, is_long_name, lacks_node, lacks_kind}
use Rattle.atspi_tree.specs.TreeShape.{TreeShape, children_of}
use Rattle.atspi_hit.specs.Places.{Places, without_subtree}
use Rattle.atspi_hit.specs.Cells.{cells}
use Rattle.atspi_run_hit.specs.declared.line.HitLine.{HitLine}
use Rattle.atspi_run_hit.specs.declared.line.HitLine.TheVariants.{Nothing, App, Edit, Place, Call, Cell, Follow}
use Rattle.atspi_run_hit.specs.declared.naming.Refused.{Refused}
use Rattle.atspi_run_hit.specs.declared.naming.Refused.TheVariants.{Form, Asked}
use Rattle.atspi_run_hit.specs.Wholes as wholes
use Rattle.atspi_run_hit.specs.Wholes.{WholeTree, columns_of, edited, shape}

-- what the lines before have made, once the application has started
pub record Scene : Type 0 where
  pub tree : WholeTree
  pub places : Places
  pub calls : ℕ

-- the application with the root alone
abbrev pub begins : List ℕ → Scene
begins name = record { tree = wholes.begins name; places = empty; calls = 0 }

-- why an edit is refused, if it is
abbrev pub fault_in : Result WholeTree EditFault → Option EditFault
fault_in (Ok t) = None
fault_in (Err fault) = Some fault

-- why a cell of a table with so many columns, and a relation, cannot be told: the first reason that holds
abbrev pub cell_fault : TreeShape → ℕ → ℕ → ℕ → Option EditFault
cell_fault t columns n i =
    first_fault (
    (lacks_node t.rows n, NoNode)
    ∷ (lacks_kind (λ k. k.table) t.rows n, NoFace)
    ∷ (nat_le (cells (length (children_of n t)) columns) i, BadIndex) ∷ []
    )

abbrev pub follow_fault : TreeShape → ℕ → ℕ → Option EditFault
follow_fault t n k = first_fault ((lacks_node t.rows n, NoNode) ∷ ((k == 0) || nat_lt RELATION_KINDS k, BadIndex) ∷ [])

-- why what a line asks for cannot be done, if it cannot
abbrev pub fault_of : WholeTree → HitLine → Option EditFault
fault_of t (Edit edit) = fault_in (edited t edit)
fault_of t (Place n r) = first_fault ((lacks_node (shape t).rows n, NoNode) ∷ [])
fault_of t (Cell n i way) = cell_fault (shape t) (columns_of t n) n i
fault_of t (Follow n k) = follow_fault (shape t) n k
fault_of t line = None

abbrev pub asked_if : Option EditFault → Option Refused
asked_if None = None
asked_if (Some fault) = Some (Asked fault)

-- WHY A LINE IS REFUSED where it stands, if it is: the application starts once, and nothing else is done before
abbrev pub refusal : Option Scene → HitLine → Option Refused
refusal s Nothing = None
refusal None (App name) = cond (is_long_name name) (Some (Asked TextFull)) None
refusal (Some s) (App name) = Some Form
refusal None line = Some Form
refusal (Some s) line = asked_if (fault_of s.tree line)

-- the tree where an edit was done
abbrev pub tree_or : WholeTree → Result WholeTree EditFault → WholeTree
tree_or old (Ok t) = t
tree_or old (Err fault) = old

-- a removal takes the rectangles of its nodes
abbrev pub places_after : WholeTree → TreeEdit → Places → Places
places_after t (Remove n) places = without_subtree (shape t) n places
places_after t edit places = places

-- WHAT A LINE MAKES that is not refused
abbrev pub scene_after : Scene → HitLine → Scene
scene_after s (Edit edit) =
    record s { tree = tree_or s.tree (edited s.tree edit); places = places_after s.tree edit s.places }
scene_after s (Place n r) = record s { places = insert s.places n r }
scene_after s (Call n ask) = record s { calls = suc s.calls }
scene_after s line = s

abbrev pub after : Option Scene → HitLine → Option Scene
after None (App name) = Some (begins name)
after None line = None
after (Some s) line = Some (scene_after s line)
