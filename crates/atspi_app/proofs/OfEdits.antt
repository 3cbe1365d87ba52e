-- What is told of the steps of an edit.
use Rattle.std.proofs.Common.{◌≡◌, sym, ap, ◌∙◌, subst, true}
use Rattle.std.specs.Prelude.{ℤ, List, Ok}
use Rattle.atspi_tree_model.specs.declared.edit.Edit.{Edit}
use Rattle.atspi_tree_model.specs.declared.step.Step.{Step}
use Rattle.atspi_tree_model.specs.Edits.{steps_of_tree, IsEdit}
use Rattle.atspi_tree_model.specs.Forest.{Forest}
use Rattle.atspi_tree_model.specs.Row.{ShapeRow, TreeRow, Each}
use Rattle.atspi_tree_model.specs.RowRules.{rows}
use Rattle.atspi_tree_model.specs.Tree.{shape_of, IsTree, AllApply}
use Rattle.atspi_tree_model.proofs.EditsApply.{steps_apply}
use Rattle.atspi_tree.specs.TreeShape.{TreeShape}
use Rattle.atspi_protocol.proofs.OfWhole.Followed.{shape_is_kept}
use Rattle.atspi_protocol.specs.exporting.Exporter.{Exporter, Happening, queues}
use Rattle.atspi_protocol.specs.exporting.Starting.{name_or_empty}
use Rattle.atspi_protocol.specs.exporting.Taking.{stepped, app_edits, is_spent}
use Rattle.atspi_protocol.specs.exporting.Telling.{steps_told}
use Rattle.atspi_app_known.specs.application.Seen.{IsSpentAfter}
use Rattle.atspi_app_known.specs.declared.starting.known.Known.{Known}
use Rattle.atspi_app_exported.specs.Parts.{Parts, whole_of}
use Rattle.atspi_app_signals.specs.Asked.{CanBeTold}
use Rattle.atspi_app_signals.specs.Laws.{told_of_one}
use Rattle.atspi_app_signals.proofs.EditsStay.{edits_are_told_at_once, edits_can_be_told}
use Rattle.atspi_app.specs.Seen.{seen}

pub same_shape : (p : Parts) → ◌≡◌ {A = TreeShape} (record { rows = shape_of (whole_of p); added = p.tree.added }) p.tree
same_shape p = ap (λ (f : Forest ShapeRow). record { rows = f; added = p.tree.added }) (shape_is_kept p.tree.rows p.faces)

-- each step can be told of the tree before the first
pub can_all_be_told : (p : Parts) (edit : Edit) (steps : List Step) → IsTree rows (whole_of p) p.tree.added → IsEdit edit
    → steps_of_tree (whole_of p) p.tree.added edit ≡ Ok steps → Each (CanBeTold p.tree) steps
can_all_be_told p edit steps t w is =
    subst (λ (s : TreeShape). Each (CanBeTold s) steps) (same_shape p) (edits_can_be_told (whole_of p) p.tree.added edit steps t w is)

-- what is told of one tree is what is told of the trees that follow
pub told_of_edit : (p : Parts) (k : Known) (edit : Edit) (steps : List Step) (hs : List Happening) → steps_of_tree (whole_of p) p.tree.added edit ≡ Ok steps
    → ((f : Forest TreeRow) → shape_of f ≡ p.tree.rows → hs ≡ told_of_one k.heard (name_or_empty k.name) f steps)
    → hs ≡ steps_told k.heard (name_or_empty k.name) (whole_of p) steps
told_of_edit p k edit steps hs is told =
    told (whole_of p) (shape_is_kept p.tree.rows p.faces) ∙ sym (edits_are_told_at_once (whole_of p) p.tree.added edit steps is k.heard (name_or_empty k.name))

pub edit_applies : (p : Parts) (edit : Edit) (steps : List Step) → IsTree rows (whole_of p) p.tree.added → IsEdit edit
    → steps_of_tree (whole_of p) p.tree.added edit ≡ Ok steps → AllApply rows (whole_of p) p.tree.added steps
edit_applies p edit steps t w is = steps_apply (whole_of p) p.tree.added edit steps t w is

edits_to : (s : Exporter) (edit : Edit) (steps : List Step) (t : Exporter) → steps_of_tree s.tree s.added edit ≡ Ok steps
    → t ≡ queues (stepped s steps) (steps_told s.heard (name_or_empty s.name) s.tree steps) → app_edits s edit ≡ Ok t
edits_to s edit steps t is e = rw is (ap Ok (sym e))

-- what doing the steps makes of the application is what the edit makes of it
pub edit_made : (p : Parts) (id : ℤ) (k : Known) (edit : Edit) (steps : List Step) (hs : List Happening) (after : Exporter)
    → steps_of_tree (whole_of p) p.tree.added edit ≡ Ok steps → hs ≡ steps_told k.heard (name_or_empty k.name) (whole_of p) steps
    → after ≡ queues (stepped (seen p id k) steps) hs → app_edits (seen p id k) edit ≡ Ok after
edit_made p id k edit steps hs after is told e = edits_to (seen p id k) edit steps after is (e ∙ ap (queues (stepped (seen p id k) steps)) told)

pub edit_is_spent : (p : Parts) (id : ℤ) (k : Known) (edit : Edit) (steps : List Step) (hs : List Happening)
    → steps_of_tree (whole_of p) p.tree.added edit ≡ Ok steps → hs ≡ steps_told k.heard (name_or_empty k.name) (whole_of p) steps
    → is_spent (queues (stepped (seen p id k) steps) hs) ≡ true → IsSpentAfter (app_edits (seen p id k) edit)
edit_is_spent p id k edit steps hs is told spent =
    rw is (subst (λ l. is_spent (queues (stepped (seen p id k) steps) l) ≡ true) told spent)
