-- Reading bytes as an edit alone, by reading them as an edit line of a script.
use Rattle.std.proofs.Common.{◌≡◌, ℕ, List, ◌++◌, Some, None, sym, ap, subst, ◌∙◌}
use Rattle.std.specs.Prelude.{Err, codes}
use Rattle.atspi_tree_model.specs.declared.edit.Edit.{Edit}
use Rattle.atspi_script_lines.specs.declared.line.Line.{Line}
use Rattle.atspi_script_lines.specs.declared.line.Line.TheVariants as line
use Rattle.atspi_script_lines.specs.declared.line.LineFault.{LineFault}
use Rattle.atspi_script_lines.specs.declared.line.LineFault.TheVariants as faults
use Rattle.atspi_script_lines.specs.Line.{ReadsLine, Spells}
use Rattle.atspi_script_lines.proofs.OnceLemmas.{one_reading}
use Rattle.atspi_run_input.specs.Edits.{IsEditLine, edit_in}

some_is : {A : Type 0} (a b : A) → Some a ≡ Some b → a ≡ b
some_is a b e = cc

none_some : {A : Type 0} (a : A) → None ≡ Some a → ⊥
none_some a e = cc

-- an edit line
pub edit_found : (l : Line) (edit : Edit) (bytes : List ℕ) → edit_in l ≡ Some edit → Spells l (codes "edit a0 " ++ bytes) → IsEditLine edit bytes
edit_found (line.Edit app what) edit bytes e s = (app, subst (λ (x : Edit). Spells (line.Edit app x) (codes "edit a0 " ++ bytes)) (some_is what edit e) s)
edit_found line.Blank edit bytes e s = absurd (none_some edit e)
edit_found (line.Quota quota) edit bytes e s = absurd (none_some edit e)
edit_found (line.App name) edit bytes e s = absurd (none_some edit e)
edit_found line.Reader edit bytes e s = absurd (none_some edit e)
edit_found (line.Call reader app node deed) edit bytes e s = absurd (none_some edit e)
edit_found (line.Swap app) edit bytes e s = absurd (none_some edit e)
edit_found (line.Exit app) edit bytes e s = absurd (none_some edit e)
edit_found (line.Leave reader) edit bytes e s = absurd (none_some edit e)
edit_found (line.Bytes party up count) edit bytes e s = absurd (none_some edit e)
edit_found (line.Turns count) edit bytes e s = absurd (none_some edit e)
edit_found line.Drain edit bytes e s = absurd (none_some edit e)
edit_found (line.Show reader app) edit bytes e s = absurd (none_some edit e)

pub no_edit : (l : Line) (bytes : List ℕ) → edit_in l ≡ None → Spells l (codes "edit a0 " ++ bytes) → (edit : Edit) → IsEditLine edit bytes → ⊥
no_edit l bytes e s edit h = none_some edit (sym e ∙ ap edit_in (one_reading (codes "edit a0 " ++ bytes) l (line.Edit h.0 edit) s h.1))

pub no_edit_if : (fault : LineFault) (bytes whole : List ℕ) → fault ≡ faults.Form → whole ≡ codes "edit a0 " ++ bytes → ReadsLine (Err fault) whole → (edit : Edit) → IsEditLine edit bytes → ⊥
no_edit_if fault bytes whole e is n edit h =
    let form : ReadsLine (Err faults.Form) (codes "edit a0 " ++ bytes) = subst (λ (w : List ℕ). ReadsLine (Err faults.Form) w) is (subst (λ (x : LineFault). ReadsLine (Err x) whole) e n) in
    form.2 (line.Edit h.0 edit) h.1.form
