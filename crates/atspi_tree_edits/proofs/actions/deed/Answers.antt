use Rattle.std.proofs.Common.{◌≡◌, ◌<◌, ℕ, suc, Bool, cond, Option, Some, None, List, [], ◌∷◌, length, drop, sym, ap, ◌∙◌, arith}
use Rattle.std.specs.Prelude.{nat_le}
use Rattle.std.proofs.Math.Seq.{drop-cons}
use Rattle.atspi_tree_model.specs.Edits.{known_actions, lacks_kind, lacks_node}
use Rattle.atspi_tree_model.specs.declared.edit.EditFault.{EditFault}
use Rattle.atspi_tree_model.specs.declared.edit.EditFault.TheVariants.{BadIndex, NoFace, NoNode}
use Rattle.atspi_tree_edits.proofs.Faults.{none_of_two, within}
use Rattle.atspi_tree_edits.proofs.actions.deed.Goals as goal

pub returns : goal.returns
returns c =
    let known = known_actions c.args.known.now in
    let names = c.names-names.result.now in
    let count : length names ≡ length known = ap (λ (l : List (List ℕ)). length l) c.names-names.ensures in
    let inside : c.args.index < length names = c.if-names-index.false in
    record {
      allowed =
          none_of_two (lacks_node c.args.tree.now.rows c.args.node) (lacks_kind (λ k. k.action) c.args.tree.now.rows c.args.node) NoNode NoFace ((nat_le (length known) c.args.index, BadIndex) ∷ []) (sym c.face_fault.ensures ∙ c.in_default.is)
          ∙ ap (λ (b : Bool). cond {A = Option EditFault} b (Some BadIndex) None) (within (length known) c.args.index (omega arith));
      more = drop (suc c.args.index) names;
      stands =
          ap (λ (l : List (List ℕ)). drop c.args.index l) (sym c.names-names.ensures) ∙ drop-cons names c.args.index c.index-names-index.result inside
          ∙ ap (λ (name : List ℕ). name ∷ drop (suc c.args.index) names) (sym c.index-names-index.is);
    }
