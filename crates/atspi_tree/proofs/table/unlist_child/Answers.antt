use Rattle.std.proofs.Common.{◌≡◌, ◌≤◌, ℕ, List, Option, Some, ap, sym, subst, ◌∙◌}
use Rattle.std.specs.Option.{option_map}
use Rattle.atspi_tree_model.specs.Map.{times}
use Rattle.atspi_tree_model.specs.Row.{Holds}
use Rattle.atspi_tree.specs.declared.cell.Cell.{Cell}
use Rattle.atspi_tree.specs.Table.{Kept, kept, without_child}
use Rattle.atspi_tree.proofs.Keys.{is_other, kept_is, is_there}
use Rattle.atspi_tree.proofs.Moved.{with_list}
use Rattle.atspi_tree.proofs.table.unlist_child.Goals as goal

-- what is asked of the row that is looked up, at the cell that is found
at_cell : (o : Option Cell) (cell : Cell) (p n : ℕ) → Some cell ≡ o → Holds (λ (k : Kept). times n k.children ≤ 1) (option_map (kept p) o) → times n cell.children.items ≤ 1
at_cell o cell p n e h = subst (λ (o : Option Cell). Holds (λ (k : Kept). times n k.children ≤ 1) (option_map (kept p) o)) (sym e) h

pub unlist-requires : goal.unlist-requires
unlist-requires c = at_cell _ c.in-Some.cell.now c.args.parent c.args.node c.in-Some.ensures.value c.requires

pub returns-in-Some-clause-put : goal.returns-in-Some-clause-put
returns-in-Some-clause-put c k h =
    let written = (c.get_mut.follows.holds _).3 (is_there _ _ c.in-Some.ensures.value) in
    record {
      here =
          ap (option_map (kept c.args.parent)) written.1
          ∙ ap (λ (l : List ℕ). Some (with_list l (kept c.args.parent c.in-Some.cell.now))) c.unlist.ensures
          ∙ ap (λ k. Some (without_child c.args.node k)) (kept_is _ c.args.parent c.in-Some.cell.now k c.in-Some.ensures.value h);
      others = λ m e. ap (option_map (kept m)) (written.2 m (is_other c.args.parent m e));
    }
