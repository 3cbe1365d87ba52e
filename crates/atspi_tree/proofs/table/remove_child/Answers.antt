use Rattle.std.proofs.Common.{ℕ, List, Some, ap, ◌∙◌}
use Rattle.std.specs.Option.{option_map}
use Rattle.atspi_tree.specs.Table.{kept, without_child}
use Rattle.atspi_tree.proofs.Keys.{is_other, kept_is, is_there}
use Rattle.atspi_tree.proofs.Moved.{with_list}
use Rattle.atspi_tree.proofs.table.remove_child.Goals as goal

pub returns-in-Some-clause-put : goal.returns-in-Some-clause-put
returns-in-Some-clause-put c k h =
    let written = (c.get_mut.follows.holds _).3 (is_there _ _ c.in-Some.ensures.value) in
    record {
      here =
          ap (option_map (kept c.args.parent)) written.1
          ∙ ap (λ (l : List ℕ). Some (with_list l (kept c.args.parent c.in-Some.cell.now))) c.drop_child.ensures.items
          ∙ ap (λ k. Some (without_child c.args.node k)) (kept_is _ c.args.parent c.in-Some.cell.now k c.in-Some.ensures.value h);
      others = λ m e. ap (option_map (kept m)) (written.2 m (is_other c.args.parent m e));
    }
