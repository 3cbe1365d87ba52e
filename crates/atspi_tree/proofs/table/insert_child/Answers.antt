use Rattle.std.proofs.Common.{ℕ, List, Some, ap, ◌∙◌}
use Rattle.std.specs.Option.{option_map}
use Rattle.std.specs.Ordering.{nat_cmp, is_eq}
use Rattle.std.specs.BTreeMap as ordered
use Rattle.atspi_tree.specs.Table.{kept, with_child}
use Rattle.atspi_tree.proofs.Keys.{is_same, is_other, kept_is, is_there, same_at}
use Rattle.atspi_tree.proofs.table.insert_child.Goals as goal

pub returns-in-Ok-clause-put : goal.returns-in-Ok-clause-put
returns-in-Ok-clause-put c k h =
    let written = (c.get_mut.follows.holds _).3 (is_there _ _ c.in-Some.ensures.value) in
    record {
      here =
          ap (option_map (kept c.args.parent)) written.1
          ∙ ap (λ (l : List ℕ). Some (record (kept c.args.parent c.in-Some.cell.now) { children = l })) c.in-Ok.ensures.items
          ∙ ap (λ k. Some (with_child c.args.index c.args.node k)) (kept_is _ c.args.parent c.in-Some.cell.now k c.in-Some.ensures.value h);
      others = λ m e. ap (option_map (kept m)) (written.2 m (is_other c.args.parent m e));
    }

pub returns-in-Err-clause-err : goal.returns-in-Err-clause-err
returns-in-Err-clause-err c n =
    ap (option_map (kept n)) (((c.get_mut.follows.holds _).3 (is_there _ _ c.in-Some.ensures.value)).0 n)
    ∙ same_at (λ q. ordered.get nat_cmp c.args.cells.now q) c.args.parent n (record c.in-Some.cell.now { children = c.insert.new.self }) c.in-Some.cell.now
    (is_eq (nat_cmp c.args.parent n)) (is_same c.args.parent n) c.in-Some.ensures.value
    (λ m. ap (λ (l : List ℕ). record (kept m c.in-Some.cell.now) { children = l }) c.in-Err.ensures.items)
