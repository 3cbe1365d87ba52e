use Rattle.std.proofs.Common.{◌≡◌, ℕ, List, Some, refl, ap, ◌∙◌}
use Rattle.std.specs.Option.{option_map}
use Rattle.atspi_tree.specs.Relations.{with_relations}
use Rattle.atspi_tree.specs.Table.{kept, with_row}
use Rattle.atspi_tree.proofs.Keys.{is_other, kept_is, is_there}
use Rattle.atspi_tree.proofs.table.set_relations.Goals as goal

pub returns-in-Some-clause-put : goal.returns-in-Some-clause-put
returns-in-Some-clause-put c k h =
    let given : c.replace.new.dest ≡ c.args.relations = rw c.replace.ensures.after refl in
    let written = (c.get_mut.follows.holds _).3 (is_there _ _ c.in-Some.ensures.value) in
    record {
      here =
          ap (option_map (kept c.args.node)) written.1
          ∙ ap (λ (rs : List (ℕ × ℕ)). Some (with_row (with_relations rs) (kept c.args.node c.in-Some.cell.now))) given
          ∙ ap (λ k. Some (with_row (with_relations c.args.relations) k)) (kept_is _ c.args.node c.in-Some.cell.now k c.in-Some.ensures.value h);
      others = λ m e. ap (option_map (kept m)) (written.2 m (is_other c.args.node m e));
    }
