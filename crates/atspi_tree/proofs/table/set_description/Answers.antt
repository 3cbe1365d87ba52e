use Rattle.std.proofs.Common.{Some, ap, ◌∙◌}
use Rattle.std.specs.Option.{option_map}
use Rattle.atspi_tree_model.specs.declared.step.Step.TheVariants.{SetDescription}
use Rattle.atspi_tree_model.specs.RowRules.{changed_shape}
use Rattle.atspi_tree.specs.Table.{kept, with_row}
use Rattle.atspi_tree.proofs.Keys.{is_other, kept_is, is_there}
use Rattle.atspi_tree.proofs.table.set_description.Goals as goal

pub returns-in-Some-clause-put : goal.returns-in-Some-clause-put
returns-in-Some-clause-put c k h =
    let written = (c.get_mut.follows.holds _).3 (is_there _ _ c.in-Some.ensures.value) in
    record {
      here =
          ap (option_map (kept c.args.node)) written.1
          ∙ ap (λ k. Some (with_row (changed_shape (SetDescription c.args.node c.args.description)) k)) (kept_is _ c.args.node c.in-Some.cell.now k c.in-Some.ensures.value h);
      others = λ m e. ap (option_map (kept m)) (written.2 m (is_other c.args.node m e));
    }
