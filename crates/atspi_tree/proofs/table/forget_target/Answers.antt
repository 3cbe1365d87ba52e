use Rattle.std.proofs.Common.{ℕ, List, Some, ap, ◌∙◌}
use Rattle.std.specs.Option.{option_map}
use Rattle.atspi_tree.specs.Table.{kept, forgets_target}
use Rattle.atspi_tree.proofs.Keys.{is_other, is_there}
use Rattle.atspi_tree.proofs.table.forget_target.Goals as goal

pub returns-in-Some-clause-here : goal.returns-in-Some-clause-here
returns-in-Some-clause-here c =
    let written = (c.get_mut.follows.holds _).3 (is_there _ _ c.in-Some.ensures.value) in
    ap (option_map (kept c.args.node)) written.1
    ∙ ap (λ (rs : List (ℕ × ℕ)). Some (record (kept c.args.node c.in-Some.cell.now) { row = record (kept c.args.node c.in-Some.cell.now).row { relations = rs } })) c.drop_target.ensures
    ∙ ap (λ o. option_map (forgets_target c.args.target) (option_map (kept c.args.node) o)) c.in-Some.ensures.value

pub returns-in-Some-clause-others : goal.returns-in-Some-clause-others
returns-in-Some-clause-others c m e =
    let written = (c.get_mut.follows.holds _).3 (is_there _ _ c.in-Some.ensures.value) in
    ap (option_map (kept m)) (written.2 m (is_other c.args.node m e))
