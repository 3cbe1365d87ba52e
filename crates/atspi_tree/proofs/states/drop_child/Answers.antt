use Rattle.std.proofs.Common.{◌≡◌, ◌==◌, not, rules, length, ap, arith}
use Rattle.std.proofs.lemmas.Fn.{filter_same}
use Rattle.atspi_tree.specs.Table.{all_but}
use Rattle.atspi_tree.proofs.states.drop_child.Goals as goal

pub returns-clause-items : goal.returns-clause-items
returns-clause-items c = filter_same _ (λ m. not (m == c.args.node)) _ (λ x b f' k. search rules) _ _ c.retain.ensures.filtered

pub returns-clause-len : goal.returns-clause-len
returns-clause-len c =
    let e : length c.retain.new.self.items ≡ length (all_but c.args.node c.args.children.now.items) =
    ap length (filter_same _ (λ m. not (m == c.args.node)) _ (λ x b f' k. search rules) _ _ c.retain.ensures.filtered) in
    let b = c.retain.new.self.ok.0 in
    omega arith
