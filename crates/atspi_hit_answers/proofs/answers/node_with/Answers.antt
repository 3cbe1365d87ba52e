use Rattle.std.proofs.Common.{◌≡◌, ◌≢◌, ◌<◌, ◌^◌, ℕ, sym, subst, ◌∙◌}
use Rattle.std.specs.Prelude.{MatchOption}
use Rattle.atspi_tree_model.specs.Path.{path_of}
use Rattle.atspi_hit_answers.proofs.Nodes.{no_node, not_there}
use Rattle.atspi_hit_answers.proofs.answers.node_with.Goals as goal

pub returns-in_default : goal.returns-in_default
returns-in_default c =
    let path = c.args.path.now in
    let none = subst (λ r. MatchOption r ((n : ℕ) → n < 2 ^ 32 → path_of n ≢ path) (λ n. path_of n ≡ path)) c.in_default.is c.node_at.ensures in
    no_node c.args.tree.now path c.is_lawful.ensures none

pub returns : goal.returns
returns c =
    let path = c.args.path.now in
    let is = subst (λ r. MatchOption r ((n : ℕ) → n < 2 ^ 32 → path_of n ≢ path) (λ n. path_of n ≡ path)) c.in-Some.is c.node_at.ensures in
    not_there c.args.tree.now path c.in-Some.node is (sym c.has.ensures.answer ∙ c.if-has.false)
