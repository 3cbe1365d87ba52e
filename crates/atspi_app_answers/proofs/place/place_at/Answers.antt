use Rattle.std.proofs.Common.{◌≡◌, ◌≢◌, ◌<◌, ◌^◌, ℕ, sym, subst, ◌∙◌}
use Rattle.std.specs.Prelude.{MatchOption}
use Rattle.atspi_tree_model.specs.Path.{path_of}
use Rattle.atspi_app_answers.proofs.PlaceLemmas.{tree_place, no_place, gone, node_place}
use Rattle.atspi_app_answers.proofs.place.place_at.Goals as goal

pub returns-then-is_cache-clause-place : goal.returns-then-is_cache-clause-place
returns-then-is_cache-clause-place c = tree_place c.args.tree.now c.args.path.now (sym c.is_cache.ensures ∙ c.if-is_cache.true)

pub returns-in_default-clause-place : goal.returns-in_default-clause-place
returns-in_default-clause-place c =
    let path = c.args.path.now in
    let none = subst (λ r. MatchOption r ((n : ℕ) → n < 2 ^ 32 → path_of n ≢ path) (λ n. path_of n ≡ path)) c.in_default.is c.node_at.ensures in
    no_place c.args.tree.now path c.is_lawful.ensures (sym c.is_cache.ensures ∙ c.if-is_cache.false) none

pub returns-then-has-clause-place : goal.returns-then-has-clause-place
returns-then-has-clause-place c =
    let path = c.args.path.now in
    let is = subst (λ r. MatchOption r ((n : ℕ) → n < 2 ^ 32 → path_of n ≢ path) (λ n. path_of n ≡ path)) c.in-Some.is c.node_at.ensures in
    node_place c.args.tree.now path c.in-Some.node (sym c.is_cache.ensures ∙ c.if-is_cache.false) is

pub returns-clause-place : goal.returns-clause-place
returns-clause-place c =
    let path = c.args.path.now in
    let is = subst (λ r. MatchOption r ((n : ℕ) → n < 2 ^ 32 → path_of n ≢ path) (λ n. path_of n ≡ path)) c.in-Some.is c.node_at.ensures in
    gone c.args.tree.now path c.in-Some.node (sym c.is_cache.ensures ∙ c.if-is_cache.false) is (sym c.has.ensures.answer ∙ c.if-has.false)
