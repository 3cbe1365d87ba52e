use Rattle.std.proofs.Common.{◌∷◌, Some, length, rules, ap, sym, subst, ◌∙◌}
use Rattle.atspi_cache_arena.specs.Table.{look_in}
use Rattle.atspi_cache_arena.specs.Walk.{IsWalk, sights_left}
use Rattle.atspi_cache_arena.proofs.Stepped.{read_there, walk_goes_on, walk_steps}
use Rattle.atspi_cache_arena.proofs.rows.RowsIterator.next.Goals as goal

pub invariant_of-self : goal.invariant_of-self
invariant_of-self c =
    let s = c.self.inside.cells.now in
    let w = subst (λ p. IsWalk s c.self.inside.root p) c.in-Some.is c.self.invariant in
    walk_goes_on s c.self.inside.root c.in-Some.place c.following-self-inside.result w (c.following-self-inside.ensures w.rest w.is_next)

pub returns-clause-steps : goal.returns-clause-steps
returns-clause-steps c =
    let s = c.self.inside.cells.now in
    let root = c.self.inside.root in
    let next = c.following-self-inside.result in
    let w = subst (λ p. IsWalk s root p) c.in-Some.is c.self.invariant in
    let seen = read_there s (length s.slots) c.in-Some.place c.in-Some-get.cell.now w.rest w.is_next c.in-Some-get.ensures ∙ sym c.show.ensures in
    sym c.self.view_is ∙ ap (sights_left s root) c.in-Some.is
    ∙ walk_steps s root c.in-Some.place next w (c.following-self-inside.ensures w.rest w.is_next) ∙ ap (λ x. x ∷ sights_left s root next) seen

pub returns-clause-goes : goal.returns-clause-goes
returns-clause-goes c =
    let s = c.self.inside.cells.now in
    let root = c.self.inside.root in
    let next = c.following-self-inside.result in
    let w = subst (λ p. IsWalk s root p) c.in-Some.is c.self.invariant in
    let seen = read_there s (length s.slots) c.in-Some.place c.in-Some-get.cell.now w.rest w.is_next c.in-Some-get.ensures ∙ sym c.show.ensures in
    let step =
    sym c.self.view_is ∙ ap (sights_left s root) c.in-Some.is
    ∙ walk_steps s root c.in-Some.place next w (c.following-self-inside.ensures w.rest w.is_next) ∙ ap (λ x. x ∷ sights_left s root next) seen in
    let shorter = ap length step in search rules
