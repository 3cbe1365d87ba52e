use Rattle.std.proofs.Common.{ap, sym, subst, ◌∙◌}
use Rattle.atspi_cache_arena.specs.Walk.{IsWalk, sights_left}
use Rattle.atspi_cache_arena.proofs.Stepped.{all_shown, walk_begins}
use Rattle.atspi_cache_arena.proofs.rows.rows_from.Goals as goal

pub invariant_of-result : goal.invariant_of-result
invariant_of-result c =
    subst (λ p. IsWalk c.args.cells.now c.args.paths.now.root p) (sym c.first_place.ensures) (walk_begins c.args.cells.now c.args.paths.now c.requires.arena)

pub returns : goal.returns
returns c =
    ap (sights_left c.args.cells.now c.args.paths.now.root) c.first_place.ensures ∙ all_shown c.args.cells.now c.args.paths.now c.requires.arena
