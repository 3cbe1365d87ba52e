use Rattle.std.proofs.Common.{ℕ, refl, subst}
use Rattle.atspi_cache_arena.specs.Table.{look_in}
use Rattle.atspi_cache_arena.specs.Walk.{IsAtIndex}
use Rattle.atspi_cache_arena.proofs.rows.index_of.Goals as goal

pub returns-in-Some : goal.returns-in-Some
returns-in-Some c =
    subst (λ u. (i : ℕ) → IsAtIndex (look_in c.args.cells.now) u i c.args.key → IsAtIndex (look_in c.args.cells.now) u c.index_below.result c.args.key) c.in-Some.ensures c.index_below.ensures

pub returns-in-None : goal.returns-in-None
returns-in-None c =
    subst (λ u. (i : ℕ) → IsAtIndex (look_in c.args.cells.now) u i c.args.key → IsAtIndex (look_in c.args.cells.now) u 0 c.args.key) c.in-None.ensures (λ i e. refl)
