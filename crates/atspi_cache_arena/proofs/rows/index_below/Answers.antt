use Rattle.std.proofs.Common.{◌≡◌, Some, [], ap, sym, subst, ◌∙◌}
use Rattle.std.specs.Prelude.{slice_get}
use Rattle.std.specs.Option.{option_map}
use Rattle.atspi_cache_arena.specs.Arena.{children_or}
use Rattle.atspi_cache_arena.specs.Table.{kept, look_in}
use Rattle.atspi_cache_arena.specs.Walk.{kids}
use Rattle.atspi_cache_arena.proofs.Stepped.{nothing_at}
use Rattle.atspi_cache_arena.proofs.rows.index_below.Goals as goal

pub returns-in-Some : goal.returns-in-Some
returns-in-Some c = λ i e.
    let key = c.args.key in
    let l : kids (look_in c.args.cells.now) c.args.parent ≡ c.deref.result.now = ap (λ o. children_or (option_map kept o)) (sym c.in-Some.ensures) ∙ sym c.deref.ensures.value in
    subst (λ xs. slice_get xs c.index_in.result ≡ Some key) (sym l)
    (c.index_in.ensures i (subst (λ xs. slice_get xs i ≡ Some key) l e))

pub returns-in-None : goal.returns-in-None
returns-in-None c = λ i e.
    let key = c.args.key in
    let l : kids (look_in c.args.cells.now) c.args.parent ≡ [] = ap (λ o. children_or (option_map kept o)) (sym c.in-None.ensures) in
    absurd (nothing_at i key (subst (λ xs. slice_get xs i ≡ Some key) l e))
