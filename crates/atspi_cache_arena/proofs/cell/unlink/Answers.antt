use Rattle.std.proofs.Common.{ap, ◌∙◌, ◌==◌, rules}
use Rattle.std.specs.Prelude.{not, Some, ℕ, List}
use Rattle.std.specs.Option.{option_map}
use Rattle.std.proofs.lemmas.Fn.{filter_same}
use Rattle.slab.proofs.SlabLemmas.{Updates-with_value}
use Rattle.atspi_cache_arena.specs.Table.{kept, without_child}
use Rattle.atspi_cache_arena.proofs.Walk.{cell_there, written}
use Rattle.atspi_cache_arena.proofs.cell.unlink.Goals as goal

pub returns-in-Some-clause-put : goal.returns-in-Some-clause-put
returns-in-Some-clause-put c k h =
    ap (option_map kept) (Updates-with_value c.args.cells.now c.args.parent _ (cell_there _ c.in-Some.cell.now c.in-Some.ensures.value)).changed
    ∙ (ap (λ (l : List ℕ). Some (record (kept c.in-Some.cell.now) { children = l })) (filter_same _ (λ n. not (n == c.args.key)) _ (λ x b g call. search rules) _ _ c.retain.ensures.filtered)
    ∙ ap (λ k. Some (without_child c.args.key k)) (written c.args.cells.now c.args.parent c.in-Some.cell.now k c.in-Some.ensures.value h))
