use Rattle.std.proofs.Common.{None, ℕ, List, Option, ap, cond, ◌∙◌}
use Rattle.std.specs.Prelude.{bytes_eq}
use Rattle.std.specs.Option.{option_map}
use Rattle.std.specs.HashMap.{get_by_text}
use Rattle.std.proofs.lemmas.Map.Text.{hash_map_updates_text}
use Rattle.atspi_cache_arena.specs.Table.{has_path, kept}
use Rattle.atspi_cache_arena.proofs.paths.drop_one.Goals as goal

pub returns-in-Some-clause-index : goal.returns-in-Some-clause-index
returns-in-Some-clause-index c q =
    hash_map_updates_text c.as_str.result.now c.args.paths.now.index c.swap_remove.new.self None c.swap_remove.ensures.updates q
    ∙ ap (λ b. cond {A = Option ℕ} b None (get_by_text c.args.paths.now.index q)) (ap (λ (l : List ℕ). bytes_eq l q) c.as_str.ensures.bytes ∙ ap (λ o. has_path q (option_map kept o)) c.in-Some.ensures.value)
