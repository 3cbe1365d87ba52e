use Rattle.std.proofs.Common.{◌≡◌, ℕ, List, Option, None, cond, sym, subst, ◌∙◌}
use Rattle.std.specs.HashMap.{get_by_text}
use Rattle.atspi_cache_arena.specs.Table.{is_among, look_in, path_among}
use Rattle.atspi_cache_arena.proofs.Walk.{take_more, swept_cells, swept_paths}
use Rattle.atspi_cache_arena.proofs.paths.sweep.Goals as goal

pub loop-key-preserved : goal.loop-key-preserved
loop-key-preserved c =
    let more = sym (take_more c.args.keys.now c.loop-key.key-index c.loop-key-test.true) in (
      λ n. subst (λ (l : List ℕ). look_in c.drop_one.new.cells n ≡ cond (is_among n l) None (look_in c.args.cells.now n)) more
          (swept_cells (look_in c.args.cells.now) (look_in c.loop-key.cells) (look_in c.drop_one.new.cells) _ _ c.drop_one.ensures.here c.drop_one.ensures.others c.loop-key.invariant.0 n),
      λ q. subst (λ (l : List ℕ). get_by_text c.drop_one.new.paths.index q ≡ cond {A = Option ℕ} (path_among (look_in c.args.cells.now) q l) None (get_by_text c.args.paths.now.index q)) more
          (swept_paths (look_in c.args.cells.now) (look_in c.loop-key.cells) (look_in c.drop_one.new.cells) _ _ c.drop_one.ensures.here c.drop_one.ensures.others c.loop-key.invariant.0 q _ _ _
          (c.loop-key.invariant.1 q) (c.drop_one.ensures.index q)),
      c.drop_one.ensures.root ∙ c.loop-key.invariant.2,
    )
