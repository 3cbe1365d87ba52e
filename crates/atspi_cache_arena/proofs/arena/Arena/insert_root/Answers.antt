use Rattle.std.proofs.Common.{◌≡◌, refl}
use Rattle.std.specs.declared.result.Result.{Result}
use Rattle.std.specs.declared.result.Result.TheVariants.{Ok, Err}
use Rattle.atspi_base.specs.declared.NoMemory.{NoMemory}
use Rattle.atspi_tree_model.specs.Forest.{nil, tree}
use Rattle.atspi_cache_arena.proofs.Shown.{Becomes}
use Rattle.atspi_cache_arena.proofs.Inserted.{refused, on_ok, on_err, by_result, ok_is, err_is}
use Rattle.atspi_cache_arena.proofs.Rooted.{rooted}
use Rattle.atspi_cache_arena.proofs.arena.Arena.insert_root.Goals as goal

becomes : (c : goal.After-put_root) → Becomes c.put_root.new.cells c.put_root.new.paths (by_result c.put_root.result (tree c.args.row nil nil) c.args.self.now)
becomes c = by c.put_root.result refl
  where
    by : (o : Result (Unit {0}) NoMemory) → c.put_root.result ≡ o → Becomes c.put_root.new.cells c.put_root.new.paths (by_result o (tree c.args.row nil nil) c.args.self.now)
    by (Ok x) e =
        rooted c.self.inside.cells c.put_root.new.cells c.self.inside.paths c.put_root.new.paths c.args.self.now c.self.inside.cells.vacant_key c.args.row
        c.self.invariant c.self.view_is c.requires.empty
        (on_ok c.put_root.result x e c.put_root.ensures.new) (on_ok c.put_root.result x e c.put_root.ensures.others)
        (on_ok c.put_root.result x e c.put_root.ensures.root) (on_ok c.put_root.result x e c.put_root.ensures.index)
    by (Err x) e =
        refused c.self.inside.cells c.put_root.new.cells c.self.inside.paths c.put_root.new.paths c.args.self.now c.self.invariant c.self.view_is
        (on_err c.put_root.result x e c.put_root.ensures.err) (on_err c.put_root.result x e c.put_root.ensures.err_root) (on_err c.put_root.result x e c.put_root.ensures.err_index)

pub invariant_of-self : goal.invariant_of-self
invariant_of-self c = (becomes c).arena

pub returns-clause-ok : goal.returns-clause-ok
returns-clause-ok c = ok_is c.put_root.result _ _ c.args.self.now (becomes c).rows_are

pub returns-clause-err : goal.returns-clause-err
returns-clause-err c = err_is c.put_root.result _ (tree c.args.row nil nil) _ (becomes c).rows_are
