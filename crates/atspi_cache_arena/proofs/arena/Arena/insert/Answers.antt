use Rattle.std.proofs.Common.{◌≡◌, refl, sym, ◌∙◌}
use Rattle.std.specs.declared.result.Result.{Result}
use Rattle.std.specs.declared.result.Result.TheVariants.{Ok, Err}
use Rattle.atspi_base.specs.declared.NoMemory.{NoMemory}
use Rattle.atspi_tree_model.specs.Forest.{nil, tree, put_in}
use Rattle.atspi_tree_model.specs.News.{is_path}
use Rattle.atspi_tree_model.proofs.Seats.{put_in-none}
use Rattle.atspi_cache_arena.proofs.Shown.{Becomes}
use Rattle.atspi_cache_arena.proofs.Inserted.{inserted, refused, not_known, key_there, on_ok, on_err, by_result, ok_is, err_is}
use Rattle.atspi_cache_arena.proofs.arena.Arena.insert.Goals as goal

pub returns-in_default-clause-ok : goal.returns-in_default-clause-ok
returns-in_default-clause-ok c =
    sym (put_in-none (is_path c.args.parent.now) c.args.at (tree c.args.row nil nil) c.args.self.now
    (not_known c.self.inside.cells c.self.inside.paths c.args.self.now c.args.parent.now c.self.invariant c.self.view_is (sym c.key_of.ensures ∙ c.in_default.is)))

pub insert_below-requires : goal.insert_below-requires
insert_below-requires c = record { is_there = key_there c.self.inside.cells c.self.inside.paths c.args.parent.now c.in-Some.key c.self.invariant (sym c.key_of.ensures ∙ c.in-Some.is) }

becomes : (c : goal.After-insert_below) → Becomes c.insert_below.new.cells c.insert_below.new.paths
    (by_result c.insert_below.result (put_in (is_path c.args.parent.now) c.args.at (tree c.args.row nil nil) c.args.self.now) c.args.self.now)
becomes c = by c.insert_below.result refl
  where
    by : (o : Result (Unit {0}) NoMemory) → c.insert_below.result ≡ o → Becomes c.insert_below.new.cells c.insert_below.new.paths
        (by_result o (put_in (is_path c.args.parent.now) c.args.at (tree c.args.row nil nil) c.args.self.now) c.args.self.now)
    by (Ok x) e =
        inserted c.self.inside.cells c.insert_below.new.cells c.self.inside.paths c.insert_below.new.paths c.args.self.now c.args.parent.now c.in-Some.key c.args.at c.self.inside.cells.vacant_key c.args.row
        c.self.invariant c.self.view_is (sym c.key_of.ensures ∙ c.in-Some.is)
        (record {
          fresh = on_ok c.insert_below.result x e c.insert_below.ensures.fresh;
          new = on_ok c.insert_below.result x e c.insert_below.ensures.new;
          below = λ k h. on_ok c.insert_below.result x e (c.insert_below.ensures.below k h);
          others = on_ok c.insert_below.result x e c.insert_below.ensures.others;
        })
        c.requires.is_new c.insert_below.ensures.root (on_ok c.insert_below.result x e c.insert_below.ensures.index)
    by (Err x) e =
        refused c.self.inside.cells c.insert_below.new.cells c.self.inside.paths c.insert_below.new.paths c.args.self.now
        c.self.invariant c.self.view_is (on_err c.insert_below.result x e c.insert_below.ensures.err) c.insert_below.ensures.root (on_err c.insert_below.result x e c.insert_below.ensures.err_index)

pub invariant_of-self : goal.invariant_of-self
invariant_of-self c = (becomes c).arena

pub returns-clause-ok : goal.returns-clause-ok
returns-clause-ok c = ok_is c.insert_below.result _ _ c.args.self.now (becomes c).rows_are

pub returns-clause-err : goal.returns-clause-err
returns-clause-err c = err_is c.insert_below.result _ (put_in (is_path c.args.parent.now) c.args.at (tree c.args.row nil nil) c.args.self.now) _ (becomes c).rows_are
