use Rattle.std.proofs.Common.{◌≡◌, Some, refl, sym, ◌∙◌}
use Rattle.std.specs.HashMap.{get_by_text}
use Rattle.std.specs.declared.result.Result.{Result}
use Rattle.std.specs.declared.result.Result.TheVariants.{Ok, Err}
use Rattle.atspi_base.specs.declared.NoMemory.{NoMemory}
use Rattle.atspi_tree_model.specs.Forest.{put_in, pick, take_out}
use Rattle.atspi_tree_model.specs.News.{is_path}
use Rattle.atspi_cache_arena.specs.Table.{look_in, parent_in}
use Rattle.atspi_cache_arena.proofs.Shown.{Becomes}
use Rattle.atspi_cache_arena.proofs.Inserted.{refused, key_there, not_there, on_ok, on_err, by_result, ok_is, err_is}
use Rattle.atspi_cache_arena.proofs.Removed.{there_is}
use Rattle.atspi_cache_arena.proofs.Moved.{moved_arena, has_left, no_parent, apart, own_parent}
use Rattle.atspi_cache_arena.proofs.arena.Arena.move_to.Goals as goal

pub returns-in_default-clause-ok : goal.returns-in_default-clause-ok
returns-in_default-clause-ok c =
    absurd (not_there c.self.inside.cells c.self.inside.paths c.args.self.now c.args.path.now c.self.invariant c.self.view_is (sym c.key_of.ensures ∙ c.in_default.is) c.requires.there)

pub returns-in_default-key_of-clause-ok : goal.returns-in_default-key_of-clause-ok
returns-in_default-key_of-clause-ok c =
    absurd (not_there c.self.inside.cells c.self.inside.paths c.args.self.now c.args.parent.now c.self.invariant c.self.view_is (sym c.key_of-2.ensures ∙ c.in_default-key_of.is)
    (has_left _ _ c.args.self.now c.requires.outside))

pub returns-in_default-parent_of-clause-ok : goal.returns-in_default-parent_of-clause-ok
returns-in_default-parent_of-clause-ok c =
    absurd (no_parent c.self.inside.cells c.self.inside.paths c.args.self.now c.args.path.now c.args.parent.now c.in-Some.key c.self.invariant c.self.view_is (sym c.key_of.ensures ∙ c.in-Some.is)
    (sym c.parent_of.ensures ∙ c.in_default-parent_of.is) c.requires.outside)

pub relink-requires-clause-to_there : goal.relink-requires-clause-to_there
relink-requires-clause-to_there c = key_there c.self.inside.cells c.self.inside.paths c.args.parent.now c.in-Some-key_of.to c.self.invariant (sym c.key_of-2.ensures ∙ c.in-Some-key_of.is)

pub relink-requires-clause-apart : goal.relink-requires-clause-apart
relink-requires-clause-apart c =
    apart c.self.inside.cells c.self.inside.paths c.args.self.now c.args.path.now c.args.parent.now c.in-Some.key c.in-Some-key_of.to c.self.invariant c.self.view_is (sym c.key_of.ensures ∙ c.in-Some.is)
    (sym c.key_of-2.ensures ∙ c.in-Some-key_of.is) c.requires.outside

becomes : (c : goal.After-relink) → Becomes c.relink.new.cells c.self.inside.paths
    (by_result c.relink.result (put_in (is_path c.args.parent.now) c.args.at (pick (is_path c.args.path.now) c.args.self.now) (take_out (is_path c.args.path.now) c.args.self.now)) c.args.self.now)
becomes c = by c.relink.result refl
  where
    known : get_by_text c.self.inside.paths.index c.args.path.now ≡ Some c.in-Some.key
    known = sym c.key_of.ensures ∙ c.in-Some.is

    known_up : get_by_text c.self.inside.paths.index c.args.parent.now ≡ Some c.in-Some-key_of.to
    known_up = sym c.key_of-2.ensures ∙ c.in-Some-key_of.is

    has_parent : parent_in (look_in c.self.inside.cells c.in-Some.key) ≡ Some c.in-Some-parent_of.from
    has_parent = sym c.parent_of.ensures ∙ c.in-Some-parent_of.is

    by : (o : Result (Unit {0}) NoMemory) → c.relink.result ≡ o → Becomes c.relink.new.cells c.self.inside.paths
        (by_result o (put_in (is_path c.args.parent.now) c.args.at (pick (is_path c.args.path.now) c.args.self.now) (take_out (is_path c.args.path.now) c.args.self.now)) c.args.self.now)
    by (Ok x) e =
        let h = there_is c.self.inside.cells c.in-Some.key (key_there c.self.inside.cells c.self.inside.paths c.args.path.now c.in-Some.key c.self.invariant known) in
        let other = own_parent c.self.inside.cells c.self.inside.paths c.args.path.now c.in-Some.key c.in-Some-parent_of.from c.self.invariant known has_parent in
        moved_arena c.self.inside.cells c.self.inside.paths c.args.self.now c.args.path.now c.args.parent.now c.in-Some.key c.in-Some-key_of.to
        c.self.invariant c.self.view_is known known_up c.requires.outside c.relink.new.cells c.in-Some-parent_of.from c.args.at
        (record {
          there = (h.0, h.1, h.2 ∙ has_parent);
          moved = λ y z. on_ok c.relink.result x e (c.relink.ensures.moved y z other);
          to = λ y z. on_ok c.relink.result x e (c.relink.ensures.to y z);
          from = λ y z d. on_ok c.relink.result x e (c.relink.ensures.from y z d (λ s. other (sym s)));
          none = c.relink.ensures.none;
          others = c.relink.ensures.others;
        })
    by (Err x) e =
        refused c.self.inside.cells c.relink.new.cells c.self.inside.paths c.self.inside.paths c.args.self.now c.self.invariant c.self.view_is
        (on_err c.relink.result x e c.relink.ensures.err) refl (λ q. refl)

pub invariant_of-self : goal.invariant_of-self
invariant_of-self c = (becomes c).arena

pub returns-clause-ok : goal.returns-clause-ok
returns-clause-ok c = ok_is c.relink.result _ _ c.args.self.now (becomes c).rows_are

pub returns-clause-err : goal.returns-clause-err
returns-clause-err c = err_is c.relink.result _ (put_in (is_path c.args.parent.now) c.args.at (pick (is_path c.args.path.now) c.args.self.now) (take_out (is_path c.args.path.now) c.args.self.now)) _ (becomes c).rows_are
