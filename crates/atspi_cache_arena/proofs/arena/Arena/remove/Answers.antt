use Rattle.std.proofs.Common.{sym, ◌∙◌}
use Rattle.atspi_tree_model.specs.Forest.{take_out}
use Rattle.atspi_tree_model.specs.News.{is_path}
use Rattle.atspi_tree_model.proofs.Found.{take_out-none}
use Rattle.atspi_cache_arena.specs.Table.{look_in, parent_in}
use Rattle.atspi_cache_arena.proofs.Shown.{Becomes}
use Rattle.atspi_cache_arena.proofs.Inserted.{not_known, key_there, key_once}
use Rattle.atspi_cache_arena.proofs.Removed.{removed, there_is}
use Rattle.atspi_cache_arena.proofs.arena.Arena.remove.Goals as goal

pub returns-in_default-clause-ok : goal.returns-in_default-clause-ok
returns-in_default-clause-ok c =
    sym (take_out-none (is_path c.args.path.now) c.args.self.now
    (not_known c.self.inside.cells c.self.inside.paths c.args.self.now c.args.path.now c.self.invariant c.self.view_is (sym c.key_of.ensures ∙ c.in_default.is)))

pub subtree-requires : goal.subtree-requires
subtree-requires c = record { held = (c.self.invariant.forest, c.self.invariant.held, key_once c.self.inside.cells c.self.inside.paths c.args.path.now c.in-Some.key c.self.invariant (sym c.key_of.ensures ∙ c.in-Some.is)) }

becomes : (c : goal.After-remove_subtree) → Becomes c.remove_subtree.new.cells c.remove_subtree.new.paths (take_out (is_path c.args.path.now) c.args.self.now)
becomes c =
    let known = sym c.key_of.ensures ∙ c.in-Some.is in
    removed c.self.inside.cells c.remove_subtree.new.cells c.self.inside.paths c.remove_subtree.new.paths c.args.self.now c.args.path.now c.in-Some.key
    (parent_in (look_in c.self.inside.cells c.in-Some.key)) c.in_ok-keys.keys.items c.self.invariant c.self.view_is known
    (record {
      there = there_is c.self.inside.cells c.in-Some.key (key_there c.self.inside.cells c.self.inside.paths c.args.path.now c.in-Some.key c.self.invariant known);
      gone = c.remove_subtree.ensures.gone;
      none = c.remove_subtree.ensures.none;
      parent = c.remove_subtree.ensures.parent;
      others = c.remove_subtree.ensures.others;
    })
    (c.in_ok-keys.ensures c.self.invariant.forest c.self.invariant.held (key_once c.self.inside.cells c.self.inside.paths c.args.path.now c.in-Some.key c.self.invariant known))
    c.remove_subtree.ensures.root
    c.remove_subtree.ensures.index

pub invariant_of-self : goal.invariant_of-self
invariant_of-self c = (becomes c).arena

pub returns-clause-ok : goal.returns-clause-ok
returns-clause-ok c = (becomes c).rows_are
