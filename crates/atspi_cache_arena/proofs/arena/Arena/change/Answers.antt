use Rattle.std.proofs.Common.{sym, ◌∙◌}
use Rattle.atspi_tree_model.specs.Forest.{change}
use Rattle.atspi_tree_model.specs.News.{is_path}
use Rattle.atspi_cache_arena.specs.Change.{changed}
use Rattle.atspi_cache_arena.proofs.Shown.{Becomes}
use Rattle.atspi_cache_arena.proofs.Inserted.{not_known}
use Rattle.atspi_cache_arena.proofs.Changed.{changed_arena, change-none}
use Rattle.atspi_cache_arena.proofs.arena.Arena.change.Goals as goal

becomes : (c : goal.After-change_row) → Becomes c.change_row.new.cells c.self.inside.paths (change (is_path c.args.path.now) (changed c.args.with) c.args.self.now)
becomes c =
    changed_arena c.self.inside.cells c.change_row.new.cells c.self.inside.paths c.args.self.now c.args.path.now c.in-Some.key c.args.with
    c.self.invariant c.self.view_is (sym c.key_of.ensures ∙ c.in-Some.is) c.change_row.ensures.put c.change_row.ensures.others

pub invariant_of-self : goal.invariant_of-self
invariant_of-self c = (becomes c).arena

pub returns-in-Some : goal.returns-in-Some
returns-in-Some c = (becomes c).rows_are

pub returns-in_default : goal.returns-in_default
returns-in_default c =
    sym (change-none (is_path c.args.path.now) (changed c.args.with) c.args.self.now
    (not_known c.self.inside.cells c.self.inside.paths c.args.self.now c.args.path.now c.self.invariant c.self.view_is (sym c.key_of.ensures ∙ c.in_default.is)))
