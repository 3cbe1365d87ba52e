use Rattle.std.proofs.Common.{Some, None, ap, sym, ◌∙◌}
use Rattle.std.specs.Option.{option_map}
use Rattle.atspi_cache_arena.specs.Arena.{row_in}
use Rattle.atspi_cache_arena.specs.Table.{kept}
use Rattle.atspi_cache_arena.proofs.Shown.{find_row, paths_once}
use Rattle.atspi_cache_arena.proofs.arena.Arena.find.Goals as goal

pub returns-in-Some-get-clause-found : goal.returns-in-Some-get-clause-found
returns-in-Some-get-clause-found c =
    ap (λ o. row_in (option_map kept o)) c.in-Some-get.ensures
    ∙ sym (find_row c.self.inside.cells c.self.inside.paths c.args.self.now c.args.path.now c.self.invariant c.self.view_is (Some c.in-Some.key) (sym c.key_of.ensures ∙ c.in-Some.is))

pub returns-in-None-get-clause-found : goal.returns-in-None-get-clause-found
returns-in-None-get-clause-found c =
    ap (λ o. row_in (option_map kept o)) c.in-None-get.ensures
    ∙ sym (find_row c.self.inside.cells c.self.inside.paths c.args.self.now c.args.path.now c.self.invariant c.self.view_is (Some c.in-Some.key) (sym c.key_of.ensures ∙ c.in-Some.is))

pub returns-in-None-clause-found : goal.returns-in-None-clause-found
returns-in-None-clause-found c =
    sym (find_row c.self.inside.cells c.self.inside.paths c.args.self.now c.args.path.now c.self.invariant c.self.view_is None (sym c.key_of.ensures ∙ c.in-None.is))

pub returns-in-Some-get-clause-once : goal.returns-in-Some-get-clause-once
returns-in-Some-get-clause-once c = paths_once c.self.inside.cells c.self.inside.paths c.args.self.now c.self.invariant c.self.view_is

pub returns-in-None-get-clause-once : goal.returns-in-None-get-clause-once
returns-in-None-get-clause-once c = paths_once c.self.inside.cells c.self.inside.paths c.args.self.now c.self.invariant c.self.view_is

pub returns-in-None-clause-once : goal.returns-in-None-clause-once
returns-in-None-clause-once c = paths_once c.self.inside.cells c.self.inside.paths c.args.self.now c.self.invariant c.self.view_is
