use Rattle.std.proofs.Common.{◌≡◌, ◌++◌, not}
use Rattle.std.specs.Prelude.{filter}
use Rattle.atspi_base.specs.valid_names.Names.{is_unique_name}
use Rattle.atspi_names.proofs.lists.Lists.append_well_known.Given as goal

abbrev pub invariant-loop-name : goal.invariant-loop-name
invariant-loop-name l =
    l.names ++ filter (λ name. not (is_unique_name name)) l.name-iterator ≡ l.initial.names ++ filter (λ name. not (is_unique_name name)) l.initial.name-iterator
