use Rattle.std.proofs.Common.{◌≡◌, ◌++◌, not, ◌&&◌}
use Rattle.std.specs.Prelude.{filter}
use Rattle.atspi_base.specs.valid_names.Names.{is_unique_name}
use Rattle.atspi_names.specs.Queue.{owns}
use Rattle.atspi_names.specs.Owners.{list_of}
use Rattle.atspi_names.proofs.book.Book.append_owned.Given as goal

abbrev pub invariant-loop-name : goal.invariant-loop-name
invariant-loop-name l =
    l.names ++ filter (λ name. not (is_unique_name name) && owns l.conn (list_of l.self-inside.lists name)) l.name-iterator
    ≡ l.initial.names ++ filter (λ name. not (is_unique_name name) && owns l.conn (list_of l.self-inside.lists name)) l.initial.name-iterator
