use Rattle.std.proofs.Common.{rules, ◌&&◌}
use Rattle.atspi_names.specs.Queue.{stands}
use Rattle.atspi_names.specs.Owners.{list_of}
use Rattle.atspi_names.specs.Standings.{notes}
use Rattle.atspi_names.proofs.BookLemmas.{same_note}
use Rattle.atspi_names.proofs.book.settle.Goals as goal

pub returns-else-not-stands : goal.returns-else-not-stands
returns-else-not-stands c =
    same_note c.args.standings.now.sets c.args.conn c.args.name.now
    (stands c.args.conn (list_of c.args.lists.now c.args.name.now) && notes c.args.standings.now.sets c.args.conn c.args.name.now) (search rules)
