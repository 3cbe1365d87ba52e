use Rattle.atspi_protocol.specs.following.Replied.{refused_part, told_part}
use Rattle.atspi_reader_known.proofs.Tells.{part_tells}
use Rattle.atspi_reader_known.proofs.Told.{first_changed, part_settled}
use Rattle.atspi_reader_known.proofs.laws.told_is_settled.Goals as goal

pub returns : goal.returns
returns c = λ part path body news e name apps.
    first_changed (told_part news) (refused_part path part) name (part_settled path part news (part_tells part path body news e)) apps
