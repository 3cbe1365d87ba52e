use Rattle.atspi_reader_known.proofs.Following.{others_tell}
use Rattle.atspi_reader_known.proofs.listing.tells_first.Goals as goal

pub returns-in_default : goal.returns-in_default
returns-in_default c = others_tell c.args.wants.now c.args.news.now c.in_default.not-TextIs c.in_default.not-CaretIs c.in_default.not-ColumnsIs
