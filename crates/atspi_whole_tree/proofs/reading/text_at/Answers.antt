use Rattle.atspi_app_exported.proofs.ReadOut.{whole_part}
use Rattle.atspi_whole_tree.proofs.Read.{text_read}
use Rattle.atspi_whole_tree.proofs.reading.text_at.Goals as goal

pub part-requires : goal.part-requires
part-requires g c = whole_part _ c.args.node c.count-count.result c.requires c.count-count.ensures

pub returns : goal.returns
returns g c = text_read _ c.args.node c.count-count.result c.part.result c.requires c.count-count.ensures c.part.ensures
