use Rattle.atspi_stream.proofs.StreamLaws.{one_parting}
use Rattle.atspi_stream.proofs.laws.any_cut.Goals as goal

pub returns : goal.returns
returns c bytes given found rest more h a none b none' = one_parting bytes given found rest more h a.are a.parted none b.are b.parted none'
