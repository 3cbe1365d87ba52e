use Rattle.atspi_trace_laws.proofs.OfViews.LawViews.{trees_stand}
use Rattle.atspi_trace_laws.proofs.views.laws.trees_stand.Goals as goal

pub returns : goal.returns
returns c = trees_stand
