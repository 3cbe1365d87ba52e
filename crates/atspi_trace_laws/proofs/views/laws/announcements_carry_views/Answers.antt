use Rattle.atspi_trace_laws.proofs.OfViews.LawViews.{announcements_carry}
use Rattle.atspi_trace_laws.proofs.views.laws.announcements_carry_views.Goals as goal

pub returns : goal.returns
returns c = announcements_carry
