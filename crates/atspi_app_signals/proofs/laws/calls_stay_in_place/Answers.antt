use Rattle.atspi_app_signals.proofs.CallsStay.{calls_stay_in_place}
use Rattle.atspi_app_signals.proofs.laws.calls_stay_in_place.Goals as goal

pub returns : goal.returns
returns c = calls_stay_in_place
