use Rattle.atspi_launcher.proofs.Sending.{all_meet}
use Rattle.atspi_launcher.proofs.laws.sends_messages.Goals as goal

pub returns : goal.returns
returns c = all_meet
