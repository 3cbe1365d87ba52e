use Rattle.atspi_app_signals.proofs.Staying.{messages_are_sent}
use Rattle.atspi_app_signals.proofs.laws.messages_are_sent.Goals as goal

pub returns : goal.returns
returns c = messages_are_sent
