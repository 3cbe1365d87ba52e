use Rattle.atspi_message.proofs.Rising.{no_front}
use Rattle.atspi_message.proofs.laws.no_front_of_another.Goals as goal

pub returns : goal.returns
returns c e d bytes more m n = no_front e d bytes more m n
