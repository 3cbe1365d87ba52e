use Rattle.atspi_message.proofs.Short.{message_spellable, with_sender}
use Rattle.atspi_message.proofs.laws.senders_may_be_set.Goals as goal

pub returns : goal.returns
returns c e bytes is = let h = message_spellable e bytes is in (h, λ name named. with_sender e name h named)
