use Rattle.std.proofs.Common.{List, [], refl, sym, subst, arith}
use Rattle.atspi_message.specs.Envelope.{Envelope}
use Rattle.atspi_live_examples.proofs.OfConversation.Logged.{not_ruled, ruled}
use Rattle.atspi_live_examples.proofs.conversation.promises.may_send.Goals as goal
use Rattle.atspi_live_conversation.specs.Sent.{AllMeet}

pub returns-clause-meets : goal.returns-clause-meets
returns-clause-meets c took said s all = ruled 1 (λ e. omega (arith, e))

pub returns-clause-unruly : goal.returns-clause-unruly
returns-clause-unruly c m = not_ruled (m [] [] (refl, refl) tt)

pub returns-clause-returned : goal.returns-clause-returned
returns-clause-returned c e took said s all = (subst (λ (es : List Envelope). AllMeet es) (sym s.0) all).0

pub returns-clause-stood_nowhere : goal.returns-clause-stood_nowhere
returns-clause-stood_nowhere c took said s = absurd s
