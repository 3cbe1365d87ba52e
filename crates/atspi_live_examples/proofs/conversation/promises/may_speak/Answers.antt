use Rattle.std.proofs.Common.{List, [], ◌∷◌, refl, sym, subst, arith}
use Rattle.std.specs.Prelude.{codes}
use Rattle.atspi_message.specs.Envelope.{Envelope}
use Rattle.atspi_live_examples.specs.conversation.Logs.{call}
use Rattle.atspi_live_examples.proofs.OfConversation.Logged.{not_ruled, ruled}
use Rattle.atspi_live_examples.proofs.conversation.promises.may_speak.Goals as goal
use Rattle.atspi_live_conversation.specs.Sent.{AllMeet}

pub returns-clause-fresh : goal.returns-clause-fresh
returns-clause-fresh c = record { aside = []; took = []; said = []; stands = (refl, refl); meet = tt }

pub returns-clause-took : goal.returns-clause-took
returns-clause-took c = record { aside = []; took = call 1 ∷ []; said = call 0 ∷ []; stands = (refl, refl); meet = (ruled 1 (λ e. omega (arith, e)), tt) }

pub returns-clause-took_unruly : goal.returns-clause-took_unruly
returns-clause-took_unruly c m = not_ruled (subst (λ (es : List Envelope). AllMeet es) (sym m.stands.0) m.meet).0

pub returns-clause-told_aside : goal.returns-clause-told_aside
returns-clause-told_aside c = record { aside = codes "a"; took = []; said = []; stands = (refl, (refl, refl)); meet = tt }

pub returns-clause-stood_nowhere : goal.returns-clause-stood_nowhere
returns-clause-stood_nowhere c m = m.stands
