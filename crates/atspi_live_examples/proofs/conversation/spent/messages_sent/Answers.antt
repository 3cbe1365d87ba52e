use Rattle.std.proofs.Common.{[], refl, sym, inl, inr, append-nil}
use Rattle.atspi_message.specs.Bytes.{written}
use Rattle.atspi_live_examples.proofs.conversation.spent.messages_sent.Goals as goal

pub returns-clause-one : goal.returns-clause-one
returns-clause-one c e fits = (written e, [], inl (fits, refl), refl, sym (append-nil (written e)))

pub returns-clause-two : goal.returns-clause-two
returns-clause-two c e f fits fits' = (written e, written f, inl (fits, refl), (written f, [], inl (fits', refl), refl, sym (append-nil (written f))), refl)

pub returns-clause-too_large : goal.returns-clause-too_large
returns-clause-too_large c e f not_fits fits = ([], written f, inr (not_fits, refl), (written f, [], inl (fits, refl), refl, sym (append-nil (written f))), refl)
