use Rattle.atspi_protocol.specs.following.Replied.{takes_reply}
use Rattle.atspi_protocol.specs.following.Takes.{notes}
use Rattle.atspi_reader_laws.proofs.Ways.{taken}
use Rattle.atspi_reader_laws.proofs.Starting.{rests}
use Rattle.atspi_reader_laws.proofs.laws.readers_ask_on.Goals as goal

pub returns-clause-start : goal.returns-clause-start
returns-clause-start c = rests

pub returns-clause-message : goal.returns-clause-message
returns-clause-message c = λ s e. rests (taken (takes_reply (notes s e) e) e)

pub returns-clause-call : goal.returns-clause-call
returns-clause-call c = λ s name node deed rests. rests
