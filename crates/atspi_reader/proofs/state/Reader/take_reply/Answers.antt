use Rattle.std.proofs.Common.{sym, ◌∙◌}
use Rattle.atspi_message_in_place.specs.View.{envelope_at}
use Rattle.atspi_reader.specs.ReaderOf.{reader_of}
use Rattle.atspi_reader.proofs.Done.{same_step}
use Rattle.atspi_reader.proofs.Ways.{takes_question}
use Rattle.atspi_reader.proofs.state.Reader.take_reply.Goals as goal

pub returns-in-Some : goal.returns-in-Some
returns-in-Some c =
    same_step _ _ _ _ _
    (sym (takes_question (reader_of c.args.self.now) (envelope_at c.args.m.now) c.in-Some.question (sym c.in-Some.is ∙ c.in_ok-question.ensures) c.requires.answer))
    c.take_answer.ensures
