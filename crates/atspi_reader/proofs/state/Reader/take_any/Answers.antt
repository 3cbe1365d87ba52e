use Rattle.std.proofs.Common.{sym, ◌∙◌}
use Rattle.atspi_message_in_place.specs.View.{envelope_at}
use Rattle.atspi_reader.specs.ReaderOf.{reader_of}
use Rattle.atspi_reader.proofs.Done.{same_step}
use Rattle.atspi_reader.proofs.Ways.{takes_other}
use Rattle.atspi_reader.proofs.state.Reader.take_any.Goals as goal

pub returns : goal.returns
returns c =
    same_step _ _ _ _ _
    (sym (takes_other (envelope_at c.args.m.now) (sym c.is_signal.ensures ∙ c.if-is_signal.false) (reader_of c.args.self.now) (sym c.is_answer.ensures ∙ c.if-is_answer.false)))
    c.take_other.ensures
