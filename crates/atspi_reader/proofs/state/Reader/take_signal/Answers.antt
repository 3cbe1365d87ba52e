use Rattle.std.proofs.Common.{sym, ap, ◌∙◌, chars}
use Rattle.std.specs.Option.{option_map}
use Rattle.atspi_message_in_place.specs.View.{envelope_at}
use Rattle.atspi_reader.specs.ReaderOf.{reader_of}
use Rattle.atspi_reader.proofs.Done.{same_step}
use Rattle.atspi_reader.proofs.Ways.{takes_ended, takes_told}
use Rattle.atspi_reader.proofs.state.Reader.take_signal.Goals as goal

pub returns-in-Some : goal.returns-in-Some
returns-in-Some c =
    same_step _ _ _ _ _
    (sym (takes_ended (envelope_at c.args.m.now) (chars c.in-Some.name.now) c.requires.signal (sym c.ended_name.ensures ∙ ap (option_map (λ n. chars n.now)) c.in-Some.is) (reader_of c.args.self.now)))
    c.take_end.ensures

pub returns-in-None : goal.returns-in-None
returns-in-None c =
    same_step _ _ _ _ _
    (sym (takes_told (reader_of c.args.self.now) (envelope_at c.args.m.now) c.requires.signal (sym c.ended_name.ensures ∙ ap (option_map (λ n. chars n.now)) c.in-None.is)))
    c.take_news.ensures
